-- A command that borrows its words.
use Rattle.std.specs.Prelude.{⊤, ℕ, ◌≤◌, List}
use Rattle.cmd_sample.specs.Numbers.{greatest_sample}
use Rattle.fx_top.specs.Command.{Asked, OfFiles, Flatten, Sample}
use Rattle.fx_top.specs.declared.command.Command.{Command as CommandOf}
use Rattle.fx_top.specs.declared.command.Command.TheVariants as borrowed
use Rattle.fx_top.specs.declared.task.Task.{Task}
use Rattle.fx_top.specs.inner.Tasks.{IsTask, command_of}

-- a task over files of these names
abbrev pub over_files : List ℕ → List ℕ → Task → Asked
over_files first second task = OfFiles (command_of task first second)

-- what is asked for, by the bytes of the words
abbrev pub named : CommandOf → Asked
named (borrowed.OverFiles task first second) = over_files first.now second.now task
named (borrowed.Flatten file) = Flatten file.now
named (borrowed.Sample number) = Sample number

-- a range that it names is one, and a number is that of a sample
abbrev pub HasRange : CommandOf → Type 0
HasRange (borrowed.OverFiles task first second) = IsTask task
HasRange (borrowed.Flatten file) = ⊤
HasRange (borrowed.Sample number) = (1 ≤ number) × (number ≤ greatest_sample)
