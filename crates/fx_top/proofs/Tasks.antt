-- What a task over two files is of its command.
use Rattle.std.proofs.Common.{◌≡◌, ◌⊎◌, ℕ, List, ◌∷◌, All, Some, Result, Ok, Err, OnErr, OnOk, inl, refl, sym, subst}
use Rattle.std.specs.Prelude.{⊤}
use Rattle.std.specs.Borrow.{Bor}
use Rattle.cmd_design.specs.declared.designing.DesignFault.{DesignFault}
use Rattle.cmd_design.specs.Design.{IsBadPlan, TellsPlanRule}
use Rattle.fx_io.specs.declared.sink.PutFault.{PutFault}
use Rattle.fx_io.specs.Shelf.{Fetched, Told}
use Rattle.fx_io.specs.Sink.{TookProperPrefix, also_took}
use Rattle.cmd_model.specs.RuleLine.{TellsRule}
use Rattle.fx_tables.specs.declared.table.TableCause.{TableCause}
use Rattle.fx_top.specs.declared.fault.Fault.{Fault}
use Rattle.fx_top.specs.declared.fault.Fault.TheVariants.{NotMdl, BreaksRule, NotVerilog, Broken, BadTable, OutOfMemory}
use Rattle.fx_top.specs.declared.task.Task.{Task}
use Rattle.fx_top.specs.declared.task.Task.TheVariants as task
use Rattle.fx_top.specs.Call.{Files, Stream, file_limit}
use Rattle.fx_top.specs.Cause.{AreFetched, BreaksSomeRule, HasBadLine, IsFetched}
use Rattle.fx_top.specs.Caused.{HasCause, HasWritten}
use Rattle.fx_top.specs.Command.{Command, Replay, files_of, first_of, model_of, plan_files, plan_of, plan_word}
use Rattle.fx_top.specs.Output.{IsOutput, IsPlanText}
use Rattle.fx_top.specs.Simulated.{IsBadSimulation}
use Rattle.cmd_generate.specs.Streamed.{TellsStreamRule}
use Rattle.cmd_generate.specs.Generating.{IsModuleFor, IsTextOf}
use Rattle.fx_top.specs.inner.Refusals.{IsDesignFault, IsReplayFault, OfModel, answer_to}
use Rattle.fx_top.specs.inner.Tasks.{IsDone, IsFaultOf, IsPut, Makes, command_of, table_word}
use Rattle.vl_ast.specs.declared.modules.Module.{Module}
use Rattle.fx_top.proofs.Plans.{fetched-planned, plan-bad, plan-rule, stream-rule}
use Rattle.fx_top.proofs.Refusals.{Blames, done-caused, done-written}
use Rattle.fx_top.proofs.ShelfFacts.{reads-plan}

-- a text that is made, by how it was put
pub put-text : (Made : List ℕ → Type 0) (out : Stream) (text : List ℕ) → Made text → (put : Result ⊤ PutFault)
    → OnOk put (out.now ≡ also_took out.before text) → OnErr put (TookProperPrefix out.before out.now text)
    → OnErr put out.failed → IsPut Made out put
put-text Made out text made (Ok whole) all part rise = (text, (made, all))
put-text Made out text made (Err fault) all part rise = (text, (made, (part, rise)))

-- that of a module
pub put-module : (IsSo : List ℕ → Type 0) (Refused : DesignFault → Type 0) (out : Stream) (given : Result Module DesignFault) (made : Module) (text : List ℕ) → given ≡ Ok made → IsTextOf made text
    → (put : Result ⊤ PutFault) → OnOk put (out.now ≡ also_took out.before text)
    → OnErr put (TookProperPrefix out.before out.now text) → OnErr put out.failed
    → IsModuleFor IsSo Refused given → IsPut IsSo out put
put-module IsSo Refused out given made text is own put all part rise so =
    put-text IsSo out text ((subst (λ (r : Result Module DesignFault). IsModuleFor IsSo Refused r) is so).1 text
    own) put all part rise

-- how a known task is done
pub done-by : (task known : Task) (first second : List ℕ) (out : Stream) (done : Result (Result ⊤ PutFault) Fault)
    → task ≡ known → IsDone (Makes known first second) (IsFaultOf known first second) out done
    → IsDone (Makes task first second) (IsFaultOf task first second) out done
done-by task known first second out done is why = subst (λ (own : Task). IsDone (Makes own first second) (IsFaultOf own first second) out done) (sym is) why

-- the files that it reads
pub files-are : (task : Task) (first second : List ℕ) → files_of (command_of task first second) ≡ first ∷ plan_files (table_word task second)
files-are task.Generate first second = refl
files-are task.Replay first second = refl
files-are task.Simulate first second = refl
files-are (task.Explore range) first second = refl
files-are task.Check first second = refl
files-are task.Stream first second = refl

-- its text is the command's
outputs : (held : List ℕ → Told) (task : Task) (first second bytes text own : List ℕ)
    → Fetched (held first) file_limit bytes → IsPlanText held (table_word task second) text
    → Makes task bytes text own → IsOutput (command_of task first second) held own
outputs held task.Generate first second bytes text own fetched says made = record { first_bytes = bytes; second_bytes = text; fetched = fetched; says = says; made = made }
outputs held task.Replay first second bytes text own fetched says made = record { first_bytes = bytes; second_bytes = text; fetched = fetched; says = says; made = made }
outputs held task.Simulate first second bytes text own fetched says made = record { first_bytes = bytes; second_bytes = text; fetched = fetched; says = says; made = made }
outputs held (task.Explore range) first second bytes text own fetched says made = (bytes, (fetched, made))
outputs held task.Check first second bytes text own fetched says made = record { first_bytes = bytes; second_bytes = text; fetched = fetched; says = says; made = made }
outputs held task.Stream first second bytes text own fetched says made = record { first_bytes = bytes; second_bytes = text; fetched = fetched; says = says; made = made }

-- ---- what its faults say

model-blames : (files : Files) (command : Command) (second bytes : List ℕ) → model_of command ≡ Some (first_of command) → IsFetched files (first_of command) bytes
    → (Rule : List ℕ → Type 0) (Bad : ℕ → TableCause → Type 0)
    → ((line : List ℕ) → Rule line → BreaksSomeRule files command line)
    → ((line : ℕ) (cause : TableCause) → Bad line cause → HasBadLine files command second line cause)
    → (fault : Fault) → OfModel bytes Rule Bad fault → Blames files command (first_of command) second fault
model-blames files command second bytes is fetched Rule Bad broken bad (NotMdl line) why = record { is = is; bytes = bytes; fetched = fetched; so = why }
model-blames files command second bytes is fetched Rule Bad broken bad (BreaksRule line) why = broken line why
model-blames files command second bytes is fetched Rule Bad broken bad (NotVerilog line) why = absurd why
model-blames files command second bytes is fetched Rule Bad broken bad (Broken condition) why = absurd why
model-blames files command second bytes is fetched Rule Bad broken bad (BadTable line cause) why = bad line cause why
model-blames files command second bytes is fetched Rule Bad broken bad OutOfMemory why = tt

design-blames : (files : Files) (command : Command) (word bytes text : List ℕ)
    → plan_of command ≡ Some (plan_word word) → IsFetched files (first_of command) bytes
    → IsPlanText files.held (plan_word word) text
    → (fault : Fault) → IsDesignFault bytes text fault → Blames files command (first_of command) word fault
design-blames files command word bytes text is fetched says =
    let reads = reads-plan command (plan_word word) is in
    model-blames files command word bytes reads.is_model fetched (λ line. TellsRule bytes line ⊎ TellsPlanRule bytes text line) (IsBadPlan bytes text)
    (λ line. plan-rule files command (plan_word word) reads bytes text line fetched says) (λ line cause. plan-bad files command word reads bytes text line cause fetched says)

replay-blames : (files : Files) (first second bytes text : List ℕ) → IsFetched files first bytes → IsFetched files second text
    → (fault : Fault) → IsReplayFault bytes text fault → Blames files (Replay first second) first second fault
replay-blames files first second bytes text fetched says (NotMdl line) why = absurd why
replay-blames files first second bytes text fetched says (BreaksRule line) why = absurd why
replay-blames files first second bytes text fetched says (NotVerilog line) why = record { is = refl; bytes = bytes; fetched = fetched; so = why }
replay-blames files first second bytes text fetched says (Broken condition) why = record { is = refl; bytes = bytes; fetched = fetched; so = why }
replay-blames files first second bytes text fetched says (BadTable line cause) why = record { is_table = refl; first = bytes; table = text; first_fetched = fetched; table_fetched = says; bad = why }
replay-blames files first second bytes text fetched says OutOfMemory why = tt

blames : (files : Files) (task : Task) (first second bytes text : List ℕ) → IsFetched files first bytes → IsPlanText files.held (table_word task second) text
    → (fault : Fault) → IsFaultOf task bytes text fault → Blames files (command_of task first second) first second fault
blames files task.Generate first second bytes text fetched says = design-blames files (command_of task.Generate first second) second bytes text refl fetched says
blames files task.Replay first second bytes text fetched says = replay-blames files first second bytes text fetched says
blames files task.Simulate first second bytes text fetched says =
    model-blames files (command_of task.Simulate first second) second bytes refl fetched (TellsRule bytes) (IsBadSimulation bytes text)
    (λ line told. inl (record { file = first; is_model = refl; bytes = bytes; fetched = fetched; told = told }))
    (λ line cause bad. record { is_table = refl; first = bytes; table = text; first_fetched = fetched; table_fetched = says; bad = bad })
blames files (task.Explore range) first second bytes text fetched says =
    model-blames files (command_of (task.Explore range) first second) second bytes refl fetched (TellsRule bytes) (λ line cause. ⊥)
    (λ line told. inl (record { file = first; is_model = refl; bytes = bytes; fetched = fetched; told = told })) (λ line cause none. absurd none)
blames files task.Check first second bytes text fetched says = design-blames files (command_of task.Check first second) second bytes text refl fetched says
blames files task.Stream first second bytes text fetched says =
    let command = command_of task.Stream first second in
    let reads = reads-plan command (plan_word second) refl in
    model-blames files command second bytes refl fetched (λ line. TellsRule bytes line ⊎ (TellsPlanRule bytes text line ⊎ TellsStreamRule bytes text line)) (IsBadPlan bytes text)
    (λ line. stream-rule files first (plan_word second) bytes text line fetched says) (λ line cause. plan-bad files command second reads bytes text line cause fetched says)

-- ---- why its answer is due

module _ (files : Files) (out : Stream) (task : Task) (first second : Bor (List ℕ)) (bytes text : List ℕ)
    (fetched : IsFetched files first.now bytes) (says : IsPlanText files.held (table_word task second.now) text)
    (done : Result (Result ⊤ PutFault) Fault) (is : IsDone (Makes task bytes text) (IsFaultOf task bytes text) out done) where
  all-fetched : AreFetched files (command_of task first.now second.now)
  all-fetched =
      subst (λ (names : List (List ℕ)). All (λ file. (found : List ℕ) × Fetched (files.held file) file_limit found) names) (sym (files-are task first.now second.now))
      (fetched-planned files.held first.now (table_word task second.now) bytes text fetched says)

  pub task-caused : HasCause files (command_of task first.now second.now) (answer_to first second done)
  task-caused = done-caused files out (command_of task first.now second.now) first second (Makes task bytes text)
      (IsFaultOf task bytes text) all-fetched
      (blames files task first.now second.now bytes text fetched says) done is

  pub task-written : HasWritten files out (command_of task first.now second.now) (answer_to first second done)
  task-written = done-written files out (command_of task first.now second.now) first second (Makes task bytes text)
      (IsFaultOf task bytes text)
      (λ own. outputs files.held task first.now second.now bytes text own fetched says) done is
