use Rattle.std.proofs.Common.{◌++◌, ℕ, List, codes, ap, ◌∙◌}
use Rattle.fx_io.specs.Sink.{also_took}
use Rattle.fx_top.specs.Messages.{names_end}
use Rattle.fx_top.proofs.Sayings.{said-more}
use Rattle.fx_top.proofs.answer.say_loop.Goals as goal

pub returns-in-Ok : goal.returns-in-Ok
returns-in-Ok g c =
    let told = g.E.Sink.taken c.args.err.now in
    let took = c.in-Ok.ensures.whole ∙ ap (λ (file : List ℕ). also_took told (file ++ codes ": combinational loop:")) c.as_bytes.ensures.value in
    said-more told (g.E.Sink.taken c.put_two.new.err) (g.E.Sink.taken c.say_names.new.err) (g.E.Sink.faults c.args.err.now) (g.E.Sink.faults c.put_two.new.err) (g.E.Sink.faults c.say_names.new.err)
    (c.args.file.now ++ codes ": combinational loop:") (names_end c.args.names.now) took c.in-Ok.ensures.later c.say_names.ensures.said
