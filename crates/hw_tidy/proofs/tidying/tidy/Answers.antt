use Rattle.std.proofs.lemmas.Result.{IfOk-weaker}
use Rattle.hw_tidy.proofs.tidying.tidy.Goals as goal

pub returns-clause-refines : goal.returns-clause-refines
returns-clause-refines c = IfOk-weaker c.trim-trimmed.result _ _
    (λ made refined. c.refinements_compose.ensures c.args.netlist.now c.in_ok-folded.folded made c.in_ok-folded.ensures.refines refined)
    c.trim-trimmed.ensures.refines
