use Rattle.std.proofs.Common.{◌≤◌, ℕ, List, length, subst, ◌∙◌}
use Rattle.std.proofs.lemmas.List.{take_all}
use Rattle.dg_model.proofs.port_widths.PortWidths.of.Goals as goal

pub returns : goal.returns
returns c =
    let i = c.loop-part.part-index in
    c.loop-part.invariant.parts ∙ take_all i c.args.lists.now (subst (λ (lists : List (List ℕ)). length lists ≤ i) c.as_slice-part-items.ensures c.loop-part-test.false)
