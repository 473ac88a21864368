use Rattle.std.proofs.Common.{ℕ, List, length, ap, ◌∙◌, subst}
use Rattle.std.proofs.lemmas.Result.{on_ok_weaker}
use Rattle.hw_names.specs.inner.Sides.{AddsNames}
use Rattle.hw_names.proofs.RootNames.{blocks_size}
use Rattle.hw_names.proofs.giving.put_side.Goals as goal

pub put_names-requires : goal.put_names-requires
put_names-requires c = rw c.as_slice.ensures c.in_ok-blocks.ensures

pub returns : goal.returns
returns c =
    let diagram = c.args.checked.now.diagram in
    let size = ap (λ (xs : List ℕ). length xs) c.as_slice.ensures ∙ blocks_size diagram c.args.side c.in_ok-blocks.blocks c.in_ok-blocks.ensures in
    on_ok_weaker c.put_names.result
    (λ added. subst (λ (n : ℕ). AddsNames diagram c.args.side c.args.names.now c.put_names.new.names c.args.texts.now c.put_names.new.texts n) size added)
    c.put_names.ensures
