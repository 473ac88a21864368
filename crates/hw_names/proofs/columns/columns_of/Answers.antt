use Rattle.std.proofs.Common.{◌≡◌, ℕ, ◌-◌, ◌<◌, suc, List, length, sym, ◌∙◌, subst, arith}
use Rattle.std.specs.Prelude.{slice_set, slice_index_or}
use Rattle.std.proofs.lemmas.List.{length-set}
use Rattle.std.proofs.lemmas.Option.{slice_get-get_or}
use Rattle.hw_names.specs.Columns.{AreColumnsFrom}
use Rattle.hw_names.proofs.Places.{columns_more}
use Rattle.hw_names.proofs.columns.columns_of.Goals as goal

pub loop-left-preserved : goal.loop-left-preserved
loop-left-preserved c =
    let left : ℕ = c.loop-left.left - 1 in
    let inputs : List ℕ = c.args.inputs.now in
    let columns : List ℕ = c.loop-left.columns.items in
    let block : ℕ = slice_index_or inputs left 0 in
    let some = c.loop-left-test.true in
    let most = c.loop-left.invariant.0 in
    let size : length columns ≡ c.args.count = c.loop-left.invariant.1 in
    let below : left < length inputs = omega (arith, some, most) in
    let number : c.in-Ok.number ≡ left = c.in-Ok.ensures.1 in
    let next : c.loop-left.left ≡ suc left = omega (arith, some) in
    let are : AreColumnsFrom inputs columns (suc left) = subst (λ (n : ℕ). AreColumnsFrom inputs columns n) next c.loop-left.invariant.2 in
    let inside : block < c.args.count = c.requires left 0 below in (
      omega (arith, most),
      length-set columns block c.in-Ok.number ∙ size,
      subst (λ (n : ℕ). AreColumnsFrom inputs (slice_set columns block n) left) (sym number)
          (columns_more inputs columns left block are (slice_get-get_or inputs left 0 below)
          (omega (arith, inside, size))),
    )

pub returns-clause-least : goal.returns-clause-least
returns-clause-least c =
    let none : c.loop-left.left ≡ 0 = omega (arith, c.loop-left-test.false) in
    subst (λ (n : ℕ). AreColumnsFrom c.args.inputs.now c.loop-left.columns.items n) none c.loop-left.invariant.2
