use Rattle.std.proofs.Common.{◌≡◌, ℕ, ◌+◌, [], ◌∷◌, ◌++◌, List, length, drop, get_or, cond, Option, refl, sym, ap, ◌∙◌, arith}
use Rattle.std.proofs.Math.Seq.{drop-length}
use Rattle.std.proofs.lemmas.Bool.{cond-true, cond-false}
use Rattle.std.proofs.lemmas.List.{append-nil, append_assoc, drop_more, length-set}
use Rattle.dg_sort.specs.declared.search.Mark.TheVariants.{Placed}
use Rattle.dg_sort.specs.inner.Search.{least_of, lowered, placed_marks}
use Rattle.dg_sort.proofs.search.place_blocks.Goals as goal
use Rattle.dg_sort.proofs.search.place_blocks.Goals.{then-is_cycle, else-is_cycle}

pub loop-block-init : goal.loop-block-init
loop-block-init c = record { there = c.requires; marks = refl; order = refl; first = refl }

pub loop-block-preserved : goal.loop-block-preserved
loop-block-preserved c =
    let blocks = c.args.blocks.now in
    let i = c.loop-block.block-index in
    let rest = drop (i + 1) blocks in
    let old = c.loop-block.least in
    let before = c.loop-block.invariant in
    let block = get_or blocks i 0 in
    let next : drop i blocks ≡ block ∷ rest = drop_more blocks i 0 c.loop-block-test.true in
    let least : c.if-is_cycle.least ≡ cond c.args.is_cycle (lowered old block) old =
    elim c.if-is_cycle.branch [
      | then-is_cycle w ↦ w.least-is ∙ w.lesser-least.ensures ∙ sym (cond-true c.args.is_cycle (lowered old block) old w.if-is_cycle.true)
      | else-is_cycle w ↦ w.least-is ∙ sym (cond-false c.args.is_cycle (lowered old block) old w.if-is_cycle.false)
    ] in
    record {
      there = λ k d below. rw (length-set c.loop-block.marks.items block (Placed c.args.rank)) (before.there k d below);
      marks = ap (λ (left : List ℕ). placed_marks c.args.rank left c.loop-block.marks.items) (sym next) ∙ before.marks;
      order =
          ap (λ (order : List ℕ). order ++ rest) c.in_ok-push.ensures.items ∙ append_assoc c.loop-block.order.items (block ∷ []) rest
          ∙ ap (λ (left : List ℕ). c.loop-block.order.items ++ left) (sym next) ∙ before.order;
      first =
          ap (λ (o : Option ℕ). least_of c.args.is_cycle rest o) least
          ∙ ap (λ (left : List ℕ). least_of c.args.is_cycle left old) (sym next) ∙ before.first;
    }

pub returns-clause-marks : goal.returns-clause-marks
returns-clause-marks c =
    let blocks = c.args.blocks.now in
    let all : c.loop-block.block-index ≡ length blocks = omega (arith, c.loop-block-test.false, c.loop-block.auto.block-index-end) in
    let none : drop c.loop-block.block-index blocks ≡ [] = ap (λ (k : ℕ). drop k blocks) all ∙ drop-length blocks in
    ap (λ (left : List ℕ). placed_marks c.args.rank left c.loop-block.marks.items) (sym none) ∙ c.loop-block.invariant.marks

pub returns-clause-order : goal.returns-clause-order
returns-clause-order c =
    let blocks = c.args.blocks.now in
    let all : c.loop-block.block-index ≡ length blocks = omega (arith, c.loop-block-test.false, c.loop-block.auto.block-index-end) in
    let none : drop c.loop-block.block-index blocks ≡ [] = ap (λ (k : ℕ). drop k blocks) all ∙ drop-length blocks in
    sym (append-nil c.loop-block.order.items) ∙ ap (λ (left : List ℕ). c.loop-block.order.items ++ left) (sym none) ∙ c.loop-block.invariant.order

pub returns-clause-first : goal.returns-clause-first
returns-clause-first c =
    let blocks = c.args.blocks.now in
    let all : c.loop-block.block-index ≡ length blocks = omega (arith, c.loop-block-test.false, c.loop-block.auto.block-index-end) in
    let none : drop c.loop-block.block-index blocks ≡ [] = ap (λ (k : ℕ). drop k blocks) all ∙ drop-length blocks in
    ap (λ (left : List ℕ). least_of c.args.is_cycle left c.loop-block.least) (sym none) ∙ c.loop-block.invariant.first
