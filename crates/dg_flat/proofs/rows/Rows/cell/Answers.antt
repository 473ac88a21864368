use Rattle.std.proofs.Common.{◌≡◌, ℕ, ◌<◌, ◌≤◌, Bool, false, eqb, List, length, get_or, sym, ◌∙◌, arith}
use Rattle.std.proofs.lemmas.Bool.{true≢false, eq-eqb, ltb-true, ltb-false}
use Rattle.std.proofs.lemmas.List.{get_or_default}
use Rattle.dg_flat.specs.inner.Tables.{HasCell}
use Rattle.dg_flat.proofs.Cells.{cell_below}
use Rattle.dg_flat.proofs.rows.Rows.cell.Goals as goal
use Rattle.dg_flat.proofs.rows.Rows.cell.Goals.{then-number-eq0, else-number-eq0}

pub index-requires : goal.index-requires
index-requires c = omega (arith, c.requires.there, c.args.self.now.lengths.ok.0)

pub index-requires-else-number-index : goal.index-requires-else-number-index
index-requires-else-number-index c = omega (arith, c.requires.there, c.requires.rows.starts.size, c.args.self.now.starts.ok.0)

-- a number that is above 0, and not above the length of its row, is in it
above_zero : (number : ℕ) (value : Bool) → number ≡ 0 → value ≡ eqb number 0 → value ≡ false → ⊥
above_zero number value zero tells not = true≢false (sym (eq-eqb number 0 zero) ∙ sym tells ∙ not)

has : (lengths : List ℕ) (row number long : ℕ) → row < length lengths → long ≡ get_or lengths row long → (number ≡ 0 → ⊥) → number ≤ long → HasCell lengths row number
has lengths row number long there is some within = record { there = there; above = omega (arith, some); within = omega (arith, within, is ∙ get_or_default lengths row long 0 there) }

pub overflow_sub-result : goal.overflow_sub-result
overflow_sub-result c = elim c.if-number-eq0.branch [
  | then-number-eq0 w ↦ absurd (above_zero c.args.number c.if-number-eq0.value w.if-number-eq0.true w.value-is c.if-number-index.false)
  | else-number-eq0 w ↦ omega (arith, w.if-number-eq0.false)
]

pub returns-else-number-index : goal.returns-else-number-index
returns-else-number-index c = elim c.if-number-eq0.branch [
  | then-number-eq0 w ↦ absurd (above_zero c.args.number c.if-number-eq0.value w.if-number-eq0.true w.value-is c.if-number-index.false)
  | else-number-eq0 w ↦
      let lengths = c.args.self.now.lengths.items in
      let it = has lengths c.args.row c.args.number w.index.result.now c.requires.there w.index.ensures
      w.if-number-eq0.false
      (ltb-false w.index.result.now c.args.number (sym w.value-is ∙ c.if-number-index.false)) in
      let start = c.index-else-number-index.ensures ∙ c.requires.rows.starts.at c.args.row c.index-else-number-index.result.now c.requires.there in
      let below = cell_below lengths c.args.row c.args.number it in
      (it, omega (arith, start), omega (arith, start, below))
]

pub overflow_add-result : goal.overflow_add-result
overflow_add-result c = elim c.if-number-eq0.branch [
  | then-number-eq0 w ↦ absurd (above_zero c.args.number c.if-number-eq0.value w.if-number-eq0.true w.value-is c.if-number-index.false)
  | else-number-eq0 w ↦
      let lengths = c.args.self.now.lengths.items in
      let it = has lengths c.args.row c.args.number w.index.result.now c.requires.there w.index.ensures
      w.if-number-eq0.false
      (ltb-false w.index.result.now c.args.number (sym w.value-is ∙ c.if-number-index.false)) in
      let start = c.index-else-number-index.ensures ∙ c.requires.rows.starts.at c.args.row c.index-else-number-index.result.now c.requires.there in
      omega (arith, start, cell_below lengths c.args.row c.args.number it, c.requires.rows.cells)
]

pub returns-then-number-index : goal.returns-then-number-index
returns-then-number-index c it = elim c.if-number-eq0.branch [
  | then-number-eq0 w ↦ omega (arith, w.if-number-eq0.true, it.above)
  | else-number-eq0 w ↦
      let long = w.index.ensures ∙ get_or_default c.args.self.now.lengths.items c.args.row w.index.result.now 0 c.requires.there in
      omega (arith, it.within, long, ltb-true w.index.result.now c.args.number (sym w.value-is ∙ c.if-number-index.true))
]
