-- Cells of rows that stand end to end.
use Rattle.std.proofs.Common.{◌≡◌, ℕ, ◌<◌, ◌≤◌, ◌+◌, List, length, take, sum, set, get_or, replicate, sym, ap, ◌∙◌, inl, inr, arith}
use Rattle.std.proofs.lemmas.Bool.{cases_eq, cases_lt}
use Rattle.std.proofs.lemmas.List.{length-set, length-take, length-replicate, get_or-set_same, get_or-set_other, get_or-replicate, take-take, get_or-take}
use Rattle.std.proofs.lemmas.List.Sums.{sum_by_more_le}
use Rattle.dg_flat.specs.inner.Tables.{HasCell, IsRowTable, cell_at}

-- a row ends where a later one begins, or before
pub ends_before : (lengths : List ℕ) (row other : ℕ) → row < other → row < length lengths → sum (take row lengths) + get_or lengths row 0 ≤ sum (take other lengths)
ends_before lengths row other before there =
    let inside : row < length (take other lengths) = rw length-take (omega arith) in
    let h = sum_by_more_le (λ x. x) (take other lengths) row 0 inside in
    rw (take-take row other lengths (omega (arith, before)), get_or-take other lengths row 0 before) at h

pub cell_below : (lengths : List ℕ) (row number : ℕ) → HasCell lengths row number → cell_at lengths row number < sum lengths
cell_below lengths row number has = omega (arith, sum_by_more_le (λ x. x) lengths row 0 has.there, has.above, has.within)

-- two cells are one only where row and number are
pub cells_apart : (lengths : List ℕ) (row number other n : ℕ) → HasCell lengths row number → HasCell lengths other n
    → cell_at lengths row number ≡ cell_at lengths other n → (row ≡ other) × (number ≡ n)
cells_apart lengths row number other n has its same =
    elim (cases_eq row other) [
      | inl e ↦
          let at : cell_at lengths row number ≡ cell_at lengths row n = same ∙ ap (λ (r : ℕ). cell_at lengths r n) (sym e) in
          (e, omega (arith, at, has.above, its.above))
      | inr apart ↦
          elim (cases_lt row other) [
            | inl before ↦ absurd (omega (arith, same, ends_before lengths row other before has.there, has.above, has.within, its.above))
            | inr after ↦ absurd (omega (arith, same, ends_before lengths other row (omega (arith, after, apart)) its.there, its.above, its.within, has.above))
          ]
    ]

-- a table of one value
pub rows_filled : {X : Type 0} (lengths : List ℕ) (value : ℕ → ℕ → X) (x : X) (count : ℕ) → count ≡ sum lengths
    → ((row number : ℕ) → x ≡ value row number) → IsRowTable lengths value (replicate count x)
rows_filled lengths value x count all same = record {
  size = length-replicate count x ∙ all;
  at = λ row number d has. get_or-replicate count (cell_at lengths row number) x d (omega (arith, cell_below lengths row number has, all)) ∙ same row number;
}

pub rows_same : {X : Type 0} (lengths : List ℕ) (value other : ℕ → ℕ → X) (table : List X)
    → ((row number : ℕ) → HasCell lengths row number → value row number ≡ other row number)
    → IsRowTable lengths value table → IsRowTable lengths other table
rows_same lengths value other table same is = record {
  size = is.size;
  at = λ row number d has. is.at row number d has ∙ same row number has;
}

pub rows_set : {X : Type 0} (lengths : List ℕ) (value other : ℕ → ℕ → X) (table : List X) (row number : ℕ) (x : X) → HasCell lengths row number → x ≡ other row number →
    ((r n : ℕ) → HasCell lengths r n → ((r ≡ row) × (n ≡ number) → ⊥) → value r n ≡ other r n) →
    IsRowTable lengths value table → IsRowTable lengths other (set table (cell_at lengths row number) x)
rows_set {X} lengths value other table row number x has here apart is = record {
  size = length-set table (cell_at lengths row number) x ∙ is.size;
  at = λ r n d inside.
      let cell = cell_at lengths row number in
      elim (cases_eq (cell_at lengths r n) cell) [
        | inl e ↦
            let same = cells_apart lengths r n row number inside has e in
            let new : get_or (set table cell x) cell d ≡ other row number = get_or-set_same table cell x d (omega (arith, is.size, cell_below lengths row number has)) ∙ here in
            let old : get_or (set table cell x) (cell_at lengths r n) d ≡ other row number = ap (λ (k : ℕ). get_or (set table cell x) k d) e ∙ new in
            old ∙ ap (λ (k : ℕ). other k number) (sym same.0) ∙ ap (λ (k : ℕ). other r k) (sym same.1)
        | inr differs ↦
            get_or-set_other table cell (cell_at lengths r n) x d differs ∙ is.at r n d inside
            ∙ apart r n inside (λ same. differs (ap (λ (k : ℕ). cell_at lengths k n) same.0 ∙ ap (λ (k : ℕ). cell_at lengths row k) same.1))
      ];
}
