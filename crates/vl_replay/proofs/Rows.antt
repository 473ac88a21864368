-- One more row.
use Rattle.std.proofs.Common.{◌≡◌, ◌≢◌, ◌<◌, ◌+◌, ◌==◌, ℕ, Bool, true, false, if◌then◌else◌, refl, sym, ap, subst, ◌∙◌, arith}
use Rattle.std.proofs.lemmas.Bool.{eqb-true, eqb-false}
use Rattle.vl_ast.specs.declared.modules.Module.{Module}
use Rattle.vl_ast.specs.Runs.{Row, Rows}
use Rattle.vl_ast.specs.Steps.{AreSteps, IsEdge, IsFirstRow}

abbrev pub zeros : Row
zeros = λ name. 0

-- these rows with another at a place
pub with_row : Rows → ℕ → Row → Rows
with_row rows place row = λ k. if k == place then row else rows k

pub at-place : (rows : Rows) (place : ℕ) (row : Row) → with_row rows place row place ≡ row
unfolding with_row
at-place rows place row = by (place == place) refl where
  by : (t : Bool) → (place == place) ≡ t → (if t then row else rows place) ≡ row
  by true e = refl
  by false e = absurd (eqb-false place place e refl)

pub before-place : (rows : Rows) (place : ℕ) (row : Row) (k : ℕ) → k < place → with_row rows place row k ≡ rows k
unfolding with_row
before-place rows place row k less = by (k == place) refl where
  by : (t : Bool) → (k == place) ≡ t → (if t then row else rows k) ≡ rows k
  by true e = let same = eqb-true k place e in absurd (omega (arith, same, less))
  by false e = refl

-- an edge more
pub steps-more : (m : Module) (count : ℕ) (inputs rows : Rows) (row : Row) → AreSteps m (1 + count) zeros inputs rows → IsEdge m (rows count) (inputs (1 + count)) row
    → AreSteps m (2 + count) zeros inputs (with_row rows (1 + count) row)
steps-more m count inputs rows row steps edge = record {
  begins = λ some. subst (λ (r : Row). IsFirstRow m zeros (inputs 0) r) (sym (before-place rows (1 + count) row 0 (omega arith))) (steps.begins (omega arith));
  edges = λ k below. by k below (k == count) refl;
}
  where
    after : (k : ℕ) → k ≡ count → IsEdge m (with_row rows (1 + count) row k) (inputs (k + 1)) (with_row rows (1 + count) row (k + 1))
    after k same =
        let one : k + 1 ≡ 1 + count = omega (arith, same) in
        let here : with_row rows (1 + count) row k ≡ rows count = before-place rows (1 + count) row k (omega (arith, same)) ∙ ap rows same in
        let next : with_row rows (1 + count) row (k + 1) ≡ row = ap (with_row rows (1 + count) row) one ∙ at-place rows (1 + count) row in
        subst (λ (r : Row). IsEdge m r (inputs (k + 1)) (with_row rows (1 + count) row (k + 1))) (sym here)
        (subst (λ (r : Row). IsEdge m (rows count) (inputs (k + 1)) r) (sym next)
        (subst (λ (n : ℕ). IsEdge m (rows count) (inputs n) row) (sym one) edge))

    by : (k : ℕ) → k + 1 < 2 + count → (t : Bool) → (k == count) ≡ t → IsEdge m (with_row rows (1 + count) row k) (inputs (k + 1)) (with_row rows (1 + count) row (k + 1))
    by k below true e = after k (eqb-true k count e)
    by k below false e =
        let other : k ≢ count = λ s. eqb-false k count e s in
        let less : k + 1 < 1 + count = omega (arith, below, other) in
        subst (λ (r : Row). IsEdge m r (inputs (k + 1)) (with_row rows (1 + count) row (k + 1))) (sym (before-place rows (1 + count) row k (omega (arith, less))))
        (subst (λ (r : Row). IsEdge m (rows k) (inputs (k + 1)) r) (sym (before-place rows (1 + count) row (k + 1) less)) (steps.edges k less))
