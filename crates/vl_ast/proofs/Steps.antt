-- A first row and edges are a run.
use Rattle.std.proofs.Common.{◌≡◌, ◌<◌, ◌+◌, ℕ, zero, suc, List, subst, arith}
use Rattle.vl_ast.specs.declared.modules.Module.{Module}
use Rattle.vl_ast.specs.Runs.{Runs}
use Rattle.vl_ast.specs.Steps.{IsRow, AreSteps}

row-at : (m : Module) (count : ℕ) (start : List ℕ → ℕ) (inputs rows : ℕ → List ℕ → ℕ) → AreSteps m count start inputs rows → (k : ℕ) → k < count → IsRow m (inputs k) (rows k)
row-at m count start inputs rows s zero below = (s.begins below).row_is
row-at m count start inputs rows s (suc k) below =
    let e : k + 1 ≡ suc k = omega arith in
    subst (λ j. IsRow m (inputs j) (rows j)) e (s.edges k (omega arith)).row_is

pub steps-run : (m : Module) (count : ℕ) (start : List ℕ → ℕ) (inputs rows : ℕ → List ℕ → ℕ) → AreSteps m count start inputs rows → Runs m count start inputs rows
steps-run m count start inputs rows s = record {
  fits = λ k below d h. (row-at m count start inputs rows s k below).fits d h;
  starts = λ some signed width name h. (s.begins some).starts signed width name h;
  driven = λ k below port h input. (row-at m count start inputs rows s k below).driven port h input;
  assigns = λ k below name value h. (row-at m count start inputs rows s k below).assigns name value h;
  steps = λ k below name first condition value h. (s.edges k below).steps name first condition value h;
}
