-- Parameters whose values are words, and what each word says (Simulink reference, each block's
-- page).
use Rattle.std.specs.Prelude.{ℕ, Bool, true, false, List, [], ◌∷◌, Option, Some, None, map, codes, bytes_eq, if◌then◌else◌}
use Rattle.std.specs.Borrow.{Bor}
use Rattle.fx_type.specs.declared.rounding.Rounding.{Rounding}
use Rattle.fx_type.specs.declared.rounding.Rounding.TheVariants.{Floor, Ceiling, Zero, Nearest, Round, Convergent}
use Rattle.dg_model.specs.declared.kind.Criterion.{Criterion}
use Rattle.dg_model.specs.declared.kind.Criterion.TheVariants.{AtLeast, Above, NotZero}
use Rattle.dg_model.specs.declared.kind.Relation.{Relation}
use Rattle.dg_model.specs.declared.kind.Relation.TheVariants.{Eq, Ne, Lt, Le, Ge, Gt}
use Rattle.dg_model.specs.declared.kind.Gate.{Gate}
use Rattle.dg_model.specs.declared.kind.Gate.TheVariants.{And, Or, Nand, Nor, Xor, Nxor, Not}

-- the value that stands beside a text in a list of words, if any does
abbrev pub value_beside : {A : Type 0} → List (List ℕ × A) → List ℕ → Option A
value_beside [] text = None
value_beside (entry ∷ entries) text =
    if bytes_eq text entry.0 then Some entry.1 else value_beside entries text

-- the list of words that a table in the code has
abbrev pub listed : {A : Type 0} → List (Bor (List ℕ) × A) → List (List ℕ × A)
listed table = map (λ entry. (entry.0.now, entry.1)) table

-- `RndMeth`
abbrev pub rounding_of : List ℕ → Option Rounding
rounding_of = value_beside (
    (codes "Floor", Floor) ∷ (codes "Ceiling", Ceiling) ∷ (codes "Zero", Zero)
    ∷ (codes "Nearest", Nearest) ∷ (codes "Round", Round) ∷ (codes "Convergent", Convergent) ∷ []
    )

-- `SaturateOnIntegerOverflow`
abbrev pub switch_of : List ℕ → Option Bool
switch_of = value_beside ((codes "on", true) ∷ (codes "off", false) ∷ [])

-- `StatesWhenEnabling` and `OutputWhenDisabled`: whether it is reset
abbrev pub reset_of : List ℕ → Option Bool
reset_of = value_beside ((codes "held", false) ∷ (codes "reset", true) ∷ [])

-- `Criteria` of a Switch
abbrev pub criterion_of : List ℕ → Option Criterion
criterion_of =
    value_beside
    ((codes "u2 >= Threshold", AtLeast) ∷ (codes "u2 > Threshold", Above)
    ∷ (codes "u2 ~= 0", NotZero) ∷ [])

-- `Operator` of a Relational Operator
abbrev pub relation_of : List ℕ → Option Relation
relation_of = value_beside (
    (codes "==", Eq) ∷ (codes "~=", Ne) ∷ (codes "<", Lt)
    ∷ (codes "<=", Le) ∷ (codes ">=", Ge) ∷ (codes ">", Gt) ∷ []
    )

-- `Operator` of a Logical Operator
abbrev pub gate_of : List ℕ → Option Gate
gate_of = value_beside (
    (codes "AND", And) ∷ (codes "OR", Or) ∷ (codes "NAND", Nand) ∷ (codes "NOR", Nor)
    ∷ (codes "XOR", Xor) ∷ (codes "NXOR", Nxor) ∷ (codes "NOT", Not) ∷ []
    )
