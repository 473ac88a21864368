-- Output ports of two elements and Delays of period 2 in an enabled subsystem.
use Rattle.std.proofs.Common.{◌≡◌, ℕ, List, [], ◌∷◌, None, Some, pos, get_or, true, false, ℤ, refl}
use Rattle.std.proofs.Math.Dec.{lit<}
use Rattle.fx_type.specs.declared.decimal.Decimal.{Decimal}
use Rattle.dg_model.specs.declared.diagram.Diagram.{Diagram}
use Rattle.dg_model.specs.declared.kind.Kind.TheVariants.{Inport, EnableTest, EnOut, Delay}
use Rattle.dg_model.specs.Equation.{Equation}
use Rattle.dg_model.specs.Signals.{Attributes, Stimulus, Table}
use Rattle.dg_model.proofs.Examples.{int8, block_of, edge_of, decimal_of, table_of_vectors, stores_small}

abbrev first_values : List Decimal
first_values = decimal_of 7 (lit< tt) ∷ decimal_of 8 (lit< tt) ∷ []

-- u, the control and its test, an output port that is held and one that is reset, and a Delay with held states and one with reset states, all at period 2
abbrev diagram : Diagram
diagram = record {
  blocks = block_of (Inport 1 2) 0 1 None ∷ block_of (Inport 2 0) 0 1 None ∷ block_of EnableTest 1 1 None
      ∷ block_of (EnOut false first_values) 1 1 (Some 2) ∷ block_of (EnOut true first_values) 1 1 (Some 2)
      ∷ block_of (Delay 1 first_values false) 1 1 (Some 2) ∷ block_of (Delay 1 first_values true) 1 1 (Some 2) ∷ [];
  edges = edge_of 1 1 2 1 ∷ edge_of 0 1 3 1 ∷ edge_of 0 1 4 1 ∷ edge_of 0 1 5 1 ∷ edge_of 0 1 6 1 ∷ [];
}

abbrev attributes : Attributes
attributes = record { width_at = λ block port. get_or (2 ∷ 1 ∷ 1 ∷ 2 ∷ 2 ∷ 2 ∷ 2 ∷ []) block 0; type_at = λ block port. int8; param_at = λ block. int8; period_at = λ block. Some 2 }

-- what each block shows at the hits 0, 2, 4, 6 and 8, each held for a sample; the control is 0, 1, 1, 0, 1
abbrev held : List (List ℤ) → List (List ℤ)
held [] = []
held (x ∷ xs) = x ∷ x ∷ held xs

abbrev control : List (List ℤ)
control = held ((pos 0 ∷ []) ∷ (pos 1 ∷ []) ∷ (pos 1 ∷ []) ∷ (pos 0 ∷ []) ∷ (pos 1 ∷ []) ∷ [])

abbrev table : Table
table = table_of_vectors (held ((pos 1 ∷ pos 2 ∷ []) ∷ (pos 3 ∷ pos 4 ∷ []) ∷ (pos 5 ∷ pos 6 ∷ []) ∷ (pos 9 ∷ pos 10 ∷ []) ∷ (pos 11 ∷ pos 12 ∷ []) ∷ []) ∷ control ∷ control
    ∷ held ((pos 7 ∷ pos 8 ∷ []) ∷ (pos 3 ∷ pos 4 ∷ []) ∷ (pos 5 ∷ pos 6 ∷ []) ∷ (pos 5 ∷ pos 6 ∷ []) ∷ (pos 11 ∷ pos 12 ∷ []) ∷ [])
    ∷ held ((pos 7 ∷ pos 8 ∷ []) ∷ (pos 3 ∷ pos 4 ∷ []) ∷ (pos 5 ∷ pos 6 ∷ []) ∷ (pos 7 ∷ pos 8 ∷ []) ∷ (pos 11 ∷ pos 12 ∷ []) ∷ [])
    ∷ held ((pos 7 ∷ pos 8 ∷ []) ∷ (pos 7 ∷ pos 8 ∷ []) ∷ (pos 3 ∷ pos 4 ∷ []) ∷ (pos 5 ∷ pos 6 ∷ []) ∷ (pos 5 ∷ pos 6 ∷ []) ∷ [])
    ∷ held ((pos 7 ∷ pos 8 ∷ []) ∷ (pos 7 ∷ pos 8 ∷ []) ∷ (pos 3 ∷ pos 4 ∷ []) ∷ (pos 5 ∷ pos 6 ∷ []) ∷ (pos 7 ∷ pos 8 ∷ []) ∷ []) ∷ [])

abbrev stimulus : Stimulus
stimulus number element t = pos 0

abbrev Allows : ℕ → ℕ → ℕ → ℤ → Type 0
Allows block element t v = Equation diagram attributes stimulus table block 1 element t v

abbrev IsRight : ℕ → ℕ → ℕ → Type 0
IsRight block element t = Allows block element t (table block 1 element t)

held_output : IsRight 3 0 0 × IsRight 3 1 0 × IsRight 3 0 2 × IsRight 3 1 2 × IsRight 3 1 4 × IsRight 3 0 6 × IsRight 3 1 6 × IsRight 3 1 8
held_output = (stores_small 7 (lit< tt) (lit< tt), stores_small 8 (lit< tt) (lit< tt), refl, refl, refl, refl, refl, refl)

reset_output : IsRight 4 0 0 × IsRight 4 1 0 × IsRight 4 0 2 × IsRight 4 1 2 × IsRight 4 1 4 × IsRight 4 0 6 × IsRight 4 1 6 × IsRight 4 1 8
reset_output = (stores_small 7 (lit< tt) (lit< tt), stores_small 8 (lit< tt) (lit< tt), refl, refl, refl, stores_small 7 (lit< tt) (lit< tt), stores_small 8 (lit< tt) (lit< tt), refl)

held_states : IsRight 5 0 0 × IsRight 5 1 2 × IsRight 5 0 4 × IsRight 5 1 4 × IsRight 5 1 6 × IsRight 5 0 8 × IsRight 5 1 8
held_states = (stores_small 7 (lit< tt) (lit< tt), stores_small 8 (lit< tt) (lit< tt), refl, refl, refl, refl, refl)

reset_states : IsRight 6 0 0 × IsRight 6 1 2 × IsRight 6 0 4 × IsRight 6 1 4 × IsRight 6 1 6 × IsRight 6 0 8 × IsRight 6 1 8
reset_states = (stores_small 7 (lit< tt) (lit< tt), stores_small 8 (lit< tt) (lit< tt), refl, refl, refl, stores_small 7 (lit< tt) (lit< tt), stores_small 8 (lit< tt) (lit< tt))

-- ---- and no other numbers

-- a held output isn't the present input where it isn't enabled, and held states don't move on there
not_passed_on : ¬ Allows 3 0 6 (pos 9)
not_passed_on given = let e : ◌≡◌ {A = ℤ} (pos 9) (pos 5) = given in cc

not_moved_on : ¬ Allows 5 0 8 (pos 9)
not_moved_on given = let e : ◌≡◌ {A = ℤ} (pos 9) (pos 5) = given in cc
