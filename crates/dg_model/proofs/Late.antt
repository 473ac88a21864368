-- Blocks of vectors that look back: a Delay of period 2, and rate transitions from slow to fast, from fast to slow, between equal periods and from a value that never changes.
use Rattle.std.proofs.Common.{◌≡◌, ℕ, List, [], ◌∷◌, None, Some, pos, get_or, map, true, false, ℤ, refl, arith}
use Rattle.std.proofs.Math.Dec.{lit<, lit≤}
use Rattle.fx_type.specs.declared.decimal.Decimal.{Decimal}
use Rattle.dg_model.specs.declared.diagram.Diagram.{Diagram}
use Rattle.dg_model.specs.declared.kind.Kind.TheVariants.{Inport, Constant, Delay, RateTransition}
use Rattle.dg_model.specs.Equation.{Equation}
use Rattle.dg_model.specs.Hits.{is_hit, hits_before, last_hit}
use Rattle.dg_model.specs.Signals.{Attributes, Stimulus, Table}
use Rattle.dg_model.specs.Solves.{Solves}
use Rattle.dg_model.proofs.Examples.{int8, block_of, edge_of, decimal_of, table_of_vectors, stores_small}

abbrev first_values : List Decimal
first_values = decimal_of 7 (lit< tt) ∷ decimal_of 8 (lit< tt) ∷ []

-- u at period 2, its Delay by one hit, u at periods 1, 4 and 2, a Constant, and that at period 1
abbrev diagram : Diagram
diagram = record {
  blocks = block_of (Inport 1 2) 0 1 None ∷ block_of (Delay 1 first_values false) 1 1 None ∷ block_of (RateTransition (decimal_of 1 (lit< tt)) first_values) 1 1 None
      ∷ block_of (RateTransition (decimal_of 4 (lit< tt)) first_values) 1 1 None ∷ block_of (RateTransition (decimal_of 2 (lit< tt)) first_values) 1 1 None
      ∷ block_of (Constant (decimal_of 1 (lit< tt) ∷ decimal_of 2 (lit< tt) ∷ [])) 0 1 None ∷ block_of (RateTransition (decimal_of 1 (lit< tt)) first_values) 1 1 None ∷ [];
  edges = edge_of 0 1 1 1 ∷ edge_of 0 1 2 1 ∷ edge_of 0 1 3 1 ∷ edge_of 0 1 4 1 ∷ edge_of 5 1 6 1 ∷ [];
}

abbrev attributes : Attributes
attributes = record {
  width_at = λ block port. 2;
  type_at = λ block port. int8;
  param_at = λ block. int8;
  period_at = λ block. get_or (Some 2 ∷ Some 2 ∷ Some 1 ∷ Some 4 ∷ Some 2 ∷ None ∷ Some 1 ∷ []) block None;
}

-- by block, base sample and element
abbrev rows : List (List (List ℤ))
rows = ((pos 3 ∷ pos 4 ∷ []) ∷ (pos 3 ∷ pos 4 ∷ []) ∷ (pos 5 ∷ pos 6 ∷ []) ∷ (pos 5 ∷ pos 6 ∷ []) ∷ (pos 1 ∷ pos 9 ∷ []) ∷ [])
    ∷ ((pos 7 ∷ pos 8 ∷ []) ∷ (pos 7 ∷ pos 8 ∷ []) ∷ (pos 3 ∷ pos 4 ∷ []) ∷ (pos 3 ∷ pos 4 ∷ []) ∷ (pos 5 ∷ pos 6 ∷ []) ∷ [])
    ∷ ((pos 7 ∷ pos 8 ∷ []) ∷ (pos 7 ∷ pos 8 ∷ []) ∷ (pos 3 ∷ pos 4 ∷ []) ∷ (pos 3 ∷ pos 4 ∷ []) ∷ (pos 5 ∷ pos 6 ∷ []) ∷ [])
    ∷ ((pos 3 ∷ pos 4 ∷ []) ∷ (pos 3 ∷ pos 4 ∷ []) ∷ (pos 3 ∷ pos 4 ∷ []) ∷ (pos 3 ∷ pos 4 ∷ []) ∷ (pos 1 ∷ pos 9 ∷ []) ∷ [])
    ∷ ((pos 3 ∷ pos 4 ∷ []) ∷ (pos 3 ∷ pos 4 ∷ []) ∷ (pos 5 ∷ pos 6 ∷ []) ∷ (pos 5 ∷ pos 6 ∷ []) ∷ (pos 1 ∷ pos 9 ∷ []) ∷ [])
    ∷ ((pos 1 ∷ pos 2 ∷ []) ∷ (pos 1 ∷ pos 2 ∷ []) ∷ (pos 1 ∷ pos 2 ∷ []) ∷ (pos 1 ∷ pos 2 ∷ []) ∷ (pos 1 ∷ pos 2 ∷ []) ∷ [])
    ∷ ((pos 1 ∷ pos 2 ∷ []) ∷ (pos 1 ∷ pos 2 ∷ []) ∷ (pos 1 ∷ pos 2 ∷ []) ∷ (pos 1 ∷ pos 2 ∷ []) ∷ (pos 1 ∷ pos 2 ∷ []) ∷ []) ∷ []

abbrev table : Table
table = table_of_vectors rows

abbrev stimulus : Stimulus
stimulus number element t = table 0 1 element t

abbrev IsRight : ℕ → ℕ → ℕ → Type 0
IsRight block element t = Equation diagram attributes stimulus table block 1 element t (table block 1 element t)

delay : IsRight 1 0 0 × IsRight 1 1 0 × IsRight 1 0 2 × IsRight 1 1 2 × IsRight 1 0 4 × IsRight 1 1 4
delay = (stores_small 7 (lit< tt) (lit< tt), stores_small 8 (lit< tt) (lit< tt), refl, refl, refl, refl)

slow_to_fast : IsRight 2 0 0 × IsRight 2 1 1 × IsRight 2 0 2 × IsRight 2 1 2 × IsRight 2 1 3 × IsRight 2 1 4
slow_to_fast = (stores_small 7 (lit< tt) (lit< tt), stores_small 8 (lit< tt) (lit< tt), refl, refl, refl, refl)

fast_to_slow : IsRight 3 0 0 × IsRight 3 1 0 × IsRight 3 0 4 × IsRight 3 1 4
fast_to_slow = (refl, refl, refl, refl)

equal_periods : IsRight 4 0 0 × IsRight 4 1 0 × IsRight 4 1 2 × IsRight 4 1 4
equal_periods = (refl, refl, refl, refl)

from_a_constant : IsRight 6 0 0 × IsRight 6 1 0 × IsRight 6 1 1 × IsRight 6 1 4
from_a_constant = (refl, refl, refl, refl)

-- ---- and no other numbers

-- a Delay of period 2 doesn't give what its input was a sample ago
not_a_sample_ago : ¬ Equation diagram attributes stimulus table 1 1 1 4 (pos 4)
not_a_sample_ago given = let e : ◌≡◌ {A = ℤ} (pos 4) (pos 6) = given in cc

-- a transition to a shorter period doesn't give the present value
not_the_present : ¬ Equation diagram attributes stimulus table 2 1 0 4 (pos 1)
not_the_present given = let e : ◌≡◌ {A = ℤ} (pos 1) (pos 5) = given in cc

-- ---- between hits a block keeps its value

abbrev restless : Table
restless = table_of_vectors (((pos 3 ∷ pos 4 ∷ []) ∷ (pos 3 ∷ pos 5 ∷ []) ∷ []) ∷ [])

not_restless : ¬ Solves diagram attributes stimulus 2 restless
not_restless solves =
    let e : ◌≡◌ {A = ℤ} (pos 5) (pos 4) =
    solves.between_hits 0 (block_of (Inport 1 2) 0 1 None) 1 1 1
    (record { block_is = refl; port_from = lit≤ tt; port_to = lit≤ tt; element_below = lit< tt }) (lit< tt)
    (λ hit. absurd (omega (arith, hit))) in
    cc

-- a value that never changes is taken at 0 alone
hits_of_constant : map (is_hit None) (0 ∷ 1 ∷ 2 ∷ []) ≡ true ∷ false ∷ false ∷ []
hits_of_constant = refl

hits_of_two : (map (is_hit (Some 2)) (0 ∷ 1 ∷ 2 ∷ []) ≡ true ∷ false ∷ true ∷ []) × (hits_before (Some 2) 5 ≡ 4 ∷ 2 ∷ 0 ∷ []) × (last_hit (Some 2) 5 ≡ 4) × (last_hit None 5 ≡ 0)
hits_of_two = (refl, refl, refl, refl)
