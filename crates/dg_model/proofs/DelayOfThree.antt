-- A Delay of length 3 with the initial value 7: 1, 2, 3, 4, 5 gives 7, 7, 7, 1, 2.
use Rattle.std.proofs.Common.{◌≡◌, List, [], ◌∷◌, ℤ, Some, None, pos, false, refl}
use Rattle.std.proofs.Math.Dec.{lit<, lit≤}
use Rattle.dg_model.specs.declared.diagram.Diagram.{Diagram}
use Rattle.dg_model.specs.declared.kind.Kind.{Kind}
use Rattle.dg_model.specs.declared.kind.Kind.TheVariants.{Outport, Delay}
use Rattle.dg_model.specs.declared.op.Op.TheVariants.{Pass as OpPass}
use Rattle.dg_model.specs.Signals.{Attributes, Stimulus, Table}
use Rattle.dg_model.specs.Solves.{Solves, IsShown}
use Rattle.dg_model.proofs.Chain.{chain, chain_attributes, chain_stimulus, chain_table, IsGiven, always_hits, chain_solves}
use Rattle.dg_model.proofs.Examples.{block_of, decimal_of, table_of, stores_small, carried_out}
use Rattle.math_list.proofs.ByRecursion.{below_of}

abbrev delay : Kind
delay = Delay 3 (decimal_of 7 (lit< tt) ∷ []) false

abbrev input : List ℤ
input = pos 1 ∷ pos 2 ∷ pos 3 ∷ pos 4 ∷ pos 5 ∷ []

abbrev given : List ℤ
given = pos 7 ∷ pos 7 ∷ pos 7 ∷ pos 1 ∷ pos 2 ∷ []

abbrev diagram : Diagram
diagram = chain delay

abbrev attributes : Attributes
attributes = chain_attributes (Some 1) (Some 1)

abbrev stimulus : Stimulus
stimulus = chain_stimulus input

-- the table solves
pub delay_of_three : Solves diagram attributes stimulus 5 (chain_table input given)
delay_of_three = chain_solves delay (Some 1) (Some 1) input given 5
    (λ port element. below_of (IsGiven delay (Some 1) (Some 1) input given port element) 5
    (λ hit. stores_small 7 (lit< tt) (lit< tt), (λ hit. stores_small 7 (lit< tt) (lit< tt), (λ hit. stores_small 7 (lit< tt) (lit< tt), (λ hit. refl, (λ hit. refl, tt))))))
    (λ t below. always_hits input t)
    (λ t below. always_hits given t)

-- ---- tables that don't

-- the value of two hits ago
abbrev too_early : Table
too_early = chain_table input (pos 7 ∷ pos 7 ∷ pos 1 ∷ pos 2 ∷ pos 3 ∷ [])

shown_delay : IsShown diagram attributes 1 (block_of delay 1 1 None) 1 0
shown_delay = record { block_is = refl; port_from = lit≤ tt; port_to = lit≤ tt; element_below = lit< tt }

not_too_early : ¬ Solves diagram attributes stimulus 5 too_early
not_too_early solves = let e : ◌≡◌ {A = ℤ} (pos 3) (pos 2) = solves.at_hits 1 _ 1 0 4 shown_delay (lit< tt) refl in cc

-- a root Outport shows its input, at port 1
shown_outport : IsShown diagram attributes 2 (block_of (Outport 1) 1 0 None) 1 0
shown_outport = record { block_is = refl; port_from = lit≤ tt; port_to = lit≤ tt; element_below = lit< tt }

abbrev without_outport : Table
without_outport = table_of (input ∷ given ∷ [])

not_without_outport : ¬ Solves diagram attributes stimulus 5 without_outport
not_without_outport solves =
    let e : ◌≡◌ {A = ℤ} (pos 0) (pos 7) =
    carried_out diagram attributes stimulus without_outport (block_of (Outport 1) 1 0 None) 2 0 0 (pos 0) OpPass
    (λ op is. is) (solves.at_hits 2 _ 1 0 0 shown_outport (lit< tt) refl) in
    cc
