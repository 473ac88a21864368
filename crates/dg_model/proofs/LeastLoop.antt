-- Which cycle the rule of loops tells, worked by hand: one through two blocks, and behind it a sum that reads itself.
use Rattle.std.proofs.Common.{◌≡◌, ℕ, zero, suc, ◌<◌, ◌≤◌, ◌≢◌, List, [], ◌∷◌, length, codes, false, refl, subst, ap, ◌∙◌, arith}
use Rattle.std.specs.Prelude.{◌-◌, ◌%◌, slice_index, get_or, All}
use Rattle.std.proofs.Math.Nat.{mod_self, mod-eq_of_lt}
use Rattle.std.proofs.lemmas.List.{get_or_default}
use Rattle.fx_type.specs.declared.spec.TypeSpec.TheVariants.{Internal}
use Rattle.dg_model.specs.declared.diagram.Diagram.{Diagram}
use Rattle.dg_model.specs.declared.diagram.Block.{Block}
use Rattle.dg_model.specs.declared.fault.RuleFault.{RuleFault}
use Rattle.dg_model.specs.declared.fault.Shown.{Shown}
use Rattle.dg_model.specs.declared.fault.Shown.TheVariants.{Cycle}
use Rattle.dg_model.specs.declared.kind.Kind.TheVariants.{Inport, Sum, Gain}
use Rattle.dg_model.specs.declared.rule.Rule.{Rule}
use Rattle.dg_model.specs.Faults.{fault_of}
use Rattle.dg_model.specs.LatencyEdges.{LatencyEdge, signal_edge}
use Rattle.dg_model.specs.Attributes.{attributes_of}
use Rattle.dg_model.specs.Loop.{LeadsNow, IsInstantCycle, BreaksLoop}
use Rattle.dg_model.proofs.WidthRounds.{block_of, edge_of}
use Rattle.math_list.proofs.ByRecursion.{pairs_of}

abbrev gain : Block
gain = record (block_of (Gain [] Internal) 1 1) { path = codes "m/g" }

abbrev sum : List ℕ → Block
sum path = record (block_of (Sum (false ∷ false ∷ []) Internal) 2 1) { path = path }

-- an input and a gain into a sum, and the sum into that gain; a second sum of the first and of itself
abbrev two_loops : Diagram
two_loops = record {
  blocks = block_of (Inport 1 0) 0 1 ∷ gain ∷ sum (codes "m/s") ∷ sum (codes "m/t") ∷ [];
  edges = edge_of 2 1 1 1 ∷ edge_of 0 1 2 1 ∷ edge_of 1 1 2 2 ∷ edge_of 2 1 3 1 ∷ edge_of 3 1 3 2 ∷ [];
}

abbrev Leads : ℕ → ℕ → Type 0
Leads = LeadsNow two_loops (attributes_of two_loops)

abbrev IsCycle : List ℕ → Type 0
IsCycle = IsInstantCycle two_loops (attributes_of two_loops)

gain_to_sum : Leads 1 2
gain_to_sum = (2, signal_edge (edge_of 1 1 2 2), omega arith, refl, (refl, refl, refl))

sum_to_gain : Leads 2 1
sum_to_gain = (0, signal_edge (edge_of 2 1 1 1), omega arith, refl, (refl, refl, refl))

abbrev target : LatencyEdge → ℕ
target edge = edge.to

none_to_input : (from : ℕ) → Leads from 0 → ⊥
none_to_input from (zero, edge, below, at, (from_is, to_is, now)) = let t : ◌≡◌ {A = ℕ} 1 0 = ap target at ∙ to_is in absurd (omega (arith, t))
none_to_input from (suc zero, edge, below, at, (from_is, to_is, now)) = let t : ◌≡◌ {A = ℕ} 2 0 = ap target at ∙ to_is in absurd (omega (arith, t))
none_to_input from (suc (suc zero), edge, below, at, (from_is, to_is, now)) = let t : ◌≡◌ {A = ℕ} 2 0 = ap target at ∙ to_is in absurd (omega (arith, t))
none_to_input from (suc (suc (suc zero)), edge, below, at, (from_is, to_is, now)) = let t : ◌≡◌ {A = ℕ} 3 0 = ap target at ∙ to_is in absurd (omega (arith, t))
none_to_input from (suc (suc (suc (suc zero))), edge, below, at, (from_is, to_is, now)) = let t : ◌≡◌ {A = ℕ} 3 0 = ap target at ∙ to_is in absurd (omega (arith, t))
none_to_input from (suc (suc (suc (suc (suc k)))), edge, below, at, (from_is, to_is, now)) = absurd (omega (arith, below))

-- an instant edge leads to each block of a cycle
into_cycle : (cycle : List ℕ) → IsCycle cycle → (k : ℕ) → k < length cycle → (from : ℕ) × Leads from (slice_index cycle k)
into_cycle cycle is zero below =
    let last : ℕ = length cycle - 1 in
    let round : suc last % length cycle ≡ 0 = let whole : suc last ≡ length cycle = omega (arith, below) in ap (λ n. n % length cycle) whole ∙ mod_self (length cycle) in
    (slice_index cycle last, subst (λ n. Leads (slice_index cycle last) (slice_index cycle n)) round (is.leads last (omega (arith, below))))
into_cycle cycle is (suc k) below =
    (slice_index cycle k, subst (λ n. Leads (slice_index cycle k) (slice_index cycle n)) (mod-eq_of_lt below) (is.leads k (omega (arith, below))))

-- so the input lies on none
no_input : (cycle : List ℕ) → IsCycle cycle → All (λ block. 1 ≤ block) cycle
no_input cycle is k d below = omega (arith, above (get_or cycle k 0) refl, get_or_default cycle k d 0 below)
  where
    above : (block : ℕ) → get_or cycle k 0 ≡ block → 1 ≤ block
    above zero at = let lead = into_cycle cycle is k below in absurd (none_to_input (lead.0) (subst (Leads (lead.0)) at (lead.1)))
    above (suc block) at = omega arith

gain_and_sum : IsCycle (1 ∷ 2 ∷ [])
gain_and_sum = record { some = omega arith; different = pairs_of (λ block other. block ≢ other) (1 ∷ 2 ∷ []) ((λ same. omega (arith, same), tt), (tt, tt)); leads = leads } where
  leads : (k : ℕ) → k < 2 → Leads (slice_index (1 ∷ 2 ∷ []) k) (slice_index (1 ∷ 2 ∷ []) (suc k % 2))
  leads zero below = gain_to_sum
  leads (suc zero) below = sum_to_gain
  leads (suc (suc k)) below = absurd (omega (arith, below))

-- the gain is the least block on any cycle
gain_breaks : BreaksLoop two_loops (attributes_of two_loops) (fault_of Rule.Loop (codes "m/g") (Cycle (1 ∷ 2 ∷ [])))
gain_breaks = record { first = 1; more = 2 ∷ []; is_cycle = gain_and_sum; least = no_input; fault_is = refl }

abbrev first_shown : Shown → ℕ
first_shown (Cycle blocks) = slice_index blocks 0
first_shown other = 0

abbrev first_of_fault : RuleFault → ℕ
first_of_fault fault = first_shown fault.shown

-- so no fault tells a cycle from a later block on, as the same one from the sum
not_later : (path more : List ℕ) (first : ℕ) → BreaksLoop two_loops (attributes_of two_loops) (fault_of Rule.Loop path (Cycle (first ∷ more))) → first ≤ 1
not_later path more first breaks =
    let same : first ≡ breaks.first = ap first_of_fault breaks.fault_is in
    omega (arith, same, breaks.least (1 ∷ 2 ∷ []) gain_and_sum 0 0 (omega arith))
