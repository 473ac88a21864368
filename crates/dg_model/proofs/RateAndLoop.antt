-- Diagrams that break the rules of rates and of loops, worked by hand.
use Rattle.std.proofs.Common.{◌≡◌, ℕ, zero, suc, ◌<◌, ◌≢◌, [], ◌∷◌, codes, Some, inl, inr, false, refl, sym, subst, ap, ◌∙◌, arith}
use Rattle.std.specs.Prelude.{◌^◌, ◌*◌, ◌%◌, slice_get, slice_index, AllPairs}
use Rattle.std.proofs.Math.Dec.{lit<}
use Rattle.fx_type.specs.declared.spec.TypeSpec.TheVariants.{Internal}
use Rattle.dg_model.specs.declared.diagram.Diagram.{Diagram}
use Rattle.dg_model.specs.declared.diagram.Block.{Block}
use Rattle.dg_model.specs.declared.diagram.PeriodSpec.TheVariants.{Every}
use Rattle.dg_model.specs.declared.fault.Shown.TheVariants.{Word, Periods as ShownPeriods}
use Rattle.dg_model.specs.declared.kind.Kind.TheVariants.{Inport, Outport, Sum, Gain}
use Rattle.dg_model.specs.declared.rule.Rule.{Rule}
use Rattle.dg_model.specs.Faults.{fault_of}
use Rattle.dg_model.specs.LatencyEdges.{LatencyEdge, signal_edge}
use Rattle.dg_model.specs.Periods.{periods_of}
use Rattle.dg_model.specs.Rate.{KeepsDeclared, KeepsPeriods, BreaksRate}
use Rattle.dg_model.specs.Attributes.{attributes_of}
use Rattle.dg_model.specs.Loop.{LeadsNow, IsInstantCycle}
use Rattle.dg_model.proofs.WidthRounds.{block_of, edge_of}
use Rattle.dg_model.proofs.PeriodRounds.{small, timed}

-- ---- rates

-- an input of period 2 into a Gain of a declared period: 3 is no whole multiple of 2
abbrev declared_three : Diagram
declared_three = record {
  blocks = timed (Inport 1 0) (Every (small 2 (lit< tt))) 0 1 ∷ timed (Gain [] Internal) (Every (small 3 (lit< tt))) 1 1 ∷ [];
  edges = edge_of 0 1 1 1 ∷ [];
}

three_breaks : BreaksRate declared_three (fault_of Rule.Rate [] (Word (codes "declared")))
three_breaks = inl (record {
  place = 1;
  block = timed (Gain [] Internal) (Every (small 3 (lit< tt))) 1 1;
  first = record { there = refl; broken = λ keeps. absurd (odd keeps.0 keeps.2); before = before };
  fault_is = refl;
}) where
  odd : (times : ℕ) → 3 * 10 ^ 36 ≡ times * (2 * 10 ^ 36) → ⊥
  odd times e = omega (arith, e)

  before : (other : ℕ) (b : Block) → other < 1 → slice_get declared_three.blocks other ≡ Some b → KeepsDeclared declared_three other b
  before zero b below is = let same : b ≡ timed (Inport 1 0) (Every (small 2 (lit< tt))) 0 1 = cc is in
      subst (λ b. KeepsDeclared declared_three 0 b) (sym same) (1, omega arith, refl)
  before (suc other) b below is = absurd (omega arith)

-- an input of period 2 into a Gain of period 4: in units of 2 the periods are 1 and 2
abbrev declared_four : Diagram
declared_four = record {
  blocks = timed (Inport 1 0) (Every (small 2 (lit< tt))) 0 1 ∷ timed (Gain [] Internal) (Every (small 4 (lit< tt))) 1 1 ∷ [];
  edges = edge_of 0 1 1 1 ∷ [];
}

four_breaks : BreaksRate declared_four (fault_of Rule.Rate [] (ShownPeriods 2 1))
four_breaks = inr (record {
  declared = declared;
  periods = record {
    place = 1;
    block = timed (Gain [] Internal) (Every (small 4 (lit< tt))) 1 1;
    first = record { there = refl; broken = λ keeps. absurd (cc keeps); before = before };
    fault_is = refl;
  };
}) where
  declared : (place : ℕ) (b : Block) → slice_get declared_four.blocks place ≡ Some b → KeepsDeclared declared_four place b
  declared zero b is = let same : b ≡ timed (Inport 1 0) (Every (small 2 (lit< tt))) 0 1 = cc is in
      subst (λ b. KeepsDeclared declared_four 0 b) (sym same) (1, omega arith, refl)
  declared (suc zero) b is = let same : b ≡ timed (Gain [] Internal) (Every (small 4 (lit< tt))) 1 1 = cc is in
      subst (λ b. KeepsDeclared declared_four 1 b) (sym same) (2, omega arith, refl)
  declared (suc (suc place)) b is = absurd (cc is)

  before : (other : ℕ) (b : Block) → other < 1 → slice_get declared_four.blocks other ≡ Some b → KeepsPeriods declared_four (periods_of declared_four) other b
  before zero b below is = let same : b ≡ timed (Inport 1 0) (Every (small 2 (lit< tt))) 0 1 = cc is in
      subst (λ b. KeepsPeriods declared_four (periods_of declared_four) 0 b) (sym same) refl
  before (suc other) b below is = absurd (omega arith)

-- ---- loops

-- an input and the sum itself into a sum
abbrev looped : Diagram
looped = record {
  blocks = block_of (Inport 1 0) 0 1 ∷ block_of (Sum (false ∷ false ∷ []) Internal) 2 1 ∷ block_of (Outport 1) 1 0 ∷ [];
  edges = edge_of 0 1 1 1 ∷ edge_of 1 1 1 2 ∷ edge_of 1 1 2 1 ∷ [];
}

-- an instant edge leads from the sum to itself, and none to the input
sum_to_itself : LeadsNow looped (attributes_of looped) 1 1
sum_to_itself = (1, signal_edge (edge_of 1 1 1 2), omega arith, refl, (refl, refl, refl))

none_to_input : (from : ℕ) → LeadsNow looped (attributes_of looped) from 0 → ⊥
none_to_input from (zero, edge, below, at, (from_is, to_is, now)) = let t : ◌≡◌ {A = ℕ} 1 0 = ap (λ (x : LatencyEdge). x.to) at ∙ to_is in absurd (omega (arith, t))
none_to_input from (suc zero, edge, below, at, (from_is, to_is, now)) = let t : ◌≡◌ {A = ℕ} 1 0 = ap (λ (x : LatencyEdge). x.to) at ∙ to_is in absurd (omega (arith, t))
none_to_input from (suc (suc zero), edge, below, at, (from_is, to_is, now)) = let t : ◌≡◌ {A = ℕ} 2 0 = ap (λ (x : LatencyEdge). x.to) at ∙ to_is in absurd (omega (arith, t))
none_to_input from (suc (suc (suc k)), edge, below, at, (from_is, to_is, now)) = absurd (omega (arith, below))

sum_is_cycle : IsInstantCycle looped (attributes_of looped) (1 ∷ [])
sum_is_cycle = record { some = omega arith; different = apart; leads = leads } where
  apart : AllPairs {X = ℕ} (λ block other. block ≢ other) (1 ∷ [])
  apart i j d before below = absurd (omega arith)

  leads : (k : ℕ) → k < 1 → LeadsNow looped (attributes_of looped) (slice_index (1 ∷ []) k) (slice_index (1 ∷ []) (suc k % 1))
  leads zero below = sum_to_itself
  leads (suc k) below = absurd (omega arith)
