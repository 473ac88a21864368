-- Small diagrams whose latencies are worked out by hand, to check the definitions against.
use Rattle.std.proofs.Common.{◌≡◌, ℕ, zero, suc, ◌<◌, true, false, List, [], ◌∷◌, Option, None, Some, pos, get_or, refl, arith}
use Rattle.std.proofs.lemmas.List.Elements.{All-nil, All-cons}
use Rattle.fx_type.specs.declared.kind.FxType.TheVariants.{Num}
use Rattle.fx_type.specs.declared.spec.TypeSpec.TheVariants.{Auto, Internal}
use Rattle.fx_type.specs.declared.rounding.Rounding.TheVariants.{Floor}
use Rattle.dg_model.specs.declared.diagram.Block.{Block}
use Rattle.dg_model.specs.declared.diagram.Edge.{Edge}
use Rattle.dg_model.specs.declared.diagram.Diagram.{Diagram}
use Rattle.dg_model.specs.declared.diagram.PeriodSpec.TheVariants.{Inherit}
use Rattle.dg_model.specs.declared.kind.Kind.{Kind}
use Rattle.dg_model.specs.declared.kind.Kind.TheVariants.{Inport, Outport, Sum, Gain, Delay, EnOut, EnableTest}
use Rattle.dg_model.specs.declared.resolved.Resolved.{Resolved}
use Rattle.dg_model.specs.Signals.{Attributes}
use Rattle.hw_arcs.specs.declared.arc.Arc.{Arc}
use Rattle.hw_arcs.specs.Latencies.{IsCountedArc, IsGainingCycle}
use Rattle.hw_latency.specs.Weight.{arcs_with}

abbrev block_of : Kind → ℕ → ℕ → Option ℕ → Block
block_of kind inputs outputs enable = record { path = []; kind = kind; inputs = inputs; outputs = outputs; result = Auto; rounding = Floor; saturate = false; period = Inherit; enable = enable }

abbrev edge_of : ℕ → ℕ → ℕ → Edge
edge_of from to to_port = record { from = from; from_port = 1; to = to; to_port = to_port }

-- signals of one element, of these periods
abbrev timed : List (Option ℕ) → Attributes
timed periods = record { width_at = λ block port. 1; type_at = λ block port. Num true 8 (pos 0); param_at = λ block. Num true 8 (pos 0); period_at = λ block. get_or periods block None }

abbrev plan_of : List ℕ → Resolved
plan_of stages = record { cycles = 1; multipliers = 0; stages = stages }

abbrev arc : ℕ → ℕ → ℕ → ℕ → Arc
arc from to gain slack = record { from = from; to = to; counts = true; gain = gain; slack = slack }

-- ---- u and a Gain G into a Sum S, which a Delay D of this length takes back to G; G has one register behind it

abbrev looped : ℕ → Diagram
looped length = record {
  blocks = block_of (Inport 1 0) 0 1 None ∷ block_of (Sum (false ∷ false ∷ []) Internal) 2 1 None
      ∷ block_of (Delay length [] false) 1 1 None ∷ block_of (Gain [] Internal) 1 1 None
      ∷ block_of (Outport 1) 1 0 None ∷ [];
  edges = edge_of 0 1 1 ∷ edge_of 3 1 2 ∷ edge_of 1 2 1 ∷ edge_of 2 3 1 ∷ edge_of 1 4 1 ∷ [];
}

abbrev looped_arcs : ℕ → List Arc
looped_arcs length = arcs_with (looped length) (timed (Some 1 ∷ Some 1 ∷ Some 1 ∷ Some 1 ∷ Some 1 ∷ [])) (plan_of (0 ∷ 0 ∷ 0 ∷ 1 ∷ 0 ∷ [])) (false ∷ false ∷ false ∷ false ∷ false ∷ [])

looped_once : looped_arcs 1 ≡ arc 0 1 0 0 ∷ arc 3 1 1 0 ∷ arc 1 2 1 1 ∷ arc 2 3 0 0 ∷ arc 1 4 0 0 ∷ []
looped_once = refl

looped_twice : looped_arcs 2 ≡ arc 0 1 0 0 ∷ arc 3 1 1 0 ∷ arc 1 2 1 2 ∷ arc 2 3 0 0 ∷ arc 1 4 0 0 ∷ []
looped_twice = refl

-- with a length of 1 the cycle S, D, G gains one base sample
one_gains : IsGainingCycle (looped_arcs 1) (1 ∷ 2 ∷ 3 ∷ []) 1
one_gains = record {
  edges = arc 1 2 1 1 ∷ arc 2 3 0 0 ∷ arc 3 1 1 0 ∷ [];
  are = All-cons (IsCountedArc (looped_arcs 1)) (arc 1 2 1 1) (arc 2 3 0 0 ∷ arc 3 1 1 0 ∷ []) (record { number = 2; at = refl; counts = refl })
      (All-cons (IsCountedArc (looped_arcs 1)) (arc 2 3 0 0) (arc 3 1 1 0 ∷ []) (record { number = 3; at = refl; counts = refl })
      (All-cons (IsCountedArc (looped_arcs 1)) (arc 3 1 1 0) [] (record { number = 1; at = refl; counts = refl }) (All-nil (IsCountedArc (looped_arcs 1)))));
  from = refl;
  to = refl;
  gains = refl;
  above = omega arith;
  different = λ i j d below inside. apart i j d below inside;
}
  where
    apart : (i j d : ℕ) → i < j → j < 3 → get_or (1 ∷ 2 ∷ 3 ∷ []) i d ≡ get_or (1 ∷ 2 ∷ 3 ∷ []) j d → ⊥
    apart zero zero d below inside same = omega arith
    apart zero (suc zero) d below inside same = omega arith
    apart zero (suc (suc zero)) d below inside same = omega arith
    apart zero (suc (suc (suc j))) d below inside same = omega arith
    apart (suc zero) zero d below inside same = omega arith
    apart (suc zero) (suc zero) d below inside same = omega arith
    apart (suc zero) (suc (suc zero)) d below inside same = omega arith
    apart (suc zero) (suc (suc (suc j))) d below inside same = omega arith
    apart (suc (suc i)) zero d below inside same = omega arith
    apart (suc (suc i)) (suc zero) d below inside same = omega arith
    apart (suc (suc i)) (suc (suc zero)) d below inside same = omega arith
    apart (suc (suc i)) (suc (suc (suc j))) d below inside same = omega arith

-- ---- an output of an enabled subsystem and a Delay in it: edges from the control, numbered after the lines

abbrev enabled : Diagram
enabled = record {
  blocks = block_of (Inport 1 0) 0 1 None ∷ block_of EnableTest 1 1 None ∷ block_of (Delay 3 [] false) 1 1 (Some 1) ∷ block_of (EnOut false []) 1 1 (Some 1) ∷ block_of (Outport 1) 1 0 None ∷ [];
  edges = edge_of 0 1 1 ∷ edge_of 0 2 1 ∷ edge_of 2 3 1 ∷ edge_of 3 4 1 ∷ [];
}

-- neither the data nor the control of such a Delay is registered
enabled_arcs : arcs_with enabled (timed (Some 1 ∷ Some 1 ∷ Some 1 ∷ Some 1 ∷ Some 1 ∷ [])) (plan_of (0 ∷ 0 ∷ 0 ∷ 0 ∷ 0 ∷ [])) (false ∷ false ∷ false ∷ false ∷ false ∷ [])
    ≡ arc 0 1 0 0 ∷ arc 0 2 0 0 ∷ arc 2 3 0 0 ∷ arc 3 4 0 0 ∷ arc 1 2 0 0 ∷ arc 1 3 0 0 ∷ []
enabled_arcs = refl
