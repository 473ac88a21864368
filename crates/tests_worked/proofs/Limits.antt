-- The limits of plans and of diagrams, and hits, each at its bound and one past it.
use Rattle.std.proofs.Common.{◌≡◌, ℕ, zero, suc, ◌*◌, ◌<◌, ◌≤◌, ◌^◌, ℤ, pos, negsuc, true, false, List, [], ◌∷◌, get_or, Some, None, codes, refl, arith}
use Rattle.std.proofs.Math.Dec.{lit<, lit≤}
use lib.Signed.{le_z_yes}
use Rattle.fx_type.specs.declared.decimal.Decimal.{Decimal}
use Rattle.fx_type.specs.declared.kind.FxType.TheVariants.{Num}
use Rattle.fx_type.specs.declared.rounding.Rounding.TheVariants.{Floor}
use Rattle.fx_type.specs.declared.spec.TypeSpec.TheVariants.{Auto}
use Rattle.dg_model.specs.declared.diagram.Block.{Block}
use Rattle.dg_model.specs.declared.diagram.Diagram.{Diagram}
use Rattle.dg_model.specs.declared.diagram.Edge.{Edge}
use Rattle.dg_model.specs.declared.diagram.PeriodSpec.{PeriodSpec}
use Rattle.dg_model.specs.declared.diagram.PeriodSpec.TheVariants.{Inherit, Every}
use Rattle.dg_model.specs.declared.kind.Kind.{Kind}
use Rattle.dg_model.specs.declared.kind.Kind.TheVariants.{Inport, Outport, Delay, EnableTest}
use Rattle.dg_model.specs.declared.plan.Pipeline.{Pipeline}
use Rattle.dg_model.specs.declared.plan.Plan.{Plan}
use Rattle.dg_model.specs.Dimension.{IsBounded}
use Rattle.dg_model.specs.Equation.{EnableEquation}
use Rattle.dg_model.specs.Hits.{Hits, is_slow_to_fast}
use Rattle.dg_model.specs.PlanRange.{IsPlanInRange}
use Rattle.dg_model.specs.Rate.{KeepsDeclared, suits}
use Rattle.dg_model.specs.Signals.{Attributes, Stimulus, Table}

-- ---- plans: 1 to 1024 clocks, at most 64 multipliers, 1 to 64 registers, no block twice
abbrev behind : List ℕ → ℕ → Pipeline
behind path count = record { path = path; count = count }

abbrev plan_of : ℕ → ℕ → List Pipeline → Plan
plan_of cycles multipliers pipelines = record { cycles = cycles; multipliers = multipliers; pipelines = pipelines }

least_plan : IsPlanInRange (plan_of 1 0 (behind (codes "G") 1 ∷ []))
least_plan = record { some_clocks = lit≤ tt; few_clocks = lit≤ tt; few_multipliers = lit≤ tt; counts = ((lit≤ tt, lit≤ tt), tt); different = (tt, tt) }

greatest_plan : IsPlanInRange (plan_of 1024 64 (behind (codes "G") 64 ∷ []))
greatest_plan = record { some_clocks = lit≤ tt; few_clocks = lit≤ tt; few_multipliers = lit≤ tt; counts = ((lit≤ tt, lit≤ tt), tt); different = (tt, tt) }

no_plans : (¬ IsPlanInRange (plan_of 0 0 [])) × (¬ IsPlanInRange (plan_of 1025 0 [])) × (¬ IsPlanInRange (plan_of 1 65 []))
    × (¬ IsPlanInRange (plan_of 1 0 (behind (codes "G") 0 ∷ []))) × (¬ IsPlanInRange (plan_of 1 0 (behind (codes "G") 65 ∷ [])))
    × (¬ IsPlanInRange (plan_of 1 0 (behind (codes "G") 1 ∷ behind (codes "G") 2 ∷ [])))
no_plans = (
  λ is. absurd (omega (arith, is.some_clocks)),
  λ is. absurd (omega (arith, is.few_clocks)),
  λ is. absurd (omega (arith, is.few_multipliers)),
  λ is. absurd (omega (arith, is.counts.0.0)),
  λ is. absurd (omega (arith, is.counts.0.1)),
  λ is. absurd (is.different.0.0 refl),
)

-- ---- elements: at most 200000 of output ports, 400000 of input ports and 4000000 of Delays
abbrev decimal_of : (n : ℕ) → n < 10 ^ 18 → Decimal
decimal_of n small = record { negative = false; digits = n; exponent = pos 0; eighteen_digits = small; least_exponent = le_z_yes tt; greatest_exponent = le_z_yes tt }

abbrev block_of : Kind → ℕ → ℕ → PeriodSpec → Block
block_of kind inputs outputs period = record { path = []; kind = kind; inputs = inputs; outputs = outputs; result = Auto; rounding = Floor; saturate = false; period = period; enable = None }

abbrev edge_of : ℕ → ℕ → Edge
edge_of from to = record { from = from; from_port = 1; to = to; to_port = 1 }

-- two inputs, the first of which three outputs show
abbrev shown : Diagram
shown = record {
  blocks = block_of (Inport 1 0) 0 1 Inherit ∷ block_of (Inport 2 0) 0 1 Inherit ∷ block_of (Outport 1) 1 0 Inherit
      ∷ block_of (Outport 2) 1 0 Inherit ∷ block_of (Outport 3) 1 0 Inherit ∷ block_of (Outport 4) 1 0 Inherit ∷ [];
  edges = edge_of 0 2 ∷ edge_of 0 3 ∷ edge_of 0 4 ∷ edge_of 1 5 ∷ [];
}

many_inputs : IsBounded shown ((133333 ∷ []) ∷ (1 ∷ []) ∷ []) × (¬ IsBounded shown ((133333 ∷ []) ∷ (2 ∷ []) ∷ []))
many_inputs = (record { outputs = lit≤ tt; inputs = lit≤ tt; delays = lit≤ tt }, λ is. absurd (omega (arith, is.inputs)))

many_outputs : IsBounded (record shown { edges = [] }) ((133333 ∷ []) ∷ (66667 ∷ []) ∷ []) × (¬ IsBounded (record shown { edges = [] }) ((133333 ∷ []) ∷ (66668 ∷ []) ∷ []))
many_outputs = (record { outputs = lit≤ tt; inputs = lit≤ tt; delays = lit≤ tt }, λ is. absurd (omega (arith, is.outputs)))

abbrev delayed : Diagram
delayed = record { blocks = block_of (Delay 1000 [] false) 1 1 Inherit ∷ block_of (Delay 1 [] false) 1 1 Inherit ∷ []; edges = [] }

many_delays : IsBounded delayed ((3999 ∷ []) ∷ (1000 ∷ []) ∷ []) × (¬ IsBounded delayed ((3999 ∷ []) ∷ (1001 ∷ []) ∷ []))
many_delays = (record { outputs = lit≤ tt; inputs = lit≤ tt; delays = lit≤ tt }, λ is. absurd (omega (arith, is.delays)))

-- ---- periods: at most 4096 times the least
abbrev with_period : (n : ℕ) → n < 10 ^ 18 → Diagram
with_period n small = record { blocks = block_of (Inport 1 0) 0 1 (Every (decimal_of 2 (lit< tt))) ∷ block_of (Inport 2 0) 0 1 (Every (decimal_of n small)) ∷ []; edges = [] }

longest_period : KeepsDeclared (with_period 8192 (lit< tt)) 1 (block_of (Inport 2 0) 0 1 (Every (decimal_of 8192 (lit< tt))))
longest_period = (4096, lit≤ tt, refl)

too_long : ¬ KeepsDeclared (with_period 8194 (lit< tt)) 1 (block_of (Inport 2 0) 0 1 (Every (decimal_of 8194 (lit< tt))))
too_long (times, few, whole) = past times few whole where
  past : (times : ℕ) → times ≤ 4096 → 8194 * 10 ^ 36 ≡ times * (2 * 10 ^ 36) → ⊥
  past times few whole = omega (arith, few, whole)

-- a source suits a block: the periods are one, or one divides the other where the block joins two
suited : (suits false (Some 2) (Some 2) ≡ true) × (suits false (Some 4) (Some 2) ≡ false)
    × (suits false (Some 2) (Some 4) ≡ false) × (suits false (Some 2) None ≡ true)
    × (suits false None (Some 2) ≡ false)
suited = (refl, refl, refl, refl, refl)

joined : (suits true (Some 4) (Some 2) ≡ true) × (suits true (Some 2) (Some 4) ≡ true)
    × (suits true (Some 2) (Some 2) ≡ true) × (suits true (Some 4) (Some 6) ≡ false)
    × (suits true (Some 6) (Some 4) ≡ false) × (suits true None (Some 2) ≡ false)
joined = (refl, refl, refl, refl, refl, refl)

slow_to_fast : (is_slow_to_fast (Some 3) (Some 2) ≡ true) × (is_slow_to_fast (Some 2) (Some 2) ≡ false) × (is_slow_to_fast (Some 1) (Some 2) ≡ false) × (is_slow_to_fast None (Some 2) ≡ false)
slow_to_fast = (refl, refl, refl, refl)

hits : Hits (Some 3) 0 × Hits (Some 3) 3 × Hits None 0
hits = (refl, refl, refl)

no_hits : (¬ Hits (Some 3) 2) × (¬ Hits (Some 3) 4) × (¬ Hits None 1)
no_hits = (λ is. absurd (omega (arith, is)), λ is. absurd (omega (arith, is)), λ is. absurd (omega (arith, is)))

-- ---- the control of an enabled subsystem: an element above 0 enables it
abbrev controlled : Diagram
controlled = record { blocks = block_of (Inport 1 2) 0 1 Inherit ∷ block_of EnableTest 1 1 Inherit ∷ []; edges = edge_of 0 1 ∷ [] }

abbrev attributes : Attributes
attributes = record { width_at = λ block port. get_or (2 ∷ []) block 1; type_at = λ block port. Num true 8 (pos 0); param_at = λ block. Num true 8 (pos 0); period_at = λ block. Some 1 }

abbrev stimulus : Stimulus
stimulus number element t = pos 0

-- two elements in one sample
abbrev Enables : ℤ → ℤ → ℤ → Type 0
Enables first last v = EnableEquation controlled attributes stimulus table 1 0 v where
  table : Table
  table block port zero t = first
  table block port (suc element) t = last

enabled : Enables (pos 1) (pos 0) (pos 1) × Enables (negsuc 0) (pos 1) (pos 1) × Enables (pos 0) (pos 0) (pos 0) × Enables (negsuc 0) (negsuc 3) (pos 0) × Enables (negsuc 0) (pos 0) (pos 0)
enabled = (refl, refl, refl, refl, refl)
