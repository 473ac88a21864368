-- A design of two rates, worked by hand: P = a * b and Q = P * b in each base sample, R takes Q into every other
-- one, and there S = R * D with D = S a hit before. Outputs y = S and z = D. All signals have three elements. Two
-- multipliers serve each kind.
use Rattle.std.proofs.Common.{◌≡◌, ℕ, Bool, true, false, List, [], ◌∷◌, Some, None, codes, refl}
use Rattle.std.proofs.Math.Dec.{lit<}
use Rattle.fx_type.specs.declared.decimal.Decimal.{Decimal}
use Rattle.fx_type.specs.declared.rounding.Rounding.TheVariants.{Floor}
use Rattle.fx_type.specs.declared.spec.TypeSpec.TheVariants.{Auto, Fixed}
use Rattle.dg_model.specs.declared.diagram.Block.{Block}
use Rattle.dg_model.specs.declared.diagram.Diagram.{Diagram}
use Rattle.dg_model.specs.declared.diagram.Edge.{Edge}
use Rattle.dg_model.specs.declared.diagram.PeriodSpec.TheVariants.{Inherit, Every}
use Rattle.dg_model.specs.declared.kind.Kind.{Kind}
use Rattle.dg_model.specs.declared.kind.Kind.TheVariants.{Inport, Outport, Product, RateTransition, Delay}
use Rattle.dg_model.specs.declared.resolved.Resolved.{Resolved}
use Rattle.dg_model.specs.Attributes.{attributes_of}
use Rattle.dg_model.specs.Signals.{Attributes}
use Rattle.hw_sched.specs.Slots.{Timing}
use Rattle.hw_shows.proofs.Small.{int8, decimal_of, edge_of}
use Rattle.hw_shows.proofs.RuleTests.{Columns, IsTried, attributes_in, attributes_tried}

-- ---- the diagram
abbrev pub named : List ℕ → Kind → ℕ → ℕ → Block
named path kind inputs outputs = record { path = path; kind = kind; inputs = inputs; outputs = outputs; result = Auto; rounding = Floor; saturate = false; period = Inherit; enable = None }

abbrev pub input : List ℕ → ℕ → Block
input path number = record (named path (Inport number 3) 0 1) { result = Fixed int8; period = Every (decimal_of 1 (lit< tt)) }

abbrev pub product : List ℕ → Block
product path = record (named path Product 2 1) { result = Fixed int8; saturate = true }

abbrev initial : List Decimal
initial = decimal_of 1 (lit< tt) ∷ []

abbrev pub two : Decimal
two = decimal_of 2 (lit< tt)

abbrev pub transition : Block
transition = record (named (codes "R") (RateTransition two initial) 1 1) { period = Every two }

abbrev pub delay : Block
delay = named (codes "D") (Delay 1 initial false) 1 1

abbrev pub output : List ℕ → ℕ → Block
output path number = named path (Outport number) 1 0

-- by place: a 0, b 1, P 2, Q 3, R 4, D 5, S 6, y 7, z 8
abbrev pub blocks : List Block
blocks = input (codes "a") 1 ∷ input (codes "b") 2 ∷ product (codes "P") ∷ product (codes "Q") ∷ transition ∷ delay ∷ product (codes "S") ∷ output (codes "y") 1 ∷ output (codes "z") 2 ∷ []

abbrev edges : List Edge
edges = edge_of 0 2 1 ∷ edge_of 1 2 2 ∷ edge_of 2 3 1 ∷ edge_of 1 3 2 ∷ edge_of 3 4 1 ∷ edge_of 6 5 1 ∷ edge_of 4 6 1 ∷ edge_of 5 6 2 ∷ edge_of 6 7 1 ∷ edge_of 5 8 1 ∷ []

abbrev pub diagram : Diagram
diagram = record { blocks = blocks; edges = edges }

-- ---- its widths, types and periods
abbrev pub columns : Columns
columns = record {
  widths = (3 ∷ []) ∷ (3 ∷ []) ∷ (3 ∷ []) ∷ (3 ∷ []) ∷ (3 ∷ []) ∷ (3 ∷ []) ∷ (3 ∷ []) ∷ (3 ∷ []) ∷ (3 ∷ []) ∷ [];
  types = Some int8 ∷ Some int8 ∷ Some int8 ∷ Some int8 ∷ Some int8 ∷ Some int8 ∷ Some int8 ∷ Some int8 ∷ Some int8 ∷ [];
  periods = Some 1 ∷ Some 1 ∷ Some 1 ∷ Some 1 ∷ Some 2 ∷ Some 2 ∷ Some 2 ∷ Some 2 ∷ Some 2 ∷ [];
}

pub tried : IsTried diagram columns
tried = record { widths = refl; types = refl; periods = refl; few = refl; edges = refl; ordered = refl; blocks = refl }

abbrev pub attributes : Attributes
attributes = attributes_in diagram columns

pub known : attributes_of diagram ≡ attributes
known = attributes_tried diagram columns tried

-- ---- plans, by their clocks, multipliers and the registers behind P, Q and S
abbrev pub plan_of : ℕ → ℕ → ℕ → ℕ → ℕ → Resolved
plan_of cycles multipliers behind_p behind_q behind_s =
    record { cycles = cycles; multipliers = multipliers; stages = 0 ∷ 0 ∷ behind_p ∷ behind_q ∷ 0 ∷ 0 ∷ behind_s ∷ 0 ∷ 0 ∷ [] }

-- a register behind Q, two multipliers for each kind, and as many clocks
abbrev pub plan_in : ℕ → Resolved
plan_in cycles = plan_of cycles 2 0 1 0

-- what is fed where all products are shared: what stands behind one in the same sample
abbrev pub fed : List Bool
fed = false ∷ false ∷ true ∷ true ∷ true ∷ false ∷ true ∷ true ∷ false ∷ []

-- and how many shared products of its own period stand on a path to a block
abbrev pub depths : List ℕ
depths = 0 ∷ 0 ∷ 1 ∷ 2 ∷ 0 ∷ 0 ∷ 1 ∷ 1 ∷ 0 ∷ []

-- all from R on is a base sample late
abbrev pub timing : Timing
timing = record { lat = 0 ∷ 0 ∷ 0 ∷ 0 ∷ 1 ∷ 1 ∷ 1 ∷ 1 ∷ 1 ∷ []; fed = fed; depths = depths }
