-- The rule of size at its bounds, and what a Delay keeps, by hand.
use Rattle.std.proofs.Common.{◌≡◌, ℕ, ◌<◌, ◌≤◌, true, false, List, [], ◌∷◌, if◌then◌else◌, Option, Some, None, inl, inr, refl, sym, subst}
use Rattle.std.specs.Prelude.{◌==◌}
use Rattle.std.proofs.Math.Dec.{lit<, lit≤}
use Rattle.fx_type.specs.declared.decimal.Decimal.{Decimal}
use Rattle.fx_type.specs.declared.spec.TypeSpec.TheVariants.{Fixed}
use Rattle.dg_model.specs.declared.diagram.Block.{Block}
use Rattle.dg_model.specs.declared.diagram.Diagram.{Diagram}
use Rattle.dg_model.specs.declared.diagram.PeriodSpec.TheVariants.{Every}
use Rattle.dg_model.specs.declared.fault.Shown.TheVariants.{Size}
use Rattle.dg_model.specs.declared.kind.Kind.TheVariants.{Constant, Delay, EnableTest, Inport, Outport, Product}
use Rattle.dg_model.specs.declared.resolved.Resolved.{Resolved}
use Rattle.dg_model.specs.declared.rule.Rule.{Rule}
use Rattle.dg_model.specs.Attributes.{attributes_of}
use Rattle.dg_model.specs.Faults.{fault_of}
use Rattle.dg_model.specs.Signals.{Attributes}
use Rattle.dg_model.specs.TypeRounds.{types_of}
use Rattle.dg_model.specs.Widths.{Widths}
use Rattle.hw_sched.specs.Slots.{Timing}
use Rattle.hw_sched.specs.Storage.{BreaksSize, KeepsSize, greatest_latency, keeps_own, registers_in_all, storage}
use Rattle.hw_shows.proofs.Small.{int8, decimal_of, block_of, edge_of, input_of, output, attributes_by, attributes_are}

abbrev initial : List Decimal
initial = decimal_of 0 (lit< tt) ∷ []

-- ---- latency: a product of period 4096 with 64 registers behind it, by 64 clocks: 64 * 4096 * 64 is the bound
abbrev slow : Diagram
slow = record {
  blocks = input_of 1 1 (lit< tt) ∷ input_of 2 4096 (lit< tt) ∷ record (block_of Product 2 1) { result = Fixed int8 } ∷ output ∷ [];
  edges = edge_of 1 2 1 ∷ edge_of 1 2 2 ∷ edge_of 2 3 1 ∷ [];
}

abbrev slow_attributes : Attributes
slow_attributes = attributes_by slow ((1 ∷ []) ∷ (1 ∷ []) ∷ (1 ∷ []) ∷ (1 ∷ []) ∷ []) (Some int8 ∷ Some int8 ∷ Some int8 ∷ Some int8 ∷ []) (Some 1 ∷ Some 4096 ∷ Some 4096 ∷ Some 4096 ∷ [])

slow_known : attributes_of slow ≡ slow_attributes
slow_known = attributes_are slow ((1 ∷ []) ∷ (1 ∷ []) ∷ (1 ∷ []) ∷ (1 ∷ []) ∷ []) (Some int8 ∷ Some int8 ∷ Some int8 ∷ Some int8 ∷ []) (Some 1 ∷ Some 4096 ∷ Some 4096 ∷ Some 4096 ∷ []) refl refl refl

abbrev slow_plan : ℕ → Resolved
slow_plan multipliers = record { cycles = 64; multipliers = multipliers; stages = 0 ∷ 0 ∷ 64 ∷ 0 ∷ [] }

abbrev unshared : Timing
unshared = record { lat = 0 ∷ 0 ∷ 0 ∷ 262144 ∷ []; fed = false ∷ false ∷ false ∷ false ∷ []; depths = 0 ∷ 0 ∷ 0 ∷ 0 ∷ [] }

-- where it is shared the output is ready a clock later
abbrev shared : Timing
shared = record { lat = 0 ∷ 0 ∷ 0 ∷ 262144 ∷ []; fed = false ∷ false ∷ true ∷ true ∷ []; depths = 0 ∷ 0 ∷ 1 ∷ 1 ∷ [] }

latencies : (greatest_latency slow slow_attributes (slow_plan 0) unshared ≡ 16777216) × (greatest_latency slow slow_attributes (slow_plan 1) shared ≡ 16777217)
latencies = (refl, refl)

short_enough : KeepsSize slow (slow_plan 0) unshared
short_enough = record {
  few = subst (λ (a : Attributes). storage slow a (slow_plan 0) unshared ≤ 400000) (sym slow_known) (lit≤ tt);
  short = subst (λ (a : Attributes). greatest_latency slow a (slow_plan 0) unshared ≤ 16777216) (sym slow_known) (lit≤ tt);
}

too_long : BreaksSize slow (slow_plan 1) shared (fault_of Rule.Size [] (Size 68 16777217))
too_long = record {
  broken = inr (subst (λ (a : Attributes). 16777216 < greatest_latency slow a (slow_plan 1) shared) (sym slow_known) (lit< tt));
  fault_is = subst (λ (a : Attributes). fault_of Rule.Size [] (Size 68 16777217)
      ≡ fault_of Rule.Size [] (Size (storage slow a (slow_plan 1) shared)
      (greatest_latency slow a (slow_plan 1) shared))) (sym slow_known) refl;
}

-- ---- storage: 400 elements through a Delay by 998 are 399600 registers and 400 behind it; one more line is one too many
abbrev wide_input : Block
wide_input = record (block_of (Inport 1 400) 0 1) { result = Fixed int8; period = Every (decimal_of 1 (lit< tt)) }

abbrev wide : Diagram
wide = record {
  blocks = wide_input ∷ block_of (Delay 998 initial false) 1 1 ∷ output ∷ input_of 2 1 (lit< tt) ∷ block_of (Outport 2) 1 0 ∷ [];
  edges = edge_of 0 1 1 ∷ edge_of 1 2 1 ∷ [];
}

-- with the second input at the second output
abbrev wider : Diagram
wider = record { blocks = wide.blocks; edges = edge_of 0 1 1 ∷ edge_of 1 2 1 ∷ edge_of 3 4 1 ∷ [] }

abbrev wide_widths : Widths
wide_widths = (400 ∷ []) ∷ (400 ∷ []) ∷ (400 ∷ []) ∷ (1 ∷ []) ∷ (1 ∷ []) ∷ []

abbrev wide_periods : List (Option ℕ)
wide_periods = Some 1 ∷ Some 1 ∷ Some 1 ∷ Some 1 ∷ Some 1 ∷ []

abbrev none_late : Timing
none_late = record { lat = 0 ∷ 0 ∷ 0 ∷ 0 ∷ 0 ∷ []; fed = false ∷ false ∷ false ∷ false ∷ false ∷ []; depths = 0 ∷ 0 ∷ 0 ∷ 0 ∷ 0 ∷ [] }

abbrev no_registers : Resolved
no_registers = record { cycles = 1; multipliers = 0; stages = 0 ∷ 0 ∷ 0 ∷ 0 ∷ 0 ∷ [] }

abbrev wide_by : Diagram → Attributes
wide_by diagram = attributes_by diagram wide_widths (types_of diagram) wide_periods

wide_known : attributes_of wide ≡ wide_by wide
wide_known = attributes_are wide wide_widths (types_of wide) wide_periods refl refl refl

wider_known : attributes_of wider ≡ wide_by wider
wider_known = attributes_are wider wide_widths (types_of wider) wide_periods refl refl refl

registers : (storage wide (wide_by wide) no_registers none_late ≡ 400000) × (storage wider (wide_by wider) no_registers none_late ≡ 400001)
registers = (refl, refl)

few_enough : KeepsSize wide no_registers none_late
few_enough = record {
  few = subst (λ (a : Attributes). storage wide a no_registers none_late ≤ 400000) (sym wide_known) (lit≤ tt);
  short = subst (λ (a : Attributes). greatest_latency wide a no_registers none_late ≤ 16777216) (sym wide_known) (lit≤ tt);
}

too_many : BreaksSize wider no_registers none_late (fault_of Rule.Size [] (Size 400001 0))
too_many = record {
  broken = inl (subst (λ (a : Attributes). 400000 < storage wider a no_registers none_late) (sym wider_known) (lit< tt));
  fault_is = subst (λ (a : Attributes). fault_of Rule.Size [] (Size 400001 0)
      ≡ fault_of Rule.Size [] (Size (storage wider a no_registers none_late)
      (greatest_latency wider a no_registers none_late))) (sym wider_known) refl;
}

-- ---- what a block keeps: a Delay by 5 of a value that never changes its own 5, one of an input none, and one in an enabled subsystem its own 5
kept : (keeps_own None None ≡ true) × (keeps_own None (Some 1) ≡ false) × (keeps_own (Some 0) None ≡ true) × (keeps_own (Some 0) (Some 1) ≡ true)
kept = (refl, refl, refl, refl)

abbrev delayed : Option ℕ → Block → Diagram
delayed enable source = record {
  blocks = source ∷ record (block_of (Delay 5 initial false) 1 1) { enable = enable } ∷ block_of EnableTest 1 1 ∷ [];
  edges = edge_of 0 1 1 ∷ edge_of 0 2 1 ∷ [];
}

abbrev by_source : Option ℕ → Attributes
by_source period = record { width_at = λ block port. 3; type_at = λ block port. int8; param_at = λ block. int8; period_at = λ block. if block == 0 then period else Some 1 }

abbrev no_stages : Resolved
no_stages = record { cycles = 1; multipliers = 0; stages = 0 ∷ 0 ∷ 0 ∷ [] }

keeps : (registers_in_all (delayed None (block_of (Constant initial) 0 1)) (by_source None) no_stages ≡ 15)
    × (registers_in_all (delayed None (block_of (Inport 1 3) 0 1)) (by_source (Some 1)) no_stages ≡ 0)
    × (registers_in_all (delayed (Some 2) (block_of (Inport 1 3) 0 1)) (by_source (Some 1)) no_stages ≡ 15)
keeps = (refl, refl, refl)
