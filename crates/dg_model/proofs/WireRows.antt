-- A diagram that is well formed, and what breaks each part of it.
use Rattle.std.proofs.Common.{◌≡◌, Bool, ℕ, zero, suc, ◌≤◌, List, [], ◌∷◌, None, Some, Option, false, true, refl, ap, sym, ◌∙◌, inl, inr, arith}
use Rattle.std.specs.Prelude.{◌≢◌, slice_get, count_by, replicate}
use Rattle.std.proofs.Math.Dec.{lit<, lit≤}
use Rattle.std.proofs.lemmas.List.{length-replicate}
use Rattle.std.proofs.lemmas.Option.{none-some, same_Some}
use Rattle.fx_type.specs.declared.spec.TypeSpec.TheVariants.{Fixed, Internal, SameFirst}
use Rattle.fx_type.specs.declared.rounding.Rounding.TheVariants.{Nearest}
use Rattle.fx_type.specs.declared.decimal.Decimal.{Decimal}
use Rattle.dg_model.specs.declared.diagram.Diagram.{Diagram}
use Rattle.dg_model.specs.declared.diagram.Block.{Block}
use Rattle.dg_model.specs.declared.diagram.Edge.{Edge}
use Rattle.dg_model.specs.declared.diagram.PeriodSpec.TheVariants.{Every}
use Rattle.dg_model.specs.declared.kind.Kind.TheVariants.{Inport, Outport, EnableTest, EnOut, Gain, RateTransition}
use lib.Signed.{le_z_yes}
use Rattle.dg_model.specs.declared.row.Role.{Role}
use Rattle.dg_model.specs.KindRow.{IsSpec}
use Rattle.dg_model.specs.Library.{row_of}
use Rattle.dg_model.specs.Readable.{IsReadable}
use Rattle.dg_model.specs.Wires.{enters}
use Rattle.dg_model.specs.Wired.{IsWired, Joins, StandsBefore, NamesControl, MayStand}
use Rattle.dg_model.proofs.Examples.{int8, block_of, edge_of, decimal_of}
use Rattle.math_list.proofs.ByRecursion.{all_of, pairs_of}

abbrev int8_valid : IsSpec (Fixed int8)
int8_valid = ((lit≤ tt, lit≤ tt), le_z_yes tt, le_z_yes tt)

abbrev one : List Decimal
one = decimal_of 1 (lit< tt) ∷ []

-- u, the control and its test, a Gain of u in its subsystem with its output port, and y
abbrev inport : ℕ → Block
inport number = record (block_of (Inport number 0) 0 1 None) { result = Fixed int8 }

abbrev gain : Block
gain = record (block_of (Gain one SameFirst) 1 1 (Some 2)) { result = Internal; rounding = Nearest; saturate = true; period = Every (decimal_of 2 (lit< tt)) }

abbrev en_out : Option ℕ → Block
en_out enable = block_of (EnOut false one) 1 1 enable

abbrev outport : ℕ → Block
outport number = block_of (Outport number) 1 0 None

abbrev blocks : List Block
blocks = inport 1 ∷ inport 2 ∷ block_of EnableTest 1 1 None ∷ gain ∷ en_out (Some 2) ∷ outport 1 ∷ []

abbrev edges : List Edge
edges = edge_of 1 1 2 1 ∷ edge_of 0 1 3 1 ∷ edge_of 3 1 4 1 ∷ edge_of 4 1 5 1 ∷ []

abbrev diagram : Diagram
diagram = record { blocks = blocks; edges = edges }

-- ---- it is well formed

inport_readable : (number : ℕ) → 1 ≤ number → number ≤ 20000 → IsReadable (inport number)
inport_readable number low high = record { ports = (refl, refl); parameters = ((low, high), (lit≤ tt, lit≤ tt)); types = int8_valid; result = tt; rounding = (refl, refl); period = tt }

test_readable : IsReadable (block_of EnableTest 1 1 None)
test_readable = record { ports = (refl, refl); parameters = tt; types = tt; result = refl; rounding = (refl, refl); period = refl }

gain_readable : IsReadable gain
gain_readable = record { ports = (refl, refl); parameters = ((lit≤ tt, lit≤ tt), tt, tt); types = tt; result = tt; rounding = tt; period = record { sign = refl; above = lit< tt } }

en_out_readable : (enable : Option ℕ) → IsReadable (en_out enable)
en_out_readable enable = record { ports = (refl, refl); parameters = (lit≤ tt, lit≤ tt); types = tt; result = tt; rounding = (refl, refl); period = tt }

outport_readable : (number : ℕ) → 1 ≤ number → number ≤ 20000 → IsReadable (outport number)
outport_readable number low high = record { ports = (refl, refl); parameters = (low, high); types = tt; result = tt; rounding = (refl, refl); period = tt }

inputs_are : (all : List Block) (block : ℕ) (b known : Block) → slice_get all block ≡ Some b → slice_get all block ≡ Some known → b.inputs ≡ known.inputs
inputs_are all block b known at is = let e : b ≡ known = same_Some b known (sym at ∙ is) in ap (λ (o : Block). o.inputs) e

driven : (block port : ℕ) (b : Block) → slice_get blocks block ≡ Some b → 1 ≤ port → port ≤ b.inputs → count_by (enters block port) edges ≡ 1
driven zero port b at low high = let e : b.inputs ≡ 0 = inputs_are blocks 0 b (inport 1) at refl in absurd (omega (arith, low, high, e))
driven (suc zero) port b at low high = let e : b.inputs ≡ 0 = inputs_are blocks 1 b (inport 2) at refl in absurd (omega (arith, low, high, e))
driven (suc (suc block)) zero b at low high = absurd (omega (arith, low))
driven (suc (suc zero)) (suc zero) b at low high = refl
driven (suc (suc zero)) (suc (suc port)) b at low high = let e : b.inputs ≡ 1 = inputs_are blocks 2 b (block_of EnableTest 1 1 None) at refl in absurd (omega (arith, high, e))
driven (suc (suc (suc zero))) (suc zero) b at low high = refl
driven (suc (suc (suc zero))) (suc (suc port)) b at low high = let e : b.inputs ≡ 1 = inputs_are blocks 3 b gain at refl in absurd (omega (arith, high, e))
driven (suc (suc (suc (suc zero)))) (suc zero) b at low high = refl
driven (suc (suc (suc (suc zero)))) (suc (suc port)) b at low high = let e : b.inputs ≡ 1 = inputs_are blocks 4 b (en_out (Some 2)) at refl in absurd (omega (arith, high, e))
driven (suc (suc (suc (suc (suc zero))))) (suc zero) b at low high = refl
driven (suc (suc (suc (suc (suc zero))))) (suc (suc port)) b at low high = let e : b.inputs ≡ 1 = inputs_are blocks 5 b (outport 1) at refl in absurd (omega (arith, high, e))
driven (suc (suc (suc (suc (suc (suc block)))))) port b at low high = absurd (none-some b at)

wired : IsWired diagram
wired = record {
  size = lit≤ tt;
  edges = all_of (Joins blocks) edges (
    record { source = (lit≤ tt, lit≤ tt); target = (lit≤ tt, lit≤ tt) },
    (
      record { source = (lit≤ tt, lit≤ tt); target = (lit≤ tt, lit≤ tt) },
      (
        record { source = (lit≤ tt, lit≤ tt); target = (lit≤ tt, lit≤ tt) },
        (record { source = (lit≤ tt, lit≤ tt); target = (lit≤ tt, lit≤ tt) }, tt),
      ),
    ),
  );
  driven = driven;
  ordered = pairs_of StandsBefore edges ((inl (lit< tt), (inl (lit< tt), (inl (lit< tt), tt))), ((inl (lit< tt), (inl (lit< tt), tt)), ((inl (lit< tt), tt), (tt, tt))));
  blocks = all_of IsReadable blocks (
    inport_readable 1 (lit≤ tt) (lit≤ tt),
    (
      inport_readable 2 (lit≤ tt) (lit≤ tt),
      (
        test_readable,
        (gain_readable, (en_out_readable (Some 2), (outport_readable 1 (lit≤ tt) (lit≤ tt), tt))),
      ),
    ),
  );
  controls = all_of (λ block. NamesControl blocks block.enable) blocks (tt, (tt, (tt, (refl, (refl, (tt, tt))))));
  enables = all_of (λ block. MayStand (row_of block.kind).place.stands block.enable) blocks (tt, (tt, (refl, (tt, (refl, (tt, tt))))));
  inports = record {
    within = all_of (λ (number : ℕ). (1 ≤ number) × (number ≤ 2)) (1 ∷ 2 ∷ [])
        ((lit≤ tt, lit≤ tt), ((lit≤ tt, lit≤ tt), tt));
    distinct =
        pairs_of (λ (number other : ℕ). number ≢ other) (1 ∷ 2 ∷ [])
        ((λ e. absurd (omega (arith, e)), tt), (tt, tt));
  };
  outports = record { within = all_of (λ (number : ℕ). (1 ≤ number) × (number ≤ 1)) (1 ∷ []) ((lit≤ tt, lit≤ tt), tt); distinct = pairs_of (λ (number other : ℕ). number ≢ other) (1 ∷ []) (tt, tt) };
}

-- ---- one part broken

-- more than 20,000 blocks
too_many : ¬ IsWired (record { blocks = replicate 20001 (outport 1); edges = [] })
too_many is = absurd (omega (arith, is.size, length-replicate 20001 (outport 1)))

-- a block, an output port or an input port that isn't there
abbrev with_edges : List Edge → Diagram
with_edges others = record { blocks = blocks; edges = others }

no_such_source : ¬ IsWired (with_edges (edge_of 6 1 2 1 ∷ []))
no_such_source is = absurd (is.edges 0 (edge_of 6 1 2 1) (lit< tt)).source

no_such_output : (¬ IsWired (with_edges (edge_of 1 2 2 1 ∷ []))) × (¬ IsWired (with_edges (edge_of 1 0 2 1 ∷ []))) × (¬ IsWired (with_edges (edge_of 5 1 2 1 ∷ [])))
no_such_output = (
  λ is. absurd (omega (arith, (is.edges 0 (edge_of 1 2 2 1) (lit< tt)).source.1)),
  λ is. absurd (omega (arith, (is.edges 0 (edge_of 1 0 2 1) (lit< tt)).source.0)),
  λ is. absurd (omega (arith, (is.edges 0 (edge_of 5 1 2 1) (lit< tt)).source.1)),
)

no_such_end : (¬ IsWired (with_edges (edge_of 1 1 6 1 ∷ []))) × (¬ IsWired (with_edges (edge_of 1 1 2 2 ∷ []))) × (¬ IsWired (with_edges (edge_of 1 1 2 0 ∷ [])))
no_such_end = (
  λ is. absurd (is.edges 0 (edge_of 1 1 6 1) (lit< tt)).target,
  λ is. absurd (omega (arith, (is.edges 0 (edge_of 1 1 2 2) (lit< tt)).target.1)),
  λ is. absurd (omega (arith, (is.edges 0 (edge_of 1 1 2 0) (lit< tt)).target.0)),
)

-- an input without a driver, and with two
undriven : ¬ IsWired (with_edges (edge_of 1 1 2 1 ∷ edge_of 0 1 3 1 ∷ edge_of 3 1 4 1 ∷ []))
undriven is = let e : ◌≡◌ {A = ℕ} 0 1 = is.driven 5 1 (outport 1) refl (lit≤ tt) (lit≤ tt) in absurd (omega (arith, e))

twice_driven : ¬ IsWired (with_edges (edge_of 1 1 2 1 ∷ edge_of 0 1 3 1 ∷ edge_of 3 1 4 1 ∷ edge_of 4 1 5 1 ∷ edge_of 3 1 5 1 ∷ []))
twice_driven is = let e : ◌≡◌ {A = ℕ} 2 1 = is.driven 5 1 (outport 1) refl (lit≤ tt) (lit≤ tt) in absurd (omega (arith, e))

-- the edges in another order
before : StandsBefore (edge_of 0 1 3 1) (edge_of 1 1 2 1) → ⊥
before (inl less) = absurd (omega (arith, less))
before (inr same) = absurd (omega (arith, same.0))

unordered : ¬ IsWired (with_edges (edge_of 0 1 3 1 ∷ edge_of 1 1 2 1 ∷ edge_of 3 1 4 1 ∷ edge_of 4 1 5 1 ∷ []))
unordered is = before (is.ordered 0 1 (edge_of 1 1 2 1) (lit< tt) (lit< tt))

-- and the edges into one block, of which the later port stands first
before_port : StandsBefore (edge_of 0 1 3 2) (edge_of 1 1 3 1) → ⊥
before_port (inl less) = absurd (omega (arith, less))
before_port (inr same) = absurd (omega (arith, same.1))

unordered_ports : ¬ IsWired (with_edges (edge_of 0 1 3 2 ∷ edge_of 1 1 3 1 ∷ []))
unordered_ports is = before_port (is.ordered 0 1 (edge_of 1 1 3 1) (lit< tt) (lit< tt))

-- an enabled subsystem named by no control, and an output port of none
abbrev with_blocks : List Block → Diagram
with_blocks others = record { blocks = others; edges = [] }

no_control : ¬ IsWired (with_blocks (inport 1 ∷ record (en_out (Some 0)) { inputs = 1 } ∷ []))
no_control is = let e : ◌≡◌ {A = Role} (Role.RootInput 1) Role.Control = is.controls 1 (en_out (Some 0)) (lit< tt) in cc

no_block : ¬ IsWired (with_blocks (en_out (Some 7) ∷ []))
no_block is = absurd (is.controls 0 (en_out (Some 7)) (lit< tt))

never_enabled : ¬ IsWired (with_blocks (en_out None ∷ []))
never_enabled is = let e : ◌≡◌ {A = Bool} false true = is.enables 0 (en_out None) (lit< tt) in cc

enabled_control : ¬ IsWired (with_blocks (block_of EnableTest 1 1 (Some 0) ∷ []))
enabled_control is = let e : ◌≡◌ {A = Option ℕ} (Some 0) None = is.enables 0 (block_of EnableTest 1 1 (Some 0)) (lit< tt) in cc

abbrev rate : Option ℕ → Block
rate enable = record (block_of (RateTransition (decimal_of 2 (lit< tt)) one) 1 1 enable) { period = Every (decimal_of 2 (lit< tt)) }

enabled_rate : ¬ IsWired (with_blocks (block_of EnableTest 1 1 None ∷ rate (Some 0) ∷ []))
enabled_rate is = let e : ◌≡◌ {A = Option ℕ} (Some 0) None = is.enables 1 (rate (Some 0)) (lit< tt) in cc

-- numbers that aren't 1 to their count
skipped_number : ¬ IsWired (with_blocks (inport 1 ∷ inport 3 ∷ []))
skipped_number is = absurd (omega (arith, (is.inports.within 1 3 (lit< tt)).1))

same_number : ¬ IsWired (with_blocks (inport 1 ∷ inport 1 ∷ []))
same_number is = absurd (is.inports.distinct 0 1 1 (lit< tt) (lit< tt) refl)

skipped_output : ¬ IsWired (with_blocks (outport 2 ∷ []))
skipped_output is = absurd (omega (arith, (is.outports.within 0 2 (lit< tt)).1))

-- a block that no text can be
not_readable : ¬ IsWired (with_blocks (record gain { inputs = 2; enable = None } ∷ []))
not_readable is = let e : ◌≡◌ {A = ℕ} 2 1 = (is.blocks 0 (record gain { inputs = 2; enable = None }) (lit< tt)).ports.0 in absurd (omega (arith, e))
