-- A netlist whose blocks all have their elements is done once it has its ports.
use Rattle.std.proofs.Common.{◌≡◌, ℕ, inl, inr, List, length, Some, ap, refl, arith}
use Rattle.std.specs.Prelude.{slice_get}
use Rattle.std.proofs.lemmas.Option.{none-some, same_Some}
use Rattle.dg_model.specs.declared.diagram.Diagram.{Diagram}
use Rattle.dg_model.specs.declared.diagram.Block.{Block}
use Rattle.dg_model.specs.declared.resolved.Resolved.{Resolved}
use Rattle.dg_model.specs.Attributes.{attributes_of}
use Rattle.dg_model.specs.declared.row.Role.{Role}
use Rattle.dg_model.specs.Library.{row_of}
use Rattle.dg_model.specs.Laws.{OutputsAreListed}
use Rattle.dg_model.specs.RootElements.{RootElement, root_inputs, root_outputs}
use Rattle.dg_model.specs.Solves.{IsShown, ports_of_role, width_of_role}
use Rattle.dg_model.specs.Wired.{IsWired, root_output}
use Rattle.dg_model.specs.Wires.{width_into}
use Rattle.hw_net.specs.declared.netlist.NetPort.{NetPort}
use Rattle.hw_net.specs.Circuit.{Circuit}
use Rattle.hw_sched.specs.Slots.{Timing as Times}
use Rattle.hw_build.specs.Places.{Places}
use Rattle.hw_build.specs.Times.{timing_by}
use Rattle.hw_build.specs.Multiplied.{AreMultiplied}
use Rattle.hw_build.specs.inner.Growth.{GoesOn}
use Rattle.hw_build.specs.inner.Soundness.{AreSound}
use Rattle.hw_build.specs.inner.UnderWay.{IsUnderWay}
use Rattle.hw_build.specs.inner.Units.{HaveUnits}
use Rattle.hw_build.proofs.Growth.{later_on}
use Rattle.hw_build.proofs.Steps.{facts_later}

-- the netlist with these ports
abbrev pub with_ports : Circuit → List NetPort → List NetPort → Circuit
with_ports now inputs outputs = record now { inputs = inputs; outputs = outputs }

module _ (now : Circuit) (inputs outputs : List NetPort) where
  abbrev ported : Circuit
  ported = with_ports now inputs outputs

  goes_ported : (closed hubs : ℕ) → GoesOn closed hubs now ported
  goes_ported closed hubs = record { cycles = refl; nets = λ k low. inl refl }

  sound_ported : (closed hubs count : ℕ) → AreSound closed hubs now count → AreSound closed hubs ported count
  sound_ported closed hubs count sound = record {
    each = λ k net at. elim (sound.each k net at) [
      | inl waits ↦ inl waits
      | inr is ↦ inr (record { word = is.word; kind = is.kind; there = is.there; counted = is.counted })
    ];
  }

  -- ports change no net
  pub way_ported : (diagram : Diagram) (plan : Resolved) (times : Times) (places : Places) (place_of : ℕ → ℕ)
      (closed hubs : ℕ) (level : ℕ → ℕ) (count : ℕ)
      → IsUnderWay diagram (timing_by diagram plan times) places place_of closed hubs now level count
      → IsUnderWay diagram (timing_by diagram plan times) places place_of closed hubs ported level count
  way_ported diagram plan times places place_of closed hubs level count way = record {
    facts = facts_later diagram (timing_by diagram plan times) places closed closed hubs now ported count (omega arith) (goes_ported closed hubs) way.facts;
    hubs_are = record { there = way.hubs_are.there; below = way.hubs_are.below; words = way.hubs_are.words; levels = way.hubs_are.levels };
    operands = record { there = way.operands.there; levels = way.operands.levels; enables = way.operands.enables; enable_levels = way.operands.enable_levels };
    sound = sound_ported closed hubs (length (root_inputs diagram (attributes_of diagram))) way.sound;
    levelled = way.levelled;
    differ = way.differ;
  }

  pub units_ported : (diagram : Diagram) (plan : Resolved) (times : Times) (places : Places) (closed hubs : ℕ)
      → HaveUnits diagram plan times places closed hubs now → HaveUnits diagram plan times places closed hubs ported
  units_ported diagram plan times places closed hubs have = record {
    each = λ number o b is at.
        let unit = have.each number o b is at in
        record {
          factors = unit.factors;
          at = unit.at;
          has = λ period moves. later_on closed closed hubs now ported _ (omega arith) (goes_ported closed hubs) (unit.has period moves);
        };
  }

  pub multiplied_ported : (diagram : Diagram) (plan : Resolved) → AreMultiplied diagram plan now → AreMultiplied diagram plan ported
  multiplied_ported diagram plan are = record {
    each = λ block element there multiplies alone below.
        let is = are.each block element there multiplies alone below in
        record { number = is.number; net = is.net; args = is.args; is = is.is; multiplies = is.multiplies; named = is.named };
  }

-- ---- the elements of root outputs

role_is_output : (role : Role) (number : ℕ) → root_output role ≡ Some number → role ≡ Role.RootOutput number
role_is_output (Role.RootInput own) number is = absurd (none-some number is)
role_is_output (Role.RootOutput own) number is = ap Role.RootOutput (same_Some own number is)
role_is_output (Role.InnerPort width) number is = absurd (none-some number is)
role_is_output Role.EnabledOutput number is = absurd (none-some number is)
role_is_output Role.Control number is = absurd (none-some number is)
role_is_output Role.Plain number is = absurd (none-some number is)

-- each is shown, in the type of its block
pub record IsOutputShown (diagram : Diagram) (e : RootElement) : Type 0 where
  pub b : Block
  pub shown : IsShown diagram (attributes_of diagram) e.block b 1 e.element
  pub type_is : e.type ≡ (attributes_of diagram).type_at e.block 1
  pub role : (row_of b.kind).place.role ≡ Role.RootOutput e.number

pub output_shown : (diagram : Diagram) → IsWired diagram → OutputsAreListed → (k : ℕ) (e : RootElement) → slice_get (root_outputs diagram (attributes_of diagram)) k ≡ Some e → IsOutputShown diagram e
output_shown diagram wired listed k e at =
    let of = (listed diagram (attributes_of diagram) wired).elements_of k e at in
    let role = role_is_output (row_of of.0.kind).place.role e.number of.2 in
    let ports : ports_of_role (row_of of.0.kind).place.role of.0.outputs ≡ 1 = ap (λ (r : Role). ports_of_role r of.0.outputs) role in
    let wide : width_of_role diagram (attributes_of diagram) (row_of of.0.kind).place.role e.block 1
    ≡ width_into diagram (attributes_of diagram) e.block 1 =
    ap (λ (r : Role). width_of_role diagram (attributes_of diagram) r e.block 1) role in
    let low = of.3 in
    record {
      b = of.0;
      shown = record { block_is = of.1; port_from = omega arith; port_to = omega (arith, ports); element_below = omega (arith, low, wide) };
      type_is = ap (λ (x : RootElement). x.type) of.4;
      role = role;
    }
