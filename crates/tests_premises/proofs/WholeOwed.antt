-- What modules of the whole model's diagram owe by three plans follows from what is owed of them.
use Rattle.std.proofs.Common.{◌≡◌, ℕ, ◌<◌, ◌≤◌, false, length, refl, sym, subst, arith}
use Rattle.std.proofs.Math.Dec.{lit<, lit≤}
use Rattle.dg_model.specs.declared.resolved.Resolved.{Resolved}
use Rattle.dg_model.specs.Attributes.{attributes_of}
use Rattle.dg_model.specs.Signals.{Attributes}
use Rattle.hw_build.specs.Multiplied.{multiplication_name}
use Rattle.hw_latency.specs.Shared.{is_shared}
use Rattle.hw_module.specs.Design.{IsModuleOf}
use Rattle.hw_module.specs.Pipelined.{IsPipeline}
use Rattle.hw_sched.specs.Chained.{chained}
use Rattle.hw_sched.specs.Slots.{Timing}
use Rattle.vl_ast.specs.declared.modules.Module.{Module}
use Rattle.vl_ast.specs.Items.{IsWire, registers}
use Rattle.vl_emit.specs.Items.{IsMultiplied}
use Rattle.tests_premises.specs.Owed.{IsHeldOnce, IsHeldTwice, OwesOnce, OwesPlain, OwesTwice, WholeModulesOwe, plain, plain_timing, twice, twice_timing}
use Rattle.tests_premises.specs.Whole.{diagram, resolved, timing}
use Rattle.tests_premises.proofs.WholeRules.{attributes, attributes_known, gain_block, gain_period, gain_shown}

-- ---- registers
few_by : (plan : Resolved) (times : Timing) (bound : ℕ) (m : Module) → IsModuleOf m diagram plan times → chained diagram attributes plan times ≡ bound → length (registers m) ≤ bound
few_by plan times bound m owed is =
    let few = subst (λ (a : Attributes). length (registers m) ≤ chained diagram a plan times) attributes_known owed.few in
    omega (arith, few, is)

held_once : (m : Module) (element stages : ℕ) → IsPipeline m 1 element stages → IsHeldOnce m element
held_once m element stages line = record { wire = line.wire; is_wire = line.is_wire; first = line.first; alone = line.wire_alone }

held_twice : (m : Module) (element : ℕ) → IsPipeline m 1 element 2 → IsHeldTwice m element
held_twice m element line = record { once = held_once m element 2 line; second = line.next 1 (lit≤ tt) (lit< tt); between = line.alone 1 (lit≤ tt) (lit< tt) }

owes_once : (m : Module) → IsModuleOf m diagram resolved timing → OwesOnce m
owes_once m owed = record {
  few = few_by resolved timing 6 m owed refl;
  held = λ element below. held_once m element 1 (owed.pipelined.there 1 element 1 gain_block (gain_shown element below) gain_period (lit≤ tt));
  enabled = owed.carries.enabled;
  stalls = owed.carries.thinned;
}

owes_twice : (m : Module) → IsModuleOf m diagram twice twice_timing → OwesTwice m
owes_twice m owed = record {
  few = few_by twice twice_timing 8 m owed refl;
  held = λ element below. held_twice m element (owed.pipelined.there 1 element 1 gain_block (gain_shown element below) gain_period (lit≤ tt));
}

-- ---- products
unshared : is_shared diagram (attributes_of diagram) plain 1 ≡ false
unshared = subst (λ (a : Attributes). is_shared diagram a plain 1 ≡ false) (sym attributes_known) refl

inside : (element : ℕ) → element < 2 → element < (attributes_of diagram).width_at 1 1
inside element below = subst (λ (a : Attributes). element < a.width_at 1 1) (sym attributes_known) below

named : (m : Module) → IsModuleOf m diagram plain plain_timing → (element : ℕ) → element < 2 → IsWire m (multiplication_name 1 element) × IsMultiplied m (multiplication_name 1 element)
named m owed element below = owed.named 1 element (lit< tt) refl unshared (inside element below)

owes_plain : (m : Module) → IsModuleOf m diagram plain plain_timing → OwesPlain m
owes_plain m owed = record {
  wires = λ element below. (named m owed element below).0;
  products = λ element below. (named m owed element below).1;
  alone = λ element below. owed.alone 1 element (lit< tt) refl unshared (inside element below);
}

pub whole_modules_owe : WholeModulesOwe
whole_modules_owe = record { once = owes_once; two = owes_twice; unshared = owes_plain }
