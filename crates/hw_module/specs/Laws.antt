-- Why the module of a built netlist is all that is owed (own).
use Rattle.dg_model.specs.declared.diagram.Diagram.{Diagram}
use Rattle.dg_model.specs.declared.resolved.Resolved.{Resolved}
use Rattle.hw_build.specs.Built.{IsBuilt}
use Rattle.hw_net.specs.Circuit.{Circuit}
use Rattle.hw_net.specs.Emittable.{IsEmittable}
use Rattle.hw_net.specs.Netlist.{IsNetlist}
use Rattle.hw_refine.specs.Refines.{Refines}
use Rattle.hw_sched.specs.Scheduled.{IsScheduled}
use Rattle.hw_sched.specs.Slots.{Timing}
use Rattle.vl_ast.specs.declared.modules.Module.{Module}
use Rattle.hw_module.specs.Design.{IsModuleOf}
use Rattle.hw_module.specs.inner.Emission.{IsEmissionOf}

abbrev pub BuiltModulesAreOf : Type 0
BuiltModulesAreOf =
    (netlist : Circuit) (diagram : Diagram) (plan : Resolved) (timing : Timing) (m : Module)
    → IsScheduled diagram plan timing → IsBuilt diagram plan timing netlist → IsEmissionOf netlist m
    → IsModuleOf m diagram plan timing

-- the netlist can be run and emitted, and stands in the place of one that is built
pub record IsRefinedOf (diagram : Diagram) (plan : Resolved) (timing : Timing)
    (netlist : Circuit) : Type 0 where
  pub runs : IsNetlist netlist
  pub emittable : IsEmittable netlist
  pub built : Circuit
  pub is_built : IsBuilt diagram plan timing built
  pub refines : Refines built netlist

abbrev pub RefinedModulesAreOf : Type 0
RefinedModulesAreOf =
    (netlist : Circuit) (diagram : Diagram) (plan : Resolved) (timing : Timing) (m : Module)
    → IsScheduled diagram plan timing → IsRefinedOf diagram plan timing netlist
    → IsEmissionOf netlist m → IsModuleOf m diagram plan timing
