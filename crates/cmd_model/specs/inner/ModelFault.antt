-- A fault of a diagram, as one of its model.
use Rattle.std.specs.Prelude.{List}
use Rattle.dg_model.specs.declared.diagram.Block.{Block}
use Rattle.dg_model.specs.declared.fault.CheckFault.{CheckFault}
use Rattle.dg_model.specs.declared.fault.CheckFault.TheVariants as check
use Rattle.cmd_model.specs.declared.accepting.ModelFault.{ModelFault}
use Rattle.cmd_model.specs.declared.accepting.ModelFault.TheVariants as model

abbrev pub fault_of : List Block → CheckFault → ModelFault
fault_of blocks (check.Broken fault) = model.Broken fault blocks
fault_of blocks check.OutOfMemory = model.OutOfMemory
