-- A net with a label has it as name in the module, which declares it with the net's word and drives
-- it (own).
use Rattle.std.specs.Prelude.{◌≡◌, Bool, true, false, Contains}
use Rattle.vl_ast.specs.declared.modules.Module.{Module}
use Rattle.vl_ast.specs.Nets.{Drives, mentions, nets_of}
use Rattle.hw_net.specs.declared.netlist.NetLabel.{NetLabel}
use Rattle.hw_net.specs.declared.netlist.NetKind.{NetKind}
use Rattle.hw_net.specs.declared.netlist.NetKind.TheVariants.{Comb, Reg, EnReg, Acc, Bridge}
use Rattle.hw_net.specs.declared.netlist.NetKind.TheVariants.{Unit, Counter}
use Rattle.hw_net.specs.Circuit.{Circuit}
use Rattle.vl_emit.specs.Names.{name_of}
use Rattle.hw_net.specs.Products.{net_at}

-- whether a clocked item drives the name of a net of this kind, and else an assignment
abbrev pub is_clocked : NetKind → Bool
is_clocked (Comb op args) = false
is_clocked (Reg frame slot first from) = true
is_clocked (EnReg frame enable reset first from) = true
is_clocked (Acc frame enable from) = true
is_clocked (Bridge frame live from) = false
is_clocked (Unit left right) = false
is_clocked (Counter frame) = true

-- labels are names of the module, which it declares and drives
pub record LabelsAreNames (netlist : Circuit) (m : Module) : Type 0 where
  pub are : (label : NetLabel) → Contains netlist.labels label
      → name_of netlist label.net ≡ label.name
  pub declared : (label : NetLabel) → Contains netlist.labels label
      → nets_of m label.name
      ≡ record {
        width = (net_at netlist.nets label.net).width;
        signed = (net_at netlist.nets label.net).signed;
      }
  pub driven : (label : NetLabel) → Contains netlist.labels label
      → Contains (mentions m) (Drives (is_clocked (net_at netlist.nets label.net).kind) label.name)
