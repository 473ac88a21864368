-- The registers of a plan behind a block (own; HDL Coder, output pipelines).
use Rattle.std.specs.Prelude.{◌≡◌, ◌≢◌, ℕ, suc, ◌<◌, List, ◌++◌, Contains, ℤ, Some, slice_get, codes}
use Rattle.std.specs.Fmt.{decimal}
use Rattle.fx_type.specs.FxType.{is_signed, width_of}
use Rattle.dg_model.specs.declared.diagram.Diagram.{Diagram}
use Rattle.dg_model.specs.declared.diagram.Block.{Block}
use Rattle.dg_model.specs.declared.resolved.Resolved.{Resolved}
use Rattle.dg_model.specs.Attributes.{attributes_of}
use Rattle.dg_model.specs.Solves.{IsShown}
use Rattle.dg_model.specs.PlanOf.{stages_at}
use Rattle.hw_net.specs.declared.netlist.Frame.{Frame}
use Rattle.hw_net.specs.declared.netlist.Net.{Net}
use Rattle.hw_net.specs.declared.netlist.NetOp.{NetOp}
use Rattle.hw_net.specs.declared.netlist.NetPort.{NetPort}
use Rattle.hw_net.specs.declared.netlist.NetKind.TheVariants.{Comb, Reg}
use Rattle.hw_net.specs.Circuit.{Circuit}
use Rattle.hw_net.specs.Netlist.{HasWord, reads}
use Rattle.hw_build.specs.Places.{Places}

-- the name of a register by its number, from 1
abbrev pub stage_name : ℕ → ℕ → ℕ → List ℕ
stage_name block element stage =
    codes "fx_p"
    ++ (decimal block ++ (codes "_" ++ (decimal element ++ (codes "_" ++ decimal stage))))

-- the second net is a Reg of the first and has this name; nothing else reads the first
pub record IsBehind (netlist : Circuit) (from number : ℕ) (name : List ℕ) : Type 0 where
  pub net : Net
  pub frame : Frame
  pub slot : ℕ
  pub first : ℤ
  pub is : slice_get netlist.nets number ≡ Some net
  pub takes : net.kind ≡ Reg frame slot first from
  pub named : Contains netlist.labels (record { net = number; name = name })
  pub alone : (k read : ℕ) (other : Net) → slice_get netlist.nets k ≡ Some other
      → Contains (reads other.kind) read → read ≡ from → k ≡ number
  pub inner : (port : NetPort) → Contains netlist.outputs port → port.net ≢ from

-- the net is an operation
pub record IsWire (netlist : Circuit) (number : ℕ) : Type 0 where
  pub net : Net
  pub op : NetOp
  pub args : List ℕ
  pub is : slice_get netlist.nets number ≡ Some net
  pub combines : net.kind ≡ Comb op args

-- behind a net that is an operation stand the registers of a plan, one behind another, each of the
-- word of its block's type
pub record ArePipelined (diagram : Diagram) (plan : Resolved) (netlist : Circuit)
    (places : Places) : Type 0 where
  pub registers : (block : ℕ) (b : Block) (element stage : ℕ)
      → IsShown diagram (attributes_of diagram) block b 1 element → stage < stages_at plan block
      → IsBehind netlist (places.stage block 1 element stage)
      (places.stage block 1 element (suc stage)) (stage_name block element (suc stage))
  pub wires : (block : ℕ) (b : Block) (element : ℕ)
      → IsShown diagram (attributes_of diagram) block b 1 element → 0 < stages_at plan block
      → IsWire netlist (places.stage block 1 element 0)
  pub words : (block : ℕ) (b : Block) (element stage : ℕ)
      → IsShown diagram (attributes_of diagram) block b 1 element → stage < stages_at plan block
      → HasWord netlist.nets (places.stage block 1 element (suc stage))
      (width_of ((attributes_of diagram).type_at block 1))
      (is_signed ((attributes_of diagram).type_at block 1))
