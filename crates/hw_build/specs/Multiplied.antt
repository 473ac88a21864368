-- The multiplications that are shared by none (own; HDL Coder, resource sharing).
use Rattle.std.specs.Prelude.{◌≡◌, ℕ, ◌<◌, true, false, List, ◌++◌, length, Contains, Some, slice_get, codes}
use Rattle.std.specs.Fmt.{decimal}
use Rattle.dg_model.specs.declared.diagram.Diagram.{Diagram}
use Rattle.dg_model.specs.declared.resolved.Resolved.{Resolved}
use Rattle.dg_model.specs.Attributes.{attributes_of}
use Rattle.hw_latency.specs.Shared.{multiplies, is_shared}
use Rattle.hw_net.specs.declared.netlist.Net.{Net}
use Rattle.hw_net.specs.declared.netlist.NetOp.TheVariants.{Multiply}
use Rattle.hw_net.specs.declared.netlist.NetKind.TheVariants.{Comb}
use Rattle.hw_net.specs.Circuit.{Circuit}

-- the name of an element's multiplication
abbrev pub multiplication_name : ℕ → ℕ → List ℕ
multiplication_name block element =
    codes "fx_m" ++ (decimal block ++ (codes "_" ++ decimal element))

-- a net is a multiplication and has this name
pub record IsMultiplied (netlist : Circuit) (name : List ℕ) : Type 0 where
  pub number : ℕ
  pub net : Net
  pub args : List ℕ
  pub is : slice_get netlist.nets number ≡ Some net
  pub multiplies : net.kind ≡ Comb Multiply args
  pub named : Contains netlist.labels (record { net = number; name = name })

-- each element of a Product or Gain that isn't shared has its multiplication by this name
pub record AreMultiplied (diagram : Diagram) (plan : Resolved) (netlist : Circuit) : Type 0 where
  pub each : (block element : ℕ) → block < length diagram.blocks → multiplies diagram block ≡ true
      → is_shared diagram (attributes_of diagram) plan block ≡ false
      → element < (attributes_of diagram).width_at block 1
      → IsMultiplied netlist (multiplication_name block element)
