-- Which multiplications a netlist has (own).
use Rattle.std.specs.Prelude.{ℕ, List, [], ◌∷◌, ◌++◌, suc, zero, flat_map, length, get_or, slice_index_or, false}
use Rattle.hw_net.specs.declared.netlist.Net.{Net}
use Rattle.hw_net.specs.declared.netlist.NetOp.{NetOp}
use Rattle.hw_net.specs.declared.netlist.NetOp.TheVariants.{Input, Const, Resize, ShiftUp}
use Rattle.hw_net.specs.declared.netlist.NetOp.TheVariants.{ShiftDown, Add, Subtract, Negate}
use Rattle.hw_net.specs.declared.netlist.NetOp.TheVariants.{Multiply, And, Or, Xor, Not, Less}
use Rattle.hw_net.specs.declared.netlist.NetOp.TheVariants.{Equal, Choose, Slice}
use Rattle.hw_net.specs.declared.netlist.NetKind.{NetKind}
use Rattle.hw_net.specs.declared.netlist.NetKind.TheVariants.{Comb, Reg, EnReg, Acc, Bridge}
use Rattle.hw_net.specs.declared.netlist.NetKind.TheVariants.{Unit, Counter}
use Rattle.hw_net.specs.Circuit.{Circuit}

-- 0 and so on, so many
abbrev pub places : ℕ → List ℕ
places zero = []
places (suc n) = places n ++ n ∷ []

abbrev pub no_net : Net
no_net = record { signed = false; width = 0; kind = Comb (Input 0) [] }

-- a net by its number
abbrev pub net_at : List Net → ℕ → Net
net_at nets k = slice_index_or nets k no_net

-- a product of two nets, at the width of the net that has it
pub record Product : Type 0 where
  pub left : ℕ
  pub right : ℕ
  pub width : ℕ

-- the product of a Unit net
abbrev pub unit_product : ℕ → NetKind → List Product
unit_product width (Comb op args) = []
unit_product width (Reg frame slot first from) = []
unit_product width (EnReg frame enable reset first from) = []
unit_product width (Acc frame enable from) = []
unit_product width (Bridge frame live from) = []
unit_product width (Unit left right) = record { left = left; right = right; width = width } ∷ []
unit_product width (Counter frame) = []

-- the product of a Multiply
abbrev pub op_product : ℕ → List ℕ → NetOp → List Product
op_product width args (Input number) = []
op_product width args (Const value) = []
op_product width args Resize = []
op_product width args (ShiftUp places) = []
op_product width args (ShiftDown places) = []
op_product width args Add = []
op_product width args Subtract = []
op_product width args Negate = []
op_product width args Multiply =
    record { left = get_or args 0 0; right = get_or args 1 0; width = width } ∷ []
op_product width args And = []
op_product width args Or = []
op_product width args Xor = []
op_product width args Not = []
op_product width args Less = []
op_product width args Equal = []
op_product width args Choose = []
op_product width args (Slice high low) = []

abbrev pub comb_product : ℕ → NetKind → List Product
comb_product width (Comb op args) = op_product width args op
comb_product width (Reg frame slot first from) = []
comb_product width (EnReg frame enable reset first from) = []
comb_product width (Acc frame enable from) = []
comb_product width (Bridge frame live from) = []
comb_product width (Unit left right) = []
comb_product width (Counter frame) = []

-- the products of the Unit nets in order, and then those of the Multiply nets
abbrev pub products_of : Circuit → List Product
products_of netlist =
    flat_map (λ k. unit_product (net_at netlist.nets k).width (net_at netlist.nets k).kind)
    (places (length netlist.nets))
    ++ flat_map (λ k. comb_product (net_at netlist.nets k).width (net_at netlist.nets k).kind)
    (places (length netlist.nets))
