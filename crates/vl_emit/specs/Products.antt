-- Which multiplications a netlist's module has, and where they stand (own).
use Rattle.std.specs.Prelude.{◌≡◌, ℕ, ◌<◌, Bool, List, ◌++◌, map, flat_map, length}
use Rattle.std.specs.List.{AllZip}
use Rattle.vl_ast.specs.declared.expressions.BinOp.TheVariants as binary
use Rattle.vl_ast.specs.declared.expressions.Expr.{Expr}
use Rattle.vl_ast.specs.declared.expressions.Expr.TheVariants.{Binary}
use Rattle.vl_ast.specs.declared.modules.ModItem.{ModItem}
use Rattle.vl_ast.specs.declared.modules.ModItem.TheVariants.{Assign}
use Rattle.vl_ast.specs.declared.modules.Module.{Module}
use Rattle.vl_ast.specs.Context.{Net}
use Rattle.vl_ast.specs.Nets.{nets_of}
use Rattle.vl_ast.specs.Value.{value_in}
use Rattle.vl_ast.specs.Value.{bits_of}
use Rattle.vl_ast.specs.Multiplications.{Multiplication, item_multiplications, multiplications}
use Rattle.vl_ast.specs.Runs.{Runs}
use Rattle.hw_net.specs.Circuit.{Circuit}
use Rattle.hw_net.specs.Products.{Product, unit_product, comb_product, products_of, net_at, places}
use Rattle.vl_emit.specs.Names.{Wire, name_of, net_wire, shown}

-- in every row of every run the expression has in its context the bits of the number that the wire
-- shows
pub record HasFactor (m : Module) (width : ℕ) (signed : Bool) (e : Expr)
    (wire : Wire) : Type 0 where
  pub is : (count : ℕ) (start : List ℕ → ℕ) (inputs rows : ℕ → List ℕ → ℕ)
      → Runs m count start inputs rows
      → (k : ℕ) → k < count → value_in (nets_of m) (rows k) width signed e
      ≡ bits_of width (shown (rows k) wire)

pub record IsProduct (netlist : Circuit) (m : Module) (product : Product)
    (multiplication : Multiplication) : Type 0 where
  pub width : multiplication.width ≡ product.width
  pub left : HasFactor m multiplication.width multiplication.signed multiplication.left
      (net_wire netlist product.left)
  pub right : HasFactor m multiplication.width multiplication.signed multiplication.right
      (net_wire netlist product.right)

-- a product with the net that has it
pub record NetProduct : Type 0 where
  pub net : ℕ
  pub product : Product

-- products of one net, each with it
abbrev pub products_of_net : ℕ → List Product → List NetProduct
products_of_net net products = map (λ product. record { net = net; product = product }) products

-- the products of a netlist in their order, each with its net
abbrev pub net_products : Circuit → List NetProduct
net_products netlist =
    flat_map (λ k. products_of_net k
    (unit_product (net_at netlist.nets k).width (net_at netlist.nets k).kind))
    (places (length netlist.nets))
    ++ flat_map (λ k. products_of_net k
    (comb_product (net_at netlist.nets k).width (net_at netlist.nets k).kind))
    (places (length netlist.nets))

-- a multiplication with the item in which it stands
pub record ItemMultiplication : Type 0 where
  pub item : ModItem
  pub multiplication : Multiplication

-- the multiplications of an item, each with it
abbrev pub multiplications_of_item : (List ℕ → Net) → ModItem → List ItemMultiplication
multiplications_of_item nets i =
    map (λ multiplication. record { item = i; multiplication = multiplication })
    (item_multiplications nets i)

-- the multiplications of a module in the order of the text, each with its item
abbrev pub multiplications_with_items : Module → List ItemMultiplication
multiplications_with_items m = flat_map (multiplications_of_item (nets_of m)) m.items

-- the item assigns the net's name, and its value is the multiplication
pub record IsAssigned (netlist : Circuit) (of : NetProduct) (it : ItemMultiplication) : Type 0 where
  pub is : it.item
      ≡ Assign (name_of netlist of.net)
      (Binary binary.Multiply it.multiplication.left it.multiplication.right)

-- the multiplications of the module are the products of the netlist, each by its net's name
pub record ProductsAre (netlist : Circuit) (m : Module) : Type 0 where
  -- one by one, with the widths and the factors
  pub each : AllZip (IsProduct netlist m) (products_of netlist) (multiplications m)
  -- each is the value that the name of its net is assigned
  pub assigned : AllZip (IsAssigned netlist) (net_products netlist) (multiplications_with_items m)
