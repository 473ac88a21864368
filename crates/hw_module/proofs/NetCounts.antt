-- The registers and the products of a netlist are counted net by net.
use Rattle.std.proofs.Common.{◌≡◌, ℕ, zero, suc, ◌+◌, if◌then◌else◌, List, [], ◌∷◌, ◌++◌, map, flat_map, length, Some, slice_get, refl, ap, sym, ◌∙◌, arith, length-append}
use Rattle.std.proofs.lemmas.List.{map-append}
use Rattle.hw_net.specs.declared.netlist.Net.{Net}
use Rattle.hw_net.specs.declared.netlist.NetOp.{NetOp}
use Rattle.hw_net.specs.declared.netlist.NetOp.TheVariants.{Input, Const, Resize, ShiftUp, ShiftDown, Add, Subtract, Negate, Multiply, And, Or, Xor, Not, Less, Equal, Choose, Slice}
use Rattle.hw_net.specs.declared.netlist.NetKind.{NetKind}
use Rattle.hw_net.specs.declared.netlist.NetKind.TheVariants.{Comb, Reg, EnReg, Acc, Bridge, Unit, Counter}
use Rattle.hw_net.specs.Circuit.{Circuit}
use Rattle.hw_net.specs.Frames.{is_register, register_count}
use Rattle.hw_build.specs.Built.{counts, counter_count}
use Rattle.hw_build.specs.Serving.{Factors, unit_factors, op_factors, own_factors, multipliers, others}
use Rattle.hw_net.specs.Products.{places, net_at}
use Rattle.hw_net.specs.Products.{Product, unit_product, op_product, comb_product, products_of}
use Rattle.vl_emit.specs.Registers.{register_name}
use Rattle.hw_module.proofs.Lists.{map-get}

-- the places of one net more are 0 and those of the others, each one further
places-first : (n : ℕ) → places (suc n) ≡ 0 ∷ map suc (places n)
places-first zero = refl
places-first (suc n) = (let e = places-first n in ap (λ (l : List ℕ). l ++ suc n ∷ []) e ∙ ap (λ (l : List ℕ). 0 ∷ l) (sym (map-append suc (places n) (n ∷ []))))

module _ {X : Type 0} where
  further : (g : ℕ → List X) (l : List ℕ) → flat_map g (map suc l) ≡ flat_map (λ k. g (suc k)) l
  further g [] = refl
  further g (k ∷ l) = ap (λ (rest : List X). g (suc k) ++ rest) (further g l)

  first-out : (g : ℕ → List X) (n : ℕ) → flat_map g (places (suc n)) ≡ g 0 ++ flat_map (λ k. g (suc k)) (places n)
  first-out g n = ap (flat_map g) (places-first n) ∙ ap (λ (rest : List X). g 0 ++ rest) (further g (places n))

  -- what each net gives, by number or as it stands in the list
  by-place : (f : Net → List X) (nets : List Net) → flat_map (λ k. f (net_at nets k)) (places (length nets)) ≡ flat_map f nets
  by-place f [] = refl
  by-place f (net ∷ nets) = first-out (λ k. f (net_at (net ∷ nets) k)) (length nets) ∙ ap (λ (rest : List X). f net ++ rest) (by-place f nets)

  -- as many as there are registers and Counters, where each of these has one
  pub held-count : (g : ℕ → Net → List X) → ((k : ℕ) (net : Net) → length (g k net) ≡ (if is_register net.kind then 1 else 0) + counts net.kind) → (nets : List Net)
      → length (flat_map (λ k. g k (net_at nets k)) (places (length nets))) ≡ register_count nets + counter_count nets
  held-count g one [] = refl
  held-count g one (net ∷ nets) =
      let e = ap length (first-out (λ k. g k (net_at (net ∷ nets) k)) (length nets)) in
      let size = length-append (g 0 net) (flat_map (λ k. g (suc k) (net_at nets k)) (places (length nets))) in
      let own = one 0 net in
      let rest = held-count (λ k other. g (suc k) other) (λ k other. one (suc k) other) nets in
      e ∙ size ∙ (λ i. own i + rest i) ∙ omega arith

one-name : (netlist : Circuit) (k : ℕ) (kind : NetKind) → length (register_name netlist k kind) ≡ (if is_register kind then 1 else 0) + counts kind
one-name netlist k (Comb op args) = refl
one-name netlist k (Reg frame slot first from) = refl
one-name netlist k (EnReg frame enable reset first from) = refl
one-name netlist k (Acc frame enable from) = refl
one-name netlist k (Bridge frame live from) = refl
one-name netlist k (Unit left right) = refl
one-name netlist k (Counter frame) = refl

pub names-counted : (netlist : Circuit)
    → length (flat_map (λ k. register_name netlist k (net_at netlist.nets k).kind) (places (length netlist.nets)))
    ≡ register_count netlist.nets + counter_count netlist.nets
names-counted netlist = held-count (λ k net. register_name netlist k net.kind) (λ k net. one-name netlist k net.kind) netlist.nets

-- ---- products

abbrev pub factors_of : Product → Factors
factors_of product = record { left = product.left; right = product.right }

unit-same : (width : ℕ) (kind : NetKind) → map factors_of (unit_product width kind) ≡ unit_factors kind
unit-same width (Comb op args) = refl
unit-same width (Reg frame slot first from) = refl
unit-same width (EnReg frame enable reset first from) = refl
unit-same width (Acc frame enable from) = refl
unit-same width (Bridge frame live from) = refl
unit-same width (Unit left right) = refl
unit-same width (Counter frame) = refl

op-same : (width : ℕ) (args : List ℕ) (op : NetOp) → map factors_of (op_product width args op) ≡ op_factors args op
op-same width args (Input number) = refl
op-same width args (Const value) = refl
op-same width args Resize = refl
op-same width args (ShiftUp places) = refl
op-same width args (ShiftDown places) = refl
op-same width args Add = refl
op-same width args Subtract = refl
op-same width args Negate = refl
op-same width args Multiply = refl
op-same width args And = refl
op-same width args Or = refl
op-same width args Xor = refl
op-same width args Not = refl
op-same width args Less = refl
op-same width args Equal = refl
op-same width args Choose = refl
op-same width args (Slice high low) = refl

own-same : (width : ℕ) (kind : NetKind) → map factors_of (comb_product width kind) ≡ own_factors kind
own-same width (Comb op args) = op-same width args op
own-same width (Reg frame slot first from) = refl
own-same width (EnReg frame enable reset first from) = refl
own-same width (Acc frame enable from) = refl
own-same width (Bridge frame live from) = refl
own-same width (Unit left right) = refl
own-same width (Counter frame) = refl

all-same : (f : Net → List Product) (g : Net → List Factors) → ((net : Net) → map factors_of (f net) ≡ g net) → (nets : List Net) → map factors_of (flat_map f nets) ≡ flat_map g nets
all-same f g each [] = refl
all-same f g each (net ∷ nets) =
    let own = each net in
    let rest = all-same f g each nets in
    map-append factors_of (f net) (flat_map f nets) ∙ (λ i. own i ++ rest i)

module _ (netlist : Circuit) where
  abbrev units : List Product
  units = flat_map (λ (net : Net). unit_product net.width net.kind) netlist.nets

  abbrev owns : List Product
  owns = flat_map (λ (net : Net). comb_product net.width net.kind) netlist.nets

  products-are : products_of netlist ≡ units ++ owns
  products-are =
      let a = by-place (λ (net : Net). unit_product net.width net.kind) netlist.nets in
      let b = by-place (λ (net : Net). comb_product net.width net.kind) netlist.nets in
      λ i. a i ++ b i

  units-same : map factors_of units ≡ multipliers netlist
  units-same = all-same (λ (net : Net). unit_product net.width net.kind) (λ (net : Net). unit_factors net.kind) (λ net. unit-same net.width net.kind) netlist.nets

  owns-same : map factors_of owns ≡ others netlist
  owns-same = all-same (λ (net : Net). comb_product net.width net.kind) (λ (net : Net). own_factors net.kind) (λ net. own-same net.width net.kind) netlist.nets

  -- the products are the factors of the multipliers, and then of the other multiplications
  pub product-at : (k : ℕ) (factors : Factors) → slice_get (multipliers netlist) k ≡ Some factors
      → (product : Product) × (slice_get (products_of netlist) k ≡ Some product) × (factors_of product ≡ factors)
  product-at k factors at =
      let x = map-get factors_of units k factors (ap (λ (l : List Factors). slice_get l k) units-same ∙ at) in
      (x.0, ap (λ (l : List Product). slice_get l k) products-are ∙ in-first units owns k x.0 x.1, x.2)
    where
      in-first : (xs ys : List Product) (j : ℕ) (x : Product) → slice_get xs j ≡ Some x → slice_get (xs ++ ys) j ≡ Some x
      in-first [] ys j x e = absurd (cc e)
      in-first (y ∷ xs) ys zero x e = e
      in-first (y ∷ xs) ys (suc j) x e = in-first xs ys j x e

  pub products-counted : length (products_of netlist) ≡ length (multipliers netlist) + length (others netlist)
  products-counted =
      let a = sym (mapped-length units) ∙ ap length units-same in
      let b = sym (mapped-length owns) ∙ ap length owns-same in
      ap length products-are ∙ length-append units owns ∙ (λ i. a i + b i)
    where
      mapped-length : (l : List Product) → length (map factors_of l) ≡ length l
      mapped-length [] = refl
      mapped-length (x ∷ l) = ap suc (mapped-length l)
