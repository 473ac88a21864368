-- The multiplications and the registers of the module of a netlist.
use Rattle.std.proofs.Common.{max, ◌≡◌, ℕ, zero, suc, ◌^◌, ◌<◌, ◌≤◌, Bool, true, false, List, [], ◌∷◌, ◌++◌, map, flat_map, length, get_or, Contains, Option, Some, None, codes, refl, ap, sym, ◌∙◌}
use Rattle.std.proofs.Common.{subst, arith, append-nil}
use Rattle.std.specs.Prelude.{⊤}
use Rattle.std.specs.List.{AllZip}
use Rattle.std.proofs.lemmas.Grind.{flat_map-append}
use Rattle.vl_ast.specs.declared.expressions.BinOp.TheVariants as binary
use Rattle.vl_ast.specs.declared.expressions.Expr.{Expr}
use Rattle.vl_ast.specs.declared.expressions.Expr.TheOpen.{Expr-F}
use Rattle.vl_ast.specs.declared.expressions.Expr.TheFolds.{para-roll-Expr}
use Rattle.vl_ast.specs.declared.expressions.Expr.TheVariants as expression
use Rattle.vl_ast.specs.declared.modules.ModItem.{ModItem}
use Rattle.vl_ast.specs.declared.modules.ModItem.TheVariants as item
use Rattle.vl_ast.specs.declared.modules.Module.{Module}
use Rattle.vl_ast.specs.Context.{Net as DeclaredNet, own_length, is_signed}
use Rattle.vl_ast.specs.Gated.{gated_condition, gated_item, shows_enable}
use Rattle.vl_ast.specs.Multiplications.{Multiplication, multiplications, multiplications_in, multiplications_step, item_multiplications, condition_multiplications, value_multiplications}
use Rattle.vl_ast.specs.Nets.{nets_of}
use Rattle.hw_net.specs.declared.netlist.NetPort.{NetPort}
use Rattle.hw_net.specs.declared.netlist.NetOp.TheVariants.{Input, Const, Resize, ShiftUp, ShiftDown, Add, Subtract, Negate, Multiply, And, Or, Xor, Not, Less, Equal, Choose, Slice}
use Rattle.hw_net.specs.declared.netlist.NetKind.{NetKind}
use Rattle.hw_net.specs.declared.netlist.NetKind.TheVariants.{Comb, Reg, EnReg, Acc, Bridge, Unit, Counter}
use Rattle.hw_net.specs.Circuit.{Circuit}
use Rattle.hw_net.specs.Netlist.{IsNetlist}
use Rattle.hw_net.specs.Emittable.{IsEmittable}
use Rattle.vl_emit.specs.Names.{Wire, name_of, hold_name, input_wire, net_wire, shown}
use Rattle.hw_net.specs.Products.{net_at, places}
use Rattle.vl_emit.specs.Products.{HasFactor, IsProduct}
use Rattle.hw_net.specs.Products.{Product, unit_product, comb_product, products_of}
use Rattle.vl_emit.specs.Registers.{declared_register, register_name, RegistersAre}
use Rattle.vl_emit.specs.inner.NetItems.{wire_of, drivers, declarers, unit_drivers, other_drivers, output_item, naming_of, items_of, first_declared, plain_module, module_of}
use Rattle.vl_emit.specs.inner.Sound.{IsSound, IsSoundKind}
use Rattle.vl_emit.specs.inner.Operators.{factor, product, product_signed}
use Rattle.vl_emit.proofs.Sections.{Items, Parts, items_in, parts_of}
use Rattle.vl_emit.proofs.CleanForms.{Readable, name-clean, word-most, product-length, product-one}
use Rattle.vl_emit.proofs.Drivers.{multiplies, assign-clean, drivers-clean}
use Rattle.vl_emit.proofs.Factors.{factor-value, product-sign}
use Rattle.vl_emit.proofs.ModuleNets.{no-element, of-one, of-mapped, one-more}
use Rattle.vl_emit.proofs.Lists.{empty-list, flat_map-twice, flat_map-same}
use Rattle.vl_emit.proofs.NetItems.{others-drive}
use Rattle.vl_emit.proofs.OfOperations.{width-at-least}
use Rattle.vl_emit.proofs.EnablePorts.{kept-net}
use Rattle.vl_emit.proofs.Origins.{has}
use Rattle.vl_emit.proofs.Ports.{named-net}
use Rattle.vl_emit.proofs.NetBits.{wire-shows}
use Rattle.vl_emit.proofs.Sounds.{netlist-sound}
use Rattle.vl_emit.proofs.Interfaces.{emitted}

module _ {A B : Type 0} (R : A → B → Type 0) where
  pub zip-append : (xs : List A) (ys : List B) (us : List A) (vs : List B) → AllZip R xs ys → AllZip R us vs → AllZip R (xs ++ us) (ys ++ vs)
  zip-append [] [] us vs p q = q
  zip-append [] (y ∷ ys) us vs p q = absurd p
  zip-append (x ∷ xs) [] us vs p q = absurd p
  zip-append (x ∷ xs) (y ∷ ys) us vs p q = (p.0, zip-append xs ys us vs p.1 q)

  pub zip-places : (f : ℕ → List A) (g : ℕ → List B) (n : ℕ) → ((k : ℕ) → k < n → AllZip R (f k) (g k)) → AllZip R (flat_map f (places n)) (flat_map g (places n))
  zip-places f g zero h = tt
  zip-places f g (suc n) h =
      subst (AllZip R (flat_map f (places (suc n)))) (sym (one-more g n (suc n) (omega arith)))
      (subst (λ (l : List A). AllZip R l (flat_map g (places n) ++ g n)) (sym (one-more f n (suc n) (omega arith)))
      (zip-append (flat_map f (places n)) (flat_map g (places n)) (f n) (g n) (zip-places f g n (λ k below. h k (omega (arith, below)))) (h n (omega arith))))

-- what holds of a Multiply, of a Unit, and of each kind of net that multiplies nothing, holds of all
module _ (P : NetKind → Type 0) (product : (args : List ℕ) → P (Comb Multiply args)) (unit : (left right : ℕ) → P (Unit left right))
    (none : (kind : NetKind) → multiplies kind ≡ false → ((width : ℕ) → comb_product width kind ≡ []) → P kind) where
  pub by-kind : (kind : NetKind) → P kind
  by-kind (Comb Multiply args) = product args
  by-kind (Unit left right) = unit left right
  by-kind (Comb (Input number) args) = none (Comb (Input number) args) refl (λ width. refl)
  by-kind (Comb (Const value) args) = none (Comb (Const value) args) refl (λ width. refl)
  by-kind (Comb Resize args) = none (Comb Resize args) refl (λ width. refl)
  by-kind (Comb (ShiftUp shift) args) = none (Comb (ShiftUp shift) args) refl (λ width. refl)
  by-kind (Comb (ShiftDown shift) args) = none (Comb (ShiftDown shift) args) refl (λ width. refl)
  by-kind (Comb Add args) = none (Comb Add args) refl (λ width. refl)
  by-kind (Comb Subtract args) = none (Comb Subtract args) refl (λ width. refl)
  by-kind (Comb Negate args) = none (Comb Negate args) refl (λ width. refl)
  by-kind (Comb And args) = none (Comb And args) refl (λ width. refl)
  by-kind (Comb Or args) = none (Comb Or args) refl (λ width. refl)
  by-kind (Comb Xor args) = none (Comb Xor args) refl (λ width. refl)
  by-kind (Comb Not args) = none (Comb Not args) refl (λ width. refl)
  by-kind (Comb Less args) = none (Comb Less args) refl (λ width. refl)
  by-kind (Comb Equal args) = none (Comb Equal args) refl (λ width. refl)
  by-kind (Comb Choose args) = none (Comb Choose args) refl (λ width. refl)
  by-kind (Comb (Slice high low) args) = none (Comb (Slice high low) args) refl (λ width. refl)
  by-kind (Reg frame slot first from) = none (Reg frame slot first from) refl (λ width. refl)
  by-kind (EnReg frame enable resets first from) = none (EnReg frame enable resets first from) refl (λ width. refl)
  by-kind (Acc frame enable from) = none (Acc frame enable from) refl (λ width. refl)
  by-kind (Bridge frame live from) = none (Bridge frame live from) refl (λ width. refl)
  by-kind (Counter frame) = none (Counter frame) refl (λ width. refl)

-- ---- the clock enable multiplies nothing, and is no register

pub name-products : (nets : List ℕ → DeclaredNet) (width : ℕ) (signed : Bool) → multiplications_in nets width signed (expression.Name (codes "clk_enable")) ≡ []
name-products nets width signed =
    ap (multiplications_in nets width signed) (sym (expression.rolls-Name (codes "clk_enable")))
    ∙ ap (λ (f : ℕ → Bool → List Multiplication). f width signed) (para-roll-Expr (ℕ → Bool → List Multiplication) (multiplications_step nets) (Expr-F.Name (codes "clk_enable")))

both-products : (nets : List ℕ → DeclaredNet) (width : ℕ) (signed : Bool) (left right : Expr) → multiplications_in nets width signed (expression.Binary binary.Both left right)
    ≡ multiplications_in nets (own_length nets left) (is_signed nets left) left ++ multiplications_in nets (own_length nets right) (is_signed nets right) right
both-products nets width signed left right =
    ap (multiplications_in nets width signed) (sym (expression.rolls-Binary binary.Both left right))
    ∙ ap (λ (f : ℕ → Bool → List Multiplication). f width signed) (para-roll-Expr (ℕ → Bool → List Multiplication) (multiplications_step nets) (Expr-F.Binary binary.Both left right))

condition-products : (nets : List ℕ → DeclaredNet) (condition : Option Expr) → condition_multiplications nets (Some (gated_condition condition)) ≡ condition_multiplications nets condition
condition-products nets None = name-products nets _ _
condition-products nets (Some condition) =
    both-products nets _ _ (expression.Name (codes "clk_enable")) condition
    ∙ ap (λ (l : List Multiplication). l ++ multiplications_in nets (own_length nets condition) (is_signed nets condition) condition) (name-products nets _ _)

pub gated-products : (nets : List ℕ → DeclaredNet) (i : ModItem) → item_multiplications nets (gated_item i) ≡ item_multiplications nets i
gated-products nets (item.Wire signed width name) = refl
gated-products nets (item.Reg signed width name) = refl
gated-products nets (item.Assign name value) = refl
gated-products nets (item.Always name first condition value) =
    ap (λ (l : List Multiplication). l ++ value_multiplications nets (nets name).width value) (condition-products nets condition)

gated-register : (i : ModItem) → declared_register (gated_item i) ≡ declared_register i
gated-register (item.Wire signed width name) = refl
gated-register (item.Reg signed width name) = refl
gated-register (item.Assign name value) = refl
gated-register (item.Always name first condition value) = refl

pub gated-same : {X : Type 0} (f : ModItem → List X) → ((i : ModItem) → f (gated_item i) ≡ f i) → (is : List ModItem) → flat_map f (map gated_item is) ≡ flat_map f is
gated-same f same [] = refl
gated-same f same (i ∷ is) = (λ j. same i j ++ gated-same f same is j)

with-enable : {X : Type 0} (f : ModItem → List X) → ((i : ModItem) → f (gated_item i) ≡ f i) → f shows_enable ≡ [] → (is : List ModItem)
    → flat_map f (map gated_item (is ++ shows_enable ∷ [])) ≡ flat_map f is
with-enable f same none is =
    gated-same f same (is ++ shows_enable ∷ []) ∙ flat_map-append f is (shows_enable ∷ [])
    ∙ ap (λ (l : List _). flat_map f is ++ (l ++ [])) none ∙ append-nil (flat_map f is)

module _ (netlist : Circuit) (runs : IsNetlist netlist) (emits : IsEmittable netlist) (few : length netlist.nets < 2 ^ 64) where
  abbrev parts : Parts
  parts = parts_of netlist

  open parts use {cycles, count, net, naming}

  abbrev m : Module
  m = module_of netlist

  abbrev nets : List ℕ → DeclaredNet
  nets = nets_of (module_of netlist)

  abbrev sound : IsSound netlist.cycles (length netlist.nets) (naming_of netlist) (net_at netlist.nets) runs.ranked.0
  sound = netlist-sound netlist runs emits.counters

  abbrev any : List ℕ → Type 0
  any name = ⊤

  some-bits : (j : ℕ) → j < length netlist.nets → 1 ≤ (net_at netlist.nets j).width
  some-bits j h = width-at-least (net j).signed (net j).width (sound.word j h)

  kept : (j : ℕ) → j < length netlist.nets → nets_of (module_of netlist) (name_of netlist j) ≡ record { width = (net_at netlist.nets j).width; signed = (net_at netlist.nets j).signed }
  kept j h = kept-net netlist runs emits few (name_of netlist j) (net j).width (net j).signed ((has netlist runs emits few).declared j h) (some-bits j h)

  readable : (j : ℕ) → j < length netlist.nets → Readable (nets_of (module_of netlist)) (λ name. ⊤) (wire_of (naming_of netlist) (net_at netlist.nets) j)
  readable j h = record { declared = kept j h; word = sound.word j h; may = tt }

  input-readable : (k port : ℕ) (args : List ℕ) → k < length netlist.nets
      → (net_at netlist.nets k).kind ≡ Comb (Input port) args
      → Readable (nets_of (module_of netlist)) (λ name. ⊤) (input_wire netlist port)
  input-readable k port args h is =
      let em = emitted netlist runs emits few in
      let word = em.ports.words k port args h is in
      let wire : Wire = input_wire netlist port in
      record {
        declared = kept-net netlist runs emits few wire.name wire.width wire.signed
            (named-net cycles count naming net runs.ranked.0 netlist.outputs (plain_module netlist) sound em true (input_wire netlist port) (em.ports.inputs k port args h is))
            (width-at-least wire.signed wire.width word);
        word = word;
        may = tt;
      }

  -- a factor in the context of its product
  factor-has : (w : ℕ) (width : ℕ) (sign signed : Bool) (j : ℕ) → j < length netlist.nets → 1 ≤ w → width ≡ w → sign ≡ signed
      → HasFactor (module_of netlist) width sign (factor signed w (wire_of (naming_of netlist) (net_at netlist.nets) j)) (net_wire netlist j)
  factor-has w width sign signed j h some same is =
      subst (λ (b : Bool). HasFactor (module_of netlist) width b (factor signed w (wire_of (naming_of netlist) (net_at netlist.nets) j)) (net_wire netlist j)) (sym is)
      (subst (λ (v : ℕ). HasFactor (module_of netlist) v signed (factor signed w (wire_of (naming_of netlist) (net_at netlist.nets) j)) (net_wire netlist j)) (sym same)
      (record {
        is = λ total start inputs rows run k below.
            factor-value nets (rows k) signed w (wire_of naming net j) (shown (rows k) (net_wire netlist j)) some
            (wire-shows m total start inputs rows run k below (wire_of naming net j) (kept j h) (sound.word j h));
      }))

  abbrev pub product_value : ℕ → ℕ → ℕ → Expr
  product_value k left right =
      product (net_at netlist.nets k).width (wire_of (naming_of netlist) (net_at netlist.nets) left) (wire_of (naming_of netlist) (net_at netlist.nets) right)

  -- whether it is of signed numbers
  abbrev signed_at : ℕ → ℕ → Bool
  signed_at left right = product_signed (wire_of (naming_of netlist) (net_at netlist.nets) left) (wire_of (naming_of netlist) (net_at netlist.nets) right)

  -- the multiplication of a product
  abbrev pub multiplication_of : ℕ → ℕ → ℕ → Multiplication
  multiplication_of k left right = record {
    left = factor (signed_at left right) (net_at netlist.nets k).width (wire_of (naming_of netlist) (net_at netlist.nets) left);
    right = factor (signed_at left right) (net_at netlist.nets k).width (wire_of (naming_of netlist) (net_at netlist.nets) right);
    width = max (nets_of (module_of netlist) ((naming_of netlist).net k)).width (own_length (nets_of (module_of netlist)) (product_value k left right));
    signed = is_signed (nets_of (module_of netlist)) (product_value k left right);
  }

  pub product-alone : (k left right : ℕ) → k < length netlist.nets → left < length netlist.nets → right < length netlist.nets
      → item_multiplications (nets_of (module_of netlist)) (item.Assign ((naming_of netlist).net k) (product_value k left right)) ≡ multiplication_of k left right ∷ []
  product-alone k left right h p q =
      product-one nets any (net k).width (wire_of naming net left) (wire_of naming net right) (some-bits k h) (word-most nets any (net k).width (net k).signed (sound.word k h))
      (readable left p) (readable right q) (multiplication_of k left right).width (multiplication_of k left right).signed

  -- the item of a product
  product-zip : (k left right : ℕ) → k < length netlist.nets → left < length netlist.nets → right < length netlist.nets
      → AllZip (IsProduct netlist (module_of netlist)) (record { left = left; right = right; width = (net_at netlist.nets k).width } ∷ [])
      (item_multiplications (nets_of (module_of netlist)) (item.Assign ((naming_of netlist).net k) (product_value k left right)) ++ [])
  product-zip k left right h p q =
      let w : ℕ = (net_at netlist.nets k).width in
      let x : Wire = wire_of naming net left in
      let y : Wire = wire_of naming net right in
      let made : Multiplication = multiplication_of k left right in
      let long = product-length nets any w x y (some-bits k h) (word-most nets any w (net k).signed (sound.word k h)) (readable left p) (readable right q) in
      let wide : (nets (naming.net k)).width ≡ w = ap (λ (n : DeclaredNet). n.width) (kept k h) in
      let context : made.width ≡ w = omega (arith, long, wide) in
      let sign : made.signed ≡ signed_at left right = product-sign nets (λ name. 0) w x y (kept left p) (kept right q) (sound.word left p) (sound.word right q) in
      subst (λ (l : List Multiplication). AllZip (IsProduct netlist m) (record { left = left; right = right; width = w } ∷ []) (l ++ [])) (sym (product-alone k left right h p q)) (
        record {
          width = context;
          left = factor-has w made.width made.signed (signed_at left right) left p (some-bits k h) context sign;
          right = factor-has w made.width made.signed (signed_at left right) right q (some-bits k h) context sign;
        },
        tt,
      )

  unit-zip : (k : ℕ) → k < length netlist.nets → (kind : NetKind) → (net_at netlist.nets k).kind ≡ kind
      → AllZip (IsProduct netlist (module_of netlist)) (unit_product (net_at netlist.nets k).width kind)
      (flat_map (item_multiplications (nets_of (module_of netlist))) (unit_drivers netlist.cycles (naming_of netlist) (net_at netlist.nets) k kind))
  unit-zip k h (Comb op args) is = tt
  unit-zip k h (Reg frame slot first from) is = tt
  unit-zip k h (EnReg frame enable resets first from) is = tt
  unit-zip k h (Acc frame enable from) is = tt
  unit-zip k h (Bridge frame live from) is = tt
  unit-zip k h (Unit left right) is =
      let names = subst (IsSoundKind cycles count naming net runs.ranked.0 k) is (sound.names k h) in
      product-zip k left right h names.0.there names.1.there
  unit-zip k h (Counter frame) is = tt

  -- the others have none
  none-at : (k : ℕ) → k < length netlist.nets → multiplies (net_at netlist.nets k).kind ≡ false → (i : ModItem)
      → Contains (drivers netlist.cycles (naming_of netlist) (net_at netlist.nets) k (net_at netlist.nets k).kind) i → item_multiplications (nets_of (module_of netlist)) i ≡ []
  none-at k h e i c =
      (drivers-clean (nets_of (module_of netlist)) any cycles count naming net runs.ranked.0 sound k h
      (λ j below n. readable j below)
      (λ frame live from is. name-clean (nets_of (module_of netlist)) any (hold_name k) (net k).width
      (ap (λ (n : DeclaredNet). n.width) (kept-net netlist runs emits few (hold_name k) (net k).width (net k).signed ((has netlist runs emits few).held k h frame live from is) (some-bits k h))) tt)
      (λ port args is. input-readable k port args h is)
      (net k).kind refl i c).products e

  pub others-none : (k : ℕ) → k < length netlist.nets → (kind : NetKind) → (net_at netlist.nets k).kind ≡ kind → multiplies kind ≡ false
      → flat_map (item_multiplications (nets_of (module_of netlist))) (other_drivers netlist.cycles (naming_of netlist) (net_at netlist.nets) k kind) ≡ []
  others-none k h kind is e =
      empty-list (flat_map (item_multiplications nets) (other_drivers cycles naming net k kind))
      (λ x c. (let r = of-one (item_multiplications nets) (other_drivers cycles naming net k kind) x c in
      let there = others-drive cycles count naming net netlist.outputs k kind r.0 r.1 in
      let none = none-at k h (ap multiplies is ∙ e) r.0 (subst (λ (t : NetKind). Contains (drivers cycles naming net k t) r.0) (sym is) there) in
      no-element x (subst (λ (l : List Multiplication). Contains l x) none r.2)))

  abbrev Zips : ℕ → NetKind → Type 0
  Zips k kind = AllZip (IsProduct netlist (module_of netlist)) (comb_product (net_at netlist.nets k).width kind)
      (flat_map (item_multiplications (nets_of (module_of netlist))) (other_drivers netlist.cycles (naming_of netlist) (net_at netlist.nets) k kind))

  no-zip : (l : List Multiplication) → l ≡ [] → AllZip (IsProduct netlist (module_of netlist)) [] l
  no-zip l e = subst (AllZip (IsProduct netlist (module_of netlist)) []) (sym e) tt

  other-zip : (k : ℕ) → k < length netlist.nets → (kind : NetKind) → (net_at netlist.nets k).kind ≡ kind → Zips k kind
  other-zip k h =
      by-kind (λ kind. (net_at netlist.nets k).kind ≡ kind → Zips k kind)
      (λ args is. (let names = subst (IsSoundKind cycles count naming net runs.ranked.0 k) is (sound.names k h) in
      product-zip k (get_or args 0 0) (get_or args 1 0) h (names.1 0 (omega arith)).there (names.1 1 (omega arith)).there))
      (λ left right is. tt)
      (λ kind none bare is. subst (λ (l : List Product). AllZip (IsProduct netlist m) l
      (flat_map (item_multiplications nets) (other_drivers cycles naming net k kind)))
      (sym (bare (net k).width)) (no-zip _ (others-none k h kind is none)))

  abbrev items : Items
  items = items_in cycles count naming net netlist.outputs

  open items use {declaring, units, others, showing}

  -- a function of items that gives nothing of any of a list
  none-of-list : {X : Type 0} (f : ModItem → List X) (is : List ModItem) → ((i : ModItem) → Contains is i → f i ≡ []) → flat_map f is ≡ []
  none-of-list f is h = empty-list (flat_map f is) (λ x c. (let r = of-one f is x c in no-element x (subst (λ (l : List _). Contains l x) (h r.0 r.1) r.2)))

  declared-none : (k : ℕ) (kind : NetKind) → flat_map (item_multiplications (nets_of (module_of netlist))) (declarers (naming_of netlist) (net_at netlist.nets) k kind) ≡ []
  declared-none k (Comb op args) = refl
  declared-none k _ = refl

  shown-none : (output : NetPort) → Contains netlist.outputs output → item_multiplications (nets_of (module_of netlist)) (output_item (naming_of netlist) output) ≡ []
  shown-none output c =
      let e = emitted netlist runs emits few in
      let h = e.ports.there output c in
      let k : ℕ = output.net in
      (assign-clean nets any output.name (net k).width (expression.Name (naming.net k)) (word-most nets any (net k).width (net k).signed (sound.word k h))
      (name-clean nets any (naming.net k) (net k).width (ap (λ (n : DeclaredNet). n.width) (kept k h)) tt)).products refl

  -- what declares a net, and what shows an output, multiply nothing
  pub declared-bare : flat_map (item_multiplications (nets_of (module_of netlist))) (first_declared netlist (length netlist.nets)) ≡ []
  declared-bare =
      flat_map-twice (item_multiplications nets) (λ k. declarers naming net k (net k).kind) (places count)
      ∙ flat_map-same (λ k. flat_map (item_multiplications nets) (declarers naming net k (net k).kind)) (λ k. []) (λ k. declared-none k (net k).kind) (places count)
      ∙ empty-list (flat_map (λ k. []) (places count)) (λ x c. (let r = of-one (λ k. []) (places count) x c in no-element x r.2))

  pub shown-bare : flat_map (item_multiplications (nets_of (module_of netlist))) (map (output_item (naming_of netlist)) netlist.outputs) ≡ []
  shown-bare =
      none-of-list (item_multiplications nets) showing
      (λ i c. (let r = of-mapped (output_item naming) netlist.outputs i c in subst (λ (x : ModItem). item_multiplications nets x ≡ []) r.2 (shown-none r.0 r.1)))

  pub products-zip : AllZip (IsProduct netlist (module_of netlist)) (products_of netlist) (multiplications (module_of netlist))
  products-zip =
      let all : multiplications m ≡ flat_map (item_multiplications nets) units ++ (flat_map (item_multiplications nets) others ++ []) =
      with-enable (item_multiplications nets) (gated-products nets) (name-products nets _ _ ∙ refl) (items_of netlist)
      ∙ flat_map-append (item_multiplications nets) declaring (units ++ (others ++ showing))
      ∙ (λ i. declared-bare i ++ flat_map-append (item_multiplications nets) units (others ++ showing) i)
      ∙ (λ i. flat_map (item_multiplications nets) units ++ flat_map-append (item_multiplications nets) others showing i)
      ∙ (λ i. flat_map (item_multiplications nets) units ++ (flat_map (item_multiplications nets) others ++ shown-bare i)) in
      let u = flat_map-twice (item_multiplications nets) (λ k. unit_drivers cycles naming net k (net k).kind) (places count) in
      let o = flat_map-twice (item_multiplications nets) (λ k. other_drivers cycles naming net k (net k).kind) (places count) in
      subst (AllZip (IsProduct netlist m) (products_of netlist))
      (sym (all ∙ (λ i. u i ++ append-nil (o i) i)))
      (zip-append (IsProduct netlist m) _ _ _ _
      (zip-places (IsProduct netlist m) (λ k. unit_product (net k).width (net k).kind)
      (λ k. flat_map (item_multiplications nets) (unit_drivers cycles naming net k (net k).kind)) count
      (λ k h. unit-zip k h (net k).kind refl))
      (zip-places (IsProduct netlist m) (λ k. comb_product (net k).width (net k).kind)
      (λ k. flat_map (item_multiplications nets) (other_drivers cycles naming net k (net k).kind)) count
      (λ k h. other-zip k h (net k).kind refl)))

  -- the registers
  register-at : (k : ℕ) (kind : NetKind) → flat_map declared_register (declarers (naming_of netlist) (net_at netlist.nets) k kind) ≡ register_name netlist k kind
  register-at k (Comb op args) = refl
  register-at k _ = refl

  no-register : (k : ℕ) (kind : NetKind) → flat_map declared_register (unit_drivers netlist.cycles (naming_of netlist) (net_at netlist.nets) k kind) ≡ []
  no-register k (Comb op args) = refl
  no-register k _ = refl

  none-more : (k : ℕ) (kind : NetKind) → flat_map declared_register (other_drivers netlist.cycles (naming_of netlist) (net_at netlist.nets) k kind) ≡ []
  none-more k (Comb op args) = refl
  none-more k (EnReg frame enable true first from) = refl
  none-more k (EnReg frame enable false first from) = refl
  none-more k _ = refl

  empty-places : {X : Type 0} (f : ℕ → List ModItem) (g : ModItem → List X) → ((k : ℕ) → flat_map g (f k) ≡ []) → flat_map g (flat_map f (places (length netlist.nets))) ≡ []
  empty-places f g h =
      flat_map-twice g f (places count)
      ∙ empty-list (flat_map (λ k. flat_map g (f k)) (places count))
      (λ x c. (let r = of-one (λ k. flat_map g (f k)) (places count) x c in
      no-element x (subst (λ (l : List _). Contains l x) (h r.0) r.2)))

  pub registers-are : RegistersAre netlist (module_of netlist)
  registers-are = record {
    are =
        let u = empty-places (λ k. unit_drivers cycles naming net k (net k).kind) declared_register (λ k. no-register k (net k).kind) in
        let o = empty-places (λ k. other_drivers cycles naming net k (net k).kind) declared_register (λ k. none-more k (net k).kind) in
        let s : flat_map declared_register showing ≡ [] =
        none-of-list declared_register showing
        (λ i c. (let r = of-mapped (output_item naming) netlist.outputs i c in
        subst (λ (x : ModItem). declared_register x ≡ []) r.2 refl)) in
        with-enable declared_register gated-register refl (items_of netlist)
        ∙ flat_map-append declared_register declaring (units ++ (others ++ showing))
        ∙ (λ i. flat_map declared_register declaring ++ flat_map-append declared_register units (others ++ showing) i)
        ∙ (λ i. flat_map declared_register declaring ++ (u i ++ flat_map-append declared_register others showing i))
        ∙ (λ i. flat_map declared_register declaring ++ (o i ++ s i))
        ∙ append-nil (flat_map declared_register declaring)
        ∙ flat_map-twice declared_register (λ k. declarers naming net k (net k).kind) (places count)
        ∙ flat_map-same (λ k. flat_map declared_register (declarers naming net k (net k).kind)) (λ k. register_name netlist k (net k).kind) (λ k. register-at k (net k).kind) (places count);
  }
