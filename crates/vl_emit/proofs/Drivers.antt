-- The drivers of each net break no condition on expressions, and read only the nets that the net names,
-- the counter of its frame and itself.
use Rattle.std.proofs.Common.{◌≡◌, inl, inr, ℕ, ◌+◌, ◌-◌, ◌*◌, ◌^◌, ◌<◌, ◌≤◌, nat_le, nat_lt, max, Bool, true, false, ◌&&◌, List, [], ◌∷◌, ◌++◌, get_or, Contains, Some, None, ℤ, pos, ap, sym, ◌∙◌, subst}
use Rattle.std.proofs.Common.{refl, arith, pow_pos, pow_mono}
use Rattle.std.proofs.lemmas.Bool.{cond_both, le-leb, lt-ltb, and_from}
use Rattle.std.proofs.lemmas.List.Elements.{Contains-append_cases}
use Rattle.std.proofs.Math.Nat.{add-mul, mul-le-mul_right}
use Rattle.math_num.specs.Word.{IsWord}
use Rattle.vl_ast.specs.declared.expressions.BinOp.TheVariants as binary
use Rattle.vl_ast.specs.declared.expressions.Sized.{Sized}
use Rattle.vl_ast.specs.declared.expressions.Expr.{Expr}
use Rattle.vl_ast.specs.declared.expressions.Expr.TheVariants as expression
use Rattle.vl_ast.specs.declared.modules.ModItem.{ModItem}
use Rattle.vl_ast.specs.declared.modules.ModItem.TheVariants as item
use Rattle.vl_ast.specs.Context.{Net as DeclaredNet, own_length, is_signed}
use Rattle.vl_ast.specs.Conditions.{is_narrow, is_number, is_width}
use Rattle.vl_ast.specs.Value.{bits_of}
use Rattle.hw_net.specs.declared.netlist.Frame.{Frame}
use Rattle.hw_net.specs.declared.netlist.Net.{Net}
use Rattle.hw_net.specs.declared.netlist.NetOp.{NetOp}
use Rattle.hw_net.specs.declared.netlist.NetOp.TheVariants as operation
use Rattle.hw_net.specs.declared.netlist.NetKind.{NetKind}
use Rattle.hw_net.specs.declared.netlist.NetKind.TheVariants.{Comb, Reg, EnReg, Acc, Bridge, Unit, Counter}
use Rattle.vl_emit.specs.Names.{Wire}
use Rattle.vl_emit.specs.inner.Pieces.{zeros}
use Rattle.vl_emit.specs.inner.Operators.{product, test_of}
use Rattle.vl_emit.specs.inner.Clean.{IsClean, IsCleanItem}
use Rattle.vl_emit.specs.inner.NetItems.{Naming, wire_of, plain_number, constant, counts, slot_test, live_test, drivers}
use Rattle.vl_emit.proofs.ModuleNets.{first-or-later, no-element}
use Rattle.vl_ast.proofs.SomeInputs.{bits-fit}
use Rattle.vl_emit.proofs.CleanForms.{Readable, narrow, sound, literal-clean, binary-clean, choose-clean, net-clean, no-bits, test-clean, word-most, op-clean, product-length, product-sound}
use Rattle.vl_emit.proofs.CleanForms.{product-reads}
use Rattle.vl_emit.specs.inner.Operators.{expression_of}
use Rattle.vl_emit.specs.inner.Sound.{NamedBy, IsSound, IsSoundKind, IsCounted}
use Rattle.vl_emit.proofs.OfOperations.{width-at-least}
use Rattle.vl_emit.proofs.Registers.{both-some}

-- whether an operation, and whether a net, has a multiplication
abbrev pub op_multiplies : NetOp → Bool
op_multiplies (operation.Input port) = false
op_multiplies (operation.Const number) = false
op_multiplies operation.Resize = false
op_multiplies (operation.ShiftUp places) = false
op_multiplies (operation.ShiftDown places) = false
op_multiplies operation.Add = false
op_multiplies operation.Subtract = false
op_multiplies operation.Negate = false
op_multiplies operation.Multiply = true
op_multiplies operation.And = false
op_multiplies operation.Or = false
op_multiplies operation.Xor = false
op_multiplies operation.Not = false
op_multiplies operation.Less = false
op_multiplies operation.Equal = false
op_multiplies operation.Choose = false
op_multiplies (operation.Slice high low) = false

abbrev pub multiplies : NetKind → Bool
multiplies (Comb op args) = op_multiplies op
multiplies (Unit left right) = true
multiplies (Counter frame) = false
multiplies (Reg frame slot first from) = false
multiplies (EnReg frame enable reset first from) = false
multiplies (Acc frame enable from) = false
multiplies (Bridge frame live from) = false

module _ (nets : List ℕ → DeclaredNet) (allowed : List ℕ → Type 0) where
  abbrev Clean : ℕ → Expr → Type 0
  Clean = IsClean nets allowed

  abbrev CleanItem : Bool → ModItem → Type 0
  CleanItem = IsCleanItem nets allowed

  pub assign-clean : (name : List ℕ) (w : ℕ) (e : Expr) → w ≤ 128 → Clean w e → CleanItem false (item.Assign name e)
  assign-clean name w e h p = record { sound = narrow nets allowed w e h p; reads = p.reads; products = λ t. p.products (max (nets name).width (own_length nets e)) (is_signed nets e) }

  number-sound : (w n : ℕ) → 1 ≤ w → w ≤ 128 → n < 2 ^ w → is_number (plain_number w n) ≡ true
  number-sound w n h k below = and_from (is_width w) (nat_lt n (2 ^ w)) (and_from (nat_le 1 w) (nat_le w 128) (le-leb 1 w h) (le-leb w 128 k)) (lt-ltb n (2 ^ w) below)

  pub always-clean : (name : List ℕ) (first : Sized) (v w : ℕ) (c e : Expr) → v ≤ 128 → w ≤ 128 → is_number first ≡ true → Clean v c → Clean w e → CleanItem false (item.Always name first (Some c) e)
  always-clean name first v w c e h k number p q = record {
    sound = and_from (is_number first && is_narrow nets (c, sound nets allowed c)) (is_narrow nets (e, sound nets allowed e))
        (and_from (is_number first) (is_narrow nets (c, sound nets allowed c)) number (narrow nets allowed v c h p)) (narrow nets allowed w e k q);
    reads = λ x d. elim (Contains-append_cases _ _ x d) [
      | inl f ↦ p.reads x f
      | inr f ↦ q.reads x f
    ];
    products = λ t. (let a = p.products (own_length nets c) (is_signed nets c) in let b = q.products (max (nets name).width (own_length nets e)) (is_signed nets e) in (λ i. a i ++ b i));
  }

  pub always-plain : (name : List ℕ) (first : Sized) (w : ℕ) (e : Expr) → w ≤ 128 → is_number first ≡ true → Clean w e → CleanItem false (item.Always name first None e)
  always-plain name first w e k number q = record {
    sound = and_from (is_number first && true) (is_narrow nets (e, sound nets allowed e)) (and_from (is_number first) true number refl) (narrow nets allowed w e k q);
    reads = λ x d. elim (Contains-append_cases [] _ x d) [
      | inl f ↦ absurd (no-element x f)
      | inr f ↦ q.reads x f
    ];
    products = λ t. q.products (max (nets name).width (own_length nets e)) (is_signed nets e);
  }

  pub product-clean : (name : List ℕ) (w : ℕ) (x y : Wire) → 1 ≤ w → w ≤ 128 → Readable nets allowed x → Readable nets allowed y → CleanItem true (item.Assign name (product w x y))
  product-clean name w x y some most r s = record {
    sound = (let long : own_length nets (product w x y) ≤ 128 = (let l = product-length nets allowed w x y some most r s in omega (arith, l, most)) in
        and_from (sound nets allowed (product w x y)) (nat_le (own_length nets (product w x y)) 128)
        (product-sound nets allowed w x y some most r s) (le-leb (own_length nets (product w x y)) 128 long));
    reads = λ z c. product-reads nets allowed w x y some most r s z c;
    products = λ t. absurd (cc t);
  }

  module _ (cycles : ℕ) (frame : Frame) (counter : Wire) (r : Readable nets allowed counter) (room : frame.latency * cycles + (frame.period * cycles - 1) < 2 ^ counter.width) where
    some : 1 ≤ counter.width
    some = width-at-least counter.signed counter.width r.word

    most : counter.width ≤ 128
    most = word-most nets allowed counter.width counter.signed r.word

    pub slot-clean : (slot : ℕ) → Clean 1 (slot_test cycles frame counter slot)
    slot-clean slot =
        cond_both (nat_lt slot (frame.period * cycles)) (counts counter (frame.period * cycles - 1 - slot)) (zeros 1) (Clean 1)
        (λ is. binary-clean nets allowed counter.width binary.Equal (expression.Name counter.name) (expression.Literal (plain_number counter.width (frame.period * cycles - 1 - slot))) most (λ m. refl)
        (net-clean nets allowed counter r) (literal-clean nets allowed (plain_number counter.width (frame.period * cycles - 1 - slot)) some most (omega (arith, room))))
        (λ is. no-bits nets allowed 1 (omega arith) (omega arith))

    pub live-clean : (live : ℕ) → (frame.period - live) * cycles < 2 ^ counter.width → Clean 1 (live_test cycles frame counter live)
    live-clean live below =
        binary-clean nets allowed counter.width binary.GreaterEqual (expression.Name counter.name) (expression.Literal (plain_number counter.width ((frame.period - live) * cycles))) most (λ m. refl)
        (net-clean nets allowed counter r) (literal-clean nets allowed (plain_number counter.width ((frame.period - live) * cycles)) some most below)

-- a counter has room for the bound of a live clock
bound-fits : (cycles : ℕ) (frame : Frame) (live most : ℕ) → 0 < frame.period * cycles → 0 < live → frame.latency * cycles + (frame.period * cycles - 1) < most → (frame.period - live) * cycles < most
bound-fits cycles frame live most some h room =
    let parts = both-some frame.period cycles some in
    let less : (frame.period - live) * cycles ≤ (frame.period - 1) * cycles = mul-le-mul_right cycles (let e : frame.period - live ≤ frame.period - 1 = omega arith in e) in
    let all : (frame.period - 1) * cycles + 1 * cycles ≡ frame.period * cycles = sym (add-mul (frame.period - 1) 1 cycles) ∙ ap (λ (i : ℕ). i * cycles) (omega (arith, parts.0)) in
    omega (arith, room, less, all, parts.1)

module _ (nets : List ℕ → DeclaredNet) (allowed : List ℕ → Type 0) (cycles count : ℕ) (naming : Naming) (net : ℕ → Net) (rank : ℕ → ℕ)
    (sound : IsSound cycles count naming net rank) where
  -- a counter has room for its numbers
  pub counter-fits : (k : ℕ) (frame : Frame) → k < count → (net k).kind ≡ Counter frame → frame.latency * cycles + (frame.period * cycles - 1) < 2 ^ (net k).width
  counter-fits k frame h is = let names = subst (IsSoundKind cycles count naming net rank k) is (sound.names k h) in names.1

  abbrev wire : ℕ → Wire
  wire = wire_of naming net

  only : (t : Bool) (i j : ModItem) → IsCleanItem nets allowed t i → Contains (i ∷ []) j → IsCleanItem nets allowed t j
  only t i j p c = elim (first-or-later i j [] c) [
    | inl same ↦ subst (IsCleanItem nets allowed t) same p
    | inr after ↦ absurd (no-element j after)
  ]

  -- the wire of a bridge
  pub bridge-clean : (k : ℕ) → k < count → (frame : Frame) (live from : ℕ) → (net k).kind ≡ Bridge frame live from → Readable nets allowed (wire from)
      → Readable nets allowed (wire (naming.counter frame)) → IsClean nets allowed (net k).width (expression.Name (naming.hold k))
      → IsClean nets allowed (net k).width (expression.Choose (live_test cycles frame (wire (naming.counter frame)) live) (expression.Name (naming.net from)) (expression.Name (naming.hold k)))
  bridge-clean k h frame live from is r c held =
      let names = subst (IsSoundKind cycles count naming net rank k) is (sound.names k h) in
      let counter : ℕ = naming.counter frame in
      let fits = counter-fits counter frame names.0.there names.0.is in
      let some : 0 < live = (let parts = both-some live cycles names.1 in parts.0) in
      choose-clean nets allowed (net k).width 1 (live_test cycles frame (wire counter) live) (expression.Name (naming.net from)) (expression.Name (naming.hold k))
      (word-most nets allowed (net k).width (net k).signed (sound.word k h)) (omega arith)
      (live-clean nets allowed cycles frame (wire counter) c fits live (bound-fits cycles frame live (2 ^ (net counter).width) names.0.some some fits))
      (subst (λ (v : ℕ). IsClean nets allowed v (expression.Name (naming.net from))) names.3.width (net-clean nets allowed (wire from) r)) held

  module _ (k : ℕ) (h : k < count)
      (readable : (j : ℕ) → j < count → NamedBy naming k (net k).kind j → Readable nets allowed (wire_of naming net j))
      (held : (frame : Frame) (live from : ℕ) → (net k).kind ≡ Bridge frame live from → IsClean nets allowed (net k).width (expression.Name (naming.hold k)))
      (port : (place : ℕ) (args : List ℕ) → (net k).kind ≡ Comb (operation.Input place) args → Readable nets allowed (naming.port place)) where
    may : (kind : NetKind) → (net k).kind ≡ kind → (j : ℕ) → j < count → NamedBy naming k kind j → Readable nets allowed (wire_of naming net j)
    may kind is j there named = readable j there (subst (λ (t : NetKind). NamedBy naming k t j) (sym is) named)

    w : ℕ
    w = (net k).width

    low : 1 ≤ (net k).width
    low = width-at-least (net k).signed (net k).width (sound.word k h)

    high : (net k).width ≤ 128
    high = word-most nets allowed (net k).width (net k).signed (sound.word k h)

    named-clean : (from : ℕ) → Readable nets allowed (wire from) → (net from).width ≡ (net k).width → IsClean nets allowed (net k).width (expression.Name (naming.net from))
    named-clean from r same = subst (λ (v : ℕ). IsClean nets allowed v (expression.Name (naming.net from))) same (net-clean nets allowed (wire from) r)

    slot-of : (frame : Frame) (slot : ℕ) → IsCounted cycles count naming net frame
        → Readable nets allowed (wire (naming.counter frame))
        → IsClean nets allowed 1 (slot_test cycles frame (wire (naming.counter frame)) slot)
    slot-of frame slot c r = slot-clean nets allowed cycles frame (wire (naming.counter frame)) r (counter-fits (naming.counter frame) frame c.there c.is) slot

    first-sound : (number : ℤ) → is_number (constant (net k).width number) ≡ true
    first-sound number = number-sound nets allowed (net k).width (bits_of (net k).width number) low high (bits-fit (net k).width number)

    not-multiply : (op : NetOp) (args : List ℕ) → (net k).kind ≡ Comb op args → ¬ (op ≡ operation.Multiply)
        → IsCleanItem nets allowed false
        (item.Assign (naming.net k) (expression_of op naming.port (λ j. wire (get_or args j 0)) (net k).width))
    not-multiply op args is other =
        let names = subst (IsSoundKind cycles count naming net rank k) is (sound.names k h) in
        assign-clean nets allowed (naming.net k) (net k).width (expression_of op naming.port (λ j. wire (get_or args j 0)) (net k).width) high
        (op-clean nets allowed naming.port (λ j. wire (get_or args j 0)) (net k).width low high op
        (λ j within. may (Comb op args) is (get_or args j 0) (names.1 j within).there (j, within, refl))
        (λ place e. port place args (is ∙ ap (λ (o : NetOp). Comb o args) e))
        names.0 other)

    pub drivers-clean : (kind : NetKind) → (net k).kind ≡ kind → (i : ModItem) → Contains (drivers cycles naming net k kind) i → IsCleanItem nets allowed (multiplies kind) i
    drivers-clean (Comb operation.Multiply args) is i c =
        let names = subst (IsSoundKind cycles count naming net rank k) is (sound.names k h) in
        let x : Wire = wire (get_or args 0 0) in
        let y : Wire = wire (get_or args 1 0) in
        only true _ i (product-clean nets allowed (naming.net k) (net k).width x y low high
        (may (Comb operation.Multiply args) is (get_or args 0 0) (names.1 0 (omega arith)).there (0, omega arith, refl))
        (may (Comb operation.Multiply args) is (get_or args 1 0) (names.1 1 (omega arith)).there (1, omega arith, refl))) c
    drivers-clean (Comb op args) is i c = only false _ i (not-multiply op args is (λ e. absurd (cc e))) c
    drivers-clean (Unit left right) is i c =
        let names = subst (IsSoundKind cycles count naming net rank k) is (sound.names k h) in
        only true _ i (product-clean nets allowed (naming.net k) (net k).width (wire left) (wire right) low high
        (may (Unit left right) is left names.0.there (inl refl)) (may (Unit left right) is right names.1.there (inr refl))) c
    drivers-clean (Counter frame) is i c =
        let fits = counter-fits k frame h is in
        let one : 1 < 2 ^ (net k).width = (let p : 2 ^ 1 ≤ 2 ^ (net k).width = pow_mono low in omega (arith, p)) in
        let top : frame.period * cycles - 1 < 2 ^ (net k).width = omega (arith, fits) in
        only false _ i (always-plain nets allowed (naming.net k) (plain_number (net k).width (frame.latency * cycles + (frame.period * cycles - 1))) (net k).width _ high
        (number-sound nets allowed (net k).width (frame.latency * cycles + (frame.period * cycles - 1)) low high fits)
        (choose-clean nets allowed (net k).width 1 (test_of (wire k)) (expression.Binary binary.Subtract (expression.Name (naming.net k)) (expression.Literal (plain_number (net k).width 1)))
        (expression.Literal (plain_number (net k).width (frame.period * cycles - 1))) high (omega arith) (test-clean nets allowed (wire k) (may (Counter frame) is k h refl))
        (binary-clean nets allowed (net k).width binary.Subtract (expression.Name (naming.net k)) (expression.Literal (plain_number (net k).width 1)) high (λ m. refl)
        (net-clean nets allowed (wire k) (may (Counter frame) is k h refl)) (literal-clean nets allowed (plain_number (net k).width 1) low high one))
        (literal-clean nets allowed (plain_number (net k).width (frame.period * cycles - 1)) low high top))) c
    drivers-clean (Reg frame slot first from) is i c =
        let names = subst (IsSoundKind cycles count naming net rank k) is (sound.names k h) in
        only false _ i (always-clean nets allowed (naming.net k) (constant (net k).width first) 1 (net k).width _ (expression.Name (naming.net from)) (omega arith) high (first-sound first)
        (slot-of frame slot names.0 (may (Reg frame slot first from) is (naming.counter frame) names.0.there
        (inr refl))) (named-clean from (may (Reg frame slot first from) is from names.1.of.there (inl refl))
        names.1.of.width)) c
    drivers-clean (EnReg frame enable true first from) is i c =
        let names = subst (IsSoundKind cycles count naming net rank k) is (sound.names k h) in
        only false _ i (always-clean nets allowed (naming.net k) (constant (net k).width first) 1 (net k).width _ _ (omega arith) high (first-sound first)
        (slot-of frame (frame.period * cycles - 1) names.0 (may (EnReg frame enable true first from) is (naming.counter frame) names.0.there (inr (inl refl))))
        (choose-clean nets allowed (net k).width 1 (test_of (wire enable)) (expression.Name (naming.net from)) (expression.Literal (constant (net k).width first)) high (omega arith)
        (test-clean nets allowed (wire enable)
        (may (EnReg frame enable true first from) is enable names.2 (inr (inr refl))))
        (named-clean from (may (EnReg frame enable true first from) is from names.1.of.there (inl refl))
        names.1.of.width)
        (literal-clean nets allowed (constant (net k).width first) low high (bits-fit (net k).width first)))) c
    drivers-clean (EnReg frame enable false first from) is i c =
        let names = subst (IsSoundKind cycles count naming net rank k) is (sound.names k h) in
        only false _ i (always-clean nets allowed (naming.net k) (constant (net k).width first) 1 (net k).width _ (expression.Name (naming.net from)) (omega arith) high (first-sound first)
        (binary-clean nets allowed 1 binary.Both (slot_test cycles frame (wire (naming.counter frame)) (frame.period * cycles - 1)) (test_of (wire enable)) (omega arith) (λ m. refl)
        (slot-of frame (frame.period * cycles - 1) names.0
        (may (EnReg frame enable false first from) is (naming.counter frame) names.0.there (inr (inl refl))))
        (test-clean nets allowed (wire enable)
        (may (EnReg frame enable false first from) is enable names.2 (inr (inr refl)))))
        (named-clean from (may (EnReg frame enable false first from) is from names.1.of.there (inl refl)) names.1.of.width)) c
    drivers-clean (Acc frame enable from) is i c =
        let names = subst (IsSoundKind cycles count naming net rank k) is (sound.names k h) in
        let last = slot-of frame (frame.period * cycles - 1) names.0 (may (Acc frame enable from) is (naming.counter frame) names.0.there (inr (inl refl))) in
        only false _ i (always-clean nets allowed (naming.net k) (constant (net k).width (pos 0)) 1 (net k).width _ _ (omega arith) high (first-sound (pos 0))
        (binary-clean nets allowed 1 binary.Either (slot_test cycles frame (wire (naming.counter frame)) (frame.period * cycles - 1)) (test_of (wire enable)) (omega arith) (λ m. refl)
        last (test-clean nets allowed (wire enable) (may (Acc frame enable from) is enable names.2 (inr (inr (inl refl))))))
        (choose-clean nets allowed (net k).width 1 (slot_test cycles frame (wire (naming.counter frame)) (frame.period * cycles - 1)) (expression.Literal (constant (net k).width (pos 0)))
        (expression.Binary binary.Add (expression.Name (naming.net k)) (expression.Name (naming.net from))) high (omega arith) last
        (literal-clean nets allowed (constant (net k).width (pos 0)) low high (bits-fit (net k).width (pos 0)))
        (binary-clean nets allowed (net k).width binary.Add (expression.Name (naming.net k)) (expression.Name (naming.net from)) high (λ m. refl)
        (net-clean nets allowed (wire k) (may (Acc frame enable from) is k h (inr (inr (inr refl)))))
        (named-clean from (may (Acc frame enable from) is from names.1.of.there (inl refl)) names.1.of.width)))) c
    drivers-clean (Bridge frame live from) is i c =
        let names = subst (IsSoundKind cycles count naming net rank k) is (sound.names k h) in
        let counter : ℕ = naming.counter frame in
        let fits = counter-fits counter frame names.0.there names.0.is in
        let some : 0 < live = (let parts = both-some live cycles names.1 in parts.0) in
        let holding : ModItem = item.Always (naming.hold k) (plain_number (net k).width 0) None (expression.Name (naming.net k)) in
        elim (first-or-later _ i (holding ∷ []) c) [
          | inl same ↦ subst (IsCleanItem nets allowed false) same
              (assign-clean nets allowed (naming.net k) (net k).width _ high
              (choose-clean nets allowed (net k).width 1 (live_test cycles frame (wire counter) live) (expression.Name (naming.net from)) (expression.Name (naming.hold k)) high (omega arith)
              (live-clean nets allowed cycles frame (wire counter)
              (may (Bridge frame live from) is counter names.0.there (inr (inl refl))) fits live
              (bound-fits cycles frame live (2 ^ (net counter).width) names.0.some some fits))
              (named-clean from (may (Bridge frame live from) is from names.2.there (inl refl)) names.3.width) (held frame live from is)))
          | inr after ↦ only false holding i
              (always-plain nets allowed (naming.hold k) (plain_number (net k).width 0) (net k).width (expression.Name (naming.net k)) high
              (number-sound nets allowed (net k).width 0 low high (pow_pos (net k).width)) (net-clean nets allowed (wire k) (may (Bridge frame live from) is k h (inr (inr refl))))) after
        ]

pub net-width : (w : ℕ) (signed : Bool) → IsWord w signed → is_width w ≡ true
net-width w true h = and_from (nat_le 1 w) (nat_le w 128) (le-leb 1 w (omega (arith, h.0))) (le-leb w 128 h.1)
net-width w false h = and_from (nat_le 1 w) (nat_le w 128) (le-leb 1 w h.0) (le-leb w 128 (omega (arith, h.1)))
