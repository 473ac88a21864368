-- A factor of a product has the bits of its number in the context that it makes with the other factor.
use Rattle.std.proofs.Common.{◌≡◌, ◌⊎◌, inl, inr, ℕ, ◌+◌, ◌-◌, ◌*◌, ◌%◌, ◌^◌, ◌<◌, ◌≤◌, ◌==◌, nat_le, nat_lt, max, min, Bool, true, false, ◌&&◌, if◌then◌else◌, List, ℤ, pos, negsuc, ◌*ℤ◌, ap, sym}
use Rattle.std.proofs.Common.{◌∙◌, subst, refl, arith, pow_mono}
use Rattle.std.proofs.lemmas.Int.{ints}
use Rattle.std.proofs.lemmas.Bool.{and_cases, and_parts, and_right, cond_both, cond-true, eq-eqb, le-leb, leb-false, leb-true, lt-leb, ltb-false, or_parts}
use Rattle.std.proofs.Math.Nat.{mod-eq_of_lt}
use Rattle.math_num.specs.Word.{InWord, IsWord}
use Rattle.math_num.proofs.Arithmetic.{double}
use Rattle.math_num.proofs.Words.{size-below, size-half, size_of}
use Rattle.vl_ast.specs.declared.expressions.BinOp.TheVariants.{Multiply}
use Rattle.vl_ast.specs.declared.expressions.Expr.{Expr}
use Rattle.vl_ast.specs.declared.expressions.Expr.TheVariants.{Name, Part, AsSigned}
use Rattle.vl_ast.specs.Context.{Net, own_length, is_signed}
use Rattle.vl_ast.specs.Value.{assigned, bits_of, extended, is_negative, value_in}
use Rattle.vl_ast.proofs.Forms.{length-AsSigned, length-Binary, length-Name, sign-AsSigned, sign-Binary, sign-Name, value-AsSigned, value-Binary, value-Name}
use Rattle.vl_emit.specs.Names.{Wire}
use Rattle.hw_net.specs.declared.netlist.NetOp.{NetOp}
use Rattle.hw_net.specs.declared.netlist.NetOp.TheVariants as operation
use Rattle.hw_net.specs.Operation.{arity, given_by}
use Rattle.vl_emit.specs.inner.Operators.{by_sign, expression_of, factor, product, product_signed, signed_width}
use Rattle.vl_emit.specs.inner.Pieces.{at_width}
use Rattle.vl_emit.specs.inner.Spoken.{IsWithin}
use Rattle.vl_emit.specs.inner.AtWidth.{Shows}
use Rattle.vl_emit.proofs.AtWidth.{alone-written, assigned-written, extended-same, operand-written, piece-plain}
use Rattle.vl_emit.proofs.OfOperations.{fits-signed, op-written, operands, width-at-least}
use Rattle.vl_emit.proofs.Operations.{multiply-bits}
use Rattle.vl_emit.proofs.Pieces.{piece-inside}
use Rattle.vl_emit.proofs.Twos.{bits-mod}

-- a number of signed bits in a longer context
long-bits : (v w : ℕ) (z : ℤ) → 1 ≤ v → v ≤ w → size_of z < 2 ^ (v - 1) → extended (record { width = v; signed = true; bits = bits_of v z }) w ≡ bits_of w z
long-bits v w (pos n) h k half =
    let small : n < 2 ^ v = omega (arith, double v h) in
    let room : 2 ^ v ≤ 2 ^ w = pow_mono k in
    let whole : n < 2 ^ w = omega arith in
    let low : nat_le (2 ^ (v - 1)) n ≡ false = lt-leb (2 ^ (v - 1)) n half in
    rw (mod-eq_of_lt small, mod-eq_of_lt whole, low) refl
long-bits v w (negsuc n) h k half =
    let small : n < 2 ^ v = omega (arith, double v h) in
    let room : 2 ^ v ≤ 2 ^ w = pow_mono k in
    let whole : n < 2 ^ w = omega arith in
    let high : nat_le (2 ^ (v - 1)) (2 ^ v - 1 - n) ≡ true = le-leb (2 ^ (v - 1)) (2 ^ v - 1 - n) (omega (arith, double v h)) in
    rw (mod-eq_of_lt small, mod-eq_of_lt whole, high) (omega (arith, small, room))

-- a number without sign has the same bits in a longer context
plain-bits : (v w : ℕ) (z : ℤ) → IsWord v false → InWord v false z → v ≤ w → bits_of v z ≡ bits_of w z
plain-bits v w (pos n) word r k =
    let small = size-below v false (pos n) word r in
    let room : 2 ^ v ≤ 2 ^ w = pow_mono k in
    let whole : n < 2 ^ w = omega (arith, small, room) in
    mod-eq_of_lt small ∙ sym (mod-eq_of_lt whole)
plain-bits v w (negsuc n) word r k = absurd (omega (arith, ints, r.low))

one-plain : (signed : Bool) (width : ℕ) → IsWord width signed → width ≤ 1 → signed ≡ false
one-plain true width word h = absurd (omega (arith, word.0, h))
one-plain false width word h = refl

-- where a product is of numbers without sign, a factor has none
plain-one : (x y : Wire) → IsWord x.width x.signed → IsWord y.width y.signed → product_signed x y ≡ false → (x.signed ≡ false) ⊎ (y.signed ≡ false)
plain-one x y u v is =
    elim (and_cases (by_sign x y) (nat_lt 1 x.width && nat_lt 1 y.width) is) [
      | inl none ↦ inl (or_parts x.signed y.signed none).0
      | inr short ↦ elim (and_cases (nat_lt 1 x.width) (nat_lt 1 y.width) short) [
        | inl e ↦ inl (one-plain x.signed x.width u (ltb-false 1 x.width e))
        | inr e ↦ inr (one-plain y.signed y.width v (ltb-false 1 y.width e))
      ]
    ]

-- signed bits of a number give its bits in a longer context
abbrev Extends : ℕ → ℤ → ℕ → Type 0
Extends w z v = extended (record { width = v; signed = true; bits = bits_of v z }) w ≡ bits_of w z

-- so do those of a factor that is written as signed
least-bits : (wire : Wire) (z : ℤ) (w : ℕ) → IsWord wire.width wire.signed → InWord wire.width wire.signed z → Extends w z (min (signed_width wire) w)
least-bits wire z w word within = by (nat_le (signed_width wire) w) refl where
  by : (room : Bool) → nat_le (signed_width wire) w ≡ room → Extends w z (min (signed_width wire) w)
  by true is =
      let h : signed_width wire ≤ w = leb-true (signed_width wire) w is in
      let e : signed_width wire ≡ min (signed_width wire) w = omega (arith, h) in
      let f = fits-signed wire.signed wire.width z word within in
      subst (Extends w z) e (long-bits (signed_width wire) w z f.0 h f.1)
  by false is =
      let h : w < signed_width wire = leb-false (signed_width wire) w is in
      let e : w ≡ min (signed_width wire) w = omega (arith, h) in
      subst (Extends w z) e (extended-same (is_negative (record { width = w; signed = true; bits = bits_of w z })) (bits_of w z) w)

-- a net at its own width is its name
whole-name : (wire : Wire) → 1 ≤ wire.width → at_width wire.width wire ≡ Name wire.name
whole-name wire some =
    piece-inside wire 0 wire.width some (omega arith)
    ∙ cond-true (wire.width == wire.width) (Name wire.name) (Part wire.name (0 + wire.width - 1) 0) (eq-eqb wire.width wire.width refl)

module _ (nets : List ℕ → Net) (row : List ℕ → ℕ) where
  signed-value : (w : ℕ) (wire : Wire) (z : ℤ) → 1 ≤ w → Shows nets row wire z → value_in nets row w true (factor true w wire) ≡ bits_of w z
  signed-value w wire z some s =
      let v : ℕ = min (signed_width wire) w in
      let e : Expr = at_width (min (signed_width wire) w) wire in
      let f = fits-signed wire.signed wire.width z s.word s.in_word in
      cond_both (wire.signed && nat_le wire.width w) (Name wire.name) (AsSigned e) (λ (x : Expr). value_in nets row w true x ≡ bits_of w z)
      (λ is. let both = and_parts wire.signed (nat_le wire.width w) is in
      let within : InWord wire.width true z = subst (λ (b : Bool). InWord wire.width b z) both.0 s.in_word in
      value-Name nets row w true wire.name
      ∙ ap (λ (n : Net). extended (record { width = n.width; signed = true; bits = row wire.name }) w) s.declared
      ∙ ap (λ (b : ℕ). extended (record { width = wire.width; signed = true; bits = b }) w) s.bits
      ∙ long-bits wire.width w z (width-at-least wire.signed wire.width s.word) (leb-true wire.width w both.1) (size-half wire.width z within))
      (λ is. let p = operand-written nets row v wire z (omega (arith, f.0, some)) s in
      value-AsSigned nets row w true e
      ∙ (λ i. extended (record { width = p.length i; signed = true; bits = alone-written nets row v z e p i }) w)
      ∙ least-bits wire z w s.word s.in_word)

  -- so many bits of a net have those of its number in a context without sign
  abbrev Shown : ℕ → Wire → ℤ → ℕ → Type 0
  Shown w wire z v = value_in nets row w false (at_width v wire) ≡ bits_of w z

  plain-value : (w : ℕ) (wire : Wire) (z : ℤ) → 1 ≤ w → Shows nets row wire z → value_in nets row w false (factor false w wire) ≡ bits_of w z
  plain-value w wire z some s = by wire.signed refl where
    cut : Shown w wire z w
    cut = (operand-written nets row w wire z some s).value false

    by_room : wire.signed ≡ false → (room : Bool) → nat_le wire.width w ≡ room → Shown w wire z (min wire.width w)
    by_room plain true is =
        let h : wire.width ≤ w = leb-true wire.width w is in
        let e : wire.width ≡ min wire.width w = omega (arith, h) in
        let word : IsWord wire.width false = subst (λ (b : Bool). IsWord wire.width b) plain s.word in
        let within : InWord wire.width false z = subst (λ (b : Bool). InWord wire.width b z) plain s.in_word in
        subst (Shown w wire z) e
        (ap (value_in nets row w false) (whole-name wire (width-at-least wire.signed wire.width s.word))
        ∙ value-Name nets row w false wire.name ∙ s.bits ∙ plain-bits wire.width w z word within h)
    by_room plain false is =
        let h : w < wire.width = leb-false wire.width w is in
        let e : w ≡ min wire.width w = omega (arith, h) in
        subst (Shown w wire z) e cut

    by : (signed : Bool) → wire.signed ≡ signed → Shown w wire z (if signed then w else min wire.width w)
    by true is = cut
    by false is = by_room is (nat_le wire.width w) refl

  -- a factor in a context of the product's width and sign
  pub factor-value : (signed : Bool) (w : ℕ) (wire : Wire) (z : ℤ) → 1 ≤ w → Shows nets row wire z → value_in nets row w signed (factor signed w wire) ≡ bits_of w z
  factor-value true w wire z some s = signed-value w wire z some s
  factor-value false w wire z some s = plain-value w wire z some s

  -- it has no more bits than the product
  pub factor-length : (signed : Bool) (w : ℕ) (wire : Wire) (z : ℤ) → 1 ≤ w → Shows nets row wire z → own_length nets (factor signed w wire) ≤ w
  factor-length true w wire z some s =
      let v : ℕ = min (signed_width wire) w in
      let e : Expr = at_width (min (signed_width wire) w) wire in
      let f = fits-signed wire.signed wire.width z s.word s.in_word in
      cond_both (wire.signed && nat_le wire.width w) (Name wire.name) (AsSigned e) (λ (x : Expr). own_length nets x ≤ w)
      (λ is. let both = and_parts wire.signed (nat_le wire.width w) is in
      let long : own_length nets (Name wire.name) ≡ wire.width = length-Name nets wire.name ∙ ap (λ (n : Net). n.width) s.declared in
      omega (arith, long, leb-true wire.width w both.1))
      (λ is. let p = operand-written nets row v wire z (omega (arith, f.0, some)) s in
      let long : own_length nets (AsSigned e) ≡ v = length-AsSigned nets e ∙ p.length in
      omega (arith, long))
  factor-length false w wire z some s =
      let low : 1 ≤ wire.width = width-at-least wire.signed wire.width s.word in
      cond_both wire.signed w (min wire.width w) (λ (v : ℕ). own_length nets (at_width v wire) ≤ w)
      (λ is. let long = (operand-written nets row w wire z some s).length in omega (arith, long))
      (λ is. let long = (operand-written nets row (min wire.width w) wire z (omega (arith, low, some)) s).length in omega (arith, long))

  module _ (w : ℕ) (x y : Wire) (declared_x : nets x.name ≡ record { width = x.width; signed = x.signed }) (declared_y : nets y.name ≡ record { width = y.width; signed = y.signed })
      (word_x : IsWord x.width x.signed) (word_y : IsWord y.width y.signed) where
    signed-sign : (wire : Wire) → nets wire.name ≡ record { width = wire.width; signed = wire.signed } → is_signed nets (factor true w wire) ≡ true
    signed-sign wire declared =
        cond_both (wire.signed && nat_le wire.width w) (Name wire.name) (AsSigned (at_width (min (signed_width wire) w) wire)) (λ (e : Expr). is_signed nets e ≡ true)
        (λ is. sign-Name nets wire.name ∙ ap (λ (n : Net). n.signed) declared ∙ (and_parts wire.signed (nat_le wire.width w) is).0)
        (λ is. sign-AsSigned nets (at_width (min (signed_width wire) w) wire))

    plain-sign : (wire : Wire) → wire.signed ≡ false → nets wire.name ≡ record { width = wire.width; signed = wire.signed } → is_signed nets (factor false w wire) ≡ false
    plain-sign wire plain declared = piece-plain nets row 0 (if wire.signed then w else min wire.width w) wire plain declared

    by-sign : (signed : Bool) → product_signed x y ≡ signed → (is_signed nets (factor signed w x) && is_signed nets (factor signed w y)) ≡ signed
    by-sign true is = (let a = signed-sign x declared_x in let b = signed-sign y declared_y in (λ i. a i && b i))
    by-sign false is =
        elim (plain-one x y word_x word_y is) [
          | inl e ↦ ap (λ (b : Bool). b && is_signed nets (factor false w y)) (plain-sign x e declared_x)
          | inr e ↦ and_right (is_signed nets (factor false w x)) (is_signed nets (factor false w y)) (plain-sign y e declared_y)
        ]

    -- a product is signed where its factors are
    pub product-sign : is_signed nets (product w x y) ≡ product_signed x y
    product-sign = sign-Binary nets Multiply (factor (product_signed x y) w x) (factor (product_signed x y) w y) ∙ by-sign (product_signed x y) refl

  -- what the assignment of a product gives
  pub product-assigned : (w : ℕ) (x y : Wire) (a b : ℤ) → 1 ≤ w → Shows nets row x a → Shows nets row y b → assigned nets row w (product w x y) ≡ bits_of w (a *ℤ b)
  product-assigned w x y a b some s t =
      let signed : Bool = product_signed x y in
      let e : Expr = product w x y in
      let one : Expr = factor (product_signed x y) w x in
      let other : Expr = factor (product_signed x y) w y in
      let p = factor-value (product_signed x y) w x a some s in
      let q = factor-value (product_signed x y) w y b some t in
      let l = factor-length (product_signed x y) w x a some s in
      let r = factor-length (product_signed x y) w y b some t in
      let own : own_length nets e ≡ max (own_length nets one) (own_length nets other) = length-Binary nets Multiply one other in
      let long : max w (own_length nets e) ≡ w = omega (arith, own, l, r) in
      let sign : is_signed nets e ≡ signed = product-sign w x y s.declared t.declared s.word t.word in
      (λ i. value_in nets row (long i) (sign i) e % 2 ^ w)
      ∙ ap (λ (n : ℕ). n % 2 ^ w) (value-Binary nets row w signed Multiply one other ∙ (λ i. p i * q i % 2 ^ w) ∙ multiply-bits w a b)
      ∙ bits-mod w (a *ℤ b)

  -- and what that of any operation gives
  module _ (ports : ℕ → Wire) (given : ℕ → ℤ) (a : ℕ → Wire) (z : ℕ → ℤ) (w : ℕ) (some : 1 ≤ w) (most : w ≤ 128) where
    pub op-assigned : (op : NetOp) → ((j : ℕ) → j < arity op → Shows nets row (a j) (z j))
        → ((port : ℕ) → op ≡ operation.Input port → Shows nets row (ports port) (given port))
        → IsWithin op (a 0).width
        → assigned nets row w (expression_of op ports a w) ≡ bits_of w (given_by op given (operands nets row ports given a z w some most))
    op-assigned operation.Multiply known input bounds = product-assigned w (a 0) (a 1) (z 0) (z 1) some (known 0 (omega arith)) (known 1 (omega arith))
    op-assigned op known input bounds =
        assigned-written nets row w (given_by op given (operands nets row ports given a z w some most)) (expression_of op ports a w)
        (op-written nets row ports given a z w some most op known input bounds (λ e. absurd (cc e)))
