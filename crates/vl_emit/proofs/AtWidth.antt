-- A net that is written at a width has there the bits of its number.
use Rattle.std.proofs.Common.{◌≡◌, ℕ, zero, suc, ◌+◌, ◌-◌, ◌*◌, ◌/◌, ◌%◌, ◌^◌, ◌<◌, ◌≤◌, ◌==◌, nat_le, max, fold, replicate, Bool, true, false, if◌then◌else◌, List, [], ◌∷◌, ℤ, pos, negsuc, ap, sym}
use Rattle.std.proofs.Common.{◌∙◌, subst, refl, arith, pow_pos, pow_mono, mul_assoc}
use Rattle.std.proofs.lemmas.Int.{ints}
use Rattle.std.proofs.lemmas.Nat.{pow-add, shr_high, shr-shr, field_of}
use Rattle.std.proofs.Math.Nat.{mod-eq_of_lt, div-eq_of_lt, add-mul, mul-sub, pow-succ', le-mul_of_pos_right}
use Rattle.std.proofs.lemmas.Bool.{cond_both, eqb-true, leb-true, leb-false}
use Rattle.std.specs.Int.{bit_at}
use Rattle.math_num.specs.Word.{InWord, IsWord, IsCongruent}
use Rattle.math_num.proofs.Arithmetic.{double, IsCongruent-part}
use Rattle.vl_ast.specs.declared.expressions.Expr.{Expr}
use Rattle.vl_ast.specs.declared.expressions.Expr.TheVariants.{Name, Bit, Part, Concat, Repeat}
use Rattle.vl_ast.specs.Context.{Net, own_length, is_signed}
use Rattle.vl_ast.specs.Value.{beside, extended, is_negative, value_in, assigned}
use Rattle.vl_ast.specs.Value.{bits_of}
use Rattle.vl_emit.specs.Names.{Wire}
use Rattle.vl_emit.specs.inner.Pieces.{zeros, fill, inside, piece, at_width}
use Rattle.vl_emit.specs.inner.AtWidth.{IsWritten, Shows}
use Rattle.math_num.specs.Bits.{shifted_down}
use Rattle.vl_ast.proofs.Forms.{sign-Name, sign-Part, sign-Concat, sign-Literal, length-Name, length-Bit, length-Part, length-Literal, length-Concat, length-Repeat, value-Name, value-Bit, value-Part}
use Rattle.vl_ast.proofs.Forms.{value-Literal, value-Concat, value-Repeat}
use Rattle.vl_ast.proofs.SomeInputs.{bits-fit}
use Rattle.vl_emit.proofs.Twos.{bits-congruent, bits-unique, bits-mod}
use Rattle.math_num.proofs.Words.{size-below, size-half, sign_of, size_of}
use Rattle.hw_net.proofs.Words.{only-sign, split-low}

-- no extension at the same width
pub extended-same : (negative : Bool) (bits width : ℕ) → (if negative then bits + (2 ^ width - 2 ^ width) else bits) ≡ bits
extended-same true bits width = omega arith
extended-same false bits width = refl

-- fewer bits: the low ones
pub cut-bits : (w v : ℕ) (z : ℤ) → w ≤ v → bits_of v z % 2 ^ w ≡ bits_of w z
cut-bits w v z h =
    let k : v - w + w ≡ v = omega arith in
    let e : 2 ^ (v - w) * 2 ^ w ≡ 2 ^ v = sym (pow-add 2 (v - w) w) ∙ ap (λ (i : ℕ). 2 ^ i) k in
    bits-unique w (bits_of v z) z (IsCongruent-part (2 ^ (v - w)) (2 ^ w) (subst (λ (m : ℕ). IsCongruent (pos (bits_of v z)) z m) (sym e) (bits-congruent v z)))

-- the bits from a place up, and those below it
pub split-bits : (k v : ℕ) (z : ℤ) → bits_of (k + v) z ≡ bits_of k (shifted_down z v) * 2 ^ v + bits_of v z
split-bits k v (pos n) = split-low k v (pos n)
split-bits k v (negsuc n) = split-low k v (negsuc n)

-- some bits of a number from a place up
pub field-bits : (v low w : ℕ) (z : ℤ) → low + w ≤ v → bits_of v z / 2 ^ low % 2 ^ w ≡ bits_of w (shifted_down z low)
field-bits v low w z h =
    let k : w + low ≤ v = omega arith in
    sym (field_of (bits_of v z) w low) ∙ ap (λ (m : ℕ). m / 2 ^ low) (cut-bits (w + low) v z k ∙ split-bits w low z)
    ∙ shr_high (bits_of w (shifted_down z low)) low (bits_of low z) (bits-fit low z)

pub down-down : (z : ℤ) (a b : ℕ) → shifted_down (shifted_down z a) b ≡ shifted_down z (a + b)
down-down (pos n) a b = ap pos (shr-shr n a b)
down-down (negsuc n) a b = ap negsuc (shr-shr n a b)

pub down-none : (z : ℤ) → shifted_down z 0 ≡ z
down-none (pos n) = ap pos (omega arith)
down-none (negsuc n) = ap negsuc (omega arith)

pub not-negative : (v : ℕ) (z : ℤ) → InWord v false z → sign_of z ≡ pos 0
not-negative v (pos n) r = refl
not-negative v (negsuc n) r = absurd (omega (arith, ints, r.low))

-- the sign bit
abbrev pub sign_bit : ℤ → ℕ
sign_bit (pos n) = 0
sign_bit (negsuc n) = 1

pub top-bit : (v : ℕ) (z : ℤ) → 1 ≤ v → size_of z < 2 ^ (v - 1) → bit_at (bits_of v z) (v - 1) ≡ sign_bit z
top-bit v (pos n) h half =
    let whole : n < 2 ^ v = omega (arith, double v h) in
    rw (mod-eq_of_lt whole) (ap (λ (m : ℕ). m % 2) (div-eq_of_lt half))
top-bit v (negsuc n) h half =
    let whole : n < 2 ^ v = omega (arith, double v h) in
    let split : 2 ^ v - 1 - n ≡ 1 * 2 ^ (v - 1) + (2 ^ (v - 1) - 1 - n) = omega (arith, double v h) in
    let low : 2 ^ (v - 1) - 1 - n < 2 ^ (v - 1) = omega arith in
    rw (mod-eq_of_lt whole, split) (ap (λ (m : ℕ). m % 2) (shr_high 1 (v - 1) (2 ^ (v - 1) - 1 - n) low))

-- copies of one bit side by side
pub copies : (count start bit : ℕ) (signed : Bool) → fold beside start (replicate count (record { width = 1; signed = signed; bits = bit })) ≡ start * 2 ^ count + bit * (2 ^ count - 1)
copies zero start bit signed = omega arith
copies (suc count) start bit signed =
    copies count (start * 2 + bit) bit signed
    ∙ (let a : (start * 2 + bit) * 2 ^ count ≡ start * 2 * 2 ^ count + bit * 2 ^ count = add-mul (start * 2) bit (2 ^ count) in
    let b : start * 2 * 2 ^ count ≡ start * (2 * 2 ^ count) = mul_assoc start 2 (2 ^ count) in
    let c : 2 ^ suc count ≡ 2 * 2 ^ count = pow-succ' 2 count in
    let d : bit * (2 ^ count - 1) ≡ bit * 2 ^ count - bit * 1 = mul-sub bit (2 ^ count) 1 in
    let f : bit * (2 * 2 ^ count - 1) ≡ bit * (2 * 2 ^ count) - bit * 1 = mul-sub bit (2 * 2 ^ count) 1 in
    let g : bit * (2 * 2 ^ count) ≡ 2 * (bit * 2 ^ count) = omega arith in
    let j : bit ≤ bit * 2 ^ count = le-mul_of_pos_right bit (pow_pos count) in
    rw c (omega (arith, a, b, d, f, g, j)))

sign-copies : (count : ℕ) (z : ℤ) → 0 * 2 ^ count + sign_bit z * (2 ^ count - 1) ≡ bits_of count (sign_of z)
sign-copies count (pos n) = let e : 0 % 2 ^ count ≡ 0 = mod-eq_of_lt (pow_pos count) in rw e (omega arith)
sign-copies count (negsuc n) = let e : 0 % 2 ^ count ≡ 0 = mod-eq_of_lt (pow_pos count) in rw e (omega arith)

module _ (nets : List ℕ → Net) (row : List ℕ → ℕ) where
  abbrev Written : ℕ → ℤ → Expr → Type 0
  Written = IsWritten nets row

  pub as-name : (wire : Wire) (z : ℤ) → Shows nets row wire z → Written wire.width z (Name wire.name)
  as-name wire z s = record {
    length = length-Name nets wire.name ∙ ap (λ (n : Net). n.width) s.declared;
    value = λ signed. value-Name nets row wire.width signed wire.name
        ∙ ap (λ (n : Net). extended (record { width = n.width; signed = signed; bits = row wire.name }) wire.width) s.declared
        ∙ extended-same (is_negative (record { width = wire.width; signed = signed; bits = row wire.name })) (row wire.name) wire.width
        ∙ s.bits;
  }

  pub as-part : (low w : ℕ) (wire : Wire) (z : ℤ) → 1 ≤ w → low + w ≤ wire.width → Shows nets row wire z → Written w (shifted_down z low) (Part wire.name (low + w - 1) low)
  as-part low w wire z h k s =
      let e : low + w - 1 + 1 - low ≡ w = omega arith in
      record {
        length = length-Part nets wire.name (low + w - 1) low ∙ e;
        value = λ signed. value-Part nets row w signed wire.name (low + w - 1) low
            ∙ ap (λ (i : ℕ). row wire.name / 2 ^ low % 2 ^ i) e
            ∙ ap (λ (b : ℕ). b / 2 ^ low % 2 ^ w) s.bits ∙ field-bits wire.width low w z k;
      }

  pub zeros-written : (count : ℕ) → Written count (pos 0) (zeros count)
  zeros-written count =
      let e : 0 % 2 ^ count ≡ 0 = mod-eq_of_lt (pow_pos count) in
      record {
        length = length-Literal nets (record { width = count; signed = false; bits = 0 });
        value = λ signed. value-Literal nets row count signed (record { width = count; signed = false; bits = 0 })
            ∙ extended-same (is_negative (record { width = count; signed = signed; bits = 0 })) 0 count ∙ sym e;
      }

  copies-written : (count : ℕ) (wire : Wire) (z : ℤ) → 1 ≤ wire.width → size_of z < 2 ^ (wire.width - 1)
      → Shows nets row wire z → Written count (sign_of z) (Repeat count (Bit wire.name (wire.width - 1)))
  copies-written count wire z h half s =
      let bit : Expr = Bit wire.name (wire.width - 1) in
      let long : own_length nets bit ≡ 1 = length-Bit nets wire.name (wire.width - 1) in
      let top : value_in nets row (own_length nets bit) (is_signed nets bit) bit ≡ sign_bit z =
      value-Bit nets row (own_length nets bit) (is_signed nets bit) wire.name (wire.width - 1)
      ∙ ap (λ (b : ℕ). bit_at b (wire.width - 1)) s.bits ∙ top-bit wire.width z h half in
      record {
        length = length-Repeat nets count bit ∙ ap (λ (i : ℕ). count * i) long ∙ omega arith;
        value = λ signed. value-Repeat nets row count signed count bit
            ∙ (λ i. fold beside 0 (replicate count (record { width = long i; signed = is_signed nets bit; bits = top i })))
            ∙ copies count 0 (sign_bit z) (is_signed nets bit) ∙ sign-copies count z;
      }

  fill-by : (signed : Bool) (count : ℕ) (wire : Wire) (z : ℤ) → wire.signed ≡ signed → Shows nets row wire z
      → Written count (sign_of z) (if signed then Repeat count (Bit wire.name (wire.width - 1)) else zeros count)
  fill-by true count wire z is s =
      let word : IsWord wire.width true = subst (λ (b : Bool). IsWord wire.width b) is s.word in
      let within : InWord wire.width true z = subst (λ (b : Bool). InWord wire.width b z) is s.in_word in
      copies-written count wire z (omega (arith, word.0)) (size-half wire.width z within) s
  fill-by false count wire z is s =
      let within : InWord wire.width false z = subst (λ (b : Bool). InWord wire.width b z) is s.in_word in
      subst (λ (y : ℤ). Written count y (zeros count)) (sym (not-negative wire.width z within)) (zeros-written count)

  pub fill-written : (count : ℕ) (wire : Wire) (z : ℤ) → Shows nets row wire z → Written count (sign_of z) (fill wire count)
  fill-written count wire z s = fill-by wire.signed count wire z refl s

  -- what is written at a width has its bits there where it stands alone
  pub alone-written : (w : ℕ) (z : ℤ) (e : Expr) → Written w z e → value_in nets row (own_length nets e) (is_signed nets e) e ≡ bits_of w z
  alone-written w z e s = ap (λ (n : ℕ). value_in nets row n (is_signed nets e) e) s.length ∙ s.value (is_signed nets e)

  -- two expressions side by side
  pub beside-written : (k v : ℕ) (z : ℤ) (left right : Expr) → Written k (shifted_down z v) left → Written v z right → Written (k + v) z (Concat (left ∷ right ∷ []))
  beside-written k v z left right l r =
      let a = alone-written k (shifted_down z v) left l in
      let b = alone-written v z right r in
      record {
        length = length-Concat nets (left ∷ right ∷ []) ∙ omega (arith, l.length, r.length);
        value = λ signed. value-Concat nets row (k + v) signed left right
            ∙ (λ i. (0 * 2 ^ (l.length i) + a i) * 2 ^ (r.length i) + b i)
            ∙ ap (λ (n : ℕ). n * 2 ^ v + bits_of v z) (omega arith) ∙ sym (split-bits k v z);
      }

  inside-by : (whole : Bool) (low w : ℕ) (wire : Wire) (z : ℤ) → (w == wire.width) ≡ whole → 1 ≤ w → low + w ≤ wire.width → Shows nets row wire z
      → Written w (shifted_down z low) (if whole then Name wire.name else Part wire.name (low + w - 1) low)
  inside-by true low w wire z is h k s =
      let e : w ≡ wire.width = eqb-true w wire.width is in
      let none : low ≡ 0 = omega arith in
      rw (e, none, down-none z) (as-name wire z s)
  inside-by false low w wire z is h k s = as-part low w wire z h k s

  pub inside-written : (low w : ℕ) (wire : Wire) (z : ℤ) → 1 ≤ w → low + w ≤ wire.width → Shows nets row wire z → Written w (shifted_down z low) (inside wire low w)
  inside-written low w wire z h k s = inside-by (w == wire.width) low w wire z refl h k s

  piece-by : (past within : Bool) (low w : ℕ) (wire : Wire) (z : ℤ) → nat_le wire.width low ≡ past → nat_le (low + w) wire.width ≡ within → 1 ≤ w → Shows nets row wire z
      → Written w (shifted_down z low) (if past then fill wire w
      else (if within then inside wire low w else Concat (fill wire (low + w - wire.width) ∷ inside wire low (wire.width - low) ∷ [])))
  piece-by true within low w wire z is_past is_within h s =
      let far : wire.width ≤ low = leb-true wire.width low is_past in
      let small = size-below wire.width wire.signed z s.word s.in_word in
      let p : 2 ^ wire.width ≤ 2 ^ low = pow_mono far in
      let below : size_of z < 2 ^ low = omega arith in
      subst (λ (y : ℤ). Written w y (fill wire w)) (sym (only-sign z low below)) (fill-written w wire z s)
  piece-by false true low w wire z is_past is_within h s =
      inside-written low w wire z h (leb-true (low + w) wire.width is_within) s
  piece-by false false low w wire z is_past is_within h s =
      let near : low < wire.width = leb-false wire.width low is_past in
      let beyond : wire.width < low + w = leb-false (low + w) wire.width is_within in
      let high : ℕ = low + w - wire.width in
      let kept : ℕ = wire.width - low in
      let all : high + kept ≡ w = omega arith in
      let up : low + kept ≡ wire.width = omega arith in
      let sign : shifted_down (shifted_down z low) kept ≡ sign_of z =
      down-down z low kept ∙ ap (shifted_down z) up ∙ only-sign z wire.width (size-below wire.width wire.signed z s.word s.in_word) in
      subst (λ (n : ℕ). Written n (shifted_down z low) (Concat (fill wire high ∷ inside wire low kept ∷ []))) all
      (beside-written high kept (shifted_down z low) (fill wire high) (inside wire low kept)
      (subst (λ (y : ℤ). Written high y (fill wire high)) (sym sign) (fill-written high wire z s))
      (inside-written low kept wire z (omega arith) (omega arith) s))

  -- any bits of a net from a place up
  pub piece-written : (low w : ℕ) (wire : Wire) (z : ℤ) → 1 ≤ w → Shows nets row wire z → Written w (shifted_down z low) (piece wire low w)
  piece-written low w wire z h s = piece-by (nat_le wire.width low) (nat_le (low + w) wire.width) low w wire z refl refl h s

  -- a net written at a width
  pub operand-written : (w : ℕ) (wire : Wire) (z : ℤ) → 1 ≤ w → Shows nets row wire z → Written w z (at_width w wire)
  operand-written w wire z h s = subst (λ (y : ℤ). Written w y (at_width w wire)) (down-none z) (piece-written 0 w wire z h s)

  -- what an assignment to a net of this width gives
  pub assigned-written : (w : ℕ) (z : ℤ) (e : Expr) → Written w z e → assigned nets row w e ≡ bits_of w z
  assigned-written w z e s =
      let long : max w (own_length nets e) ≡ w = omega (arith, s.length) in
      ap (λ (n : ℕ). value_in nets row n (is_signed nets e) e % 2 ^ w) long
      ∙ ap (λ (b : ℕ). b % 2 ^ w) (s.value (is_signed nets e)) ∙ bits-mod w z

  -- what is written of a net without sign is without sign
  pub piece-plain : (low w : ℕ) (wire : Wire) → wire.signed ≡ false → nets wire.name ≡ record { width = wire.width; signed = wire.signed } → is_signed nets (piece wire low w) ≡ false
  piece-plain low w wire plain declared =
      cond_both (nat_le wire.width low) (fill wire w)
      (if nat_le (low + w) wire.width then inside wire low w else Concat (fill wire (low + w - wire.width) ∷ inside wire low (wire.width - low) ∷ []))
      (λ (e : Expr). is_signed nets e ≡ false)
      (λ is. ap (λ (b : Bool). is_signed nets (if b then Repeat w (Bit wire.name (wire.width - 1)) else zeros w)) plain ∙ sign-Literal nets (record { width = w; signed = false; bits = 0 }))
      (λ near. cond_both (nat_le (low + w) wire.width) (inside wire low w) (Concat (fill wire (low + w - wire.width) ∷ inside wire low (wire.width - low) ∷ []))
      (λ (e : Expr). is_signed nets e ≡ false)
      (λ is. cond_both (w == wire.width) (Name wire.name) (Part wire.name (low + w - 1) low) (λ (e : Expr). is_signed nets e ≡ false)
      (λ whole. sign-Name nets wire.name ∙ ap (λ (n : Net). n.signed) declared ∙ plain)
      (λ some. sign-Part nets wire.name (low + w - 1) low))
      (λ far. sign-Concat nets (fill wire (low + w - wire.width) ∷ inside wire low (wire.width - low) ∷ [])))
