-- Words of 128 bits: what wraps, is masked, shifted and set side by side.
use Rattle.std.proofs.Common.{◌≡◌, ◌<◌, ◌≤◌, ◌+◌, ◌-◌, ◌*◌, ◌/◌, ◌%◌, ◌^◌, inl, inr, ◌⊎◌, ⊎_elim, min, ℕ, zero, suc, Bool, true, false, not, ◌&&◌, if◌then◌else◌, nat_le, nat_lt, bit_and, zero-add}
use Rattle.std.proofs.Common.{refl, sym, ap, subst, ◌∙◌, arith}
use Rattle.std.proofs.lemmas.Bool.{cases_lt, leb-true, leb-false, ltb-true, ltb-false}
use Rattle.std.proofs.lemmas.Nat.{pow_pos, pow-add, and_mask}
use Rattle.std.proofs.Math.Nat.{mod-eq_of_lt, mul-le-mul_right, div-le_self, div-eq_of_lt, add-mul-mod_self_right}
use Rattle.std.proofs.Math.Pow.{pow_mono, mod-mod-pow}
use Rattle.vl_ast.specs.declared.expressions.UnOp.{UnOp}
use Rattle.vl_ast.specs.declared.expressions.UnOp.TheVariants.{Negate as NegateOf, Invert as InvertOf, IsZero as IsZeroOf}
use Rattle.vl_ast.specs.declared.expressions.BinOp.{BinOp}
use Rattle.vl_ast.specs.declared.expressions.BinOp.TheVariants.{Add as AddOf, Subtract as SubtractOf, Multiply as MultiplyOf, And as AndOf, Or as OrOf, Xor as XorOf, Equal as EqualOf}
use Rattle.vl_ast.specs.declared.expressions.BinOp.TheVariants.{NotEqual as NotEqualOf, Less as LessOf, LessEqual as LessEqualOf, Greater as GreaterOf, GreaterEqual as GreaterEqualOf, Both as BothOf}
use Rattle.vl_ast.specs.declared.expressions.BinOp.TheVariants.{Either as EitherOf}
use Rattle.vl_ast.specs.declared.expressions.ShiftOp.{ShiftOp}
use Rattle.vl_ast.specs.declared.expressions.ShiftOp.TheVariants.{Left, Right, RightSigned}
use Rattle.vl_ast.specs.Context.{InWhole, Together, Alone, unary_place, binary_place}
use Rattle.vl_ast.specs.Value.{Bits, extended, truth, unary_bits, binary_bits, shift_bits}
use Rattle.vl_eval.specs.declared.ops.Op.TheVariants.{Constant, One}
use Rattle.vl_eval.specs.declared.ops.OneOp.TheVariants.{Select, Up, SignedDown}
use Rattle.vl_eval.specs.inner.Ops.{op_value, reads_below}
use Rattle.vl_eval.specs.inner.OperatorSteps.{unary_op, binary_op, down, shift_op}
use Rattle.vl_eval.proofs.Bias.{double, order-of-words}

pub mod-twice : (n w : ℕ) → w ≤ 128 → n % 2 ^ 128 % 2 ^ w ≡ n % 2 ^ w
mod-twice n w le = let e : 128 ≡ 128 - w + w = omega arith in ap (λ k. n % 2 ^ k % 2 ^ w) e ∙ mod-mod-pow n (128 - w) w

-- a sum or a product whose mask is that of the context
pub masked : (n w : ℕ) → w ≤ 128 → bit_and (n % 2 ^ 128) (2 ^ w - 1) ≡ n % 2 ^ w
masked n w le = and_mask (n % 2 ^ 128) w ∙ mod-twice n w le

pub extension : (b : Bits) (to : ℕ) → b.signed ≡ true → b.bits < 2 ^ b.width → b.width ≤ to → to ≤ 128
    → (if nat_le (2 ^ (b.width - 1)) b.bits then (b.bits + (2 ^ to - 2 ^ b.width)) % 2 ^ 128 else b.bits) ≡ extended b to
extension b to s fits le most = by (nat_le (2 ^ (b.width - 1)) b.bits) ∙ ap (λ t. if t && nat_le (2 ^ (b.width - 1)) b.bits then b.bits + (2 ^ to - 2 ^ b.width) else b.bits) (sym s) where
  by : (t : Bool) → (if t then (b.bits + (2 ^ to - 2 ^ b.width)) % 2 ^ 128 else b.bits) ≡ (if t then b.bits + (2 ^ to - 2 ^ b.width) else b.bits)
  by true = let p = pow_mono le in let q = pow_mono most in mod-eq_of_lt (omega (arith, p, q))
  by false = refl

pub unextended : (b : Bits) (to : ℕ) → b.signed ≡ false → extended b to ≡ b.bits
unextended b to s = rw s refl

pub put-beside : (l r lw rw' : ℕ) → l < 2 ^ lw → r < 2 ^ rw' → lw + rw' ≤ 128 → (l * 2 ^ rw' % 2 ^ 128 + r) % 2 ^ 128 ≡ l * 2 ^ rw' + r
put-beside l r lw rw' lf rf most =
    let p : (l + 1) * 2 ^ rw' ≤ 2 ^ lw * 2 ^ rw' = mul-le-mul_right (2 ^ rw') (omega arith) in
    let q : l * 2 ^ rw' + 2 ^ rw' ≡ (l + 1) * 2 ^ rw' = add-scaled l (2 ^ rw') in
    let e = pow-add 2 lw rw' in
    let m = pow_mono most in
    let small : l * 2 ^ rw' < 2 ^ 128 = let z = pow_pos rw' in omega (arith, p, q, e, m, z) in
    let whole : l * 2 ^ rw' + r < 2 ^ 128 = omega (arith, p, q, e, m) in
    ap (λ x. (x + r) % 2 ^ 128) (mod-eq_of_lt small) ∙ mod-eq_of_lt whole
  where
    add-scaled : (a s : ℕ) → a * s + s ≡ (a + 1) * s
    add-scaled a s = grind arith

-- a difference that doesn't wrap
pub wrapped-down : (a b : ℕ) → b ≤ a → a < 2 ^ 128 → (a + (2 ^ 128 - b)) % 2 ^ 128 ≡ a - b
wrapped-down a b le low =
    let e : a + (2 ^ 128 - b) ≡ (a - b) + 1 * 2 ^ 128 = omega arith in
    ap (λ n. n % 2 ^ 128) e ∙ add-mul-mod_self_right (a - b) 1 (2 ^ 128) ∙ mod-eq_of_lt (omega arith)

-- and one of which the bits of a context are kept
pub masked-down : (a b w : ℕ) → b < 2 ^ w → w ≤ 128 → bit_and ((a + (2 ^ 128 - b)) % 2 ^ 128) (2 ^ w - 1) ≡ (a + (2 ^ w - b)) % 2 ^ w
masked-down a b w low le =
    let cut : 2 ^ 128 ≡ 2 ^ (128 - w) * 2 ^ w = (let s : 128 ≡ 128 - w + w = omega arith in ap (λ k. 2 ^ k) s ∙ pow-add 2 (128 - w) w) in
    let some = pow_pos (128 - w) in
    let more : 2 ^ (128 - w) * 2 ^ w ≡ (2 ^ (128 - w) - 1) * 2 ^ w + 2 ^ w = one-less (2 ^ (128 - w)) (2 ^ w) some in
    let e : a + (2 ^ 128 - b) ≡ (a + (2 ^ w - b)) + (2 ^ (128 - w) - 1) * 2 ^ w = omega (arith, cut, more, low) in
    masked (a + (2 ^ 128 - b)) w le ∙ ap (λ n. n % 2 ^ w) e ∙ add-mul-mod_self_right (a + (2 ^ w - b)) (2 ^ (128 - w) - 1) (2 ^ w)
  where
    one-less : (n m : ℕ) → 0 < n → n * m ≡ (n - 1) * m + m
    one-less zero m some = absurd (omega arith)
    one-less (suc n) m some = grind arith

abbrev word : ℕ → Bool → ℕ → Bits
word width signed bits = record { width = width; signed = signed; bits = bits }

-- one operand
pub unary-gives : (of : UnOp) (a width inner : ℕ) (sign : Bool) (values : ℕ → ℕ) → width ≤ 128 → (unary_place of ≡ InWhole → inner ≡ width) → values a < 2 ^ inner
    → op_value (unary_op of a (2 ^ width - 1)) values ≡ unary_bits of width (word inner sign (values a))
unary-gives NegateOf a width inner sign values most same low =
    masked-down 0 (values a) width (subst (λ w. values a < 2 ^ w) (same refl) low) most ∙ ap (λ n. n % 2 ^ width) (zero-add (2 ^ width - values a))
unary-gives InvertOf a width inner sign values most same low =
    let low' : values a < 2 ^ width = subst (λ w. values a < 2 ^ w) (same refl) low in
    let p = pow_mono most in
    wrapped-down (2 ^ width - 1) (values a) (omega (arith, low')) (omega (arith, p, low'))
unary-gives IsZeroOf a width inner sign values most same low = refl

-- two operands in the context of the whole
pub whole-gives : (of : BinOp) → binary_place of ≡ InWhole → (a b width half : ℕ) (signed : Bool) (values : ℕ → ℕ) → width ≤ 128 → values a < 2 ^ width → values b < 2 ^ width
    → op_value (binary_op of a b (2 ^ width - 1) half) values ≡ binary_bits of width (word width signed (values a)) (word width signed (values b))
whole-gives AddOf e a b width half signed values most la lb = masked (values a + values b) width most
whole-gives SubtractOf e a b width half signed values most la lb = masked-down (values a) (values b) width lb most
whole-gives MultiplyOf e a b width half signed values most la lb = masked (values a * values b) width most
whole-gives AndOf e a b width half signed values most la lb = refl
whole-gives OrOf e a b width half signed values most la lb = refl
whole-gives XorOf e a b width half signed values most la lb = refl
whole-gives _ e a b width half signed values most la lb = absurd (cc e)

-- in a context of their own
pub together-gives : (of : BinOp) → binary_place of ≡ Together → (a b width mask inner : ℕ) (sign : Bool) (values : ℕ → ℕ) → values a < 2 ^ inner → values b < 2 ^ inner
    → op_value (binary_op of a b mask (if sign then 2 ^ (inner - 1) else 0)) values ≡ binary_bits of width (word inner sign (values a)) (word inner sign (values b))
together-gives EqualOf e a b width mask inner sign values la lb = refl
together-gives NotEqualOf e a b width mask inner sign values la lb = refl
together-gives LessOf e a b width mask inner sign values la lb = ap truth (order-of-words inner (values a) (values b) sign la lb)
together-gives LessEqualOf e a b width mask inner sign values la lb = ap (λ t. truth (not t)) (order-of-words inner (values b) (values a) sign lb la)
together-gives GreaterOf e a b width mask inner sign values la lb = ap truth (order-of-words inner (values b) (values a) sign lb la)
together-gives GreaterEqualOf e a b width mask inner sign values la lb = ap (λ t. truth (not t)) (order-of-words inner (values a) (values b) sign la lb)
together-gives _ e a b width mask inner sign values la lb = absurd (cc e)

-- each alone
pub alone-gives : (of : BinOp) → binary_place of ≡ Alone → (a b width mask half lw rw' : ℕ) (ls rs : Bool) (values : ℕ → ℕ)
    → op_value (binary_op of a b mask half) values ≡ binary_bits of width (word lw ls (values a)) (word rw' rs (values b))
alone-gives BothOf e a b width mask half lw rw' ls rs values = refl
alone-gives EitherOf e a b width mask half lw rw' ls rs values = refl
alone-gives _ e a b width mask half lw rw' ls rs values = absurd (cc e)

-- a select
pub select-gives : (x low width : ℕ) → bit_and (x / 2 ^ low) (2 ^ width - 1) ≡ x / 2 ^ low % 2 ^ width
select-gives x low width = and_mask (x / 2 ^ low) width

-- bits in a context without sign, or in one that isn't longer
pub as-it-is : (from to : ℕ) (signed : Bool) (x : ℕ) → (signed ≡ true → from ≡ to) → extended (word from signed x) to ≡ x
as-it-is from to false x same = refl
as-it-is from to true x same = by (nat_le (2 ^ (from - 1)) x) where
  by : (t : Bool) → (if t then x + (2 ^ to - 2 ^ from) else x) ≡ x
  by true = let e = ap (λ k. 2 ^ k) (same refl) in omega (arith, e)
  by false = refl

-- shifts by any number
down-gives : (x n w : ℕ) (values : ℕ → ℕ) (a : ℕ) → x ≡ values a → x < 2 ^ w → op_value (down a n w) values ≡ x / 2 ^ n
down-gives x n w values a is low = by (nat_lt n w) refl where
  kept : bit_and (values a / 2 ^ n) (2 ^ w - 1) ≡ x / 2 ^ n
  kept = and_mask (values a / 2 ^ n) w ∙ ap (λ y. y / 2 ^ n % 2 ^ w) (sym is) ∙ mod-eq_of_lt (let d = div-le_self x (2 ^ n) in omega (arith, d, low))

  none : w ≤ n → 0 ≡ x / 2 ^ n
  none le = sym (div-eq_of_lt (let p = pow_mono le in omega (arith, p, low)))

  by : (t : Bool) → nat_lt n w ≡ t → op_value (if t then One (Select n (2 ^ w - 1)) a else Constant 0) values ≡ x / 2 ^ n
  by true e = kept
  by false e = none (ltb-false n w e)

up-gives : (x n w : ℕ) (values : ℕ → ℕ) (a : ℕ) → x ≡ values a → w ≤ 128 → op_value (if nat_lt n w then One (Up n (2 ^ w - 1)) a else Constant 0) values ≡ x * 2 ^ n % 2 ^ w
up-gives x n w values a is most = by (nat_lt n w) refl where
  none : w ≤ n → 0 ≡ x * 2 ^ n % 2 ^ w
  none le =
      let cut : 2 ^ n ≡ 2 ^ (n - w) * 2 ^ w = (let s : n ≡ n - w + w = omega arith in ap (λ k. 2 ^ k) s ∙ pow-add 2 (n - w) w) in
      let whole : x * 2 ^ n ≡ 0 + x * 2 ^ (n - w) * 2 ^ w = ap (λ k. x * k) cut ∙ regroup x (2 ^ (n - w)) (2 ^ w) in
      let p = pow_pos w in
      sym (ap (λ k. k % 2 ^ w) whole ∙ add-mul-mod_self_right 0 (x * 2 ^ (n - w)) (2 ^ w) ∙ mod-eq_of_lt p)
    where
      regroup : (a b c : ℕ) → a * (b * c) ≡ 0 + a * b * c
      regroup a b c = grind arith

  by : (t : Bool) → nat_lt n w ≡ t → op_value (if t then One (Up n (2 ^ w - 1)) a else Constant 0) values ≡ x * 2 ^ n % 2 ^ w
  by true e = masked (values a * 2 ^ n) w most ∙ ap (λ y. y * 2 ^ n % 2 ^ w) (sym is)
  by false e = none (ltb-false n w e)

-- a word of so few bits has the same quotient by any power that is no smaller
same-quotient : (y n w : ℕ) → (n ≤ w - 1) ⊎ ((w - 1 < n) × (y < 2 ^ (w - 1))) → y / 2 ^ min n (w - 1) ≡ y / 2 ^ n
same-quotient y n w (inl le) = let e : min n (w - 1) ≡ n = omega arith in ap (λ k. y / 2 ^ k) e
same-quotient y n w (inr (more, low)) =
    let e : min n (w - 1) ≡ w - 1 = omega arith in
    let le : w - 1 ≤ n = omega arith in
    let p = pow_mono le in
    ap (λ k. y / 2 ^ k) e ∙ div-eq_of_lt low ∙ sym (div-eq_of_lt (omega (arith, p, low)))

signed-down-gives : (n w a : ℕ) (values : ℕ → ℕ) → w ≤ 128 → values a < 2 ^ w
    → op_value (One (SignedDown (min n (w - 1)) (2 ^ (w - 1)) (2 ^ w - 1)) a) values
    ≡ shift_bits RightSigned (word w true (values a)) n
signed-down-gives n w a values most low = by (nat_le (2 ^ (w - 1)) (values a)) refl where
  below-mask : 2 ^ w - 1 < 2 ^ 128
  below-mask = let p = pow_mono most in let q = pow_pos w in omega (arith, p, q)

  high : 2 ^ (w - 1) ≤ values a → 2 ^ w - 1 - values a < 2 ^ (w - 1)
  high le = by-width w low le where
    by-width : (w : ℕ) → values a < 2 ^ w → 2 ^ (w - 1) ≤ values a → 2 ^ w - 1 - values a < 2 ^ (w - 1)
    by-width zero low le = omega (arith, low, le)
    by-width (suc w) low le = let d = double (suc w) (omega arith) in omega (arith, d, low, le)

  cases : (y : ℕ) → y < 2 ^ (w - 1) → (n ≤ w - 1) ⊎ ((w - 1 < n) × (y < 2 ^ (w - 1)))
  cases y small = ⊎_elim (λ more. inr (more, small)) (λ le. inl le) (cases_lt (w - 1) n)

  by : (t : Bool) → nat_le (2 ^ (w - 1)) (values a) ≡ t
      → (if t then ((2 ^ w - 1) + (2 ^ 128 - ((2 ^ w - 1) + (2 ^ 128 - values a)) % 2 ^ 128 / 2 ^ min n (w - 1))) % 2 ^ 128 else values a / 2 ^ min n (w - 1))
      ≡ (if t then 2 ^ w - 1 - (2 ^ w - 1 - values a) / 2 ^ n else values a / 2 ^ n)
  by true e =
      let le = leb-true (2 ^ (w - 1)) (values a) e in
      let inner = wrapped-down (2 ^ w - 1) (values a) (omega (arith, low)) below-mask in
      let q = div-le_self (2 ^ w - 1 - values a) (2 ^ min n (w - 1)) in
      ap (λ y. ((2 ^ w - 1) + (2 ^ 128 - y / 2 ^ min n (w - 1))) % 2 ^ 128) inner
      ∙ wrapped-down (2 ^ w - 1) ((2 ^ w - 1 - values a) / 2 ^ min n (w - 1)) (omega (arith, q)) below-mask
      ∙ ap (λ y. 2 ^ w - 1 - y) (same-quotient (2 ^ w - 1 - values a) n w (cases (2 ^ w - 1 - values a) (high le)))
  by false e = same-quotient (values a) n w (cases (values a) (leb-false (2 ^ (w - 1)) (values a) e))

pub shift-gives : (of : ShiftOp) (a n w : ℕ) (signed : Bool) (values : ℕ → ℕ) → w ≤ 128 → values a < 2 ^ w → op_value (shift_op of a n w signed) values ≡ shift_bits of (word w signed (values a)) n
shift-gives Left a n w signed values most low = up-gives (values a) n w values a refl most
shift-gives Right a n w signed values most low = down-gives (values a) n w values a refl low
shift-gives RightSigned a n w true values most low = signed-down-gives n w a values most low
shift-gives RightSigned a n w false values most low = down-gives (values a) n w values a refl low

down-reads : (a n w end : ℕ) → a < end → w ≤ 128 → reads_below (down a n w) end
down-reads a n w end below most = by (nat_lt n w) refl where
  by : (t : Bool) → nat_lt n w ≡ t → reads_below (if t then One (Select n (2 ^ w - 1)) a else Constant 0) end
  by true e = let l = ltb-true n w e in (below, omega (arith, l, most))
  by false e = tt

up-reads : (a n w end : ℕ) → a < end → w ≤ 128 → reads_below (if nat_lt n w then One (Up n (2 ^ w - 1)) a else Constant 0) end
up-reads a n w end below most = by (nat_lt n w) refl where
  by : (t : Bool) → nat_lt n w ≡ t → reads_below (if t then One (Up n (2 ^ w - 1)) a else Constant 0) end
  by true e = let l = ltb-true n w e in (below, omega (arith, l, most))
  by false e = tt

pub shift-reads : (of : ShiftOp) (a n w : ℕ) (signed : Bool) (end : ℕ) → a < end → w ≤ 128 → reads_below (shift_op of a n w signed) end
shift-reads Left a n w signed end below most = up-reads a n w end below most
shift-reads Right a n w signed end below most = down-reads a n w end below most
shift-reads RightSigned a n w true end below most = (below, omega arith)
shift-reads RightSigned a n w false end below most = down-reads a n w end below most
