-- Signed words compare as their bits do where the sign bit of both is turned.
use Rattle.std.proofs.Common.{◌≡◌, ◌<◌, ◌≤◌, ◌+◌, ◌-◌, ◌*◌, ◌^◌, ◌⊎◌, inl, inr, ⊎_elim, ℕ, zero, suc, Bool, true, false, if◌then◌else◌, nat_le, nat_lt, bit_xor, ℤ, pos, ◌-ℤ◌, int_lt, ◌<ℤ◌, ◌≤ℤ◌, T}
use Rattle.std.proofs.Common.{refl, sym, ap, subst, ◌∙◌, arith}
use Rattle.std.specs.Int.Bits.{xor_zero_r}
use Rattle.std.proofs.lemmas.Int.{ints}
use Rattle.std.proofs.lemmas.Bool.{cases_lt, lt-ltb, le-ltb, le-leb, lt-leb}
use Rattle.std.proofs.lemmas.Nat.{pow_pos, xor_block}
use Rattle.vl_ast.specs.Value.{Bits, number_of}
use Rattle.math_list.proofs.Tests.{lt-yes}

is-true : (t : Bool) → T t → t ≡ true
is-true true h = refl
is-true false h = absurd h

int-lt-not : (a b : ℤ) → b ≤ℤ a → int_lt a b ≡ false
int-lt-not a b h = by (int_lt a b) refl where
  by : (t : Bool) → int_lt a b ≡ t → int_lt a b ≡ false
  by false e = e
  by true e = let less : a <ℤ b = record { lt = subst T (sym e) tt } in absurd (omega (arith, ints, less, h))

-- the order of numbers is that of the words
same-order : (a b : ℤ) (x y : ℕ) → (x < y → a <ℤ b) → (y ≤ x → b ≤ℤ a) → nat_lt x y ≡ int_lt a b
same-order a b x y under over = ⊎_elim
    (λ less. lt-ltb x y less ∙ sym (lt-yes a b (under less)))
    (λ more. le-ltb x y more ∙ sym (int-lt-not a b (over more)))
    (cases_lt x y)

-- the sign bit turned
turned-low : (k x : ℕ) → x < 2 ^ k → bit_xor x (2 ^ k) ≡ x + 2 ^ k
turned-low k x low =
    let e = xor_block k 0 1 x 0 low (pow_pos k) in
    let l : 0 * 2 ^ k + x ≡ x = omega arith in
    let r : 1 * 2 ^ k + 0 ≡ 2 ^ k = omega arith in
    (λ i. bit_xor (sym l i) (sym r i)) ∙ e ∙ (λ i. bit_xor 0 1 * 2 ^ k + xor_zero_r x i) ∙ omega arith

turned-high : (k x : ℕ) → 2 ^ k ≤ x → x < 2 ^ k + 2 ^ k → bit_xor x (2 ^ k) ≡ x - 2 ^ k
turned-high k x high below =
    let e = xor_block k 1 1 (x - 2 ^ k) 0 (omega arith) (pow_pos k) in
    let l : 1 * 2 ^ k + (x - 2 ^ k) ≡ x = omega arith in
    let r : 1 * 2 ^ k + 0 ≡ 2 ^ k = omega arith in
    (λ i. bit_xor (sym l i) (sym r i)) ∙ e ∙ (λ i. bit_xor 1 1 * 2 ^ k + xor_zero_r (x - 2 ^ k) i) ∙ omega arith

pub double : (w : ℕ) → 1 ≤ w → 2 ^ w ≡ 2 ^ (w - 1) + 2 ^ (w - 1)
double zero some = absurd (omega arith)
double (suc w) some = grind arith

abbrev word : ℕ → Bool → ℕ → Bits
word width signed bits = record { width = width; signed = signed; bits = bits }

signed-number : (width x : ℕ) → (t : Bool) → nat_le (2 ^ (width - 1)) x ≡ t → number_of (word width true x) ≡ (if t then pos x -ℤ pos (2 ^ width) else pos x)
signed-number width x t e = ap (λ t. if t then pos x -ℤ pos (2 ^ width) else pos x) e

wide : (width x y : ℕ) → 1 ≤ width → x < 2 ^ width → y < 2 ^ width
    → nat_lt (bit_xor x (2 ^ (width - 1))) (bit_xor y (2 ^ (width - 1))) ≡ int_lt (number_of (word width true x)) (number_of (word width true y))
wide width x y some fx fy = by (cases_lt x (2 ^ (width - 1))) (cases_lt y (2 ^ (width - 1))) where
  by : (x < 2 ^ (width - 1)) ⊎ (2 ^ (width - 1) ≤ x) → (y < 2 ^ (width - 1)) ⊎ (2 ^ (width - 1) ≤ y)
      → nat_lt (bit_xor x (2 ^ (width - 1))) (bit_xor y (2 ^ (width - 1))) ≡ int_lt (number_of (word width true x)) (number_of (word width true y))
  by (inl lx) (inl ly) =
      let a = signed-number width x false (lt-leb (2 ^ (width - 1)) x lx) in
      let b = signed-number width y false (lt-leb (2 ^ (width - 1)) y ly) in
      (λ i. nat_lt (turned-low (width - 1) x lx i) (turned-low (width - 1) y ly i))
      ∙ same-order (pos x) (pos y) (x + 2 ^ (width - 1)) (y + 2 ^ (width - 1)) (λ less. omega (arith, ints)) (λ more. omega (arith, ints))
      ∙ (λ i. int_lt (sym a i) (sym b i))
  by (inr hx) (inr hy) =
      let d = double width some in
      let a = signed-number width x true (le-leb (2 ^ (width - 1)) x hx) in
      let b = signed-number width y true (le-leb (2 ^ (width - 1)) y hy) in
      (λ i. nat_lt (turned-high (width - 1) x hx (omega (arith, d)) i) (turned-high (width - 1) y hy (omega (arith, d)) i))
      ∙ same-order (pos x -ℤ pos (2 ^ width)) (pos y -ℤ pos (2 ^ width)) (x - 2 ^ (width - 1)) (y - 2 ^ (width - 1)) (λ less. omega (arith, ints)) (λ more. omega (arith, ints))
      ∙ (λ i. int_lt (sym a i) (sym b i))
  by (inl lx) (inr hy) =
      let d = double width some in
      let a = signed-number width x false (lt-leb (2 ^ (width - 1)) x lx) in
      let b = signed-number width y true (le-leb (2 ^ (width - 1)) y hy) in
      (λ i. nat_lt (turned-low (width - 1) x lx i) (turned-high (width - 1) y hy (omega (arith, d)) i))
      ∙ same-order (pos x) (pos y -ℤ pos (2 ^ width)) (x + 2 ^ (width - 1)) (y - 2 ^ (width - 1)) (λ less. absurd (omega (arith, d))) (λ more. omega (arith, ints, d))
      ∙ (λ i. int_lt (sym a i) (sym b i))
  by (inr hx) (inl ly) =
      let d = double width some in
      let a = signed-number width x true (le-leb (2 ^ (width - 1)) x hx) in
      let b = signed-number width y false (lt-leb (2 ^ (width - 1)) y ly) in
      (λ i. nat_lt (turned-high (width - 1) x hx (omega (arith, d)) i) (turned-low (width - 1) y ly i))
      ∙ same-order (pos x -ℤ pos (2 ^ width)) (pos y) (x - 2 ^ (width - 1)) (y + 2 ^ (width - 1)) (λ less. omega (arith, ints, d)) (λ more. absurd (omega (arith, d)))
      ∙ (λ i. int_lt (sym a i) (sym b i))

-- two words of a width, of which a half is the sign bit's weight, or 0 they have no sign
pub order-of-words : (width x y : ℕ) (signed : Bool) → x < 2 ^ width → y < 2 ^ width
    → nat_lt (bit_xor x (if signed then 2 ^ (width - 1) else 0)) (bit_xor y (if signed then 2 ^ (width - 1) else 0))
    ≡ int_lt (number_of (word width signed x)) (number_of (word width signed y))
order-of-words width x y false fx fy =
    (λ i. nat_lt (xor_zero_r x i) (xor_zero_r y i))
    ∙ same-order (pos x) (pos y) x y (λ less. omega (arith, ints)) (λ more. omega (arith, ints))
order-of-words zero x y true fx fy = let a : x ≡ 0 = omega arith in let b : y ≡ 0 = omega arith in rw (a, b) refl
order-of-words (suc w) x y true fx fy = wide (suc w) x y (omega arith) fx fy
