-- Operators bit by bit.
use Rattle.std.proofs.Common.{◌≡◌, ℕ, ◌-◌, ◌%◌, ◌^◌, ◌≤◌, max, List, ℤ, pos, negsuc, ◌-ℤ◌, bit_and, bit_or, bit_xor, ap, sym, ◌∙◌, refl, arith}
use Rattle.std.proofs.lemmas.Int.{ints}
use Rattle.std.proofs.lemmas.Nat.{and_mod, or_mod, xor_mod}
use Rattle.vl_ast.specs.declared.expressions.UnOp.TheVariants.{Invert}
use Rattle.vl_ast.specs.declared.expressions.BinOp.TheVariants.{And, Or, Xor}
use Rattle.vl_ast.specs.declared.expressions.Expr.{Expr}
use Rattle.vl_ast.specs.declared.expressions.Expr.TheVariants.{Unary, Binary}
use Rattle.vl_ast.specs.Context.{Net, own_length}
use Rattle.vl_ast.specs.Value.{bits_of}
use Rattle.vl_emit.specs.inner.AtWidth.{IsWritten}
use Rattle.math_num.specs.Bits.{low_bits}
use Rattle.vl_ast.proofs.Forms.{length-Unary, length-Binary, value-Unary, value-Binary}
use Rattle.vl_emit.proofs.AtWidth.{cut-bits}
use Rattle.vl_ast.proofs.SomeInputs.{bits-fit}

pub low-bits : (w : ℕ) (z : ℤ) → low_bits w z ≡ bits_of w z
low-bits w (pos n) = refl
low-bits w (negsuc n) = refl

-- the bits of 128 bits
cut-low : (w : ℕ) (z : ℤ) → w ≤ 128 → low_bits 128 z % 2 ^ w ≡ bits_of w z
cut-low w z h = ap (λ (n : ℕ). n % 2 ^ w) (low-bits 128 z) ∙ cut-bits w 128 z h

-- an operation on the 128 bits of two numbers
abbrev on_bits : (ℕ → ℕ → ℕ) → ℤ → ℤ → ℤ
on_bits f a b = pos (f (low_bits 128 a) (low_bits 128 b))

module _ (f : ℕ → ℕ → ℕ) (by_parts : (a b k : ℕ) → f a b % 2 ^ k ≡ f (a % 2 ^ k) (b % 2 ^ k)) where
  both-bits : (w : ℕ) (a b : ℤ) → w ≤ 128 → f (bits_of w a) (bits_of w b) ≡ bits_of w (on_bits f a b)
  both-bits w a b h =
      let parts : f (low_bits 128 a % 2 ^ w) (low_bits 128 b % 2 ^ w) ≡ f (bits_of w a) (bits_of w b) = (λ i. f (cut-low w a h i) (cut-low w b h i)) in
      sym parts ∙ sym (by_parts (low_bits 128 a) (low_bits 128 b) w)

module _ (nets : List ℕ → Net) (row : List ℕ → ℕ) where
  module _ (w : ℕ) (a b : ℤ) (x y : Expr) (h : w ≤ 128)
      (p : IsWritten nets row w a x) (q : IsWritten nets row w b y) where
    longest : max (own_length nets x) (own_length nets y) ≡ w
    longest = omega (arith, p.length, q.length)

    pub and-written : IsWritten nets row w (on_bits bit_and a b) (Binary And x y)
    and-written = record {
      length = length-Binary nets And x y ∙ longest;
      value = λ signed. value-Binary nets row w signed And x y ∙ (λ i. bit_and (p.value signed i) (q.value signed i))
          ∙ both-bits bit_and and_mod w a b h;
    }

    pub or-written : IsWritten nets row w (on_bits bit_or a b) (Binary Or x y)
    or-written = record {
      length = length-Binary nets Or x y ∙ longest;
      value = λ signed. value-Binary nets row w signed Or x y ∙ (λ i. bit_or (p.value signed i) (q.value signed i))
          ∙ both-bits bit_or or_mod w a b h;
    }

    pub xor-written : IsWritten nets row w (on_bits bit_xor a b) (Binary Xor x y)
    xor-written = record {
      length = length-Binary nets Xor x y ∙ longest;
      value = λ signed. value-Binary nets row w signed Xor x y ∙ (λ i. bit_xor (p.value signed i) (q.value signed i))
          ∙ both-bits bit_xor xor_mod w a b h;
    }

  invert-bits : (w : ℕ) (a : ℤ) → 2 ^ w - 1 - bits_of w a ≡ bits_of w (negsuc 0 -ℤ a)
  invert-bits w (pos n) = (let e : negsuc n ≡ negsuc 0 -ℤ pos n = omega (arith, ints) in ap (bits_of w) e)
  invert-bits w (negsuc n) = (let e : pos n ≡ negsuc 0 -ℤ negsuc n = omega (arith, ints) in
      (let f : 2 ^ w - 1 - (2 ^ w - 1 - n % 2 ^ w) ≡ n % 2 ^ w =
      omega (arith, bits-fit w (pos n)) in f ∙ ap (bits_of w) e))

  pub invert-written : (w : ℕ) (a : ℤ) (x : Expr) → IsWritten nets row w a x → IsWritten nets row w (negsuc 0 -ℤ a) (Unary Invert x)
  invert-written w a x p = record {
    length = length-Unary nets Invert x ∙ p.length;
    value = λ signed. value-Unary nets row w signed Invert x ∙ (λ i. 2 ^ w - 1 - p.value signed i) ∙ invert-bits w a;
  }
