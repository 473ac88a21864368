-- The nets of the control of an enabled subsystem: whether some element is above 0.
use Rattle.std.proofs.Common.{◌≡◌, ℕ, Bool, true, false, cond, ℤ, pos, [], ◌∷◌, ap, ◌∙◌, subst, refl, arith}
use Rattle.std.specs.Prelude.{◌||◌, int_lt, bit_or}
use Rattle.std.proofs.lemmas.Int.{ints}
use Rattle.math_num.specs.Word.{InWord, IsWrapped}
use Rattle.dg_model.specs.Operation.{stored_truth}
use Rattle.hw_net.specs.declared.netlist.Net.{Net}
use Rattle.hw_net.specs.declared.netlist.NetKind.TheVariants.{Comb}
use Rattle.hw_net.specs.declared.netlist.NetOp.TheVariants.{Less, Or}
use Rattle.hw_net.specs.Circuit.{Circuit}
use Rattle.math_num.specs.Bits.{low_bits}
use Rattle.hw_net.specs.Registers.{Wave}
use Rattle.hw_shows.specs.Series.{AreSame, steady}
use Rattle.hw_build.specs.inner.Controls.{Tells}
use Rattle.hw_build.specs.inner.Growth.{InLater}
use Rattle.hw_build.proofs.Nets.{IsSettled, combined}
use Rattle.math_num.proofs.Words.{wrapped-is}

-- a truth in a word of one bit
pub in_bit : (b : Bool) → InWord 1 false (stored_truth b)
in_bit true = record { low = omega (arith, ints); high = omega (arith, ints) }
in_bit false = record { low = omega (arith, ints); high = omega (arith, ints) }

bit_is : (b : Bool) (v r : ℤ) → v ≡ stored_truth b → IsWrapped v 1 false r → r ≡ stored_truth b
bit_is b v r is wrapped = wrapped-is (stored_truth b) 1 false r (omega arith, omega arith) (in_bit b) (subst (λ (x : ℤ). IsWrapped x 1 false r) is wrapped)

or_is : (a b : Bool) → pos (bit_or (low_bits 128 (stored_truth a)) (low_bits 128 (stored_truth b))) ≡ stored_truth (a || b)
or_is true true = refl
or_is true false = refl
or_is false true = refl
or_is false false = refl

module _ (closed hubs : ℕ) (now : Circuit) where
  -- whether a net is above a constant 0
  pub above_shows : (number zero_at operand : ℕ) (net : Net) → IsSettled closed hubs now number net → net.width ≡ 1
      → net.signed ≡ false → net.kind ≡ Comb Less (zero_at ∷ operand ∷ [])
      → InLater closed hubs now (λ n rows. AreSame n (rows zero_at) (steady (pos 0)))
      → InLater closed hubs now (λ n rows. Tells n (λ c. int_lt (pos 0) (rows operand c)) (rows number))
  above_shows number zero_at operand net is wide sign kind zeros = record {
    holds = λ later goes n inputs rows are. record {
      at = λ c below.
          let wrapped = combined closed hubs now number net Less (zero_at ∷ operand ∷ []) is kind later goes n inputs rows are c below in
          let none : rows zero_at c ≡ pos 0 = (zeros.holds later goes n inputs rows are).at c below in
          bit_is (int_lt (pos 0) (rows operand c)) (cond (int_lt (rows zero_at c) (rows operand c)) (pos 1) (pos 0))
          (rows number c) (ap (λ (z : ℤ). cond (int_lt z (rows operand c)) (pos 1) (pos 0)) none)
          (subst (λ (w : ℕ). IsWrapped (cond (int_lt (rows zero_at c) (rows operand c)) (pos 1) (pos 0)) w false (rows number c)) wide
          (subst (λ (s : Bool). IsWrapped (cond (int_lt (rows zero_at c) (rows operand c)) (pos 1) (pos 0)) net.width s (rows number c)) sign wrapped));
    };
  }

  -- whether one of two truths holds
  pub either_shows : (number one other : ℕ) (net : Net) (first second : (ℕ → Wave) → ℕ → Bool)
      → IsSettled closed hubs now number net → net.width ≡ 1 → net.signed ≡ false
      → net.kind ≡ Comb Or (one ∷ other ∷ [])
      → InLater closed hubs now (λ n rows. Tells n (first rows) (rows one))
      → InLater closed hubs now (λ n rows. Tells n (second rows) (rows other)) → InLater closed hubs now (λ n rows. Tells n (λ c. first rows c || second rows c) (rows number))
  either_shows number one other net first second is wide sign kind tells tells_too = record {
    holds = λ later goes n inputs rows are. record {
      at = λ c below.
          let wrapped = combined closed hubs now number net Or (one ∷ other ∷ []) is kind later goes n inputs rows are c below in
          let a : rows one c ≡ stored_truth (first rows c) = (tells.holds later goes n inputs rows are).at c below in
          let b : rows other c ≡ stored_truth (second rows c) = (tells_too.holds later goes n inputs rows are).at c below in
          bit_is (first rows c || second rows c) (pos (bit_or (low_bits 128 (rows one c)) (low_bits 128 (rows other c)))) (rows number c)
          (ap (λ (z : ℤ). pos (bit_or (low_bits 128 z) (low_bits 128 (rows other c)))) a
          ∙ ap (λ (z : ℤ). pos (bit_or (low_bits 128 (stored_truth (first rows c))) (low_bits 128 z))) b
          ∙ or_is (first rows c) (second rows c))
          (subst (λ (w : ℕ). IsWrapped (pos (bit_or (low_bits 128 (rows one c)) (low_bits 128 (rows other c)))) w false (rows number c)) wide
          (subst (λ (s : Bool). IsWrapped (pos (bit_or (low_bits 128 (rows one c)) (low_bits 128 (rows other c)))) net.width s (rows number c)) sign wrapped));
    };
  }
