-- A word has the products of the numbers of two words exactly where it has those of their ends.
use Rattle.std.proofs.Common.{◌≡◌, ℕ, suc, Bool, ℤ, pos, negsuc, ◌*ℤ◌, ◌≤ℤ◌, sym, ◌∙◌, arith, true, false, List, Some, slice_get, subst}
use Rattle.std.proofs.lemmas.Int.{ints}
use Rattle.std.proofs.Math.IntN.{*ℤ_comm, *ℤ-negsuc}
use Rattle.std.proofs.lemmas.Option.{same_Some}
use Rattle.math_num.specs.Word.{InWord, word_lowest, word_highest}
use Rattle.hw_net.specs.declared.netlist.Net.{Net}
use Rattle.hw_net.specs.Netlist.{HoldsProducts}
use Rattle.math_num.proofs.Arithmetic.{scaled-mono}

-- between two products by one number
product-between : (width : ℕ) (signed : Bool) (a b x y : ℤ) → a ≤ℤ x → x ≤ℤ b → InWord width signed (a *ℤ y) → InWord width signed (b *ℤ y) → InWord width signed (x *ℤ y)
product-between width signed a b x (pos n) low high p q =
    let l = scaled-mono a x n low in
    let h = scaled-mono x b n high in
    record { low = omega (arith, ints, l, p.low); high = omega (arith, ints, h, q.high) }
product-between width signed a b x (negsuc n) low high p q =
    let l = scaled-mono a x (suc n) low in
    let h = scaled-mono x b (suc n) high in
    let e = *ℤ-negsuc a n in
    let f = *ℤ-negsuc x n in
    let g = *ℤ-negsuc b n in
    record { low = omega (arith, ints, h, f, g, q.low); high = omega (arith, ints, l, e, f, p.high) }

swapped : (width : ℕ) (signed : Bool) (x y : ℤ) → InWord width signed (x *ℤ y) → InWord width signed (y *ℤ x)
swapped width signed x y is = rw (*ℤ_comm y x) is

module _ (width : ℕ) (signed : Bool) (a b c d : ℤ) (low_low : InWord width signed (a *ℤ c))
    (low_high : InWord width signed (a *ℤ d)) (high_low : InWord width signed (b *ℤ c))
    (high_high : InWord width signed (b *ℤ d)) where
  pub product-in-word : (x y : ℤ) → a ≤ℤ x → x ≤ℤ b → c ≤ℤ y → y ≤ℤ d → InWord width signed (x *ℤ y)
  product-in-word x y p q r s =
      let low = product-between width signed a b x c p q low_low high_low in
      let high = product-between width signed a b x d p q low_high high_high in
      swapped width signed y x (product-between width signed c d y x r s (swapped width signed x c low) (swapped width signed x d high))

pub products-hold : (nets : List Net) (left right width : ℕ) (signed : Bool) (one other : Net) → slice_get nets left ≡ Some one → slice_get nets right ≡ Some other
    → InWord width signed (word_lowest one.width one.signed *ℤ word_lowest other.width other.signed) → InWord width signed (word_lowest one.width one.signed *ℤ word_highest other.width other.signed)
    → InWord width signed (word_highest one.width one.signed *ℤ word_lowest other.width other.signed) → InWord width signed (word_highest one.width one.signed *ℤ word_highest other.width other.signed)
    → HoldsProducts nets left right width signed
products-hold nets left right width signed one other there also p q r s = record {
  holds = λ a b e f x y in_one in_other.
      let same : a ≡ one = same_Some a one (sym e ∙ there) in
      let alike : b ≡ other = same_Some b other (sym f ∙ also) in
      let first : InWord one.width one.signed x = subst (λ (net : Net). InWord net.width net.signed x) same in_one in
      let second : InWord other.width other.signed y = subst (λ (net : Net). InWord net.width net.signed y) alike in_other in
      product-in-word width signed (word_lowest one.width one.signed) (word_highest one.width one.signed) (word_lowest other.width other.signed) (word_highest other.width other.signed)
      p q r s x y first.low first.high second.low second.high;
}

lowest-in-word : (width : ℕ) (signed : Bool) → InWord width signed (word_lowest width signed)
lowest-in-word width true = record { low = omega (arith, ints); high = omega (arith, ints) }
lowest-in-word width false = record { low = omega (arith, ints); high = omega (arith, ints) }

highest-in-word : (width : ℕ) (signed : Bool) → InWord width signed (word_highest width signed)
highest-in-word width true = record { low = omega (arith, ints); high = omega (arith, ints) }
highest-in-word width false = record { low = omega (arith, ints); high = omega (arith, ints) }

-- a word that has all products of two words has those of the ends
module _ (nets : List Net) (left right width : ℕ) (signed : Bool) (one other : Net)
    (there : slice_get nets left ≡ Some one) (also : slice_get nets right ≡ Some other)
    (is : HoldsProducts nets left right width signed) where
  with-ends : (x : ℤ) → InWord one.width one.signed x
      → InWord width signed (x *ℤ word_lowest other.width other.signed) × InWord width signed (x *ℤ word_highest other.width other.signed)
  with-ends x in_one = (
    is.holds one other there also x (word_lowest other.width other.signed) in_one (lowest-in-word other.width other.signed),
    is.holds one other there also x (word_highest other.width other.signed) in_one (highest-in-word other.width other.signed),
  )

  pub lowest-products : InWord width signed
      (word_lowest one.width one.signed *ℤ word_lowest other.width other.signed)
      × InWord width signed (word_lowest one.width one.signed *ℤ word_highest other.width other.signed)
  lowest-products = with-ends (word_lowest one.width one.signed) (lowest-in-word one.width one.signed)

  pub highest-products : InWord width signed
      (word_highest one.width one.signed *ℤ word_lowest other.width other.signed)
      × InWord width signed (word_highest one.width one.signed *ℤ word_highest other.width other.signed)
  highest-products = with-ends (word_highest one.width one.signed) (highest-in-word one.width one.signed)
