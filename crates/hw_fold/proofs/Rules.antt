-- A net that shows what a net that it reads shows, by each of the rules.
use Rattle.std.proofs.Common.{◌≡◌, inl, inr, ℕ, zero, suc, ◌<◌, ◌≤◌, Bool, true, false, not, if◌then◌else◌, List, [], ◌∷◌, length, refl, ap, sym, ◌∙◌, subst, arith, ℤ, pos, negsuc, int_lt, bit_or, ◌&&◌, ◌-ℤ◌, ◌-◌, ◌^◌, pow_mono, of_z, to_z}
use Rattle.std.specs.Int.{w128}
use Rattle.std.proofs.lemmas.Int.{ints, to_z-of_z}
use Rattle.std.specs.Ordering.{int_eq}
use Rattle.math_num.specs.Bits.{low_bits, truth}
use Rattle.math_num.specs.Word.{InWord, IsCongruent, IsWord, IsWrapped}
use Rattle.math_num.proofs.Residues.{bits-are, bits-below, cut-through, read-congruent}
use Rattle.math_num.proofs.Words.{word-fits, word-width, wrapped-is}
use Rattle.hw_net.specs.declared.netlist.Net.{Net}
use Rattle.hw_net.specs.declared.netlist.NetOp.TheVariants.{Choose, Less, Not, Or, Resize}
use Rattle.hw_net.specs.Products.{net_at}
use Rattle.hw_fold.specs.inner.Passing.{IsBit, IsBitNet, IsComparedBits, IsCopyOf, IsJoin, IsKnown, IsPick, IsResizedBit, IsSameChoice, IsSign, IsTurnedBit, Passes}
use Rattle.hw_fold.specs.inner.Roots.{CanShow, IsPassed}

own-wrapped : (v : ℤ) (w : ℕ) (s : Bool) → InWord w s v → IsWrapped v w s v
own-wrapped v w s h = record { in_word = h; congruent = record { turns = pos 0; equal = omega (arith, ints) } }

-- 0 and 1 are numbers of every word
bit-in : (w : ℕ) (s : Bool) (bit : Bool) → IsWord w s → InWord w s (truth bit)
bit-in w true true h =
    let few : 1 ≤ w - 1 = omega (arith, h.0) in
    let some : 2 ^ 1 ≤ 2 ^ (w - 1) = pow_mono few in record { low = omega (arith, ints); high = omega (arith, ints, some) }
bit-in w false true h =
    let some : 2 ^ 1 ≤ 2 ^ w = pow_mono h.0 in record { low = omega (arith, ints); high = omega (arith, ints, some) }
bit-in w true false h = record { low = omega (arith, ints); high = omega (arith, ints) }
bit-in w false false h = record { low = omega (arith, ints); high = omega (arith, ints) }

either : (b : Bool) (x y z : ℤ) → x ≡ z → y ≡ z → (if b then x else y) ≡ z
either true x y z e f = e
either false x y z e f = f

picks : (bit : Bool) (t : ℤ) (one second read : ℕ) (f : ℕ → ℤ) → t ≡ truth bit → read ≡ (if bit then one else second)
    → f read ≡ (if not (int_eq t (pos 0)) then f one else f second)
picks true t one second read f e same = ap f same ∙ sym (ap (λ (v : ℤ). if not (int_eq v (pos 0)) then f one else f second) e)
picks false t one second read f e same = ap f same ∙ sym (ap (λ (v : ℤ). if not (int_eq v (pos 0)) then f one else f second) e)

none-beside : (n : ℕ) → n ≡ bit_or 0 n
none-beside n = refl

-- the bits of 0 or of a number of the word are that number's
join-wrapped : (z x : ℤ) (w : ℕ) (s : Bool) → IsWord w s → InWord w s x → z ≡ pos 0
    → IsWrapped (pos (bit_or (low_bits 128 z) (low_bits 128 x))) w s x
join-wrapped z x w s word is none =
    let f = word-fits w s x word is in
    let same : IsCongruent x (pos (bit_or 0 (low_bits 128 x))) 340282366920938463463374607431768211456 =
    subst (λ (v : ℤ). IsCongruent v (pos (bit_or 0 (low_bits 128 x))) 340282366920938463463374607431768211456) (to_z-of_z w128 x f)
    (subst (λ (n : ℕ). IsCongruent (to_z w128 (of_z w128 x)) (pos n) 340282366920938463463374607431768211456) (bits-are x f ∙ none-beside (low_bits 128 x))
    (read-congruent (of_z w128 x) (bits-below x f))) in
    subst (λ (v : ℤ). IsWrapped (pos (bit_or (low_bits 128 v) (low_bits 128 x))) w s x) (sym none)
    (cut-through x (pos (bit_or 0 (low_bits 128 x))) x w s (word-width w s word) same (own-wrapped x w s is))

-- a bit is above 0 where it is 1
sign-wrapped : (z x : ℤ) → InWord 1 false x → z ≡ pos 0 → IsWrapped (truth (int_lt z x)) 1 false x
sign-wrapped z (pos zero) is none = subst (λ (v : ℤ). IsWrapped (truth (int_lt v (pos 0))) 1 false (pos 0)) (sym none) (own-wrapped (pos 0) 1 false is)
sign-wrapped z (pos (suc zero)) is none = subst (λ (v : ℤ). IsWrapped (truth (int_lt v (pos 1))) 1 false (pos 1)) (sym none) (own-wrapped (pos 1) 1 false is)
sign-wrapped z (pos (suc (suc n))) is none = absurd (let h = is.high in omega (arith, ints, h))
sign-wrapped z (negsuc n) is none = absurd (let h = is.low in omega (arith, ints, h))

-- the inverse of a bit, in one bit
turned-wrapped : (z x : ℤ) (bit : Bool) → z ≡ truth (not bit) → x ≡ truth bit → InWord 1 false x → IsWrapped (negsuc 0 -ℤ z) 1 false x
turned-wrapped z x true e f is = record { in_word = is; congruent = record { turns = pos 1; equal = omega (arith, ints, e, f) } }
turned-wrapped z x false e f is = record { in_word = is; congruent = record { turns = pos 1; equal = omega (arith, ints, e, f) } }

bits-compared : (a b : Bool) → truth (not a && b) ≡ truth (int_lt (truth a) (truth b))
bits-compared true true = refl
bits-compared true false = refl
bits-compared false true = refl
bits-compared false false = refl

module _ (nets : List Net) (root : ℕ → ℕ) where
  abbrev at : ℕ → Net
  at j = net_at nets j

  bit-shown : (k : ℕ) (bit : Bool) → IsBit nets root k bit → (shown : ℕ → ℤ) → CanShow nets shown → shown (root k) ≡ truth bit
  bit-shown k bit is shown can =
      wrapped-is (truth bit) (at (root k)).width (at (root k)).signed (shown (root k)) (can.words (root k) is.inside)
      (bit-in (at (root k)).width (at (root k)).signed bit (can.words (root k) is.inside)) (can.constants (root k) (truth bit) is.constant.args is.inside is.constant.is)

  module _ (k read : ℕ) (inside : root read < length nets) (wide : (at (root read)).width ≡ (at k).width) (sign : (at (root read)).signed ≡ (at k).signed) where
    own : (shown : ℕ → ℤ) → CanShow nets shown → InWord (at k).width (at k).signed (shown (root read))
    own shown can =
        subst (λ (s : Bool). InWord (at k).width s (shown (root read))) sign (subst (λ (w : ℕ). InWord w (at (root read)).signed (shown (root read))) wide (can.in_word (root read) inside))

    own-word : (shown : ℕ → ℤ) → CanShow nets shown → IsWord (at k).width (at k).signed
    own-word shown can =
        subst (λ (s : Bool). IsWord (at k).width s) sign (subst (λ (w : ℕ). IsWord w (at (root read)).signed) wide (can.words (root read) inside))

    itself : (shown : ℕ → ℤ) → CanShow nets shown → IsWrapped (shown (root read)) (at k).width (at k).signed (shown (root read))
    itself shown can = own-wrapped (shown (root read)) (at k).width (at k).signed (own shown can)

    copy : IsCopyOf (at k) read → IsPassed nets root k (root read)
    copy is = record { op = Resize; args = read ∷ []; is = is; reads = omega arith; gives = λ inputs shown can. itself shown can }

    choice : IsSameChoice root (at k) read → IsPassed nets root k (root read)
    choice c = record {
      op = Choose;
      args = c.test ∷ read ∷ c.second ∷ [];
      is = c.is;
      reads = omega arith;
      gives = λ inputs shown can. subst (λ (v : ℤ). IsWrapped v (at k).width (at k).signed (shown (root read)))
          (sym (either (not (int_eq (shown (root c.test)) (pos 0))) (shown (root read)) (shown (root c.second)) (shown (root read)) refl (ap shown (sym c.same))))
          (itself shown can);
    }

    pick : IsPick nets root (at k) read → IsPassed nets root k (root read)
    pick c = record {
      op = Choose;
      args = c.test ∷ c.one ∷ c.second ∷ [];
      is = c.is;
      reads = omega arith;
      gives = λ inputs shown can. subst (λ (v : ℤ). IsWrapped v (at k).width (at k).signed (shown (root read)))
          (picks c.bit (shown (root c.test)) c.one c.second read (λ (j : ℕ). shown (root j)) (bit-shown c.test c.bit c.constant shown can) c.picked)
          (itself shown can);
    }

    join : IsJoin nets root (at k) read → IsPassed nets root k (root read)
    join c = record {
      op = Or;
      args = c.nought ∷ read ∷ [];
      is = c.is;
      reads = omega arith;
      gives = λ inputs shown can.
          join-wrapped (shown (root c.nought)) (shown (root read)) (at k).width (at k).signed (own-word shown can) (own shown can) (bit-shown c.nought false c.constant shown can);
    }

    tells : IsSign nets root (at k) read → IsPassed nets root k (root read)
    tells c = record {
      op = Less;
      args = c.nought ∷ read ∷ [];
      is = c.is;
      reads = omega arith;
      gives = λ inputs shown can.
          let x = shown (root read) in
          let z = shown (root c.nought) in
          let bit : InWord 1 false x = subst (λ (s : Bool). InWord 1 s x) c.sign (subst (λ (w : ℕ). InWord w (at k).signed x) c.wide (own shown can)) in
          subst (λ (s : Bool). IsWrapped (truth (int_lt z x)) (at k).width s x) (sym c.sign)
          (subst (λ (w : ℕ). IsWrapped (truth (int_lt z x)) w false x) (sym c.wide)
          (sign-wrapped z x bit (bit-shown c.nought false c.constant shown can)));
    }

    pub passes : Passes nets root (at k) read → IsPassed nets root k (root read)
    passes (inl is) = copy is
    passes (inr (inl c)) = choice c
    passes (inr (inr (inl c))) = pick c
    passes (inr (inr (inr (inl c)))) = join c
    passes (inr (inr (inr (inr c)))) = tells c

  -- a net that shows always the bit that the other is
  module _ (k other : ℕ) (bit : Bool) (inside : other < length nets) (wide : (at other).width ≡ (at k).width) (sign : (at other).signed ≡ (at k).signed) (is-bit : IsBitNet (at other) bit) where
    bit-there : (shown : ℕ → ℤ) → CanShow nets shown → IsWrapped (truth bit) (at k).width (at k).signed (shown other)
    bit-there shown can =
        subst (λ (s : Bool). IsWrapped (truth bit) (at k).width s (shown other)) sign (subst (λ (w : ℕ). IsWrapped (truth bit) w (at other).signed (shown other)) wide
        (can.constants other (truth bit) is-bit.args inside is-bit.is))

    resized : IsResizedBit nets root (at k) bit → IsPassed nets root k other
    resized c = record {
      op = Resize;
      args = c.read ∷ [];
      is = c.is;
      reads = omega arith;
      gives = λ inputs shown can. subst (λ (v : ℤ). IsWrapped v (at k).width (at k).signed (shown other)) (sym (bit-shown c.read bit c.constant shown can)) (bit-there shown can);
    }

    turned : IsTurnedBit nets root (at k) bit → IsPassed nets root k other
    turned c = record {
      op = Not;
      args = c.read ∷ [];
      is = c.is;
      reads = omega arith;
      gives = λ inputs shown can.
          let z = shown (root c.read) in
          let x = shown other in
          let there : IsWrapped (truth bit) 1 false x = subst (λ (s : Bool). IsWrapped (truth bit) 1 s x) c.sign
          (subst (λ (w : ℕ). IsWrapped (truth bit) w (at k).signed x) c.wide (bit-there shown can)) in
          let word : IsWord 1 false = (omega arith, omega arith) in
          let same : x ≡ truth bit = wrapped-is (truth bit) 1 false x word (bit-in 1 false bit word) there in
          subst (λ (s : Bool). IsWrapped (negsuc 0 -ℤ z) (at k).width s x) (sym c.sign)
          (subst (λ (w : ℕ). IsWrapped (negsuc 0 -ℤ z) w false x) (sym c.wide)
          (turned-wrapped z x bit (bit-shown c.read (not bit) c.constant shown can) same there.in_word));
    }

    compared : IsComparedBits nets root (at k) bit → IsPassed nets root k other
    compared c = record {
      op = Less;
      args = c.one ∷ c.second ∷ [];
      is = c.is;
      reads = omega arith;
      gives = λ inputs shown can.
          let e : truth bit ≡ truth (int_lt (shown (root c.one)) (shown (root c.second))) =
          ap truth c.compared ∙ bits-compared c.first_bit c.second_bit
          ∙ sym (ap (λ (v : ℤ). truth (int_lt v (truth c.second_bit))) (bit-shown c.one c.first_bit c.first shown can))
          ∙ sym (ap (λ (v : ℤ). truth (int_lt (shown (root c.one)) v)) (bit-shown c.second c.second_bit c.other shown can)) in
          subst (λ (v : ℤ). IsWrapped v (at k).width (at k).signed (shown other)) e (bit-there shown can);
    }

    pub known : IsKnown nets root (at k) bit → IsPassed nets root k other
    known (inl c) = resized c
    known (inr (inl c)) = turned c
    known (inr (inr c)) = compared c
