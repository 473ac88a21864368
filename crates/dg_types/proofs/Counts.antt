-- One more number or element, and what is made of each.
use Rattle.std.proofs.Common.{◌≡◌, ◌<◌, ℕ, zero, suc, ◌+◌, List, [], ◌∷◌, ◌++◌, length, map, take, sym, ap, ◌∙◌, arith}
use Rattle.std.specs.Prelude.{slice_index_or}
use Rattle.std.proofs.lemmas.List.{map-append, map_more}
use Rattle.math_list.specs.Numbers.{numbers_from}

numbers_push : (from n : ℕ) → numbers_from from (suc n) ≡ numbers_from from n ++ (from + n) ∷ []
numbers_push from zero = ap (λ (k : ℕ). k ∷ []) (omega arith)
numbers_push from (suc n) =
    let more = numbers_push (suc from) n in
    let last : suc from + n ≡ from + suc n = omega arith in
    cc

pub mapped_more : (f : ℕ → ℕ) (n : ℕ) → map f (numbers_from 0 (n + 1)) ≡ map f (numbers_from 0 n) ++ f n ∷ []
mapped_more f n =
    let next : n + 1 ≡ suc n = omega arith in
    let last : (0 + n) ≡ n = omega arith in
    ap (λ (k : ℕ). map f (numbers_from 0 k)) next ∙ ap (map f) (numbers_push 0 n) ∙ map-append f (numbers_from 0 n) ((0 + n) ∷ []) ∙ ap (λ (k : ℕ). map f (numbers_from 0 n) ++ f k ∷ []) last

-- what is made of the next element stands behind what was made of those before it
module _ {A B : Type 0} (f : A → B) (xs : List A) {k : ℕ} {x : A} {y : B} {before after : List B} where
  pub made_more : k < length xs → x ≡ slice_index_or xs k x → y ≡ f x → before ≡ map f (take k xs) → after ≡ before ++ y ∷ [] → after ≡ map f (take (k + 1) xs)
  made_more low at made is grown =
      grown ∙ (λ i. is i ++ made i ∷ []) ∙ ap (λ z. map f (take k xs) ++ f z ∷ []) at ∙ sym (map_more f xs k x low)
