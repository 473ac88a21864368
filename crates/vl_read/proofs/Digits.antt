-- What a number that is read is.
use Rattle.std.proofs.Common.{suc, subst, ◌+◌, ◌*◌, ◌≡◌, ℕ, ◌<◌, ◌≤◌, ◌^◌, cond, List, [], ◌∷◌, ◌++◌, length, take, drop, Option, Some, None, refl, sym, ◌∙◌, ap, arith, option_and_then, option_map}
use Rattle.std.proofs.Common.{append_assoc}
use Rattle.std.specs.Prelude.{◌==◌, ◌&&◌, not, nat_lt}
use Rattle.std.proofs.lemmas.Bool.{and_parts, cond_both, ltb-true, cond-true, cond-false}
use Rattle.std.specs.Str.Parse.{digits_value_after, AllDigits}
use Rattle.std.specs.Char.{digit_value}
use Rattle.vl_ast.specs.declared.expressions.Sized.{Sized}
use Rattle.vl_read.specs.inner.Lexemes.{number_after, around_quote, quote_place, is_digit, dec_of, sized_in, sized_of}

pub number_gives : (base : ℕ) (digits : List ℕ) (n m : ℕ) → number_after base n digits ≡ Some m → AllDigits base digits × (digits_value_after base n digits ≡ m)
number_gives base [] n m e = (tt, cc)
number_gives base (d ∷ ds) n m e =
    cond_both (is_digit base d && nat_lt (n * base + digit_value d) (2 ^ 128))
    (number_after base (n * base + digit_value d) ds) None
    (λ o. o ≡ Some m → AllDigits base (d ∷ ds) × (digits_value_after base n (d ∷ ds) ≡ m))
    (λ h e. let r = number_gives base ds (n * base + digit_value d) m e in ((ltb-true (digit_value d) base (and_parts (is_digit base d) (nat_lt (n * base + digit_value d) (2 ^ 128)) h).0, r.0), r.1))
    (λ h e. let no : ⊥ = cc in absurd no)
    e

-- one more digit
pub number_some : (base n m d : ℕ) (ds : List ℕ) → Some m ≡ number_after base n (d ∷ []) → number_after base n (d ∷ ds) ≡ number_after base m ds
number_some base n m d ds =
    cond_both (is_digit base d && nat_lt (n * base + digit_value d) (2 ^ 128)) (Some (n * base + digit_value d)) None
    (λ o. Some m ≡ o → cond (is_digit base d && nat_lt (n * base + digit_value d) (2 ^ 128)) (number_after base (n * base + digit_value d) ds) None ≡ number_after base m ds)
    (λ h e. let same : m ≡ n * base + digit_value d = cc in cond-true _ (number_after base (n * base + digit_value d) ds) None h ∙ ap (λ k. number_after base k ds) (sym same))
    (λ h e. let no : ⊥ = cc in absurd no)

pub number_none : (base n d : ℕ) (ds : List ℕ) → None ≡ number_after base n (d ∷ []) → number_after base n (d ∷ ds) ≡ None
number_none base n d ds =
    cond_both (is_digit base d && nat_lt (n * base + digit_value d) (2 ^ 128)) (Some (n * base + digit_value d)) None
    (λ o. None ≡ o → cond (is_digit base d && nat_lt (n * base + digit_value d) (2 ^ 128)) (number_after base (n * base + digit_value d) ds) None ≡ None)
    (λ h e. let no : ⊥ = cc in absurd no)
    (λ h e. cond-false _ (number_after base (n * base + digit_value d) ds) None h)

-- a byte that isn't one, or with which the number is too great
pub digit_none : (base n d : ℕ) → (digit_value d < base → n * base + digit_value d < 2 ^ 128 → ⊥) → None ≡ number_after base n (d ∷ [])
digit_none base n d never =
    cond_both (is_digit base d && nat_lt (n * base + digit_value d) (2 ^ 128)) (Some (n * base + digit_value d)) None (λ o. None ≡ o)
    (λ h. let both = and_parts (is_digit base d) (nat_lt (n * base + digit_value d) (2 ^ 128)) h in
    absurd
    (never (ltb-true (digit_value d) base both.0) (ltb-true (n * base + digit_value d) (2 ^ 128) both.1)))
    (λ h. refl)

-- what stands around the first apostrophe
pub quote_none : (bytes : List ℕ) → length bytes ≤ quote_place bytes → around_quote bytes ≡ None
quote_none [] h = refl
quote_none (b ∷ bs) h =
    cond_both (b == 39) (Some ([], bs)) (option_map (λ (parts : List ℕ × List ℕ). (b ∷ parts.0, parts.1))
    (around_quote bs)) (λ o. length (b ∷ bs) ≤ cond (not (b == 39)) (1 + quote_place bs) 0 → o ≡ None)
    (λ t h. let e : cond (not (b == 39)) (1 + quote_place bs) 0 ≡ 0 = ap (λ u. cond (not u) (1 + quote_place bs) 0) t in absurd (omega (arith, e, h)))
    (λ t h. let e : cond (not (b == 39)) (1 + quote_place bs) 0 ≡ 1 + quote_place bs = ap (λ u. cond (not u) (1 + quote_place bs) 0) t in
    ap (option_map (λ (parts : List ℕ × List ℕ). (b ∷ parts.0, parts.1))) (quote_none bs (omega (arith, e, h))))
    h

abbrev split_by : List ℕ → ℕ → ℕ → Option (List ℕ × List ℕ)
split_by bytes front back = Some (take front bytes, drop back bytes)

later_quote : (b : ℕ) (bs : List ℕ) (k n : ℕ) → k ≡ 1 + n → split_by (b ∷ bs) k (k + 1) ≡ option_map (λ (parts : List ℕ × List ℕ). (b ∷ parts.0, parts.1)) (split_by bs n (n + 1))
later_quote b bs k n e =
    let first : k ≡ suc n = omega arith in
    let second : k + 1 ≡ suc (n + 1) = omega arith in
    ap (λ i. split_by (b ∷ bs) i (k + 1)) first ∙ ap (λ i. split_by (b ∷ bs) (suc n) i) second

pub quote_some : (bytes : List ℕ) → quote_place bytes < length bytes → around_quote bytes ≡ Some (take (quote_place bytes) bytes, drop (quote_place bytes + 1) bytes)
quote_some [] h = absurd (omega arith)
quote_some (b ∷ bs) h =
    cond_both (b == 39) (Some ([], bs)) (option_map (λ (parts : List ℕ × List ℕ). (b ∷ parts.0, parts.1)) (around_quote bs))
    (λ o. cond (not (b == 39)) (1 + quote_place bs) 0 < length (b ∷ bs)
    → o ≡ Some (
      take (cond (not (b == 39)) (1 + quote_place bs) 0) (b ∷ bs),
      drop (cond (not (b == 39)) (1 + quote_place bs) 0 + 1) (b ∷ bs),
    ))
    (λ t h. let e : cond (not (b == 39)) (1 + quote_place bs) 0 ≡ 0 = ap (λ u. cond (not u) (1 + quote_place bs) 0) t in
    sym (ap (λ n. Some (take n (b ∷ bs), drop (n + 1) (b ∷ bs))) e))
    (λ t h. let e : cond (not (b == 39)) (1 + quote_place bs) 0 ≡ 1 + quote_place bs = ap (λ u. cond (not u) (1 + quote_place bs) 0) t in
    ap (option_map (λ (parts : List ℕ × List ℕ). (b ∷ parts.0, parts.1))) (quote_some bs (omega (arith, e, h)))
    ∙ sym (later_quote b bs (cond (not (b == 39)) (1 + quote_place bs) 0) (quote_place bs) e))
    h

-- a number with its mark behind the apostrophe
pub around_mark : (width mark digits : List ℕ) → width ++ (39 ∷ []) ++ mark ++ digits ≡ width ++ 39 ∷ (mark ++ digits)
around_mark width mark digits = simp append_assoc

-- a number with its base
pub sized_with : (bytes : List ℕ) (at width : ℕ) (s : Option Sized) → at ≡ quote_place bytes → at < length bytes
    → Some width ≡ dec_of (take at bytes) → s ≡ sized_in width (drop (at + 1) bytes) → s ≡ sized_of bytes
unfolding sized_of
sized_with bytes at width s e h d r =
    let split : around_quote bytes ≡ Some (take at bytes, drop (at + 1) bytes) =
    subst (λ n. around_quote bytes ≡ Some (take n bytes, drop (n + 1) bytes)) (sym e)
    (quote_some bytes (omega (arith, e, h))) in
    r ∙ sym (ap (option_and_then (λ (parts : List ℕ × List ℕ). option_and_then (λ width. sized_in width parts.1) (dec_of parts.0))) split
    ∙ ap (option_and_then (λ width. sized_in width (drop (at + 1) bytes))) (sym d))
