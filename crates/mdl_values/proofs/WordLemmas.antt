-- Where a text is cut behind its first word.
use Rattle.std.proofs.Common.{◌≡◌, ℕ, zero, suc, ◌+◌, ◌<◌, Bool, true, false, cond, List, [], ◌∷◌, take, drop, refl, sym, ◌∙◌, ap, arith, one-add, true≢false}
use Rattle.std.specs.List.{prefix_len}
use Rattle.mdl_text.specs.Bytes.{is_blank, on_first}
use Rattle.mdl_values.specs.Pieces.{is_solid, goes_on, on_word, words_of, unblanked}

-- the blanks that stand at the front are left out
pub unblanked_is : (text : List ℕ) → drop (prefix_len is_blank text) text ≡ unblanked text
unblanked_is [] = refl
unblanked_is (byte ∷ bytes) = by_test (is_blank byte) refl (unblanked_is bytes)
  where
    by_test : (b : Bool) → is_blank byte ≡ b → drop (prefix_len is_blank bytes) bytes ≡ unblanked bytes → drop (prefix_len is_blank (byte ∷ bytes)) (byte ∷ bytes) ≡ unblanked (byte ∷ bytes)
    by_test true e more = rw (e, one-add) more
    by_test false e more = rw e refl

-- they are in no word
pub words_unblanked : (text : List ℕ) → words_of (unblanked text) ≡ words_of text
words_unblanked [] = refl
words_unblanked (byte ∷ bytes) = by_test (is_solid byte) refl (words_unblanked bytes)
  where
    by_test : (b : Bool) → is_solid byte ≡ b → words_of (unblanked bytes) ≡ words_of bytes → words_of (unblanked (byte ∷ bytes)) ≡ words_of (byte ∷ bytes)
    by_test true e more = ap (λ t. words_of (cond t (byte ∷ bytes) (unblanked bytes))) e
    by_test false e more = ap (λ t. words_of (cond t (byte ∷ bytes) (unblanked bytes))) e ∙ more ∙ sym (ap (λ t. cond t (on_word (goes_on bytes) byte (words_of bytes)) (words_of bytes)) e)

-- what is left begins with a word, or is nothing
pub no_word : (text : List ℕ) → prefix_len is_solid (unblanked text) ≡ 0 → unblanked text ≡ []
no_word [] e = refl
no_word (byte ∷ bytes) e = by_test (is_solid byte) refl e (no_word bytes)
  where
    by_test : (b : Bool) → is_solid byte ≡ b → prefix_len is_solid (unblanked (byte ∷ bytes)) ≡ 0 → (prefix_len is_solid (unblanked bytes) ≡ 0 → unblanked bytes ≡ []) → unblanked (byte ∷ bytes) ≡ []
    by_test true t h more =
        let opened = sym (ap (λ b. prefix_len is_solid (cond b (byte ∷ bytes) (unblanked bytes))) t) ∙ h in
        let counted : cond true (1 + prefix_len is_solid bytes) 0 ≡ 0 = sym (ap (λ b. cond b (1 + prefix_len is_solid bytes) 0) t) ∙ opened in
        absurd (omega arith)
    by_test false t h more =
        ap (λ b. cond b (byte ∷ bytes) (unblanked bytes)) t ∙ more (sym (ap (λ b. prefix_len is_solid (cond b (byte ∷ bytes) (unblanked bytes))) t) ∙ h)

-- a text goes on where a word stands at its front
pub front_goes_on : (text : List ℕ) → 0 < prefix_len is_solid text → goes_on text ≡ true
front_goes_on [] h = absurd (omega arith)
front_goes_on (byte ∷ bytes) h = by_test (is_solid byte) refl
  where
    by_test : (b : Bool) → is_solid byte ≡ b → is_solid byte ≡ true
    by_test true t = t
    by_test false t = absurd (omega (arith, h, ap (λ b. cond b (1 + prefix_len is_solid bytes) 0) t))

stands_still : (text : List ℕ) → goes_on text ≡ false → prefix_len is_solid text ≡ 0
stands_still [] h = refl
stands_still (byte ∷ bytes) h = ap (λ b. cond b (1 + prefix_len is_solid bytes) 0) h

-- a text that goes on begins with that word
pub front_word : (text : List ℕ) (n : ℕ) → n ≡ prefix_len is_solid text → goes_on text ≡ true → words_of text ≡ take n text ∷ words_of (drop n text)
front_word [] n e h = absurd (true≢false (sym h))
front_word (byte ∷ bytes) n e h = by_length n (e ∙ ap (λ b. cond b (1 + prefix_len is_solid bytes) 0) h) (front_word bytes)
  where
    by_next : (m : ℕ) → m ≡ prefix_len is_solid bytes → (b : Bool) → goes_on bytes ≡ b
        → (goes_on bytes ≡ true → words_of bytes ≡ take m bytes ∷ words_of (drop m bytes))
        → on_word (goes_on bytes) byte (words_of bytes) ≡ (byte ∷ take m bytes) ∷ words_of (drop m bytes)
    by_next m e true t more = ap (λ b. on_word b byte (words_of bytes)) t ∙ ap (on_first byte) (more t)
    by_next m e false t more =
        let none : m ≡ 0 = e ∙ stands_still bytes t in
        ap (λ b. on_word b byte (words_of bytes)) t ∙ sym (ap (λ k. (byte ∷ take k bytes) ∷ words_of (drop k bytes)) none)

    by_length : (n : ℕ) → n ≡ 1 + prefix_len is_solid bytes → ((m : ℕ) → m ≡ prefix_len is_solid bytes → goes_on bytes ≡ true → words_of bytes ≡ take m bytes ∷ words_of (drop m bytes))
        → words_of (byte ∷ bytes) ≡ take n (byte ∷ bytes) ∷ words_of (drop n (byte ∷ bytes))
    by_length zero e more = absurd (omega arith)
    by_length (suc m) e more =
        let same : m ≡ prefix_len is_solid bytes = omega arith in
        ap (λ b. cond b (on_word (goes_on bytes) byte (words_of bytes)) (words_of bytes)) h ∙ by_next m same (goes_on bytes) refl (more m same)
