-- Facts about single bytes, and cases on tests.
use Rattle.std.proofs.Common.{◌≡◌, ◌≢◌, ◌<◌, ℕ, Bool, true, false, cond, not, ◌⊎◌, inl, inr, List, map, nat_eq, slice_index_or, refl, sym, ◌∙◌, ap, subst, ⊎_elim, eqb-true, arith}
use Rattle.std.specs.List.{range_with_len}
use Rattle.std.proofs.lemmas.List.FromFn.{get_or-map-range_with_len}
use Rattle.std.specs.Prelude.{◌||◌, ◌==◌}
use Rattle.std.proofs.lemmas.Bool.{and_from, or_cases, true≢false}
use Rattle.fx_text.specs.Strings.{is_char}
use Rattle.fx_text.specs.Strings.Char.{Plain}
use Rattle.mdl_text.specs.Bytes.{is_blank, is_name_byte}

-- which of three cases two tests take
pub two_tests : {X : Type 0} (s t : Bool) (x y z : X)
    → ((s ≡ true) × (cond s x (cond t y z) ≡ x))
    ⊎ (((t ≡ true) × (cond s x (cond t y z) ≡ y)) ⊎ ((s ≡ false) × (t ≡ false) × (cond s x (cond t y z) ≡ z)))
two_tests true t x y z = inl (refl, refl)
two_tests false true x y z = inr (inl (refl, refl))
two_tests false false x y z = inr (inr (refl, refl, refl))

-- a byte in a string ends it, begins an escape, or is a character
pub in_string : {X : Type 0} (b : ℕ) (end escape character : X) → ((b ≡ 34) × (cond (b == 34) end (cond (b == 92) escape character) ≡ end))
    ⊎ (((b ≡ 92) × (cond (b == 34) end (cond (b == 92) escape character) ≡ escape)) ⊎ ((is_char (Plain b) ≡ true) × (cond (b == 34) end (cond (b == 92) escape character) ≡ character)))
in_string b end escape character =
    ⊎_elim
    (λ quote. inl (eqb-true b 34 quote.0, quote.1))
    (λ more. inr (⊎_elim
    (λ back. inl (eqb-true b 92 back.0, back.1))
    (λ other. inr (and_from (not (b == 34)) (not (b == 92)) (ap not other.0) (ap not other.1), other.2))
    more))
    (two_tests (b == 34) (b == 92) end escape character)

-- a blank is a space, a tab or a carriage return
pub blank_cases : (P : ℕ → Type 0) (b : ℕ) → is_blank b ≡ true → P 32 → P 9 → P 13 → P b
unfolding is_blank
blank_cases P b h space tab return =
    let at : (n : ℕ) → (b == n) ≡ true → P n → P b = λ n e p. subst P (sym (eqb-true b n e)) p in
    ⊎_elim
    (λ two. ⊎_elim (λ e. at 32 e space) (λ e. at 9 e tab) (or_cases (b == 32) (b == 9) two))
    (λ e. at 13 e return)
    (or_cases (b == 32 || b == 9) (b == 13) h)

pub blank_no_name : (b : ℕ) → is_blank b ≡ true → is_name_byte b ≡ false
unfolding is_name_byte
blank_no_name b h = blank_cases (λ n. is_name_byte n ≡ false) b h refl refl refl

pub name_no_blank : (b : ℕ) → is_name_byte b ≡ true → is_blank b ≡ false
name_no_blank b h = elim (is_blank b) as (λ t. is_blank b ≡ t → t ≡ false) [ true ↦ λ e. absurd (true≢false (sym h ∙ blank_no_name b e)) | false ↦ λ _. refl ] refl

-- a byte that passes a test is none that fails it
pub no_byte : (p : ℕ → Bool) (b n : ℕ) → p b ≡ true → p n ≡ false → (b == n) ≡ false
no_byte p b n h fails = elim (b == n) as (λ t. (b == n) ≡ t → t ≡ false) [ true ↦ λ e. absurd (true≢false (sym h ∙ ap p (eqb-true b n e) ∙ fails)) | false ↦ λ _. refl ] refl

pub quote_no_blank : is_blank 34 ≡ false
unfolding is_blank
quote_no_blank = refl

pub bracket_no_blank : is_blank 91 ≡ false
unfolding is_blank
bracket_no_blank = refl

pub hash_no_blank : is_blank 35 ≡ false
unfolding is_blank
hash_no_blank = refl

pub opening_no_blank : is_blank 123 ≡ false
unfolding is_blank
opening_no_blank = refl

pub closing_no_blank : is_blank 125 ≡ false
unfolding is_blank
closing_no_blank = refl

pub newline_no_blank : is_blank 10 ≡ false
unfolding is_blank
newline_no_blank = refl

pub quote_no_name : is_name_byte 34 ≡ false
unfolding is_name_byte
quote_no_name = refl

pub hash_no_name : is_name_byte 35 ≡ false
unfolding is_name_byte
hash_no_name = refl

pub opening_no_name : is_name_byte 123 ≡ false
unfolding is_name_byte
opening_no_name = refl

pub closing_no_name : is_name_byte 125 ≡ false
unfolding is_name_byte
closing_no_name = refl

pub newline_no_name : is_name_byte 10 ≡ false
unfolding is_name_byte
newline_no_name = refl

pub bracket_no_brace : ◌≢◌ {A = ℕ} 91 123
bracket_no_brace e = omega (arith, e)

pub quote_no_brace : ◌≢◌ {A = ℕ} 34 123
quote_no_brace e = omega (arith, e)

pub newline_no_quote : ◌≢◌ {A = ℕ} 10 34
newline_no_quote e = omega (arith, e)

pub newline_no_opening : ◌≢◌ {A = ℕ} 10 91
newline_no_opening e = omega (arith, e)

pub newline_no_closing : ◌≢◌ {A = ℕ} 10 93
newline_no_closing e = omega (arith, e)

-- how a table of bytes marks one that may stand in a name
abbrev pub name_mark : ℕ → ℕ
name_mark b = cond (is_name_byte b) 110 45

-- a table that marks each byte tells of each whether it may stand in a name
pub marked : (table : List ℕ) (b : ℕ) → table ≡ map name_mark (range_with_len 0 256) → b < 256 → nat_eq (slice_index_or table b 0) 110 ≡ is_name_byte b
marked table b is_table below =
    ap (λ t. nat_eq (slice_index_or t b 0) 110) is_table
    ∙ ap (λ mark. nat_eq mark 110) (get_or-map-range_with_len name_mark 0 256 b b 0 below (omega arith))
    ∙ told (is_name_byte b)
  where
    told : (t : Bool) → nat_eq (cond t 110 45) 110 ≡ t
    told true = refl
    told false = refl
