-- Reading a string behind an opening quote, and its form. Crates above may cite these.
use Rattle.std.proofs.Common.{◌≡◌, ◌≢◌, ℕ, true, None, Some, Option, List, [], ◌∷◌, ◌++◌, ◌⊎◌, inl, inr, refl, sym, ap, ◌∙◌, flat_map, arith, rules}
use Rattle.std.specs.List.{list_all}
use Rattle.std.proofs.lemmas.Bool.{and_parts, and_from}
use Rattle.std.proofs.lemmas.Bool.Decides.{nat_tests}
use Rattle.fx_text.specs.Strings.{Char, is_plain, is_char, char_bytes, escaped, char_value, IsString, prepend, string_behind}
use Rattle.fx_text.specs.Strings.Char.{Plain, Escape}
use Rattle.fx_text.proofs.StringLemmas.{behind-plain, behind-escape, behind-close}

no_quote : (b : ℕ) → is_plain b ≡ true → b ≢ 34
no_quote b h = search (rules, nat_tests)

no_backslash : (b : ℕ) → is_plain b ≡ true → b ≢ 92
no_backslash b h = search (rules, nat_tests)

-- a form is read
pub chars_read : (chars : List Char) (rest : List ℕ) → list_all is_char chars ≡ true → string_behind (flat_map char_bytes chars ++ 34 ∷ rest) ≡ Some (flat_map char_value chars, rest)
chars_read [] rest h = behind-close 34 rest refl
chars_read (Plain b ∷ chars) rest h =
    let parts = and_parts (is_plain b) (list_all is_char chars) h in
    behind-plain b (flat_map char_bytes chars ++ 34 ∷ rest) (no_quote b parts.0) (inr (no_backslash b parts.0))
    ∙ ap (prepend (b ∷ [])) (chars_read chars rest parts.1)
chars_read (Escape c ∷ chars) rest h =
    behind-escape 92 c (flat_map char_bytes chars ++ 34 ∷ rest) refl ∙ ap (prepend (escaped c)) (chars_read chars rest h)

pub form_read : (text content rest : List ℕ) → IsString text content rest → string_behind text ≡ Some (content, rest)
form_read text content rest form = ap string_behind form.form ∙ chars_read form.chars rest form.are_chars ∙ ap (λ said. Some (said, rest)) (sym form.says)

-- what a string says and what follows it are each the same
both : (x y u v : List ℕ) → ◌≡◌ {A = Option (List ℕ × List ℕ)} (Some (x, y)) (Some (u, v)) → (x ≡ u) × (y ≡ v)
both x y u v h =
    let same : (x, y) ≡ (u, v) = cc in
    (ap (λ (p : List ℕ × List ℕ). p.0) same, ap (λ (p : List ℕ × List ℕ). p.1) same)

-- what was read behind something in front
record Prepended (front content rest : List ℕ) (read : Option (List ℕ × List ℕ)) : Type 0 where
  pub inner : List ℕ
  pub is : read ≡ Some (inner, rest)
  pub joined : content ≡ front ++ inner

prepended : (front content rest : List ℕ) (read : Option (List ℕ × List ℕ)) → prepend front read ≡ Some (content, rest) → Prepended front content rest read
prepended front content rest None h = cc
prepended front content rest (Some (inner, other)) h =
    let same = both (front ++ inner) other content rest h in
    record { inner = inner; is = ap (λ l. Some (inner, l)) same.1; joined = sym same.0 }

cases : (b : ℕ) → (b ≡ 34) ⊎ ((b ≡ 92) ⊎ (is_plain b ≡ true))
cases b = grind (arith, nat_tests)

-- what is read has the form
pub read_form : (text content rest : List ℕ) → string_behind text ≡ Some (content, rest) → IsString text content rest
read_form [] content rest h = cc
read_form (b ∷ []) content rest h = lone (cases b)
  where
    lone : (b ≡ 34) ⊎ ((b ≡ 92) ⊎ (is_plain b ≡ true)) → IsString (b ∷ []) content rest
    lone (inl quote) =
        let same = both [] [] content rest (sym (behind-close b [] quote) ∙ h) in
        record { chars = []; are_chars = refl; form = ap (λ first. first ∷ []) quote ∙ ap (λ l. 34 ∷ l) same.1; says = sym same.0 }
    lone (inr (inl slash)) =
        let e = sym (behind-plain b [] (λ q. omega (arith, sym slash ∙ q)) (inl refl)) ∙ h in cc
    lone (inr (inr plain)) =
        let e = sym (behind-plain b [] (no_quote b plain) (inl refl)) ∙ h in cc
read_form (b ∷ c ∷ text) content rest h = more (cases b) (read_form text) (read_form (c ∷ text))
  where
    more : (b ≡ 34) ⊎ ((b ≡ 92) ⊎ (is_plain b ≡ true))
        → ((content rest : List ℕ) → string_behind text ≡ Some (content, rest) → IsString text content rest)
        → ((content rest : List ℕ) → string_behind (c ∷ text) ≡ Some (content, rest) → IsString (c ∷ text) content rest)
        → IsString (b ∷ c ∷ text) content rest
    more (inl quote) behind next =
        let same = both [] (c ∷ text) content rest (sym (behind-close b (c ∷ text) quote) ∙ h) in
        record { chars = []; are_chars = refl; form = ap (λ first. first ∷ c ∷ text) quote ∙ ap (λ l. 34 ∷ l) same.1; says = sym same.0 }
    more (inr (inl slash)) behind next =
        let cut = prepended (escaped c) content rest (string_behind text) (sym (behind-escape b c text slash) ∙ h) in
        let form = behind cut.inner rest cut.is in
        record {
          chars = Escape c ∷ form.chars;
          are_chars = form.are_chars;
          form = ap (λ first. first ∷ c ∷ text) slash ∙ ap (λ l. 92 ∷ c ∷ l) form.form;
          says = cut.joined ∙ ap (λ l. escaped c ++ l) form.says;
        }
    more (inr (inr plain)) behind next =
        let cut = prepended (b ∷ []) content rest (string_behind (c ∷ text)) (sym (behind-plain b (c ∷ text) (no_quote b plain) (inr (no_backslash b plain))) ∙ h) in
        let form = next cut.inner rest cut.is in
        record {
          chars = Plain b ∷ form.chars;
          are_chars = and_from (is_plain b) (list_all is_char form.chars) plain form.are_chars;
          form = ap (λ l. b ∷ l) form.form;
          says = cut.joined ∙ ap (λ l. b ∷ l) form.says;
        }
