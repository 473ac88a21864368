-- A list, read a byte at a time over a line, is made of pieces, and gives where they close it.
use Rattle.std.proofs.Common.{◌≡◌, ◌≢◌, ℕ, zero, suc, ◌+◌, ◌-◌, Bool, true, false, cond, not, List, [], ◌∷◌, ◌++◌, length, Option, Some, None, ◌⊎◌, inl, inr, refl, sym, ◌∙◌, ap, subst, ⊎_elim}
use Rattle.std.proofs.Common.{append_assoc, eqb-true, ne_eqb, flat_map, length-append, arith, add-one}
use Rattle.std.specs.Prelude.{◌&&◌, ◌==◌}
use Rattle.std.specs.List.{list_all}
use Rattle.std.proofs.lemmas.Bool.{and_parts, and_from, not-true, eqb-false}
use Rattle.std.proofs.lemmas.List.Folds.{list_all-append}
use Rattle.fx_io.specs.FaultLine.{IsOneLine}
use Rattle.mdl_text.specs.declared.strings.Place.{Place}
use Rattle.mdl_text.specs.declared.strings.Place.TheVariants.{Outside, Inside, Escaped}
use Rattle.mdl_text.specs.declared.brackets.Spot.{Spot}
use Rattle.mdl_text.specs.declared.brackets.ListEnd.{ListEnd}
use Rattle.mdl_text.specs.declared.brackets.ListEnd.TheVariants.{Closed, Open, Broken}
use Rattle.mdl_text.specs.Bytes.{Piece, piece_bytes, Closes}
use Rattle.fx_text.specs.Strings.{Char, is_char, char_bytes, quoted}
use Rattle.fx_text.specs.Strings.Char.{Plain, Escape}
use Rattle.mdl_text.specs.Bytes.Piece.{Opening, Closing, String, Other}
use Rattle.mdl_text.specs.inner.Plain.{spot_at, spot_step, list_end, or_else_closed}
use Rattle.mdl_text.proofs.Classes.{in_string}

-- what follows one byte
abbrev after_spot : ℕ → List ℕ → Option Spot → ListEnd
after_spot taken bytes step = or_else_closed (taken + 1) (λ next. list_end next (taken + 1) bytes) step

-- which step a byte outside of a string makes
abbrev pub OutsideStep : ℕ → ℕ → Type 0
OutsideStep n b =
    ((b ≡ 34) × (spot_step (spot_at Outside n) b ≡ Some (spot_at Inside n)))
    ⊎ (((b ≡ 91) × (spot_step (spot_at Outside n) b ≡ Some (spot_at Outside (n + 1))))
    ⊎ (((b ≡ 93) × (n ≡ 0) × (spot_step (spot_at Outside n) b ≡ None))
    ⊎ (((b ≡ 93) × (n ≢ 0) × (spot_step (spot_at Outside n) b ≡ Some (spot_at Outside (n - 1))))
    ⊎ ((b ≢ 34) × (b ≢ 91) × (b ≢ 93) × (spot_step (spot_at Outside n) b ≡ Some (spot_at Outside n))))))

four_tests : {X : Type 0} (q o c z : Bool) (v w x y u : X) →
    ((q ≡ true) × (cond q v (cond o w (cond c (cond z x y) u)) ≡ v))
    ⊎ (((o ≡ true) × (cond q v (cond o w (cond c (cond z x y) u)) ≡ w))
    ⊎ (((c ≡ true) × (z ≡ true) × (cond q v (cond o w (cond c (cond z x y) u)) ≡ x))
    ⊎ (((c ≡ true) × (z ≡ false) × (cond q v (cond o w (cond c (cond z x y) u)) ≡ y))
    ⊎ ((q ≡ false) × (o ≡ false) × (c ≡ false) × (cond q v (cond o w (cond c (cond z x y) u)) ≡ u)))))
four_tests true o c z v w x y u = inl (refl, refl)
four_tests false true c z v w x y u = inr (inl (refl, refl))
four_tests false false true true v w x y u = inr (inr (inl (refl, refl, refl)))
four_tests false false true false v w x y u = inr (inr (inr (inl (refl, refl, refl))))
four_tests false false false z v w x y u = inr (inr (inr (inr (refl, refl, refl, refl))))

outside_step : (n b : ℕ) → OutsideStep n b
unfolding spot_step
outside_step n b =
    ⊎_elim (λ q. inl (eqb-true b 34 q.0, q.1)) (λ r. inr (
    ⊎_elim (λ o. inl (eqb-true b 91 o.0, o.1)) (λ r. inr (
    ⊎_elim (λ c. inl (eqb-true b 93 c.0, eqb-true n 0 c.1, c.2)) (λ r. inr (
    ⊎_elim (λ c. inl (eqb-true b 93 c.0, eqb-false n 0 c.1, c.2)) (λ u. inr (eqb-false b 34 u.0, eqb-false b 91 u.1, eqb-false b 93 u.2, u.3))
    r)) r)) r))
    (four_tests (b == 34) (b == 91) (b == 93) (n == 0) (Some (spot_at Inside n)) (Some (spot_at Outside (n + 1))) None (Some (spot_at Outside (n - 1))) (Some (spot_at Outside n)))

inside_step : (n b : ℕ) → ((b ≡ 34) × (spot_step (spot_at Inside n) b ≡ Some (spot_at Outside n)))
    ⊎ (((b ≡ 92) × (spot_step (spot_at Inside n) b ≡ Some (spot_at Escaped n)))
    ⊎ ((is_char (Plain b) ≡ true) × (spot_step (spot_at Inside n) b ≡ Some (spot_at Inside n))))
unfolding spot_step
inside_step n b = in_string b (Some (spot_at Outside n)) (Some (spot_at Escaped n)) (Some (spot_at Inside n))

quote_step : (n : ℕ) → spot_step (spot_at Outside n) 34 ≡ Some (spot_at Inside n)
unfolding spot_step
quote_step n = refl

unquote_step : (n : ℕ) → spot_step (spot_at Inside n) 34 ≡ Some (spot_at Outside n)
unfolding spot_step
unquote_step n = refl

escape_step : (n : ℕ) → spot_step (spot_at Inside n) 92 ≡ Some (spot_at Escaped n)
unfolding spot_step
escape_step n = refl

escaped_step : (n b : ℕ) → spot_step (spot_at Escaped n) b ≡ Some (spot_at Inside n)
unfolding spot_step
escaped_step n b = refl

opening_step : (n : ℕ) → spot_step (spot_at Outside n) 91 ≡ Some (spot_at Outside (n + 1))
unfolding spot_step
opening_step n = refl

closing_step : (n : ℕ) → spot_step (spot_at Outside (suc n)) 93 ≡ Some (spot_at Outside n)
unfolding spot_step
closing_step n =
    let positive : (suc n == 0) ≡ false = ne_eqb (suc n) 0 (λ e. omega (arith, e)) in
    let down : suc n - 1 ≡ n = omega arith in
    ap (λ t. cond t None (Some (spot_at Outside (suc n - 1)))) positive ∙ ap (λ m. Some (spot_at Outside m)) down

last_step : spot_step (spot_at Outside 0) 93 ≡ None
unfolding spot_step
last_step = refl

char_step : (n b : ℕ) → is_char (Plain b) ≡ true → spot_step (spot_at Inside n) b ≡ Some (spot_at Inside n)
unfolding spot_step
char_step n b h =
    let parts = and_parts (not (b == 34)) (not (b == 92)) h in
    ap (λ t. cond t (Some (spot_at Outside n)) (cond (b == 92) (Some (spot_at Escaped n)) (Some (spot_at Inside n)))) (not-true (b == 34) parts.0)
    ∙ ap (λ t. cond t (Some (spot_at Escaped n)) (Some (spot_at Inside n))) (not-true (b == 92) parts.1)

other_step : (n b : ℕ) → b ≢ 34 → b ≢ 91 → b ≢ 93 → spot_step (spot_at Outside n) b ≡ Some (spot_at Outside n)
other_step n b q o c =
    ⊎_elim (λ s. absurd (q s.0)) (λ r. ⊎_elim (λ s. absurd (o s.0)) (λ r. ⊎_elim (λ s. absurd (c s.0)) (λ r. ⊎_elim (λ s. absurd (c s.0)) (λ s. s.3) r) r) r) (outside_step n b)

chars_end : (chars : List Char) (n k : ℕ) (rest : List ℕ) → list_all is_char chars ≡ true
    → list_end (spot_at Inside n) k (flat_map char_bytes chars ++ 34 ∷ rest)
    ≡ list_end (spot_at Outside n) (k + length (flat_map char_bytes chars ++ 34 ∷ [])) rest
chars_end [] n k rest h = ap (after_spot k rest) (unquote_step n)
chars_end (Plain b ∷ chars) n k rest h =
    let parts = and_parts (is_char (Plain b)) (list_all is_char chars) h in
    let count : k + 1 + length (flat_map char_bytes chars ++ 34 ∷ []) ≡ k + length (b ∷ (flat_map char_bytes chars ++ 34 ∷ [])) = omega arith in
    ap (after_spot k (flat_map char_bytes chars ++ 34 ∷ rest)) (char_step n b parts.0)
    ∙ chars_end chars n (k + 1) rest parts.1
    ∙ ap (λ m. list_end (spot_at Outside n) m rest) count
chars_end (Escape b ∷ chars) n k rest h =
    let count : k + 1 + 1 + length (flat_map char_bytes chars ++ 34 ∷ []) ≡ k + length (92 ∷ b ∷ (flat_map char_bytes chars ++ 34 ∷ [])) = omega arith in
    ap (after_spot k (b ∷ (flat_map char_bytes chars ++ 34 ∷ rest))) (escape_step n)
    ∙ ap (after_spot (k + 1) (flat_map char_bytes chars ++ 34 ∷ rest)) (escaped_step n b)
    ∙ chars_end chars n (k + 1 + 1) rest h
    ∙ ap (λ m. list_end (spot_at Outside n) m rest) count

-- a string in a list
pub string_end : (chars : List Char) (n k : ℕ) (rest : List ℕ) → list_all is_char chars ≡ true
    → list_end (spot_at Outside n) k (quoted chars ++ rest)
    ≡ list_end (spot_at Outside n) (k + length (quoted chars)) rest
string_end chars n k rest h =
    let count : k + 1 + length (flat_map char_bytes chars ++ 34 ∷ []) ≡ k + length (quoted chars) = omega arith in
    ap (λ l. list_end (spot_at Outside n) k (34 ∷ l)) (append_assoc (flat_map char_bytes chars) (34 ∷ []) rest)
    ∙ ap (after_spot k (flat_map char_bytes chars ++ 34 ∷ rest)) (quote_step n)
    ∙ chars_end chars n (k + 1) rest h
    ∙ ap (λ m. list_end (spot_at Outside n) m rest) count

pub opening_end : (n k : ℕ) (rest : List ℕ) → list_end (spot_at Outside n) k (91 ∷ rest) ≡ list_end (spot_at Outside (suc n)) (k + 1) rest
opening_end n k rest = ap (after_spot k rest) (opening_step n) ∙ ap (λ m. list_end (spot_at Outside m) (k + 1) rest) (add-one n)

pub closing_end : (n k : ℕ) (rest : List ℕ) → list_end (spot_at Outside (suc n)) k (93 ∷ rest) ≡ list_end (spot_at Outside n) (k + 1) rest
closing_end n k rest = ap (after_spot k rest) (closing_step n)

pub last_end : (k : ℕ) (rest : List ℕ) → list_end (spot_at Outside 0) k (93 ∷ rest) ≡ Closed (k + 1)
last_end k rest = ap (after_spot k rest) last_step

pub other_end : (n k b : ℕ) (rest : List ℕ) → b ≢ 34 → b ≢ 91 → b ≢ 93 → list_end (spot_at Outside n) k (b ∷ rest) ≡ list_end (spot_at Outside n) (k + 1) rest
other_end n k b rest q o c = ap (after_spot k rest) (other_step n b q o c)

abbrev pub EndsAs : ℕ → ℕ → List Piece → List ℕ → ListEnd → Type 0
EndsAs n k pieces after (Closed taken) = Closes n pieces × (taken ≡ k + length (flat_map piece_bytes pieces))
EndsAs n k pieces after (Open m) = ((more : List Piece) → Closes m more → Closes n (pieces ++ more)) × (after ≡ [])
EndsAs n k pieces after Broken = Unit {0}

-- what a line has of a list, from outside of a string on
pub record Outer (n k : ℕ) (bytes : List ℕ) (end : ListEnd) : Type 0 where
  pub pieces : List Piece
  pub after : List ℕ
  pub ends : EndsAs n k pieces after end
  pub form : bytes ≡ flat_map piece_bytes pieces ++ after

-- and from inside of a string on
pub record Inner (n k : ℕ) (bytes : List ℕ) (end : ListEnd) : Type 0 where
  pub chars : List Char
  pub rest : List ℕ
  pub count : ℕ
  pub are_chars : list_all is_char chars ≡ true
  pub one_line : IsOneLine (flat_map char_bytes chars)
  pub form : bytes ≡ flat_map char_bytes chars ++ 34 ∷ rest
  pub counts : count ≡ k + length (flat_map char_bytes chars ++ 34 ∷ [])
  pub outer : Outer n count rest end

pub record Later (n k : ℕ) (bytes : List ℕ) (end : ListEnd) : Type 0 where
  pub byte : ℕ
  pub rest : List ℕ
  pub form : bytes ≡ byte ∷ rest
  pub other : not (byte == 10) ≡ true
  pub inner : Inner n (k + 1) rest end

abbrev pub ListForm : Place → ℕ → ℕ → List ℕ → ListEnd → Type 0
ListForm Outside n k bytes end = Outer n k bytes end
ListForm Inside n k bytes end = Inner n k bytes end
ListForm Escaped n k bytes end = Later n k bytes end

-- one more piece in front
ends_more : (n m k j : ℕ) (piece : Piece) (pieces : List Piece) (after : List ℕ) (end : ListEnd)
    → ((more : List Piece) → Closes m more → Closes n (piece ∷ more)) → j ≡ k + length (piece_bytes piece)
    → EndsAs m j pieces after end → EndsAs n k (piece ∷ pieces) after end
ends_more n m k j piece pieces after (Closed taken) leads count ends = (leads pieces ends.0, ends.1 ∙ omega (arith, count, length-append (piece_bytes piece) (flat_map piece_bytes pieces)))
ends_more n m k j piece pieces after (Open o) leads count ends = (λ more h. leads (pieces ++ more) (ends.0 more h), ends.1)
ends_more n m k j piece pieces after Broken leads count ends = tt

outer_more : (n m k j : ℕ) (piece : Piece) (bytes rest : List ℕ) (end : ListEnd)
    → ((more : List Piece) → Closes m more → Closes n (piece ∷ more)) → j ≡ k + length (piece_bytes piece)
    → bytes ≡ piece_bytes piece ++ rest → Outer m j rest end → Outer n k bytes end
outer_more n m k j piece bytes rest end leads count form outer = record {
  pieces = piece ∷ outer.pieces;
  after = outer.after;
  ends = ends_more n m k j piece outer.pieces outer.after end leads count outer.ends;
  form = form ∙ ap (λ l. piece_bytes piece ++ l) outer.form ∙ sym (append_assoc (piece_bytes piece) (flat_map piece_bytes outer.pieces) outer.after);
}

quoted_one_line : (chars : List Char) → IsOneLine (flat_map char_bytes chars) → IsOneLine (quoted chars)
quoted_one_line chars h = list_all-append (λ b. not (b == 10)) (flat_map char_bytes chars) (34 ∷ []) ∙ ap (λ t. t && true) h

closes_down : (n : ℕ) (more : List Piece) → n ≢ 0 → Closes (n - 1) more → Closes n (Closing ∷ more)
closes_down zero more positive c = absurd (positive refl)
closes_down (suc m) more positive c = let e : suc m - 1 ≡ m = omega arith in subst (λ j. Closes j more) e c

-- what a line has of a list has its form, where no string is left open
pub list_sound : (place : Place) (bytes : List ℕ) (n k : ℕ) (end : ListEnd) → IsOneLine bytes → (end ≡ Broken → ⊥) → list_end (spot_at place n) k bytes ≡ end → ListForm place n k bytes end
list_sound Outside [] n k end line whole h = record { pieces = []; after = []; ends = subst (EndsAs n k [] []) h ((λ more c. c), refl); form = refl }
list_sound Inside [] n k end line whole h = absurd (whole (sym h))
list_sound Escaped [] n k end line whole h = absurd (whole (sym h))
list_sound Escaped (b ∷ bs) n k end line whole h =
    let parts = and_parts (not (b == 10)) (list_all (λ byte. not (byte == 10)) bs) line in record {
      byte = b;
      rest = bs;
      form = refl;
      other = parts.0;
      inner = list_sound Inside bs n (k + 1) end parts.1 whole (ap (after_spot k bs) (sym (escaped_step n b)) ∙ h);
    }
list_sound Inside (b ∷ bs) n k end line whole h =
    let parts = and_parts (not (b == 10)) (list_all (λ byte. not (byte == 10)) bs) line in
    ⊎_elim
    (λ quote. record {
      chars = [];
      rest = bs;
      count = k + 1;
      are_chars = refl;
      one_line = refl;
      form = ap (λ m. m ∷ bs) quote.0;
      counts = refl;
      outer = list_sound Outside bs n (k + 1) end parts.1 whole (ap (after_spot k bs) (sym quote.1) ∙ h);
    })
    (⊎_elim
    (λ escape. let later = list_sound Escaped bs n (k + 1) end parts.1 whole (ap (after_spot k bs) (sym escape.1) ∙ h) in record {
      chars = Escape later.byte ∷ later.inner.chars;
      rest = later.inner.rest;
      count = later.inner.count;
      are_chars = later.inner.are_chars;
      one_line = and_from (not (later.byte == 10)) (list_all (λ byte. not (byte == 10)) (flat_map char_bytes later.inner.chars)) later.other later.inner.one_line;
      form = ap (λ m. m ∷ bs) escape.0 ∙ ap (λ l. 92 ∷ l) (later.form ∙ ap (λ l. later.byte ∷ l) later.inner.form);
      counts = later.inner.counts ∙ omega arith;
      outer = later.inner.outer;
    })
    (λ plain. let inner = list_sound Inside bs n (k + 1) end parts.1 whole (ap (after_spot k bs) (sym plain.1) ∙ h) in record {
      chars = Plain b ∷ inner.chars;
      rest = inner.rest;
      count = inner.count;
      are_chars = and_from (is_char (Plain b)) (list_all is_char inner.chars) plain.0 inner.are_chars;
      one_line = and_from (not (b == 10)) (list_all (λ byte. not (byte == 10)) (flat_map char_bytes inner.chars)) parts.0 inner.one_line;
      form = ap (λ l. b ∷ l) inner.form;
      counts = inner.counts ∙ omega arith;
      outer = inner.outer;
    }))
    (inside_step n b)
list_sound Outside (b ∷ bs) n k end line whole h =
    let parts = and_parts (not (b == 10)) (list_all (λ byte. not (byte == 10)) bs) line in
    ⊎_elim
    (λ quote.
    let inner = list_sound Inside bs n (k + 1) end parts.1 whole (ap (after_spot k bs) (sym quote.1) ∙ h) in
    outer_more n n k inner.count (String inner.chars) (b ∷ bs) inner.rest end
    (λ more c. (inner.are_chars, quoted_one_line inner.chars inner.one_line, c))
    (inner.counts ∙ omega arith)
    (ap (λ m. m ∷ bs) quote.0 ∙ ap (λ l. 34 ∷ l) (inner.form ∙ sym (append_assoc (flat_map char_bytes inner.chars) (34 ∷ []) inner.rest)))
    inner.outer)
    (λ r. ⊎_elim
    (λ opening. outer_more n (n + 1) k (k + 1) Opening (b ∷ bs) bs end (λ more c. subst (λ m. Closes m more) (add-one n) c) refl (ap (λ m. m ∷ bs) opening.0)
    (list_sound Outside bs (n + 1) (k + 1) end parts.1 whole (ap (after_spot k bs) (sym opening.1) ∙ h)))
    (λ r. ⊎_elim
    (λ last. record {
      pieces = Closing ∷ [];
      after = bs;
      ends = subst (EndsAs n k (Closing ∷ []) bs) (ap (after_spot k bs) (sym last.2) ∙ h) (subst (λ m. Closes m (Closing ∷ [])) (sym last.1) refl, refl);
      form = ap (λ m. m ∷ bs) last.0;
    })
    (λ r. ⊎_elim
    (λ closing. outer_more n (n - 1) k (k + 1) Closing (b ∷ bs) bs end (λ more c. closes_down n more closing.1 c) refl (ap (λ m. m ∷ bs) closing.0)
    (list_sound Outside bs (n - 1) (k + 1) end parts.1 whole (ap (after_spot k bs) (sym closing.2) ∙ h)))
    (λ other. outer_more n n k (k + 1) (Other b) (b ∷ bs) bs end (λ more c. (other.0, other.1, other.2, c)) refl refl
    (list_sound Outside bs n (k + 1) end parts.1 whole (ap (after_spot k bs) (sym other.3) ∙ h)))
    r)
    r)
    r)
    (outside_step n b)
