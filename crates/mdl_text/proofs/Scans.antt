-- Blanks at the end of a value.
use Rattle.std.proofs.Common.{◌≡◌, ℕ, ◌+◌, ◌<◌, ◌-◌, ◌≤◌, length, get_or, take, drop, Bool, true, false, cond, List, [], ◌∷◌, ◌++◌, refl, sym, ◌∙◌, ap, arith, one-add, append-nil, true≢false}
use Rattle.std.specs.Prelude.{◌&&◌}
use Rattle.std.specs.List.{list_all, prefix_len}
use Rattle.std.proofs.lemmas.Bool.{and_parts}
use Rattle.std.proofs.lemmas.List.Folds.{list_all-append}
use Rattle.std.proofs.lemmas.List.{at_drop_more, take_more}
use Rattle.mdl_text.specs.Bytes.{is_blank, is_name_byte, AreBlanks}
use Rattle.mdl_text.specs.inner.Plain.{trimmed, unblanked}
use Rattle.math_list.proofs.Tests.{and_false}

and_true : (b : Bool) → (b && true) ≡ b
and_true true = refl
and_true false = refl

all_blank_more : (l : List ℕ) (b : ℕ) → is_blank b ≡ true → list_all is_blank (l ++ b ∷ []) ≡ list_all is_blank l
all_blank_more l b h = list_all-append is_blank l (b ∷ []) ∙ ap (λ t. list_all is_blank l && (t && true)) h ∙ and_true _

all_blank_not : (l : List ℕ) (b : ℕ) → is_blank b ≡ false → list_all is_blank (l ++ b ∷ []) ≡ false
all_blank_not l b h = list_all-append is_blank l (b ∷ []) ∙ ap (λ t. list_all is_blank l && (t && true)) h ∙ and_false _

-- a blank at the end goes
pub trimmed_blank : (l : List ℕ) (b : ℕ) → is_blank b ≡ true → trimmed (l ++ b ∷ []) ≡ trimmed l
trimmed_blank [] b h = ap (λ t. cond (t && true) [] (b ∷ [])) h
trimmed_blank (x ∷ l) b h =
    ap (λ t. cond (is_blank x && t) [] (x ∷ trimmed (l ++ b ∷ []))) (all_blank_more l b h)
    ∙ ap (λ r. cond (is_blank x && list_all is_blank l) [] (x ∷ r)) (trimmed_blank l b h)

-- any other byte at the end stays, with all before it
pub trimmed_kept : (l : List ℕ) (b : ℕ) → is_blank b ≡ false → trimmed (l ++ b ∷ []) ≡ l ++ b ∷ []
trimmed_kept [] b h = ap (λ t. cond (t && true) [] (b ∷ [])) h
trimmed_kept (x ∷ l) b h =
    ap (λ t. cond (is_blank x && t) [] (x ∷ trimmed (l ++ b ∷ []))) (all_blank_not l b h)
    ∙ ap (λ t. cond t [] (x ∷ trimmed (l ++ b ∷ []))) (and_false (is_blank x))
    ∙ ap (λ r. x ∷ r) (trimmed_kept l b h)

-- the last of the first so many bytes
last_of : (xs : List ℕ) (end : ℕ) → 0 < end → end ≤ length xs → take end xs ≡ take (end - 1) xs ++ get_or xs (end - 1) 0 ∷ []
last_of xs end positive within =
    let one_less : end ≡ end - 1 + 1 = omega arith in
    let below : end - 1 < length xs = omega arith in
    ap (λ n. take n xs) one_less ∙ take_more xs (end - 1) 0 below

pub cut_blank : (xs : List ℕ) (end : ℕ) → 0 < end → end ≤ length xs → is_blank (get_or xs (end - 1) 0) ≡ true → trimmed (take (end - 1) xs) ≡ trimmed (take end xs)
cut_blank xs end positive within h = sym (ap trimmed (last_of xs end positive within) ∙ trimmed_blank (take (end - 1) xs) _ h)

pub cut_kept : (xs : List ℕ) (end : ℕ) → 0 < end → end ≤ length xs → is_blank (get_or xs (end - 1) 0) ≡ false → trimmed (take end xs) ≡ take end xs
cut_kept xs end positive within h =
    ap trimmed (last_of xs end positive within) ∙ trimmed_kept (take (end - 1) xs) _ h ∙ sym (last_of xs end positive within)

-- text after blanks, and the blanks before it
pub record Unblanked (line : List ℕ) : Type 0 where
  pub before : List ℕ
  pub blanks : AreBlanks before
  pub form : line ≡ before ++ unblanked line

abbrev pub FirstIs : (ℕ → Type 0) → List ℕ → Type 0
FirstIs P [] = Unit {0}
FirstIs P (b ∷ bs) = P b

pub unblanked_split : (line : List ℕ) → Unblanked line
unblanked_split [] = record { before = []; blanks = refl; form = refl }
unblanked_split (b ∷ bs) =
    let more = unblanked_split bs in
    elim (is_blank b) as (λ t. is_blank b ≡ t → Unblanked (b ∷ bs)) [
      | true ↦ λ e. record {
        before = b ∷ more.before;
        blanks = ap (λ t. t && list_all is_blank more.before) e ∙ more.blanks;
        form = ap (λ xs. b ∷ xs) more.form ∙ sym (ap (λ t. b ∷ (more.before ++ cond t (unblanked bs) (b ∷ bs))) e);
      }
      | false ↦ λ e. record {
        before = [];
        blanks = refl;
        form = sym (ap (λ t. cond t (unblanked bs) (b ∷ bs)) e);
      }
    ] refl

pub unblanked_first : (line : List ℕ) → FirstIs (λ b. is_blank b ≡ false) (unblanked line)
unblanked_first [] = tt
unblanked_first (b ∷ bs) = elim (is_blank b) as (λ t. is_blank b ≡ t → FirstIs (λ b. is_blank b ≡ false) (cond t (unblanked bs) (b ∷ bs))) [
  | true ↦ λ e. unblanked_first bs
  | false ↦ λ e. e
] refl

-- blanks at the front are passed over
pub unblanked_after : (before rest : List ℕ) → AreBlanks before → unblanked (before ++ rest) ≡ unblanked rest
unblanked_after [] rest h = refl
unblanked_after (b ∷ bs) rest h =
    let parts = and_parts (is_blank b) (list_all is_blank bs) h in
    ap (λ t. cond t (unblanked (bs ++ rest)) (b ∷ (bs ++ rest))) parts.0 ∙ unblanked_after bs rest parts.1

-- and another byte begins the text
pub unblanked_at : (before : List ℕ) (b : ℕ) (rest : List ℕ) → AreBlanks before → is_blank b ≡ false → unblanked (before ++ b ∷ rest) ≡ b ∷ rest
unblanked_at before b rest h other = unblanked_after before (b ∷ rest) h ∙ ap (λ t. cond t (unblanked rest) (b ∷ rest)) other

pub unblanked_none : (line : List ℕ) → AreBlanks line → unblanked line ≡ []
unblanked_none line h = ap unblanked (sym (append-nil line)) ∙ unblanked_after line [] h

-- the name at the front of a text
pub name_bytes : (text : List ℕ) → list_all is_name_byte (take (prefix_len is_name_byte text) text) ≡ true
name_bytes [] = refl
name_bytes (b ∷ bs) = elim (is_name_byte b) as (λ t. is_name_byte b ≡ t → list_all is_name_byte (take (cond t (1 + prefix_len is_name_byte bs) 0) (b ∷ bs)) ≡ true) [
  | true ↦ λ e. rw (one-add) (ap (λ t. t && list_all is_name_byte (take (prefix_len is_name_byte bs) bs)) e ∙ name_bytes bs)
  | false ↦ λ e. refl
] refl

pub name_length_of : (name rest : List ℕ) → list_all is_name_byte name ≡ true → FirstIs (λ b. is_name_byte b ≡ false) rest → prefix_len is_name_byte (name ++ rest) ≡ length name
name_length_of [] [] h stop = refl
name_length_of [] (b ∷ bs) h stop = ap (λ t. cond t (1 + prefix_len is_name_byte bs) 0) stop
name_length_of (n ∷ ns) rest h stop =
    let parts = and_parts (is_name_byte n) (list_all is_name_byte ns) h in
    ap (λ t. cond t (1 + prefix_len is_name_byte (ns ++ rest)) 0) parts.0 ∙ ap (λ m. 1 + m) (name_length_of ns rest parts.1 stop) ∙ one-add (length ns)

-- blanks alone leave nothing
trimmed_none : (bytes : List ℕ) → AreBlanks bytes → trimmed bytes ≡ []
trimmed_none [] h = refl
trimmed_none (b ∷ bs) h = ap (λ t. cond t [] (b ∷ trimmed bs)) h

-- the blanks at the end, and what stands before them
pub record Trim (bytes : List ℕ) : Type 0 where
  pub after : List ℕ
  pub blanks : AreBlanks after
  pub form : bytes ≡ trimmed bytes ++ after

pub trim_split : (bytes : List ℕ) → Trim bytes
trim_split [] = record { after = []; blanks = refl; form = refl }
trim_split (b ∷ bs) =
    let more = trim_split bs in
    elim (list_all is_blank (b ∷ bs)) as (λ t. list_all is_blank (b ∷ bs) ≡ t → Trim (b ∷ bs)) [
      | true ↦ λ e. record { after = b ∷ bs; blanks = e; form = sym (ap (λ l. l ++ b ∷ bs) (trimmed_none (b ∷ bs) e)) }
      | false ↦ λ e. record { after = more.after; blanks = more.blanks; form = ap (λ l. b ∷ l) more.form ∙ sym (ap (λ t. cond t [] (b ∷ trimmed bs) ++ more.after) e) }
    ] refl

-- what is left ends with no blank
pub record TrimEnd (bytes : List ℕ) : Type 0 where
  pub front : List ℕ
  pub last : ℕ
  pub form : trimmed bytes ≡ front ++ last ∷ []
  pub stays : is_blank last ≡ false

pub trim_end : (bytes : List ℕ) → list_all is_blank bytes ≡ false → TrimEnd bytes
trim_end [] h = absurd (true≢false h)
trim_end (b ∷ bs) h = elim (list_all is_blank bs) as (λ t. list_all is_blank bs ≡ t → TrimEnd (b ∷ bs)) [
  | true ↦ λ e. record {
    front = [];
    last = b;
    form = ap (λ t. cond t [] (b ∷ trimmed bs)) h ∙ ap (λ l. b ∷ l) (trimmed_none bs e);
    stays = sym (and_true (is_blank b)) ∙ ap (λ t. is_blank b && t) (sym e) ∙ h;
  }
  | false ↦ λ e. let more = trim_end bs e in record {
    front = b ∷ more.front;
    last = more.last;
    form = ap (λ t. cond t [] (b ∷ trimmed bs)) h ∙ ap (λ l. b ∷ l) more.form;
    stays = more.stays;
  }
] refl

-- a byte that is no blank stays in front
pub trimmed_first : (b : ℕ) (bs : List ℕ) → is_blank b ≡ false → trimmed (b ∷ bs) ≡ b ∷ trimmed bs
trimmed_first b bs h = ap (λ t. cond (t && list_all is_blank bs) [] (b ∷ trimmed bs)) h

trimmed_after : (l after : List ℕ) → AreBlanks after → trimmed (l ++ after) ≡ trimmed l
trimmed_after [] after h = trimmed_none after h
trimmed_after (x ∷ l) after h =
    ap (λ t. cond (is_blank x && t) [] (x ∷ trimmed (l ++ after))) (list_all-append is_blank l after ∙ ap (λ t. list_all is_blank l && t) h ∙ and_true _)
    ∙ ap (λ r. cond (is_blank x && list_all is_blank l) [] (x ∷ r)) (trimmed_after l after h)

-- a value with blanks after it is left alone
pub trimmed_value : (front : List ℕ) (last : ℕ) (after : List ℕ) → AreBlanks after → is_blank last ≡ false → trimmed ((front ++ last ∷ []) ++ after) ≡ front ++ last ∷ []
trimmed_value front last after blanks stays = trimmed_after (front ++ last ∷ []) after blanks ∙ trimmed_kept front last stays

-- how far the bytes of a kind go on from a place
pub prefix_here : (p : ℕ → Bool) (text : List ℕ) (i : ℕ) (b : Bool) → i < length text → p (get_or text i 0) ≡ b → prefix_len p (drop i text) ≡ cond b (1 + prefix_len p (drop (i + 1) text)) 0
prefix_here p text i b inside is = at_drop_more (prefix_len p) text i 0 inside ∙ ap (λ (b : Bool). cond b (1 + prefix_len p (drop (i + 1) text)) 0) is

-- whether all from a place on are of a kind
pub all_here : (p : ℕ → Bool) (text : List ℕ) (i : ℕ) (b : Bool) → i < length text → p (get_or text i 0) ≡ b → list_all p (drop i text) ≡ (b && list_all p (drop (i + 1) text))
all_here p text i b inside is = at_drop_more (list_all p) text i 0 inside ∙ ap (λ (b : Bool). b && list_all p (drop (i + 1) text)) is
