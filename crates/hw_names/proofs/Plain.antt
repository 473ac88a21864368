-- How the bytes of a path become those of a plain name, one after another.
use Rattle.std.proofs.Common.{◌≡◌, ℕ, ◌+◌, ◌<◌, ◌≤◌, ◌==◌, Bool, true, false, List, [], ◌∷◌, ◌++◌, length, map, drop, get_or, refl, sym, ap, ◌∙◌}
use Rattle.std.specs.Prelude.{if◌then◌else◌}
use Rattle.std.proofs.lemmas.List.{append_assoc, append-nil, drop_all, drop_more}
use Rattle.hw_names.specs.Names.{plain_byte, undoubled}

-- the first of two `/` is left out
pub first_goes : (second : Bool) (byte : ℕ) (bytes : List ℕ) → byte ≡ 47 → second ≡ false → undoubled second (byte ∷ bytes) ≡ undoubled true bytes
first_goes second byte bytes slash first = ap (λ (s : Bool). undoubled s (byte ∷ bytes)) first ∙ ap (λ (b : ℕ). undoubled false (b ∷ bytes)) slash

-- and what follows it stays
pub second_stays : (second : Bool) (byte : ℕ) (bytes : List ℕ) → second ≡ true → undoubled second (byte ∷ bytes) ≡ byte ∷ undoubled false bytes
second_stays second byte bytes is = ap (λ (s : Bool). undoubled s (byte ∷ bytes)) is

-- as any other byte does
pub other_stays : (second : Bool) (byte : ℕ) (bytes : List ℕ) → (byte == 47) ≡ false → undoubled second (byte ∷ bytes) ≡ byte ∷ undoubled false bytes
other_stays true byte bytes other = second_stays true byte bytes refl
other_stays false byte bytes other = ap (λ (b : Bool). if b then undoubled b bytes else byte ∷ undoubled b bytes) other

-- nothing is left at the end
none_left : (second : Bool) → undoubled second [] ≡ []
none_left true = refl
none_left false = refl

pub all_put : (name : List ℕ) (second : Bool) (path whole : List ℕ) (i : ℕ) → length path ≤ i → name ++ map plain_byte (undoubled second (drop i path)) ≡ whole → name ≡ whole
all_put name second path whole i past put =
    let rest = ap (undoubled second) (drop_all i path past) ∙ none_left second in
    sym (append-nil name) ∙ ap (λ (bytes : List ℕ). name ++ map plain_byte bytes) (sym rest) ∙ put

module _ (name : List ℕ) (second : Bool) (path whole : List ℕ) (i : ℕ) (below : i < length path) (before : name ++ map plain_byte (undoubled second (drop i path)) ≡ whole) where
  -- one that is left out
  pub left_on : get_or path i 0 ≡ 47 → second ≡ false → name ++ map plain_byte (undoubled true (drop (i + 1) path)) ≡ whole
  left_on slash first =
      let step = ap (undoubled second) (drop_more path i 0 below) ∙ first_goes second (get_or path i 0) (drop (i + 1) path) slash first in
      ap (λ (bytes : List ℕ). name ++ map plain_byte bytes) (sym step) ∙ before

  -- one that is put
  pub put_on : (put : ℕ) (named : List ℕ)
      → undoubled second (get_or path i 0 ∷ drop (i + 1) path)
      ≡ get_or path i 0 ∷ undoubled false (drop (i + 1) path) → put ≡ plain_byte (get_or path i 0)
      → named ≡ name ++ put ∷ []
      → named ++ map plain_byte (undoubled false (drop (i + 1) path)) ≡ whole
  put_on put named stays put_is named_is =
      let rest = undoubled false (drop (i + 1) path) in
      let step = ap (undoubled second) (drop_more path i 0 below) ∙ stays in
      ap (λ (xs : List ℕ). xs ++ map plain_byte rest) (named_is ∙ ap (λ (b : ℕ). name ++ b ∷ []) put_is)
      ∙ append_assoc name (plain_byte (get_or path i 0) ∷ []) (map plain_byte rest)
      ∙ ap (λ (bytes : List ℕ). name ++ map plain_byte bytes) (sym step) ∙ before
