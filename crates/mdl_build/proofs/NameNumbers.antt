-- The numbers of names, with one more block.
use Rattle.std.proofs.Common.{◌≡◌, ℕ, Bool, true, false, cond, List, [], ◌∷◌, ◌++◌, length, Option, Some, None, refl, sym, ap, ◌∙◌, eqb-true}
use Rattle.std.specs.Prelude.{◌==◌, position, bytes_eq}
use Rattle.std.specs.Cmp.{both_tied, unsigned_ties}
use Rattle.std.specs.Cmp.Lexicographic.{slice_cmp, texts_ties}
use Rattle.std.specs.Ordering.{is_eq, nat_cmp}
use Rattle.std.proofs.lemmas.Slice.Eq.{bytes_eq-Decides}
use Rattle.mdl_text.specs.declared.tree.Item.{Item}
use Rattle.mdl_build.specs.Blocks.{is_named_in}
use Rattle.mdl_build.specs.inner.Names.{Key, IsKeyAt, compare_keys, key_eq}
use Rattle.mdl_build.proofs.Ranges.{pushed, pushed-false, position-push}
use Rattle.std.proofs.lemmas.Bool.{and_parts}

-- the order of keys tells them apart as they are
pub tied_keys : (key other : Key) → is_eq (compare_keys key other) ≡ key_eq key other
tied_keys key other =
    sym (both_tied _ _ (nat_cmp key.0 other.0) (slice_cmp nat_cmp key.1.now other.1.now)
    (unsigned_ties key.0 other.0) (texts_ties key.1.now other.1.now))

module _ (items : List Item) (places : List ℕ) (place : ℕ) (found : Key → Option ℕ)
    (old : (key : Key) → found key ≡ position (is_named_in items key.0 key.1.now) places) where
  abbrev pub first_of_name : Key → Option ℕ
  first_of_name key = position (is_named_in items key.0 key.1.now) (places ++ place ∷ [])

  -- a block of another name changes nothing
  pub other_name : (key : Key) → is_named_in items key.0 key.1.now place ≡ false → found key ≡ first_of_name key
  other_name key other =
      old key
      ∙ sym (position-push (is_named_in items key.0 key.1.now) places place
      ∙ ap (λ (b : Bool). pushed b (length places) (position (is_named_in items key.0 key.1.now) places)) other
      ∙ pushed-false (length places) (position (is_named_in items key.0 key.1.now) places))

  module _ (own : Key) (is : IsKeyAt items place (Some own)) where
    -- equal keys have the same number
    same_key : (key : Key) → key_eq own key ≡ true → found key ≡ found own
    same_key key e =
        let t = and_parts (own.0 == key.0) (bytes_eq own.1.now key.1.now) e in
        let system : own.0 ≡ key.0 = eqb-true own.0 key.0 t.0 in
        let name : own.1.now ≡ key.1.now = (bytes_eq-Decides own.1.now key.1.now).0 t.1 in
        old key
        ∙ sym (ap (λ (n : ℕ). position (is_named_in items n own.1.now) places) system ∙ ap (λ (text : List ℕ). position (is_named_in items key.0 text) places) name)
        ∙ sym (old own)

    -- the first block of its name
    pub new_name : found own ≡ None → (key : Key) → cond (key_eq own key) (Some (length places)) (found key) ≡ first_of_name key
    new_name none key = by (key_eq own key) refl
      where
        by : (b : Bool) → key_eq own key ≡ b → cond b (Some (length places)) (found key) ≡ first_of_name key
        by true e =
            sym (position-push (is_named_in items key.0 key.1.now) places place
            ∙ ap (λ (b : Bool). pushed b (length places) (position (is_named_in items key.0 key.1.now) places)) (is key.0 key.1.now ∙ e)
            ∙ ap (pushed true (length places)) (sym (old key) ∙ same_key key e ∙ none))
        by false e = other_name key (is key.0 key.1.now ∙ e)

    -- a further one
    pub known_name : (k : ℕ) → found own ≡ Some k → (key : Key) → found key ≡ first_of_name key
    known_name k some key = by (key_eq own key) refl
      where
        by : (b : Bool) → key_eq own key ≡ b → found key ≡ first_of_name key
        by true e =
            let there : position (is_named_in items key.0 key.1.now) places ≡ Some k = sym (old key) ∙ same_key key e ∙ some in
            same_key key e ∙ some
            ∙ sym (position-push (is_named_in items key.0 key.1.now) places place
            ∙ ap (pushed (is_named_in items key.0 key.1.now place) (length places)) there)
        by false e = other_name key (is key.0 key.1.now ∙ e)

-- ---- whether a name is known
