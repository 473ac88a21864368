-- One more name gets a number.
use Rattle.std.proofs.Common.{◌≡◌, ◌<◌, ◌≤◌, ⊎_elim, ℕ, Bool, true, false, List, [], ◌∷◌, ◌++◌, length, map, slice_index, slice_index_or, slice_get, Some, Bor, bytes_eq, if◌then◌else◌, refl, sym, ap}
use Rattle.std.proofs.Common.{subst, ◌∙◌, inl, inr, ◌⊎◌, true≢false, arith}
use Rattle.std.specs.List.{list_any, IsDistinct}
use Rattle.std.proofs.lemmas.List.Sums.{fold-append}
use Rattle.std.proofs.lemmas.Bool.{cases_lt}
use Rattle.std.proofs.lemmas.Map.Keys.{IsDistinct-from_apart, IsDistinct-push, apart_from_distinct}
use Rattle.std.proofs.lemmas.Slice.Eq.{bytes_eq-Decides}
use Rattle.std.specs.Cmp.Lexicographic.{nat_list_eq_equiv}
use Rattle.std.proofs.lemmas.Option.{slice_get_within, slice_get-get_or, get_or_from_slice_get}
use Rattle.std.proofs.lemmas.List.{get_or_append_left, get_or_at, length-append, length-map, get_or-map}
use Rattle.vl_ast.specs.Conditions.{mentioned}
use Rattle.vl_check.specs.declared.mentions.Mention.{Mention as MentionHere}
use Rattle.vl_check.specs.inner.Mentions.{mention_of, shown, texts}
use Rattle.vl_check.specs.inner.Marks.{AreNumbers}
use Rattle.vl_check.specs.Names.{with_name}
use Rattle.vl_check.specs.inner.Names.{Numbered}
use Rattle.math_list.proofs.Places.{get_left}

-- keys after one is put in
abbrev pub IsGrown : List (List ℕ) → List (List ℕ) → List ℕ → Type 0
IsGrown keys keys' name = keys' ≡ with_name keys name

abbrev Longer : List (List ℕ) → List (List ℕ) → List ℕ → Type 0
Longer keys keys' name = (keys' ≡ keys) ⊎ (keys' ≡ keys ++ name ∷ [])

longer : (keys keys' : List (List ℕ)) (name : List ℕ) → IsGrown keys keys' name → Longer keys keys' name
longer keys keys' name is = by (list_any (bytes_eq name) keys) is where
  by : (t : Bool) → keys' ≡ (if t then keys else keys ++ name ∷ []) → Longer keys keys' name
  by true e = inl e
  by false e = inr e

-- a name stands at one place alone
pub one-place : (keys : List (List ℕ)) → IsDistinct bytes_eq keys → (a b : ℕ) (x : List ℕ) → slice_get keys a ≡ Some x → slice_get keys b ≡ Some x → a ≡ b
one-place keys apart a b x ea eb = by (cases_lt a b) (cases_lt b a) where
  clash : (i j : ℕ) → slice_get keys i ≡ Some x → slice_get keys j ≡ Some x → i < j → ⊥
  clash i j ei ej less =
      let low = slice_get_within keys j x ej in
      let ne = apart_from_distinct bytes_eq keys i j x apart less low in
      let yes' : bytes_eq (slice_index_or keys i x) (slice_index_or keys j x) ≡ true =
      (λ k. bytes_eq (get_or_from_slice_get keys i x x ei k) (get_or_from_slice_get keys j x x ej k)) ∙ (bytes_eq-Decides x x).1 refl in
      true≢false (sym yes' ∙ ne)

  by : (a < b) ⊎ (b ≤ a) → (b < a) ⊎ (a ≤ b) → a ≡ b
  by (inl less) c = absurd (clash a b ea eb less)
  by (inr more) (inl less) = absurd (clash b a eb ea less)
  by (inr more) (inr less) = omega arith

module _ (names : List (List ℕ)) (keys keys' : List (List ℕ)) (numbers : List ℕ) (number : ℕ) (name : List ℕ) where
  still : Longer keys keys' name → (k : ℕ) (x : List ℕ) → slice_get keys k ≡ Some x → slice_get keys' k ≡ Some x
  still (inl same) k x e = ap (λ ks. slice_get ks k) same ∙ e
  still (inr more) k x e = ap (λ ks. slice_get ks k) more ∙ get_left keys (name ∷ []) k x e

  -- the key that is new is that of the number
  last : Longer keys keys' name → IsDistinct bytes_eq keys' → slice_get keys' number ≡ Some name → (k : ℕ) → length keys ≤ k → k < length keys' → number ≡ k
  last (inl same) different here k new below = let l = ap length same in absurd (omega (arith, l, new, below))
  last (inr more) different here k new below =
      let l = ap length more in
      let longer = length-append keys (name ∷ []) in
      let e : length keys ≡ k = omega (arith, l, longer, new, below) in
      let there : slice_get keys' k ≡ Some name = ap (λ ks. slice_get ks k) more ∙ slice_get-get_or (keys ++ name ∷ []) k name (omega (arith, longer, e)) ∙ ap Some (get_or_at keys name [] name k e) in
      one-place keys' different number k name here there

  -- and keys stay different
  apart-still : IsGrown keys keys' name → IsDistinct bytes_eq keys → IsDistinct bytes_eq keys'
  apart-still is different = by (list_any (bytes_eq name) keys) refl where
    by : (t : Bool) → list_any (bytes_eq name) keys ≡ t → IsDistinct bytes_eq keys'
    by true e = subst (IsDistinct bytes_eq) (sym (is ∙ ap (λ t. if t then keys else keys ++ name ∷ []) e)) different
    by false e = subst (IsDistinct bytes_eq) (sym (is ∙ ap (λ t. if t then keys else keys ++ name ∷ []) e)) (IsDistinct-push nat_list_eq_equiv keys name different e)

  pub one-more : IsGrown keys keys' name → slice_get keys' number ≡ Some name
      → Numbered names keys numbers → Numbered (names ++ name ∷ []) keys' (numbers ++ number ∷ [])
  one-more is here n = let different = apart-still is n.different in record {
    long = let l = n.long in let a = length-append numbers (number ∷ []) in let b = length-append names (name ∷ []) in omega (arith, l, a, b);
    at = λ i d below.
        let l = n.long in
        let b = length-append names (name ∷ []) in
        ⊎_elim
        (λ old. ap (slice_get keys') (get_or_append_left numbers (number ∷ []) 0 i (omega (arith, l, old)))
        ∙ still (longer keys keys' name is) (slice_index numbers i) (slice_index_or names i d) (n.at i d old)
        ∙ ap Some (sym (get_or_append_left names (name ∷ []) d i old)))
        (λ new. let e : length names ≡ i = omega (arith, b, below) in
        let e' : length numbers ≡ i = omega (arith, l, e) in
        ap (slice_get keys') (get_or_at numbers number [] 0 i e') ∙ here ∙ ap Some (sym (get_or_at names name [] d i e)))
        (cases_lt i (length names));
    used = λ k below.
        let l = n.long in
        let fewer = length-append names (name ∷ []) in
        ⊎_elim
        (λ old. let u = n.used k old in
        let b = u.1 in
        let there : u.0 < length (names ++ name ∷ []) = omega (arith, fewer, b) in
        let low : u.0 < length numbers = omega (arith, l, b) in
        (u.0, there, get_or_append_left numbers (number ∷ []) 0 u.0 low ∙ u.2))
        (λ new. let there : length names < length (names ++ name ∷ []) = omega (arith, fewer) in (
          length names,
          there,
          get_or_at numbers number [] 0 (length names) l
              ∙ last (longer keys keys' name is) different here k new below,
        ))
        (cases_lt k (length keys));
    different = different;
    whole = is ∙ ap (λ ks. with_name ks name) n.whole ∙ sym (fold-append with_name [] names (name ∷ []));
  }

pub no-names : (keys : List (Bor (List ℕ))) (numbers : List ℕ) → keys ≡ [] → numbers ≡ [] → Numbered [] (texts keys) numbers
no-names keys numbers e f =
    subst (λ ns. Numbered [] (texts keys) ns) (sym f) (subst (λ ks. Numbered [] (texts ks) []) (sym e)
    (record {
      long = refl;
      at = λ i d below. absurd (omega arith);
      used =
          λ k below. absurd (omega arith);
      different =
          IsDistinct-from_apart bytes_eq [] (λ i j e less below. absurd (omega arith));
      whole = refl;
    }))

-- the name at a place
pub name-at : (text : List MentionHere) (i : ℕ) (e : List ℕ) (d : MentionHere) → i < length text → slice_index_or (map mentioned (shown text)) i e ≡ mentioned (mention_of (slice_index_or text i d))
name-at text i e d below =
    let long = length-map text mention_of in
    get_or-map mentioned (shown text) i (mention_of d) e (omega (arith, long, below)) ∙ ap mentioned (get_or-map mention_of text i d (mention_of d) below)

-- the same names have the same numbers, and no others
pub numbered-apart : (names keys : List (List ℕ)) (numbers : List ℕ) → Numbered names keys numbers → AreNumbers names numbers (length keys)
numbered-apart names keys numbers n = record {
  long = n.long;
  below = λ i below. slice_get_within keys (slice_index numbers i) (slice_index_or names i []) (n.at i [] below);
  one = λ i j d bi bj e. one-place keys n.different (slice_index numbers i) (slice_index numbers j) (slice_index_or names j d) (n.at i d bi ∙ ap Some e) (n.at j d bj);
  apart = λ i j d bi bj ne e. ne (some-one (sym (n.at i d bi) ∙ ap (slice_get keys) e ∙ n.at j d bj));
}
  where
    some-one : {x y : List ℕ} → Some x ≡ Some y → x ≡ y
    some-one p = cc p
