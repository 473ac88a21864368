-- The numbers and the declarations of names are those of the text.
use Rattle.std.proofs.Common.{◌≡◌, ◌<◌, ℕ, Bool, true, false, cond, ltb, if◌then◌else◌, List, [], ◌∷◌, length, map, flat_map, find, slice_index, slice_index_or, slice_get, Contains, Option, None}
use Rattle.std.proofs.Common.{Some, Bor, bytes_eq, refl, sym, ap, subst, ◌∙◌, arith}
use Rattle.std.specs.Option.{option_map, option_and_then}
use Rattle.std.specs.List.{IsDistinct, position}
use Rattle.std.proofs.lemmas.Bool.{cond-true, lt-ltb, false≢true}
use Rattle.std.proofs.lemmas.Map.Keys.{apart_from_distinct}
use Rattle.std.proofs.lemmas.Slice.Eq.{bytes_eq-Decides}
use Rattle.std.proofs.lemmas.Option.{slice_get_within, slice_get-get_or, get_or_from_slice_get}
use Rattle.std.proofs.lemmas.List.{length-map, get_or-map}
use Rattle.std.proofs.lemmas.List.Quantifiers.{position-Some}
use Rattle.std.proofs.lemmas.List.Sums.{position_or_len_is}
use Rattle.vl_ast.specs.declared.modules.Module.{Module}
use Rattle.vl_ast.specs.Conditions.{mentioned}
use Rattle.vl_ast.specs.Nets.{Declared, Declares, mentions, declared_by, declarations, declaration_of}
use Rattle.math_list.proofs.Elements.{map-in, from-flat, head-in, tail-in}
use Rattle.vl_ast.proofs.Facts.{declares-it}
use Rattle.vl_check.specs.declared.mentions.Mention.{Mention as MentionHere}
use Rattle.vl_check.specs.declared.scope.Scope.{Scope}
use Rattle.vl_check.specs.inner.Mentions.{declared_of, shown, texts}
use Rattle.vl_check.specs.inner.Names.{Numbered}
use Rattle.vl_check.specs.inner.Marks.{AreFirst}
use Rattle.std.specs.Prelude.{fold}
use Rattle.vl_check.specs.Names.{with_name}
use Rattle.vl_check.specs.Scope.{IsScopeOf, declaration_in, names_in, number_in}
use Rattle.math_list.proofs.Tests.{bytes_same, unequal}

head-in' : {X : Type 0} (y x : X) (ys : List X) → y ≡ x → Contains (y ∷ ys) x
head-in' y x ys same = subst (λ z. Contains (y ∷ ys) z) same (head-in y ys)

-- a found element passes and stands in the list
pub found : {X : Type 0} (p : X → Bool) (xs : List X) (x : X) → find p xs ≡ Some x → (p x ≡ true) × Contains xs x
found p [] x e = absurd (cc e)
found p (y ∷ ys) x e = by (found p ys x) (p y) refl e where
  by : (find p ys ≡ Some x → (p x ≡ true) × Contains ys x) → (t : Bool) → p y ≡ t → (if t then Some y else find p ys) ≡ Some x → (p x ≡ true) × Contains (y ∷ ys) x
  by rest true s f = let same : y ≡ x = cc f in (subst (λ z. p z ≡ true) same s, head-in' y x ys same)
  by rest false s f = let r = rest f in (r.0, tail-in y x ys r.1)

module _ (keys : List (Bor (List ℕ))) where
  abbrev is-key : List ℕ → Bor (List ℕ) → Bool
  is-key name key = bytes_eq name key.now

  key-at : (k : ℕ) (d : Bor (List ℕ)) (e : List ℕ) → k < length keys → slice_index_or (texts keys) k e ≡ (slice_index_or keys k d).now
  key-at k d e below = get_or-map (λ (x : Bor (List ℕ)). x.now) keys k d e below

  -- the place of a key is its number
  pub number-at : IsDistinct bytes_eq (texts keys) → (k : ℕ) (name : List ℕ) → slice_get (texts keys) k ≡ Some name → position (is-key name) keys ≡ Some k
  number-at apart k name e =
      let long : length (texts keys) ≡ length keys = length-map keys (λ (x : Bor (List ℕ)). x.now) in
      let b : k < length (texts keys) = slice_get_within (texts keys) k name e in
      let below : k < length keys = omega (arith, long, b) in
      let d : Bor (List ℕ) = record { ref_ptr = (0, 0); now = [] } in
      let here : (slice_index_or keys k d).now ≡ name = sym (key-at k d [] below) ∙ get_or_from_slice_get (texts keys) k name [] e in
      let first = position_or_len_is (is-key name) keys k d (omega (arith, below))
      (λ j less. let low : j < length keys = omega (arith, below) in
      let ne = apart_from_distinct bytes_eq (texts keys) j k [] apart less b in
      unequal name (slice_index_or keys j d).now (λ same. false≢true (sym ne ∙ (λ i. bytes_eq ((key-at j d [] low ∙ sym same) i) ((key-at k d [] below ∙ here) i)) ∙ bytes_same name name refl)))
      (λ _. bytes_same name (slice_index_or keys k d).now (sym here)) in
      ap (λ n. cond (ltb n (length keys)) (Some n) None) first ∙ cond-true (ltb k (length keys)) (Some k) None (lt-ltb k (length keys) below)

  -- and a number is the place of its name
  pub at-number : (k : ℕ) (name : List ℕ) → position (is-key name) keys ≡ Some k → slice_get (texts keys) k ≡ Some name
  at-number k name e =
      let d : Bor (List ℕ) = record { ref_ptr = (0, 0); now = [] } in
      let p = position-Some (is-key name) keys k d e in
      let long : length (texts keys) ≡ length keys = length-map keys (λ (x : Bor (List ℕ)). x.now) in
      slice_get-get_or (texts keys) k [] (omega (arith, long, p.0)) ∙ ap Some (key-at k d [] p.0 ∙ sym ((bytes_eq-Decides name (slice_index_or keys k d).now).0 p.1))

module _ (m : Module) (scope : Scope) (text : List MentionHere) (numbers : List ℕ) (whole : shown text ≡ mentions m)
    (n : Numbered (map mentioned (shown text)) (names_in scope) numbers)
    (first : AreFirst (map mentioned (shown text)) numbers scope.declared.items (shown text)) where
  abbrev names : List (List ℕ)
  names = map mentioned (shown text)

  knows : (name : List ℕ) → Contains names name → (k : ℕ) × (number_in scope name ≡ Some k)
  knows name (i, below, e) =
      (slice_index numbers i, number-at scope.names.items n.different (slice_index numbers i) name (n.at i name below ∙ ap Some e))

  in-names : (d : Declared) → Contains (declarations m) d → Contains names d.name
  in-names d h =
      let f = from-flat declared_by (mentions m) d h in
      let is : f.0 ≡ Declares d = declares-it f.0 d f.2 in
      subst (λ all. Contains (map mentioned all) d.name) (sym whole)
      (subst (λ x. Contains (map mentioned (mentions m)) x) (ap mentioned is) (map-in mentioned (mentions m) f.0 f.1))

  declared-at : (name : List ℕ) (k : ℕ) → number_in scope name ≡ Some k → option_map declared_of (slice_index_or scope.declared.items k None) ≡ declaration_of m name
  declared-at name k e =
      let there = at-number scope.names.items k name e in
      let used = n.used k (slice_get_within (names_in scope) k name there) in
      let i = used.0 in
      let same : slice_index_or names i [] ≡ name = some-one (sym (n.at i [] used.1) ∙ ap (slice_get (names_in scope)) used.2 ∙ there) in
      ap (λ j. option_map declared_of (slice_index_or scope.declared.items j None)) (sym used.2) ∙ first.at i [] None used.1
      ∙ ap (λ x. find (λ (d : Declared). bytes_eq d.name x) (flat_map declared_by (shown text))) same
      ∙ ap (λ all. find (λ (d : Declared). bytes_eq d.name name) (flat_map declared_by all)) whole
    where
      some-one : {x y : List ℕ} → Some x ≡ Some y → x ≡ y
      some-one p = cc p

  pub scope-is : IsScopeOf m scope
  scope-is = record {
    declares = λ name. by name (number_in scope name) refl;
    knows = λ name h. knows name (subst (λ all. Contains (map mentioned all) name) (sym whole) h);
    apart = n.different;
    names = n.whole ∙ ap (λ all. fold with_name [] (map mentioned all)) whole;
  }
    where
      missing : (name : List ℕ) (o : Option Declared) → declaration_of m name ≡ o → number_in scope name ≡ None → None ≡ declaration_of m name
      missing name None e none = sym e
      missing name (Some d) e none =
          let f = found (λ (x : Declared). bytes_eq x.name name) (declarations m) d e in
          let named : d.name ≡ name = (bytes_eq-Decides d.name name).0 f.0 in
          let k = knows name (subst (λ x. Contains names x) named (in-names d f.1)) in
          absurd (cc (none, k.1))

      by : (name : List ℕ) (o : Option ℕ) → number_in scope name ≡ o → declaration_in scope name ≡ declaration_of m name
      by name None e = ap (option_and_then (λ k. option_map declared_of (slice_index_or scope.declared.items k None))) e ∙ missing name (declaration_of m name) refl e
      by name (Some k) e = ap (option_and_then (λ k. option_map declared_of (slice_index_or scope.declared.items k None))) e ∙ declared-at name k e
