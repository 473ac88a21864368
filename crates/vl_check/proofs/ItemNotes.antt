-- One more item is noted.
use Rattle.std.proofs.Common.{◌≡◌, ◌<◌, ◌≤◌, ◌+◌, inl, inr, ◌⊎◌, ⊎_elim, ℕ, List, [], ◌∷◌, ◌++◌, length, map, set, take, replicate, slice_get, slice_index_or, Option, None, Some, refl, sym, ap, subst}
use Rattle.std.proofs.Common.{◌∙◌, arith}
use Rattle.std.specs.Option.{unwrap_or}
use Rattle.std.proofs.lemmas.Bool.{cases_lt, cases_eq}
use Rattle.std.proofs.lemmas.Option.{slice_get_within, slice_get-get_or, get_or_from_slice_get}
use Rattle.std.proofs.lemmas.List.{get_or-replicate, get_or-set_same, get_or-set_other, get_or_append_left, get_or_at, length-append, length-replicate, length-set, set_past, map_more, map-append}
use Rattle.std.proofs.Math.ListN.{get_or-eq_default}
use Rattle.vl_ast.specs.declared.expressions.Expr.{Expr}
use Rattle.vl_ast.specs.declared.modules.ModItem.{ModItem}
use Rattle.vl_ast.specs.declared.modules.ModItem.TheVariants.{Wire, Reg, Assign, Always}
use Rattle.vl_ast.specs.Nets.{names_read}
use Rattle.vl_check.specs.declared.scope.Scope.{Scope}
use Rattle.vl_check.specs.Scope.{names_in, number_at, number_in}
use Rattle.vl_ast.specs.Conditions.{mentioned}
use Rattle.vl_check.specs.declared.mentions.Mention.{Mention as MentionHere}
use Rattle.vl_check.specs.inner.Mentions.{mention_of, shown}
use Rattle.fx_io.specs.Rows.{row_at}
use Rattle.vl_check.specs.inner.Assignments.{IsNoted, IsNotedAt, places_after, reads_after}
use Rattle.math_list.proofs.Places.{get_left}
use Rattle.vl_check.proofs.ScopeNames.{at-number}

-- the last element, or one before it
back-or-front : (items : List ModItem) (item : ModItem) (j : ℕ) (x : ModItem) → slice_get (items ++ item ∷ []) j ≡ Some x → (slice_get items j ≡ Some x) ⊎ ((j ≡ length items) × (item ≡ x))
back-or-front items item j x e =
    let l = length-append items (item ∷ []) in
    let b = slice_get_within (items ++ item ∷ []) j x e in
    ⊎_elim
    (λ old. inl (slice_get-get_or items j x old ∙ ap Some (sym (get_or_append_left items (item ∷ []) x j old) ∙ get_or_from_slice_get (items ++ item ∷ []) j x x e)))
    (λ new. let at : length items ≡ j = omega (arith, l, b, new) in
    inr (sym at, sym (get_or_at items item [] x j at) ∙ get_or_from_slice_get (items ++ item ∷ []) j x x e))
    (cases_lt j (length items))

module _ (scope : Scope) where
  pub number-below : (name : List ℕ) (v : ℕ) → number_in scope name ≡ Some v → v < length (names_in scope)
  number-below name v e = slice_get_within (names_in scope) v name (at-number scope.names.items v name e)

  pub number-is : (name : List ℕ) (v : ℕ) → number_in scope name ≡ Some v → number_at scope name ≡ v
  number-is name v e = ap (λ o. unwrap_or o (length (names_in scope))) e

  pub noted-none : (places : List (Option ℕ)) (reads : List (List ℕ)) → length places ≡ length (names_in scope) → length reads ≡ length (names_in scope)
      → ((v : ℕ) → slice_index_or places v None ≡ None) → ((v : ℕ) → row_at reads v ≡ []) → IsNoted scope [] places reads
  noted-none places reads pl rl none empty = record {
    places_long = pl;
    reads_long = rl;
    noted = λ v j e. absurd (cc (none v, e));
    none = λ v e. empty v;
    some = λ j v name value e n. let b = slice_get_within [] j (Assign name value) e in absurd (omega (arith, b));
  }

  still-noted : (passed : List ModItem) (item : ModItem) (reads : List (List ℕ)) (v j : ℕ) → IsNotedAt scope passed reads v j → IsNotedAt scope (passed ++ item ∷ []) reads v j
  still-noted passed item reads v j n = record {
    name = n.name;
    value = n.value;
    item = get_left passed (item ∷ []) j (Assign n.name n.value) n.item;
    number = n.number;
    row = n.row;
  }

  -- an item that assigns nothing
  same-noted : (passed : List ModItem) (item : ModItem) (places : List (Option ℕ)) (reads : List (List ℕ)) → ((name : List ℕ) (value : Expr) → item ≡ Assign name value → ⊥)
      → IsNoted scope passed places reads → IsNoted scope (passed ++ item ∷ []) places reads
  same-noted passed item places reads no_assign n = record {
    places_long = n.places_long;
    reads_long = n.reads_long;
    noted = λ v j e. still-noted passed item reads v j (n.noted v j e);
    none = n.none;
    some = λ j v name value e k. ⊎_elim (λ old. n.some j v name value old k)
        (λ (new : (j ≡ length passed) × (item ≡ Assign name value)). absurd (no_assign name value new.1))
        (back-or-front passed item j (Assign name value) e);
  }

  -- an assignment of a name that has a number
  more-noted : (passed : List ModItem) (name : List ℕ) (value : Expr) (places : List (Option ℕ)) (reads : List (List ℕ)) (v : ℕ) → number_in scope name ≡ Some v
      → IsNoted scope passed places reads
      → IsNoted scope (passed ++ Assign name value ∷ []) (set places v (Some (length passed))) (set reads v (map (number_at scope) (names_read value)))
  more-noted passed name value places reads v known n =
      let low = number-below name v known in
      let pl = n.places_long in
      let rl = n.reads_long in
      let vp : v < length places = omega (arith, low, pl) in
      let vr : v < length reads = omega (arith, low, rl) in
      record {
        places_long = length-set places v (Some (length passed)) ∙ pl;
        reads_long = length-set reads v (map (number_at scope) (names_read value)) ∙ rl;
        noted = λ u j e. ⊎_elim (λ same. it vp vr u j same e) (λ other. old u j other e) (cases_eq u v);
        none = λ u e. ⊎_elim
            (λ same. absurd (cc (sym (ap (λ w. slice_index_or (set places v (Some (length passed))) w None) same ∙ get_or-set_same places v (Some (length passed)) None vp), e)))
            (λ other. get_or-set_other reads v u (map (number_at scope) (names_read value)) [] other ∙ n.none u (sym (get_or-set_other places v u (Some (length passed)) None other) ∙ e))
            (cases_eq u v);
        some = λ j u name' value' e k. ⊎_elim
            (λ same. (length passed, ap (λ w. slice_index_or (set places v (Some (length passed))) w None) same ∙ get_or-set_same places v (Some (length passed)) None vp))
            (λ other. let s = some-old j u name' value' e k other in (s.0, get_or-set_other places v u (Some (length passed)) None other ∙ s.1))
            (cases_eq u v);
      }
    where
      it : v < length places → v < length reads → (u j : ℕ) → u ≡ v → slice_index_or (set places v (Some (length passed))) u None ≡ Some j
          → IsNotedAt scope (passed ++ Assign name value ∷ []) (set reads v (map (number_at scope) (names_read value))) u j
      it vp vr u j same e =
          let at : length passed ≡ j = cc (sym (get_or-set_same places v (Some (length passed)) None vp) ∙ ap (λ w. slice_index_or (set places v (Some (length passed))) w None) (sym same) ∙ e) in
          let l = length-append passed (Assign name value ∷ []) in
          record {
            name = name;
            value = value;
            item = slice_get-get_or (passed ++ Assign name value ∷ []) j (Assign name value) (omega (arith, l, at)) ∙ ap Some (get_or_at passed (Assign name value) [] (Assign name value) j at);
            number = known ∙ ap Some (sym same);
            row = ap (row_at (set reads v (map (number_at scope) (names_read value)))) same ∙ get_or-set_same reads v (map (number_at scope) (names_read value)) [] vr;
          }

      old : (u j : ℕ) → (u ≡ v → ⊥) → slice_index_or (set places v (Some (length passed))) u None ≡ Some j
          → IsNotedAt scope (passed ++ Assign name value ∷ [])
          (set reads v (map (number_at scope) (names_read value))) u j
      old u j other e =
          let before = n.noted u j (sym (get_or-set_other places v u (Some (length passed)) None other) ∙ e) in
          record {
            name = before.name;
            value = before.value;
            item = get_left passed (Assign name value ∷ []) j (Assign before.name before.value) before.item;
            number = before.number;
            row = get_or-set_other reads v u (map (number_at scope) (names_read value)) [] other ∙ before.row;
          }

      some-old : (j u : ℕ) (name' : List ℕ) (value' : Expr)
          → slice_get (passed ++ Assign name value ∷ []) j ≡ Some (Assign name' value')
          → number_in scope name' ≡ Some u → (u ≡ v → ⊥) → (k : ℕ) × (slice_index_or places u None ≡ Some k)
      some-old j u name' value' e k other = ⊎_elim (λ before. n.some j u name' value' before k)
          (λ (new : (j ≡ length passed) × (Assign name value ≡ Assign name' value')). absurd (other (same-number (sym k ∙ ap (number_in scope) (sym (named new.1)) ∙ known))))
          (back-or-front passed (Assign name value) j (Assign name' value') e)
        where
          named : Assign name value ≡ Assign name' value' → name ≡ name'
          named p = cc p

          same-number : Some u ≡ Some v → u ≡ v
          same-number p = cc p

  -- an assignment of a name that has none
  unnumbered : (passed : List ModItem) (name : List ℕ) (value : Expr) (places : List (Option ℕ)) (reads : List (List ℕ)) → number_in scope name ≡ None
      → IsNoted scope passed places reads → IsNoted scope (passed ++ Assign name value ∷ []) places reads
  unnumbered passed name value places reads none n = record {
    places_long = n.places_long;
    reads_long = n.reads_long;
    noted = λ v j e. still-noted passed (Assign name value) reads v j (n.noted v j e);
    none = n.none;
    some = λ j v name' value' e k. ⊎_elim (λ old. n.some j v name' value' old k)
        (λ (new : (j ≡ length passed) × (Assign name value ≡ Assign name' value')). absurd (clash name' v (named name' value' new.1) k))
        (back-or-front passed (Assign name value) j (Assign name' value') e);
  }
    where
      named : (name' : List ℕ) (value' : Expr) → Assign name value ≡ Assign name' value' → name ≡ name'
      named name' value' p = cc p

      clash : (name' : List ℕ) (v : ℕ) → name ≡ name' → number_in scope name' ≡ Some v → ⊥
      clash name' v same k = let e = sym none ∙ ap (number_in scope) same ∙ k in absurd (cc e)

  pub noted-step : (passed : List ModItem) (item : ModItem) (places : List (Option ℕ)) (reads : List (List ℕ)) → IsNoted scope passed places reads
      → IsNoted scope (passed ++ item ∷ []) (places_after scope places (length passed) item) (reads_after scope reads item)
  noted-step passed (Wire signed width name) places reads n = same-noted passed (Wire signed width name) places reads (λ name' value e. absurd (cc e)) n
  noted-step passed (Reg signed width name) places reads n = same-noted passed (Reg signed width name) places reads (λ name' value e. absurd (cc e)) n
  noted-step passed (Always name first condition value) places reads n = same-noted passed (Always name first condition value) places reads (λ name' value e. absurd (cc e)) n
  noted-step passed (Assign name value) places reads n = by (number_in scope name) refl where
    by : (o : Option ℕ) → number_in scope name ≡ o
        → IsNoted scope (passed ++ Assign name value ∷ []) (set places (number_at scope name) (Some (length passed))) (set reads (number_at scope name) (map (number_at scope) (names_read value)))
    by (Some v) e =
        subst (λ k. IsNoted scope (passed ++ Assign name value ∷ []) (set places k (Some (length passed))) (set reads k (map (number_at scope) (names_read value)))) (sym (number-is name v e))
        (more-noted passed name value places reads v e n)
    by None e =
        let count : number_at scope name ≡ length (names_in scope) = ap (λ o. unwrap_or o (length (names_in scope))) e in
        let pl = n.places_long in
        let rl = n.reads_long in
        subst (λ ps. IsNoted scope (passed ++ Assign name value ∷ []) ps
        (set reads (number_at scope name) (map (number_at scope) (names_read value))))
        (sym (set_past places (number_at scope name) (Some (length passed)) (omega (arith, count, pl))))
        (subst (λ rs. IsNoted scope (passed ++ Assign name value ∷ []) places rs) (sym (set_past reads (number_at scope name) (map (number_at scope) (names_read value)) (omega (arith, count, rl))))
        (unnumbered passed name value places reads e n))

-- numbers of names, a name further
pub numbers-more : (scope : Scope) (text : List MentionHere) (i : ℕ) (d : MentionHere) → i < length text
    → map (number_at scope) (map mentioned (shown (take (i + 1) text)))
    ≡ map (number_at scope) (map mentioned (shown (take i text)))
    ++ number_at scope (mentioned (mention_of (slice_index_or text i d))) ∷ []
numbers-more scope text i d below =
    ap (λ xs. map (number_at scope) (map mentioned xs)) (map_more mention_of text i d below)
    ∙ ap (map (number_at scope)) (map-append mentioned (shown (take i text)) (mention_of (slice_index_or text i d) ∷ []))
    ∙ map-append (number_at scope) (map mentioned (shown (take i text))) (mentioned (mention_of (slice_index_or text i d)) ∷ [])

-- the same everywhere, and past the end
pub replicated : {A : Type 0} (a : A) (count v : ℕ) → slice_index_or (replicate count a) v a ≡ a
replicated a count v = ⊎_elim
    (λ (low : v < count). get_or-replicate count v a a low)
    (λ (past : count ≤ v). let long = length-replicate count a in get_or-eq_default (replicate count a) a (omega (arith, long, past)))
    (cases_lt v count)
