-- What the registers take, one item after another.
use Rattle.std.proofs.Common.{◌≡◌, ◌<◌, ◌≤◌, ◌+◌, ◌^◌, ⊎_elim, ℕ, true, List, [], ◌∷◌, ◌++◌, length, take, slice_index, slice_index_or, codes, Contains, Option, None, Some, sym, ap, subst, ◌∙◌, arith}
use Rattle.std.proofs.lemmas.Nat.{mod_below, pow_pos}
use Rattle.std.proofs.lemmas.Option.{slice_get_within}
use Rattle.std.proofs.lemmas.List.{get_or_default, take_more}
use Rattle.std.proofs.lemmas.List.Elements.{Contains-append_left, Contains-append_cases, Contains-push}
use Rattle.vl_ast.specs.declared.expressions.Sized.{Sized}
use Rattle.vl_ast.specs.declared.expressions.Expr.{Expr}
use Rattle.vl_ast.specs.declared.modules.ModItem.{ModItem}
use Rattle.vl_ast.specs.declared.modules.ModItem.TheVariants.{Always}
use Rattle.vl_ast.specs.declared.modules.Module.{Module}
use Rattle.vl_ast.specs.Conditions.{mentioned, no_reset, undriven, doubly}
use Rattle.vl_ast.specs.Nets.{Declared, port_declared, Declares, declarations, mentions, condition_names, names_read}
use Rattle.vl_ast.proofs.Agree.{ByLayer}
use Rattle.vl_ast.proofs.Alone.{reset-port}
use Rattle.math_list.proofs.Elements.{cons-cases, none-in, map-in}
use Rattle.vl_ast.proofs.Facts.{always-drives, driven-declared, in-port, listed-mention, mention-listed, read-declared, reads-of-always}
use Rattle.vl_check.proofs.ScopeNames.{at-number}
use Rattle.vl_check.specs.declared.scope.Scope.{Scope}
use Rattle.vl_check.specs.Scope.{IsScopeOf, names_in, nets_in, number_in}
use Rattle.vl_eval.specs.declared.ops.Op.{Op}
use Rattle.vl_eval.specs.declared.plan.Capture.{Capture}
use Rattle.vl_eval.specs.inner.Assigns.{Captures, next_names}
use Rattle.vl_eval.specs.inner.Ops.{IsSettled}
use Rattle.vl_eval.specs.inner.PlanOperations.{AreCaptured, AreWired, FixedFit, IsCaptured, IsFixed, row_in}
use Rattle.vl_eval.specs.inner.PlaceBits.{Grows}
use Rattle.vl_eval.specs.inner.Site.{ArePlaced, slot_at, slot_in}
use Rattle.vl_eval.proofs.Builds.{grows-length, grows-more, grows-none, settled-later}

-- an item at its place
pub item-there : {X : Type 0} (xs ys : List X) (i : ℕ) (item x : X) → xs ≡ ys → i < length xs → item ≡ slice_index_or xs i item → item ≡ x → Contains ys x
item-there xs ys i item x e low is same = subst (λ zs. Contains zs x) e (i, low, get_or_default xs i x item low ∙ sym is ∙ same)

pub items-more : {X : Type 0} (xs ys : List X) (i : ℕ) (item x : X) → xs ≡ ys → i < length xs → item ≡ slice_index_or xs i item → item ≡ x → take (i + 1) ys ≡ take i ys ++ x ∷ []
items-more xs ys i item x e low is same =
    subst (λ zs. take (i + 1) zs ≡ take i zs ++ x ∷ []) e (take_more xs i item low ∙ ap (λ z. take i xs ++ z ∷ []) (sym is ∙ same))

module _ (by_layer : ByLayer) (m : Module) (scope : Scope) (s : IsScopeOf m scope) (driven : undriven m ≡ None) (once : doubly m ≡ None)
    (few : (name : List ℕ) → (nets_in scope name).width ≤ 128) (slots : List ℕ) (wired : List Op) (w : AreWired m scope slots wired) where
  abbrev count : ℕ
  count = length (names_in scope)

  -- a name that is declared
  abbrev Known : List ℕ → Type 0
  Known name = (d : Declared) × Contains (declarations m) d × (d.name ≡ name)

  pub number-of : (name : List ℕ) → Known name → (k : ℕ) × (number_in scope name ≡ Some k)
  number-of name (d, listed, same) = subst (λ n. (k : ℕ) × (number_in scope n ≡ Some k)) same (s.knows d.name (map-in mentioned (mentions m) (Declares d) (listed-mention m driven once d listed)))

  -- has bits that fit
  pub known-fits : (name : List ℕ) → Known name → (values : ℕ → ℕ) → IsSettled count wired values
      → FixedFit m scope (row_in scope slots values)
      → row_in scope slots values name < 2 ^ (nets_in scope name).width
  known-fits name known values st f =
      let k = number-of name known in
      ⊎_elim
      (λ a. let g = w.given name a.0 a.1 in
      subst (λ x. x < 2 ^ (nets_in scope name).width) (sym (g.is values st f)) (mod_below _ (2 ^ (nets_in scope name).width) (pow_pos (nets_in scope name).width)))
      (λ fixed. subst (λ n. row_in scope slots values n < 2 ^ (nets_in scope n).width) known.2 (f.at known.0 known.1 (subst (λ n. IsFixed m n) (sym known.2) fixed)))
      (w.either name k.0 k.1)

  pub known-placed : (ops : List Op) → Grows count wired ops → (names : List (List ℕ)) → ((name : List ℕ) → Contains names name → Known name) → ArePlaced count scope slots ops names
  known-placed ops g names k = record {
    below = λ name c.
        let n = number-of name (k name c) in
        let low = slice_get_within (names_in scope) n.0 name (at-number scope.names.items n.0 name n.1) in
        let b = w.below n.0 low in
        let l = grows-length count wired ops g in
        let e : slot_in scope slots name ≡ slice_index slots n.0 = ap (slot_at slots) n.1 in
        omega (arith, b, l, e);
    few = λ name c. few name;
  }

  pub reset-known : no_reset m ≡ None → Known (codes "reset")
  reset-known clocked =
      let r = reset-port m clocked in
      (port_declared r.0, mention-listed m driven once (port_declared r.0) (in-port m driven once r.0 r.1), r.2)

  module _ (reset : Known (codes "reset")) where
    -- the names of a register's item
    pub next-known : (name : List ℕ) (first : Sized) (condition : Option Expr) (value : Expr)
        → Contains m.items (Always name first condition value) → (n : List ℕ)
        → Contains (next_names name condition value) n → Known n
    next-known name first condition value h n c = ⊎_elim (λ e. subst Known e reset)
        (λ rest. ⊎_elim
        (λ e. subst Known e (listed (driven-declared m driven once true name (always-drives m driven once name first condition value h))))
        (λ read. listed (read-declared m driven once n (reads-of-always m driven once name n first condition value h read)))
        (cons-cases name n (condition_names condition ++ names_read value) rest))
        (cons-cases (codes "reset") n (name ∷ (condition_names condition ++ names_read value)) c)
      where
        listed : {x : List ℕ} → (d : Declared) × Contains (mentions m) (Declares d) × (d.name ≡ x) → Known x
        listed (d, h', same) = (d, mention-listed m driven once d h', same)

    captured : (before after : List Op) (from to : ℕ) (name : List ℕ) (first : Sized) (condition : Option Expr)
        (value : Expr) → Contains m.items (Always name first condition value) → Grows count wired before
        → to ≡ slot_in scope slots name → Captures count scope slots before after from name first condition value
        → IsCaptured m scope slots after (record { from = from; to = to }) name first condition value
    captured before after from to name first condition value h g is c = record {
      to = is;
      above = c.above;
      below = c.below;
      is = λ values st f.
          let old = settled-later by_layer count scope slots wired after (grows-more count wired before after g c.grows) values st in
          c.is values st (record { at = λ n i. known-fits n (next-known name first condition value h n i) values old f });
    }

    still-captured : (before after : List Op) (c : Capture) (name : List ℕ) (first : Sized)
        (condition : Option Expr) (value : Expr) → Grows count before after
        → IsCaptured m scope slots before c name first condition value
        → IsCaptured m scope slots after c name first condition value
    still-captured before after c name first condition value g k = record {
      to = k.to;
      above = k.above;
      below = (let b = k.below in let l = grows-length count before after g in omega (arith, b, l));
      is = λ values st f. k.is values (settled-later by_layer count scope slots before after g values st) f;
    }

    pub captured-none : AreCaptured m scope slots [] wired wired []
    captured-none = record {
      grows = grows-none count wired;
      each = λ name first condition value c. absurd (none-in _ c);
      only = λ c k. absurd (none-in c k);
    }

    pub captured-same : (passed : List ModItem) (item : ModItem) (ops : List Op) (captures : List Capture)
        → ((name : List ℕ) (first : Sized) (condition : Option Expr) (value : Expr)
        → item ≡ Always name first condition value → ⊥)
        → AreCaptured m scope slots passed wired ops captures → AreCaptured m scope slots (passed ++ item ∷ []) wired ops captures
    captured-same passed item ops captures other a = record {
      grows = a.grows;
      each = λ name first condition value c. ⊎_elim (λ old. a.each name first condition value old)
          (λ new. ⊎_elim (λ e. absurd (other name first condition value e)) (λ no'. absurd (none-in _ no')) (cons-cases item (Always name first condition value) [] new))
          (Contains-append_cases passed (item ∷ []) (Always name first condition value) c);
      only = λ c k. let r = a.only c k in (r.0, r.1, r.2, r.3, Contains-append_left passed (item ∷ []) (Always r.0 r.1 r.2 r.3) r.4, r.5);
    }

    pub captured-more : (passed : List ModItem) (ops ops' : List Op) (captures : List Capture) (from to : ℕ)
        (name : List ℕ) (first : Sized) (condition : Option Expr) (value : Expr)
        → Contains m.items (Always name first condition value)
        → to ≡ slot_in scope slots name → Captures count scope slots ops ops' from name first condition value
        → AreCaptured m scope slots passed wired ops captures
        → AreCaptured m scope slots (passed ++ Always name first condition value ∷ []) wired ops' (captures ++ record { from = from; to = to } ∷ [])
    captured-more passed ops ops' captures from to name first condition value h is c a =
        let here : Capture = record { from = from; to = to } in
        let new-one = captured ops ops' from to name first condition value h a.grows is c in
        record {
          grows = grows-more count wired ops ops' a.grows c.grows;
          each = λ n f k v i. ⊎_elim
              (λ old. let r = a.each n f k v old in (r.0, Contains-append_left captures (here ∷ []) r.0 r.1, still-captured ops ops' r.0 n f k v c.grows r.2))
              (λ new. ⊎_elim
              (λ e. (here, Contains-push captures here, moved here n f k v e new-one))
              (λ no'. absurd (none-in _ no')) (cons-cases (Always name first condition value) (Always n f k v) [] new))
              (Contains-append_cases passed (Always name first condition value ∷ []) (Always n f k v) i);
          only = λ d i. ⊎_elim
              (λ old. let r = a.only d old in (
                r.0,
                r.1,
                r.2,
                r.3,
                Contains-append_left passed (Always name first condition value ∷ []) (Always r.0 r.1 r.2 r.3) r.4,
                still-captured ops ops' d r.0 r.1 r.2 r.3 c.grows r.5,
              ))
              (λ new. ⊎_elim
              (λ e. (name, first, condition, value, Contains-push passed (Always name first condition value), subst (λ x. IsCaptured m scope slots ops' x name first condition value) e new-one))
              (λ no'. absurd (none-in _ no')) (cons-cases here d [] new))
              (Contains-append_cases captures (here ∷ []) d i);
        }
      where
        moved : (d : Capture) (n : List ℕ) (f : Sized) (k : Option Expr) (v : Expr)
            → Always name first condition value ≡ Always n f k v
            → IsCaptured m scope slots ops' d name first condition value
            → IsCaptured m scope slots ops' d n f k v
        moved d n f k v e x =
            let en : name ≡ n = cc e in let ef : first ≡ f = cc e in let ek : condition ≡ k = cc e in let ev : value ≡ v = cc e in
            subst (λ z. IsCaptured m scope slots ops' d n f k z) ev
            (subst (λ z. IsCaptured m scope slots ops' d n f z value) ek
            (subst (λ z. IsCaptured m scope slots ops' d n z condition value) ef
            (subst (λ z. IsCaptured m scope slots ops' d z first condition value) en x)))
