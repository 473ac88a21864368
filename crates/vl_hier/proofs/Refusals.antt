-- Why a design is flattened, or refused at an instance.
use Rattle.std.proofs.Common.{◌≡◌, ◌<◌, ℕ, zero, suc, Bool, true, List, [], ◌∷◌, ◌++◌, Contains, take, drop, get_or, length, map, None, Some, ⊎_elim, ap, subst, sym, ◌∙◌, arith}
use Rattle.std.specs.List.{list_all, slice_get}
use Rattle.std.proofs.lemmas.Bool.{and_parts}
use Rattle.std.proofs.lemmas.Option.{none-some, same_Some}
use Rattle.vl_ast.specs.declared.designs.Instance.{Instance}
use Rattle.vl_ast.specs.declared.modules.Module.{Module}
use Rattle.math_list.proofs.Elements.{cons-cases, none-in}
use Rattle.vl_read.specs.declared.design.Design.{Design}
use Rattle.vl_hier.specs.Fault.{IsBadFirst}
use Rattle.vl_hier.specs.Linked.{AreLinked, HasAllLinked, IsParted}
use Rattle.vl_hier.specs.inner.Tests.{IsFirstBad, is_linked}
use Rattle.vl_hier.proofs.LinkTests.{is-linked, not-linked}

-- a list around one of its places
cut-here : {A : Type 0} (xs : List A) (k : ℕ) (x : A) → slice_get xs k ≡ Some x → xs ≡ take k xs ++ x ∷ drop (suc k) xs
cut-here [] k x at = absurd (none-some x at)
cut-here (y ∷ xs) zero x at = ap (λ z. z ∷ xs) (same_Some y x at)
cut-here (y ∷ xs) (suc k) x at = ap (λ zs. y ∷ zs) (cut-here xs k x at)

-- at a place of a list, and at the same place of what was made of each of its elements
pub head-at : {A B : Type 0} (f : A → B) (xs : List A) (i : ℕ) → i < length xs → (x : A) → x ≡ get_or xs i x → (h : B) → h ≡ get_or (map f xs) i h → h ≡ f x
head-at f [] i below x is h made = absurd (omega (arith, below))
head-at f (y ∷ xs) zero below x is h made = made ∙ ap f (sym is)
head-at f (y ∷ xs) (suc i) below x is h made = head-at f xs i (omega (arith, below)) x is h made

each-passes : {A : Type 0} (test : A → Bool) (xs : List A) → list_all test xs ≡ true → (x : A) → Contains xs x → test x ≡ true
each-passes test [] e x there = absurd (none-in x there)
each-passes test (y ∷ xs) e x there =
    let parts = and_parts (test y) (list_all test xs) e in
    ⊎_elim (λ same. subst (λ z. test z ≡ true) same parts.0) (λ later. each-passes test xs parts.1 x later) (cons-cases y x xs there)

module _ (design : Design) (below : List Module) (top : Module) (parted : IsParted design below top) where
  all-linked : (some : List Instance) → list_all (is_linked design.instances below top) some ≡ true → AreLinked design below top some
  all-linked some e i there = is-linked design.instances below top i (each-passes (is_linked design.instances below top) some e i there)

  pub none-bad : IsFirstBad design.instances below top None → HasAllLinked design
  none-bad e = record { below = below; top = top; parted = parted; linked = all-linked design.instances e }

  pub bad-first : (place : ℕ) (name : List ℕ) → IsFirstBad design.instances below top (Some place)
      → ((one : Instance) → slice_get design.instances place ≡ Some one → name ≡ one.name) → IsBadFirst design name
  bad-first place name (one, at, bad, before) named = record {
    below = below;
    top = top;
    parted = parted;
    before = take place design.instances;
    instance = one;
    after = drop (suc place) design.instances;
    whole = cut-here design.instances place one at;
    sound = all-linked (take place design.instances) before;
    bad = not-linked design.instances below top one bad;
    name_is = named one at;
  }
