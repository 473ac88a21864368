use Rattle.std.proofs.Common.{◌≡◌, ◌≢◌, ℕ, ◌<◌, ◌||◌, ◌&&◌, ⊎_elim, Bool, true, false, List, [], ◌∷◌, ◌++◌, length, set, get_or, Option, Some, refl, sym, ap, subst, ◌∙◌, arith, ◌==◌}
use Rattle.std.specs.List.{list_any}
use Rattle.std.proofs.lemmas.Bool.{cases_eq, eq-eqb, ne_eqb}
use Rattle.std.proofs.lemmas.List.{get_or-set_same, get_or-set_other, length-set}
use Rattle.std.proofs.lemmas.List.Folds.{list_any-append}
use Rattle.mdl_text.specs.declared.tree.Item.{Item}
use Rattle.mdl_build.specs.declared.library.BlockType.TheVariants.{EnablePort}
use Rattle.mdl_build.specs.Blocks.{at, is_of}
use Rattle.mdl_build.specs.Sections.{holder_of}
use Rattle.mdl_build.specs.inner.ItemFacts.{is_enable_in, AreEnabled}
use Rattle.mdl_build.proofs.RoleLemmas.{holder_before}
use Rattle.mdl_build.proofs.making.add_enable.Goals as goal

or_none : (before here : Bool) → here ≡ false → before ≡ (before || here)
or_none true here none = refl
or_none false here none = sym none

or_here : (before here : Bool) → here ≡ true → true ≡ (before || here)
or_here true here is = refl
or_here false here is = sym is

one_any : (p : ℕ → Bool) (place : ℕ) (b : Bool) → p place ≡ b → list_any p (place ∷ []) ≡ b
one_any p place true is = rw is refl
one_any p place false is = rw is refl

and_none : (b : Bool) → (b && false) ≡ false
and_none true = refl
and_none false = refl

-- a block that isn't the EnablePort of a System changes nothing
kept : (items : List Item) (before : List ℕ) (place : ℕ) (enabled : List Bool)
    → ((system : ℕ) → is_enable_in items system place ≡ false) → AreEnabled items before enabled
    → AreEnabled items (before ++ place ∷ []) enabled
kept items before place enabled never are = record {
  long = are.long;
  each = λ system below.
      let p = is_enable_in items system in
      are.each system below ∙ or_none (list_any p before) (list_any p (place ∷ [])) (one_any p place false (never system)) ∙ sym (list_any-append p before (place ∷ []));
}

-- the EnablePort of a System changes its entry alone
noted : (items : List Item) (before : List ℕ) (place system : ℕ) (enabled : List Bool) → holder_of items place ≡ Some system → is_of items EnablePort place ≡ true → system < length enabled
    → AreEnabled items before enabled → AreEnabled items (before ++ place ∷ []) (set enabled system true)
noted items before place system enabled holds is inside are = record {
  long = length-set enabled system true ∙ are.long;
  each = λ other below.
      let p = is_enable_in items other in
      let test : (b : Bool) → (system == other) ≡ b → p place ≡ (b && true) =
      λ b same. ap (λ (found : Option ℕ). at false (λ holder. holder == other) found
      && is_of items EnablePort place) holds ∙ ap (λ (t : Bool). (system == other) && t) is
      ∙ ap (λ (t : Bool). t && true) same in
      ⊎_elim
      (λ (same : system ≡ other).
      subst (λ (o : ℕ). get_or (set enabled system true) o false ≡ true) same (get_or-set_same enabled system true false inside)
      ∙ or_here (list_any p before) (list_any p (place ∷ [])) (one_any p place true (test true (eq-eqb system other same)))
      ∙ sym (list_any-append p before (place ∷ [])))
      (λ (apart : system ≢ other).
      get_or-set_other enabled system other true false (λ e. apart (sym e)) ∙ are.each other below
      ∙ or_none (list_any p before) (list_any p (place ∷ [])) (one_any p place false (test false (ne_eqb system other apart)))
      ∙ sym (list_any-append p before (place ∷ [])))
      (cases_eq system other);
}

pub index_mut-requires : goal.index_mut-requires
index_mut-requires c =
    let h = holder_before c.args.layout.now.items.now c.args.place c.in-Some.system (sym c.holder.ensures ∙ c.in-Some.is) in
    omega (arith, h, c.requires.within, c.requires.long, c.args.enabled.now.ok.0)

pub returns-then-not-says : goal.returns-then-not-says
returns-then-not-says c before are =
    let items = c.args.layout.now.items.now in
    let place = c.args.place in
    kept items before place _ (λ system. ap
    (λ (b : Bool). at false (λ holder. holder == system) (holder_of items place) && b)
    (sym c.says.ensures ∙ c.if-not-says.true)
    ∙ and_none (at false (λ holder. holder == system) (holder_of items place))) are

pub returns-in_default : goal.returns-in_default
returns-in_default c before are =
    let items = c.args.layout.now.items.now in
    let place = c.args.place in
    kept items before place _ (λ system. ap (λ (found : Option ℕ). at false (λ holder. holder == system) found && is_of items EnablePort place) (sym c.holder.ensures ∙ c.in_default.is)) are

pub returns : goal.returns
returns c before are =
    let items = c.args.layout.now.items.now in
    let h = holder_before items c.args.place c.in-Some.system (sym c.holder.ensures ∙ c.in-Some.is) in
    noted items before c.args.place c.in-Some.system _ (sym c.holder.ensures ∙ c.in-Some.is) (sym c.says.ensures ∙ c.if-not-says.false) (omega (arith, h, c.requires.within, are.long)) are
