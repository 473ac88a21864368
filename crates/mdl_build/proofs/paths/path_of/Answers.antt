use Rattle.std.proofs.Common.{◌≡◌, ℕ, ◌++◌, List, [], Option, Some, sym, ap, ◌∙◌, arith, append_assoc}
use Rattle.std.specs.Prelude.{codes}
use Rattle.std.proofs.lemmas.List.{append-nil}
use Rattle.mdl_build.specs.Blocks.{at, parent_of, path_of, path_name}
use Rattle.mdl_build.specs.Sections.{value_of}
use Rattle.mdl_build.specs.inner.Paths.{path_above}
use Rattle.mdl_build.proofs.RoleLemmas.{parent_before, path_step}
use Rattle.mdl_build.proofs.paths.path_of.Goals as goal

pub loop-outer-init : goal.loop-outer-init
loop-outer-init c =
    let items = c.args.layout.now.items.now in
    let name = path_name (value_of items c.args.place (codes "Name")) in
    record {
      within = c.requires.within;
      counts = c.requires.counts;
      path = path_step items c.args.place c.requires.counts ∙ ap (λ (rest : List ℕ). path_above items c.args.place ++ rest) (sym (c.in_ok-path.ensures ∙ append-nil name));
    }

pub loop-outer-smaller : goal.loop-outer-smaller
loop-outer-smaller c = (parent_before c.args.layout.now.items.now c.loop-outer.inner c.in-Some.outer (sym c.parent.ensures ∙ c.in-Some.is)).0

pub loop-outer-preserved : goal.loop-outer-preserved
loop-outer-preserved c =
    let items = c.args.layout.now.items.now in
    let outer = c.in-Some.outer in
    let is : parent_of items c.loop-outer.inner ≡ Some outer = sym c.parent.ensures ∙ c.in-Some.is in
    let h = parent_before items c.loop-outer.inner outer is in
    let name = path_name (value_of items outer (codes "Name")) in
    let assoc : ((path_above items outer ++ name) ++ codes "/") ++ c.loop-outer.path.items ≡ path_above items outer ++ (name ++ (codes "/" ++ c.loop-outer.path.items)) = simp append_assoc in
    let above_is = ap (λ (found : Option ℕ). at [] (λ parent. path_of items parent ++ codes "/") found) is in
    record {
      within = omega (arith, h.0, c.loop-outer.invariant.within);
      counts = h.1;
      path =
          c.loop-outer.invariant.path
          ∙ ap (λ (front : List ℕ). front ++ c.loop-outer.path.items) (above_is ∙ ap (λ (front : List ℕ). front ++ codes "/") (path_step items outer h.1))
          ∙ assoc
          ∙ ap (λ (rest : List ℕ). path_above items outer ++ rest) (sym (c.in_ok-path-2.ensures ∙ ap (λ (rest : List ℕ). name ++ rest) (c.deref.ensures.value ∙ c.in_ok-insert.ensures.items)));
    }

pub name_before-requires : goal.name_before-requires
name_before-requires c = c.requires.within

pub parent-requires-clause-within : goal.parent-requires-clause-within
parent-requires-clause-within c = c.loop-outer.invariant.within

pub parent-requires-clause-known : goal.parent-requires-clause-known
parent-requires-clause-known c = c.requires.known

pub name_before-requires-in-Some : goal.name_before-requires-in-Some
name_before-requires-in-Some c =
    let before = (parent_before c.args.layout.now.items.now c.loop-outer.inner c.in-Some.outer (sym c.parent.ensures ∙ c.in-Some.is)).0 in
    omega (arith, before, c.loop-outer.invariant.within)
