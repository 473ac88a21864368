use Rattle.std.proofs.Common.{◌≡◌, ◌∙◌, ℕ, List, None, Option, Some, ap, subst, sym}
use Rattle.std.specs.List.{slice_get}
use Rattle.std.proofs.lemmas.Option.{get_or_from_slice_get}
use Rattle.vl_ast.specs.declared.designs.Instance.{Instance}
use Rattle.vl_hier.specs.inner.Tests.{IsFirstBad}
use Rattle.vl_hier.proofs.Refusals.{bad-first, none-bad}
use Rattle.vl_hier.proofs.flattening.flat.Goals as goal

pub returns-in-Some-2-clause-bad : goal.returns-in-Some-2-clause-bad
returns-in-Some-2-clause-bad c =
    let design = c.args.design.now in
    let below = c.in-Some.below.now in
    let top = c.in-Some.top.now in
    let place = c.in-Some-2.place in
    let slice = c.as_slice-instances.result.now in
    let found = c.index-instances-place.result in
    let parted = sym c.as_slice-modules.ensures ∙ c.in-Some.ensures.cases.0 in
    let first = subst (λ (o : Option ℕ). IsFirstBad slice below top o) c.in-Some-2.is c.in_ok-place.ensures in
    let named : (one : Instance) → slice_get design.instances place ≡ Some one → c.in_ok-name.name ≡ one.name = λ one at.
    let there = ap (λ (xs : List Instance). slice_get xs place) c.as_slice-instances.ensures ∙ at in
    c.in_ok-name.ensures ∙ c.bytes.ensures ∙ ap (λ (i : Instance). i.name) (get_or_from_slice_get slice place one found there) in
    bad-first design below top parted place c.in_ok-name.name (subst (λ (xs : List Instance). IsFirstBad xs below top (Some place)) c.as_slice-instances.ensures first) named

pub returns-clause-linked : goal.returns-clause-linked
returns-clause-linked c =
    let below = c.in-Some.below.now in
    let top = c.in-Some.top.now in
    let parted = sym c.as_slice-modules.ensures ∙ c.in-Some.ensures.cases.0 in
    let first = subst (λ (o : Option ℕ). IsFirstBad c.as_slice-instances.result.now below top o) c.in_default-2.is c.in_ok-place.ensures in
    none-bad c.args.design.now below top parted (subst (λ (xs : List Instance). IsFirstBad xs below top None) c.as_slice-instances.ensures first)
