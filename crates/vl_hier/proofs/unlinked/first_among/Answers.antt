use Rattle.std.proofs.Common.{◌&&◌, ◌∙◌, Some, ap, get_or, sym}
use Rattle.std.proofs.lemmas.List.Folds.{list_all_more}
use Rattle.std.proofs.lemmas.Option.{slice_get-get_or}
use Rattle.vl_hier.specs.Linked.{head_of}
use Rattle.vl_hier.specs.inner.Tests.{is_linked}
use Rattle.vl_hier.proofs.Refusals.{head-at}
use Rattle.vl_hier.proofs.unlinked.first_among.Goals as goal

pub loop-place-preserved : goal.loop-place-preserved
loop-place-preserved c = λ below top are.
    let all = c.args.instances.now in
    let place = c.loop-place.place in
    let x = c.index-instances-place.result in
    let h = c.index-heads-place.result in
    let headed = c.bytes.ensures ∙ head-at head_of all place c.loop-place-test.true x c.index-instances-place.is h (c.index-heads-place.is ∙ (λ k. get_or (c.requires k) place h)) in
    let linked = ap (is_linked all below top) (sym c.index-instances-place.is) ∙ sym (c.in_ok-is_linked.ensures below top all are headed) ∙ c.if-not-branch.false in
    list_all_more (is_linked all below top) all place x c.loop-place-test.true ∙ (λ k. c.loop-place.invariant below top are k && linked k)

pub returns-then-not-branch : goal.returns-then-not-branch
returns-then-not-branch c = λ below top are.
    let all = c.args.instances.now in
    let place = c.loop-place.place in
    let x = c.index-instances-place.result in
    let h = c.index-heads-place.result in
    let headed = c.bytes.ensures ∙ head-at head_of all place c.loop-place-test.true x c.index-instances-place.is h (c.index-heads-place.is ∙ (λ k. get_or (c.requires k) place h)) in (
      x,
      slice_get-get_or all place x c.loop-place-test.true ∙ ap Some (sym c.index-instances-place.is),
      sym (c.in_ok-is_linked.ensures below top all are headed) ∙ c.if-not-branch.true,
      c.loop-place.invariant below top are,
    )
