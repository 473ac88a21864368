use Rattle.std.proofs.Common.{◌≡◌, ◌<◌, ◌++◌, ◌∷◌, [], length, set, take, slice_index, sym, subst, ◌∙◌, arith}
use Rattle.std.proofs.lemmas.List.{get_or-take, length-take-le, take_all, take_more}
use Rattle.vl_eval.specs.inner.Edges.{IsPut}
use Rattle.vl_eval.proofs.Puts.{put-more, put-none}
use Rattle.vl_eval.proofs.moving.put.Goals as goal

pub loop-k-preserved : goal.loop-k-preserved
loop-k-preserved c =
    let places = c.args.places.now in
    let k = c.loop-k.k in
    let below = c.loop-k-test.true in
    let place = slice_index places k in
    let long : length (take k places) ≡ k = length-take-le k places (omega (arith, below)) in
    let within = c.requires.within k below in
    subst (λ ps. IsPut ps c.args.bits.now c.args.values.now (set c.loop-k.values place (slice_index c.args.bits.now k))) (sym (take_more places k 0 below))
    (subst (λ n. IsPut (take k places ++ place ∷ []) c.args.bits.now c.args.values.now (set c.loop-k.values place (slice_index c.args.bits.now n))) long
    (put-more (take k places) place c.args.bits.now c.args.values.now c.loop-k.values (omega (arith, within, c.loop-k.auto.values))
    (λ j low same. let less : j < k = omega (arith, low, long) in c.requires.apart j k less below (sym (get_or-take k places j 0 less) ∙ same))
    c.loop-k.invariant))

pub loop-k-init : goal.loop-k-init
loop-k-init c = put-none c.args.bits.now c.args.values.now

pub returns : goal.returns
returns c = subst (λ ps. IsPut ps c.args.bits.now c.args.values.now c.loop-k.values) (take_all c.loop-k.k c.args.places.now c.loop-k-test.false) c.loop-k.invariant
