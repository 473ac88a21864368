use Rattle.std.proofs.Common.{rules, ◌≡◌, ◌+◌, length, set, sym, subst, arith}
use Rattle.vl_eval.specs.inner.Order.{ArePlaces}
use Rattle.vl_eval.proofs.SortOrder.{places-more, places-none}
use Rattle.vl_eval.proofs.arranging.places_of.Goals as goal

pub loop-place-init : goal.loop-place-init
loop-place-init c =
    let long : length c.in_ok-places.places.items ≡ length c.args.entries.now = search rules in
    places-none c.args.base c.args.entries.now c.in_ok-places.places.items long

pub loop-place-preserved : goal.loop-place-preserved
loop-place-preserved c =
    let base = c.args.base in
    let entries = c.args.entries.now in
    let n = c.loop-place.place in
    subst (λ k. ArePlaces base entries (n + 1) (set c.loop-place.places.items k (base + n))) (sym c.number_of.ensures)
    (places-more base entries n c.loop-place.places.items (c.requires.numbers n c.loop-place-test.true) c.loop-place.invariant)

pub returns : goal.returns
returns c =
    let all : c.loop-place.place ≡ length c.args.entries.now = omega (arith, c.loop-place-test.false, c.loop-place.auto.place-end) in
    subst (λ n. ArePlaces c.args.base c.args.entries.now n c.loop-place.places.items) all c.loop-place.invariant
