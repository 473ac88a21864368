use Rattle.std.proofs.Common.{◌∙◌, ℕ, List, ◌+◌, ◌++◌, take, drop, reverse, ap, arith}
use Rattle.hw_arcs.proofs.Rings.{back_around}
use Rattle.hw_arcs.proofs.ring.turn_back.Goals as goal

pub rotate_left-requires : goal.rotate_left-requires
rotate_left-requires c =
    let inside = c.least_place-place.ensures.there in
    let size = c.in_ok-cycle.ensures.len in
    omega (arith, inside, size)

pub returns : goal.returns
returns c =
    let ring : List ℕ = c.args.ring.now in
    let place : ℕ = c.least_place-place.result in
    let around = c.rotate_left.ensures.items ∙ ap (λ (blocks : List ℕ). drop (place + 1) blocks ++ take (place + 1) blocks) c.in_ok-cycle.ensures.items in
    record {
      place = place;
      there = c.least_place-place.ensures.there;
      is = c.from_vec.ensures ∙ c.reverse.ensures.items ∙ ap reverse around ∙ back_around ring place c.least_place-place.ensures.there;
      least = c.least_place-place.ensures.least;
    }
