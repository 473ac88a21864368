use Rattle.std.proofs.Common.{◌≡◌, ℕ, length, map, ap, sym, ◌∙◌, arith}
use Rattle.std.specs.List.{range_with_len}
use Rattle.mdl_build.proofs.Ends.{depth_is}
use Rattle.mdl_build.proofs.Places.{pushed}
use Rattle.mdl_build.specs.Sections.{holder_of, last_above}
use Rattle.mdl_build.proofs.layout.holders_of.Goals as goal

pub loop-place-preserved : goal.loop-place-preserved
loop-place-preserved c =
    pushed (holder_of c.args.items.now) _ _ _ c.loop-place.place c.loop-place.invariant c.in_ok-push.ensures.items
    (c.holder_at-holder.ensures ∙ ap (λ (depth : ℕ). last_above c.args.items.now depth c.loop-place.place) (sym (depth_is c.args.items.now c.loop-place.place _ c.loop-place-test.true)))

pub returns : goal.returns
returns c =
    let items = c.args.items.now in
    let all : c.loop-place.place ≡ length items = omega (arith, c.loop-place-test.false, c.loop-place.auto.place-end) in
    c.loop-place.invariant ∙ ap (λ (count : ℕ). map (holder_of items) (range_with_len 0 count)) all
