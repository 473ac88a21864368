use Rattle.std.proofs.Common.{◌≡◌, ◌<◌, ◌≤◌, ◌-◌, get_or, length, drop, arith, ◌∙◌}
use Rattle.mdl_build.proofs.Ends.{ends_length, end_known, value_leap}
use Rattle.mdl_build.specs.Sections.{value_of, value_within}
use Rattle.mdl_build.proofs.layout.Layout.value.Goals as goal

pub index-next-requires : goal.index-next-requires
index-next-requires c = let long = ends_length c.args.self.now.items.now c.args.self.now.ends.items c.args.self.now.ended in let t = c.loop-next-test.true in omega (arith, long, t)

leap : (c : goal.After-row_known-1) → (c.loop-next.next < c.index-next.result.now)
    × (c.index-next.result.now ≤ length c.args.self.now.items.now)
    × (value_of c.args.self.now.items.now c.args.place c.args.name.now
    ≡ value_within (get_or c.args.self.now.items.now c.args.place c.index-self-place.result).depth
    c.args.name.now (drop c.index-next.result.now c.args.self.now.items.now))
leap c =
    value_leap c.args.self.now.items.now (get_or c.args.self.now.items.now c.args.place
    c.index-self-place.result).depth c.loop-next.next c.index-next.result.now c.args.name.now
    c.index-self-next.result c.index-self-next-in-loop-next.result _
    c.loop-next-test.true c.if-self-next.true c.in-None.ensures
    (c.index-next.ensures ∙ end_known c.args.self.now.items.now c.args.self.now.ends.items c.loop-next.next _ c.args.self.now.ended c.loop-next-test.true) c.loop-next.invariant.1

pub loop-next-smaller : goal.loop-next-smaller
loop-next-smaller c = let after = (leap c).0 in let t = c.loop-next-test.true in
    let h : length c.args.self.now.items.now - c.index-next.result.now
    < length c.args.self.now.items.now - c.loop-next.next = omega (arith, after, t) in h

pub loop-next-preserved : goal.loop-next-preserved
loop-next-preserved c = ((leap c).1, (leap c).2)
