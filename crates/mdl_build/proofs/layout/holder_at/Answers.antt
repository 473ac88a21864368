use Rattle.std.proofs.Common.{◌-◌, ◌<◌, None, Some, sym, ◌∙◌, arith}
use Rattle.mdl_build.proofs.RoleLemmas.{above_before}
use Rattle.mdl_build.proofs.Above.{leap_from, holder_known, holders_length}
use Rattle.mdl_build.specs.Sections.{depth_at}
use Rattle.mdl_build.proofs.layout.holder_at.Goals as goal

pub bounds : goal.bounds
bounds c = let r = c.requires.within in let t = c.loop-behind-test.true in let i = c.loop-behind.invariant.0 in
    omega (arith, holders_length c.args.items.now c.args.holders.now c.args.place c.requires.known)

-- the holder of the last item that was passed stands before it
holder_before : (c : goal.In-Some) → c.in-Some.holder < c.loop-behind.behind - 1
holder_before c =
    let r = c.requires.within in
    let t = c.loop-behind-test.true in
    let i = c.loop-behind.invariant.0 in
    let known = holder_known c.args.items.now c.args.holders.now c.args.place (c.loop-behind.behind - 1) c.requires.known (omega arith) None in
    above_before c.args.items.now (depth_at c.args.items.now (c.loop-behind.behind - 1)) (c.loop-behind.behind - 1) c.in-Some.holder (sym known ∙ c.in-Some.is)

pub overflow_add-behind : goal.overflow_add-behind
overflow_add-behind c = omega (arith, holder_before c)

pub loop-behind-preserved-in-None : goal.loop-behind-preserved-in-None
loop-behind-preserved-in-None c =
    let r = c.requires.within in
    let t = c.loop-behind-test.true in
    let i = c.loop-behind.invariant.0 in
    let known = holder_known c.args.items.now c.args.holders.now c.args.place (c.loop-behind.behind - 1) c.requires.known (omega arith) None in (
      omega arith,
      leap_from c.args.items.now c.args.depth c.loop-behind.behind c.args.place
          c.index-items-last.result None t (omega arith) c.if-items-last.false
          (sym c.in-None.is ∙ known) c.loop-behind.invariant.1,
    )

pub loop-behind-smaller : goal.loop-behind-smaller
loop-behind-smaller c = omega (arith, holder_before c)

pub loop-behind-preserved : goal.loop-behind-preserved
loop-behind-preserved c =
    let r = c.requires.within in
    let t = c.loop-behind-test.true in
    let i = c.loop-behind.invariant.0 in
    let known = holder_known c.args.items.now c.args.holders.now c.args.place (c.loop-behind.behind - 1) c.requires.known (omega arith) None in (
      omega (arith, holder_before c),
      leap_from c.args.items.now c.args.depth c.loop-behind.behind c.args.place
          c.index-items-last.result (Some c.in-Some.holder) t (omega arith) c.if-items-last.false
          (sym c.in-Some.is ∙ known) c.loop-behind.invariant.1,
    )
