use Rattle.std.proofs.Common.{◌<◌, length, subst, arith}
use Rattle.std.proofs.lemmas.List.{take_all}
use Rattle.vl_check.specs.inner.CycleMarks.{AreMarked}
use Rattle.vl_check.proofs.Beginnings.{marked-more}
use Rattle.vl_check.proofs.ordering.marks_of.Goals as goal

pub loop-number-preserved : goal.loop-number-preserved
loop-number-preserved c =
    marked-more c.args.numbers.now c.loop-number.number-index c.args.count c.loop-number.marks.items
    c.loop-number-test.true
    (c.requires c.loop-number.number-index c.loop-number-test.true) c.loop-number.invariant

pub bounds-numbers-number-index : goal.bounds-numbers-number-index
bounds-numbers-number-index c = c.loop-number-test.true

pub index_mut-requires : goal.index_mut-requires
index_mut-requires c =
    let low = c.requires c.loop-number.number-index c.loop-number-test.true in
    let long = c.loop-number.invariant.long in
    let ok = c.loop-number.marks.ok.0 in
    omega (arith, low, long, ok)

pub loop-number-smaller : goal.loop-number-smaller
loop-number-smaller c = let here : c.loop-number.number-index < length c.args.numbers.now = c.loop-number-test.true in omega (arith, here)

pub returns : goal.returns
returns c =
    subst (λ numbers. AreMarked numbers c.args.count c.loop-number.marks.items) (take_all c.loop-number.number-index c.args.numbers.now c.loop-number-test.false)
    c.loop-number.invariant
