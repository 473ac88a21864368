use Rattle.std.proofs.Common.{◌≡◌, ℕ, subst, arith}
use Rattle.hw_slots.proofs.Totals.{bases_none, base_none, base_more, bases_more, elsewhere_none, elsewhere_more}
use Rattle.hw_slots.specs.inner.Counts.{AreBasesBy, base_by}
use Rattle.hw_slots.proofs.laying.lay_out.Goals as goal

pub loop-level-init : goal.loop-level-init
loop-level-init c = record {
  bases = bases_none c.args.widths.now c.args.bases.now c.args.start c.args.period;
  slot = (let h = base_none c.args.widths.now c.args.start c.args.period in omega (arith, h));
  elsewhere = elsewhere_none c.args.period c.args.bases.now;
}

pub loop-level-preserved : goal.loop-level-preserved
loop-level-preserved c = record {
  bases = bases_more c.args.widths.now c.loop-level.bases c.put.new.self c.args.start c.args.period
      c.loop-level.level c.loop-level.slot c.loop-level.invariant.slot c.in_ok-put.ensures
      c.loop-level.invariant.bases;
  slot = base_more c.args.widths.now c.args.start c.args.period c.loop-level.level c.loop-level.slot c.get.result _ c.loop-level.invariant.slot c.get.ensures c.in_ok-slot.ensures;
  elsewhere = elsewhere_more c.args.period c.loop-level.level c.loop-level.slot c.args.bases.now c.loop-level.bases c.put.new.self c.in_ok-put.ensures c.loop-level.invariant.elsewhere;
}

pub returns-clause-need : goal.returns-clause-need
returns-clause-need c =
    let all : c.loop-level.level ≡ c.args.levels = omega (arith, c.loop-level-test.false, c.loop-level.auto.level-end) in
    subst (λ (count : ℕ). c.loop-level.slot ≡ base_by c.args.widths.now c.args.start c.args.period count) all c.loop-level.invariant.slot

pub returns-clause-bases : goal.returns-clause-bases
returns-clause-bases c =
    let all : c.loop-level.level ≡ c.args.levels = omega (arith, c.loop-level-test.false, c.loop-level.auto.level-end) in
    let slot = subst (λ (count : ℕ). c.loop-level.slot ≡ base_by c.args.widths.now c.args.start c.args.period count) all c.loop-level.invariant.slot in
    let bases = subst (λ (count : ℕ). AreBasesBy c.args.widths.now c.args.start c.args.period count c.loop-level.bases) all c.loop-level.invariant.bases in
    bases_more c.args.widths.now c.loop-level.bases c.put-2.new.self c.args.start c.args.period c.args.levels c.loop-level.slot slot c.in_ok-put-2.ensures bases

pub returns-clause-elsewhere : goal.returns-clause-elsewhere
returns-clause-elsewhere c = elsewhere_more c.args.period c.args.levels c.loop-level.slot c.args.bases.now c.loop-level.bases c.put-2.new.self c.in_ok-put-2.ensures c.loop-level.invariant.elsewhere
