use Rattle.std.proofs.Common.{below_more, arith, slice_index}
use Rattle.std.proofs.lemmas.Grind.{get_or_default_zero}
use Rattle.hw_trim.proofs.Marks.{marks-none, marks-trans}
use Rattle.hw_trim.proofs.marking.mark_all.Goals as goal

pub loop-k-init : goal.loop-k-init
loop-k-init c = record { marks = marks-none c.args.marks.now c.args.order.now.items c.requires.marking; marked = λ j less. absurd (omega (arith, less)) }

pub loop-k-preserved : goal.loop-k-preserved
loop-k-preserved c =
    let inv = c.loop-k.invariant in
    let ens = c.in_ok-mark.ensures in
    record {
      marks = marks-trans c.args.marks.now c.loop-k.marks c.mark.new.marks c.args.order.now.items c.loop-k.order.items c.mark.new.order.items inv.marks ens.marks;
      marked = below_more _ _ (λ j h. ens.marks.kept (slice_index c.args.list.now j) (inv.marked j h)) ens.marked;
    }

pub returns-clause-marked : goal.returns-clause-marked
returns-clause-marked c = λ k d within. rw (get_or_default_zero c.args.list.now k d within) (c.loop-k.invariant.marked k (omega arith))
