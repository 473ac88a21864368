use Rattle.std.proofs.Common.{◌+◌, sym, subst}
use Rattle.vl_eval.specs.inner.Reading.{AreSpared}
use Rattle.vl_eval.proofs.Spares.{spared-renew}
use Rattle.vl_eval.proofs.sparing.renew.Goals as goal

pub returns-clause-spared : goal.returns-clause-spared
returns-clause-spared c =
    let need = c.requires in
    subst (λ v. AreSpared c.args.base (c.args.number + 1) c.args.code.now c.write.new.marks v) (sym c.write.ensures.values)
    (spared-renew c.args.base c.args.number c.args.code.now c.args.values.now c.value-value.result need.low need.room need.ordered c.value-value.ensures
    c.args.marks.now c.unmark.new.marks c.write.new.marks c.args.readers.now need.readers c.unmark.ensures.each c.unmark.ensures.blocks c.write.ensures.added c.write.ensures.marked need.spared)
