use Rattle.std.proofs.Common.{◌≡◌, ◌<◌, ◌≤◌, ◌-◌, length, sym, subst, ◌∙◌, arith}
use Rattle.std.proofs.lemmas.List.{get_or_default}
use Rattle.vl_eval.specs.declared.readers.Link.{Link}
use Rattle.vl_eval.specs.inner.Reading.{link_at}
use Rattle.vl_eval.proofs.Marked.{added-then, marked-along}
use Rattle.vl_eval.proofs.readers.mark_readers.Goals as goal

pub loop-at-preserved : goal.loop-at-preserved
loop-at-preserved c =
    let readers = c.args.readers.now in
    let links = readers.links.items in
    let at = c.loop-at.at in
    let inv = c.loop-at.invariant in
    let link = c.index-in-loop-at.result.now in
    let some : 0 < at = omega (arith, c.loop-at-test.true) in
    let low : at - 1 < length links = omega (arith, some, inv.low) in
    let is : link_at links (at - 1) ≡ link = get_or_default links (at - 1) (record { reader = 0; rest = 0 }) link low ∙ sym c.index-in-loop-at.ensures in
    let rest : link.rest ≤ at - 1 = subst (λ (l : Link). l.rest ≤ at - 1) is (c.requires.chains.rests (at - 1) low) in
    record {
      low = omega (arith, rest, low);
      added = added-then c.args.marks.now c.loop-at.marks c.mark.new.marks inv.added c.mark.ensures.added;
      marked = marked-along readers c.args.marks.now c.loop-at.marks c.mark.new.marks c.args.place at link inv.low some is inv.added c.mark.ensures.added c.mark.ensures.marked inv.marked;
    }
