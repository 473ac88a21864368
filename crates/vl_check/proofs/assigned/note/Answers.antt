use Rattle.std.proofs.Common.{ℕ, Some, ap, set, sym, ◌∙◌}
use Rattle.vl_check.specs.Scope.{number_at}
use Rattle.vl_check.specs.inner.Assignments.{places_after, reads_after}
use Rattle.vl_check.proofs.assigned.note.Goals as goal

pub returns-clause-places : goal.returns-clause-places
returns-clause-places c =
    let scope = c.args.scope.now in
    c.put_at.ensures ∙ ap (λ (n : ℕ). set c.args.places.now.items n (Some c.args.at)) (c.number_or_count-number.ensures ∙ ap (number_at scope) c.bytes.ensures)
    ∙ ap (places_after scope c.args.places.now.items c.args.at) (sym c.in-Assign.is)

pub returns-clause-reads : goal.returns-clause-reads
returns-clause-reads c =
    let scope = c.args.scope.now in
    c.put_at-2.ensures ∙ (λ i. set c.args.reads.now.items ((c.number_or_count-number.ensures ∙ ap (number_at scope) c.bytes.ensures) i) (c.in_ok-read.ensures i))
    ∙ ap (reads_after scope c.args.reads.now.items) (sym c.in-Assign.is)
