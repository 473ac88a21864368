use Rattle.std.proofs.Common.{ℕ, List, slice_index, ap, sym, ◌∙◌}
use Rattle.std.proofs.lemmas.Bool.Decides.{Decides-eqb}
use Rattle.std.proofs.lemmas.Slice.Eq.{slice_eq-Decides}
use Rattle.vl_eval.specs.Machine.{slot_of}
use Rattle.vl_eval.proofs.machine.Machine.is_at.Goals as goal

pub returns-clause-at : goal.returns-clause-at
returns-clause-at c = λ at row kept.
    let machine = c.args.self.now in
    let same = (slice_eq-Decides Decides-eqb c.as_slice.result.now c.as_slice-2.result.now c.eq.result c.eq.ensures).0 at in
    kept.row_is ∙ ap (λ (values : List ℕ). λ name. slice_index values (slot_of machine name)) (sym c.as_slice-2.ensures.value ∙ sym same ∙ c.as_slice.ensures.value)

pub returns-clause-same : goal.returns-clause-same
returns-clause-same c = λ has.
    (slice_eq-Decides Decides-eqb c.as_slice.result.now c.as_slice-2.result.now c.eq.result c.eq.ensures).1
    (c.as_slice.ensures.value ∙ sym has ∙ sym c.as_slice-2.ensures.value)
