use Rattle.std.proofs.Common.{◌∙◌, sym, subst, List, ℕ, length}
use Rattle.std.proofs.lemmas.Result.{IfOk-weaker}
use Rattle.hw_trim.specs.inner.MarkPlaces.{ArePlaces}
use Rattle.hw_trim.proofs.Result.{made-emits, made-refines, made-runs, moves}
use Rattle.hw_trim.proofs.trimming.marked_part.Goals as goal

pub renumbered-requires : goal.renumbered-requires
renumbered-requires c = moves c.args.netlist.now c.requires.runs c.requires.emittable c.args.marks.now c.requires.needed c.as_slice.result.now c.as_slice-2.result.now
    (c.as_slice.ensures.value ∙ c.in_ok-keep.ensures.kept)
    (subst (λ (xs : List ℕ). ArePlaces c.args.marks.now xs (length c.args.marks.now))
    (sym c.as_slice-2.ensures.value) c.in_ok-keep.ensures.places)

pub returns-clause-runs : goal.returns-clause-runs
returns-clause-runs c = IfOk-weaker c.renumbered.result _ _
    (made-runs c.args.netlist.now c.requires.runs c.requires.emittable c.args.marks.now c.requires.needed c.as_slice.result.now c.as_slice-2.result.now
    (c.as_slice.ensures.value ∙ c.in_ok-keep.ensures.kept)
    (subst (λ (xs : List ℕ). ArePlaces c.args.marks.now xs (length c.args.marks.now))
    (sym c.as_slice-2.ensures.value) c.in_ok-keep.ensures.places)
    c.renumbered_runs.ensures)
    c.renumbered.ensures

pub returns-clause-emittable : goal.returns-clause-emittable
returns-clause-emittable c = IfOk-weaker c.renumbered.result _ _
    (made-emits c.args.netlist.now c.requires.runs c.requires.emittable c.args.marks.now c.requires.needed c.as_slice.result.now c.as_slice-2.result.now
    (c.as_slice.ensures.value ∙ c.in_ok-keep.ensures.kept)
    (subst (λ (xs : List ℕ). ArePlaces c.args.marks.now xs (length c.args.marks.now))
    (sym c.as_slice-2.ensures.value) c.in_ok-keep.ensures.places)
    c.renumbered_emits.ensures)
    c.renumbered.ensures

pub returns-clause-refines : goal.returns-clause-refines
returns-clause-refines c = IfOk-weaker c.renumbered.result _ _
    (made-refines c.args.netlist.now c.requires.runs c.requires.emittable c.args.marks.now c.requires.needed c.as_slice.result.now c.as_slice-2.result.now
    (c.as_slice.ensures.value ∙ c.in_ok-keep.ensures.kept)
    (subst (λ (xs : List ℕ). ArePlaces c.args.marks.now xs (length c.args.marks.now))
    (sym c.as_slice-2.ensures.value) c.in_ok-keep.ensures.places)
    c.renumbered_runs.ensures c.drops_refine.ensures c.rows_are_there.ensures c.rows_are_one.ensures)
    c.renumbered.ensures
