use Rattle.std.proofs.Common.{◌≡◌, ◌<◌, ◌+◌, ◌∷◌, [], ℕ, List, Some, slice_index_or, ap, sym, ◌∙◌, subst, refl, arith}
use Rattle.std.proofs.lemmas.Option.{none-some}
use Rattle.dg_model.specs.Attributes.{attributes_of}
use Rattle.hw_net.specs.declared.netlist.Frame.{Frame}
use Rattle.hw_net.specs.declared.netlist.NetKind.TheVariants.{Comb}
use Rattle.hw_net.specs.declared.netlist.NetOp.TheVariants.{Resize}
use Rattle.hw_net.proofs.Extends.{one-longer}
use Rattle.hw_build.specs.inner.DesignTimes.{timing_for}
use Rattle.hw_build.specs.inner.PipelineNets.{stage_nets, wire_of}
use Rattle.hw_build.proofs.ElementEntries.{typed_net}
use Rattle.hw_build.proofs.Stages.{pipeline_put, piped_put, with_nets}
use Rattle.hw_build.proofs.Within.{entry_read}
use Rattle.hw_build.proofs.pipelines.put_pipeline.Goals as goal

pub bounds-as_slice-block : goal.bounds-as_slice-block
bounds-as_slice-block c = entry_read _ c.args.block _ c.as_slice.result.now c.requires.there c.requires.designed.scheduled.planned.size c.as_slice.ensures

pub period-requires : goal.period-requires
period-requires c = c.requires.there

pub own_frame_of-frame-requires-clause-designed : goal.own_frame_of-frame-requires-clause-designed
own_frame_of-frame-requires-clause-designed c = c.requires.designed

pub own_frame_of-frame-requires-clause-there : goal.own_frame_of-frame-requires-clause-there
own_frame_of-frame-requires-clause-there c = c.requires.there

pub last_slot-slot-requires-clause-designed : goal.last_slot-slot-requires-clause-designed
last_slot-slot-requires-clause-designed c = c.requires.designed

pub last_slot-slot-requires-clause-period : goal.last_slot-slot-requires-clause-period
last_slot-slot-requires-clause-period c = sym c.period.ensures ∙ c.in-Some.is

pub result-kind-requires : goal.result-kind-requires
result-kind-requires c = c.requires.there

pub counter-requires-clause-cycles : goal.counter-requires-clause-cycles
counter-requires-clause-cycles c =
    let some = c.requires.designed.scheduled.planned.some_clocks in
    omega (arith, some, c.requires.cycles)

pub counter-requires-clause-period : goal.counter-requires-clause-period
counter-requires-clause-period c =
    let some = c.periods_are_above.ensures.above c.args.design.checked.now.diagram c.args.block c.in-Some.period c.requires.designed.scheduled.checked (sym c.period.ensures ∙ c.in-Some.is) in
    subst (λ (f : Frame). 0 < f.period) (sym c.own_frame_of-frame.ensures) some

pub put_stages-requires : goal.put_stages-requires
put_stages-requires c =
    let longer = one-longer c.counter.new.self c.put_comb.new.net _ c.in_ok-begin.ensures.grown in
    omega (arith, longer, c.in_ok-begin.ensures.number)

pub returns-in_default : goal.returns-in_default
returns-in_default c = record {
  some = λ period is positive. absurd (none-some period (sym (sym c.period.ensures ∙ c.in_default.is) ∙ is));
  none = λ reason. (refl, refl, refl);
}

pub returns : goal.returns
returns c =
    let some : 0 < slice_index_or c.as_slice.result.now c.args.block 0 = omega (arith, c.if-stages-eq0.false) in
    let is : (attributes_of c.args.design.checked.now.diagram).period_at c.args.block ≡ Some c.in-Some.period = sym c.period.ensures ∙ c.in-Some.is in
    let stages = ap (λ (xs : List ℕ). slice_index_or xs c.args.block 0) c.as_slice.ensures in
    let wired = typed_net c.counter.new.self c.put_comb.new.net c.word_of.result c.result-kind.result (Comb Resize (c.args.entry ∷ [])) c.word_of.ensures c.in_ok-begin.ensures.grown in
    piped_put c.args.design.checked.now.diagram
    (timing_for c.args.design) c.args.net.now c.put_stages.new.net c.args.block c.args.element c.args.entry
    c.in-Some.period (record { begin = c.in_ok-begin.begin; end = c.in_ok-end.end }) is
    (subst (λ (xs : List ℕ). 0 < slice_index_or xs c.args.block 0) c.as_slice.ensures some)
    (pipeline_put (timing_for c.args.design) c.args.net.now c.counter.new.self c.put_comb.new.net
    (with_nets c.put_comb.new.net (stage_nets c.result-kind.result c.own_frame_of-frame.result
    c.last_slot-slot.result c.in_ok-begin.begin (slice_index_or c.as_slice.result.now c.args.block 0)))
    c.put_stages.new.net _ c.result-kind.result c.args.block c.args.element c.in-Some.period
    c.args.entry c.in_ok-begin.begin
    (slice_index_or c.as_slice.result.now c.args.block 0) c.last_slot-slot.result
    c.in_ok-counter.field-0 c.own_frame_of-frame.result
    (wire_of c.result-kind.result c.args.entry)
    (c.result-kind.ensures 1) c.own_frame_of-frame.ensures c.last_slot-slot.ensures stages
    c.in_ok-counter.ensures.counted c.in_ok-counter.ensures.found c.in_ok-begin.ensures.number refl wired refl
    c.in_ok-end.ensures.grown)
    (c.in_ok-end.ensures.end ∙ ap (λ (n : ℕ). c.in_ok-begin.begin + n) stages)

pub offset_bounds-as_slice-block : goal.offset_bounds-as_slice-block
offset_bounds-as_slice-block c =
    let low = entry_read _ c.args.block _ c.as_slice.result.now c.requires.there c.requires.designed.scheduled.planned.size c.as_slice.ensures in
    omega (arith, low)

pub returns-then-stages-eq0 : goal.returns-then-stages-eq0
returns-then-stages-eq0 c =
    let zero : slice_index_or c.as_slice.result.now c.args.block 0 ≡ 0 = omega (arith, c.if-stages-eq0.true) in
    let same = ap (λ (xs : List ℕ). slice_index_or xs c.args.block 0) c.as_slice.ensures in
    record {
      some = λ period is positive. absurd (omega (arith, positive, zero, same));
      none = λ reason. (refl, refl, refl);
    }
