use Rattle.std.proofs.Common.{rules, ◌≡◌, ◌<◌, ℕ, Option, Some, to_z, of_z, sym, subst, refl, arith, ◌∙◌}
use Rattle.std.specs.Prelude.{IsSome, slice_index_or}
use Rattle.std.specs.Int.{w128}
use Rattle.std.proofs.lemmas.Int.{to_z-of_z}
use Rattle.std.proofs.lemmas.Option.{slice_get_within}
use Rattle.std.proofs.lemmas.Result.{IfOk-weaker}
use Rattle.math_num.specs.Word.{IsWord, InWord}
use Rattle.fx_type.specs.declared.kind.FxType.{FxType}
use Rattle.fx_type.specs.FxType.{is_signed, width_of}
use Rattle.fx_type.proofs.Ranges.{type-word, range-word}
use Rattle.dg_model.specs.Attributes.{attributes_of}
use Rattle.hw_net.specs.declared.netlist.Frame.{Frame}
use Rattle.hw_net.specs.Netlist.{HasWord}
use Rattle.hw_build.specs.declared.parts.Word.{Word}
use Rattle.hw_build.specs.inner.DesignTimes.{times_for, timing_for}
use Rattle.hw_build.specs.inner.Entries.{enable_types}
use Rattle.hw_build.specs.inner.PipelineNets.{own_frame}
use Rattle.hw_build.proofs.StateEntries.{first_operand}
use Rattle.hw_build.proofs.kept.put_kept.Goals as goal

pub period-requires : goal.period-requires
period-requires c = slice_get_within c.args.site.design.checked.now.diagram.blocks c.args.site.place.block c.args.site.one.now c.requires.can.shown.block_is

pub own_frame_of-frame-requires-clause-there : goal.own_frame_of-frame-requires-clause-there
own_frame_of-frame-requires-clause-there c = slice_get_within c.args.site.design.checked.now.diagram.blocks c.args.site.place.block c.args.site.one.now c.requires.can.shown.block_is

pub unwrap-period-requires : goal.unwrap-period-requires
unwrap-period-requires c =
    let timed = c.schedules_are_timed.ensures c.args.site.design.checked.now.diagram c.args.site.design.plan.now (times_for c.args.site.design) c.requires.can.designed.scheduled in
    let moving = timed.moving c.args.site.place.block c.args.site.one.now c.requires.can.shown.block_is c.requires.moves in
    subst (λ (period : Option ℕ). IsSome period) (sym (c.period.ensures ∙ moving.1)) refl

pub bounds-site-0 : goal.bounds-site-0
bounds-site-0 c =
    let count = c.requires.operands.count in
    omega (arith, count)

pub put_series-requires : goal.put_series-requires
put_series-requires c =
    let begun = c.initial-begun.ensures in
    let clocks = c.requires.can.designed.scheduled.planned.some_clocks in
    let is : (attributes_of c.args.site.design.checked.now.diagram).period_at c.args.site.place.block ≡ Some c.unwrap-period.result = search (rules, c.period.ensures) in
    let above = c.periods_are_above.ensures.above c.args.site.design.checked.now.diagram c.args.site.place.block c.unwrap-period.result c.requires.can.designed.scheduled.checked is in
    let has = first_operand c.args.net.now
    ((attributes_of c.args.site.design.checked.now.diagram).type_at c.args.site.place.block
    c.args.site.place.port) (enable_types
    (attributes_of c.args.site.design.checked.now.diagram) c.args.site.one.now.enable)
    c.args.site.operands.now c.requires.operands in
    let e = to_z-of_z w128 c.initial-begun.result.first (search rules) in
    record {
      cycles = omega (arith, clocks, c.requires.can.cycles);
      period = subst (λ (f : Frame). 0 < f.period) (sym c.own_frame_of-frame.ensures) above;
      some = c.requires.some;
      is_word = subst (λ (w : Word). IsWord w.width w.signed) (sym begun.word_is) (type-word begun.kind begun.is_type);
      from = subst (λ (w : Word). HasWord c.args.net.now.nets (slice_index_or c.args.site.operands.now 0 0) w.width w.signed) (sym begun.word_is)
          (subst (λ (t : FxType). HasWord c.args.net.now.nets (slice_index_or c.args.site.operands.now 0 0) (width_of t) (is_signed t)) (sym (begun.kind_is c.args.site.place.port)) has);
      enabled = c.requires.enabled;
      first = subst (λ (w : Word). InWord w.width w.signed (to_z w128 (of_z w128 c.initial-begun.result.first)))
          (sym begun.word_is) (rw e (range-word begun.kind c.initial-begun.result.first begun.range));
    }

pub returns : goal.returns
returns c =
    let is : (attributes_of c.args.site.design.checked.now.diagram).period_at c.args.site.place.block ≡ Some c.unwrap-period.result = search (rules, c.period.ensures) in
    let e = to_z-of_z w128 c.initial-begun.result.first (search rules) in
    let puts = rw (c.own_frame_of-frame.ensures, c.last_slot-slot.ensures, e) at c.put_series.ensures in
    IfOk-weaker c.put_series.result _ _
    (λ series put. record {
      begun = c.initial-begun.result;
      initial = c.initial-begun.ensures;
      frame = own_frame (timing_for c.args.site.design) c.unwrap-period.result c.args.site.place.block;
      own = record { period_is = is; latency_is = refl };
      put = put;
    })
    puts
