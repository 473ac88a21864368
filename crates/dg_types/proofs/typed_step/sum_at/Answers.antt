use Rattle.std.proofs.Common.{◌≡◌, ℕ, ◌<◌, length, take, get_or, Some, None, false, ap, sym, ◌∙◌, refl, arith}
use Rattle.std.proofs.lemmas.List.{length-map, length-set}
use Rattle.dg_model.specs.TypeRounds.{sum_named}
use Rattle.dg_model.specs.Periods.{known_at}
use Rattle.dg_types.specs.declared.linked.Source.{Source}
use Rattle.dg_types.specs.inner.TypeInputs.{source_types}
use Rattle.dg_types.proofs.SumTypes.{sum_step, sum_stops, sum_ends, valid_more}
use Rattle.dg_types.proofs.typed_step.sum_at.Goals as goal

pub returns-in_default : goal.returns-in_default
returns-in_default c =
    let types = source_types c.args.values.now c.args.sources.now in
    let same : length c.args.negative.now ≡ length types = c.requires.all ∙ sym (length-map c.args.sources.now (λ (source : Source). known_at c.args.values.now source.block)) in
    let unknown : known_at types c.loop-input.input ≡ None = sym c.input_at.ensures.value ∙ c.in_default.is in
    sum_stops c.args.accum c.args.negative.now types c.loop-input.terms c.loop-input.input c.loop-input-test.true same unknown false c.loop-input.invariant.gathered

pub loop-input-preserved : goal.loop-input-preserved
loop-input-preserved c =
    let types = source_types c.args.values.now c.args.sources.now in
    let i = c.loop-input.input in
    let same : length c.args.negative.now ≡ length types = c.requires.all ∙ sym (length-map c.args.sources.now (λ (source : Source). known_at c.args.values.now source.block)) in
    let known : known_at types i ≡ Some c.in-Some.kind = sym c.input_at.ensures.value ∙ c.in-Some.is in
    let room : i < length c.loop-input.terms = omega (arith, c.loop-input.invariant.long, c.requires.few) in
    record {
      long = length-set c.loop-input.terms i (get_or c.args.negative.now i false, c.in-Some.kind) ∙ c.loop-input.invariant.long;
      gathered = sum_step c.args.accum c.args.negative.now types c.loop-input.terms i c.loop-input-test.true same
          (get_or c.args.negative.now i false) false c.in-Some.kind room refl known c.loop-input.invariant.gathered;
      valid = valid_more c.loop-input.terms i (get_or c.args.negative.now i false) c.in-Some.kind room c.in-Some.ensures.valid c.loop-input.invariant.valid;
    }

pub returns : goal.returns
returns c =
    let types = source_types c.args.values.now c.args.sources.now in
    let same : length c.args.negative.now ≡ length types = c.requires.all ∙ sym (length-map c.args.sources.now (λ (source : Source). known_at c.args.values.now source.block)) in
    let end : length c.args.negative.now ≡ c.loop-input.input = omega (arith, c.loop-input.auto.input-end, c.loop-input-test.false) in
    c.sum_named.ensures ∙ ap (λ (n : ℕ). sum_named (c.args.accum) (take n c.loop-input.terms)) end
    ∙ sum_ends c.args.accum c.args.negative.now types (take c.loop-input.input c.loop-input.terms) c.loop-input.input c.loop-input-test.false same c.loop-input.invariant.gathered
