use Rattle.std.proofs.Common.{◌≡◌, ◌+◌, ◌∙◌, ℕ, List, Some, length, slice_get, slice_index_or, ap, refl, arith}
use Rattle.std.proofs.lemmas.Option.{slice_get-get_or}
use Rattle.hw_net.specs.Frames.{register_count}
use Rattle.hw_lines.specs.declared.source.Source.{Source}
use Rattle.hw_lines.specs.declared.source.Use.{Use}
use Rattle.hw_lines.specs.Chain.{most_frames, different, parted_frames}
use Rattle.hw_lines.proofs.ChainLines.{room, most-of, taps-can-hold, done-start, done-more, done-answers, done-chained}
use Rattle.hw_lines.proofs.lines.put_chain.Goals as goal

pub end_at-requires : goal.end_at-requires
end_at-requires c =
    let source : Source = c.args.source in
    let uses : List Use = c.args.uses.now in
    let i : ℕ = c.loop-one.one-index in
    let one : Use = slice_index_or uses i (record { shift = 0; period = 0 }) in
    let at : slice_get uses i ≡ Some one = slice_get-get_or uses i (record { shift = 0; period = 0 }) c.loop-one-test.true in
    let inv = c.loop-one.invariant in
    let cycles : c.loop-one.net.cycles ≡ c.args.net.now.cycles = inv.grown.appends.extends.cycles in
    let most = most-of source.frame.period uses i one at in
    let size = ap (λ (taps : List ℕ). length taps) c.as_slice-taps.ensures in
    record {
      cycles = omega (arith, cycles, c.requires.low);
      room = rw cycles (room source.frame.period c.args.net.now.cycles c.requires.source.most c.requires.high);
      some = c.requires.source.some;
      early = c.requires.source.early;
      use_is = c.requires.uses i (record { shift = 0; period = 0 }) c.loop-one-test.true;
      held = taps-can-hold c.args.net.now c.loop-one.net source c.as_slice-taps.result.now c.requires.source inv.taps_are;
      size = omega (arith, most, c.in_ok-made.ensures.size, size, c.most_frames.ensures);
    }

pub loop-one-preserved : goal.loop-one-preserved
loop-one-preserved c =
    let source : Source = c.args.source in
    let uses : List Use = c.args.uses.now in
    let i : ℕ = c.loop-one.one-index in
    let one : Use = slice_index_or uses i (record { shift = 0; period = 0 }) in
    let at : slice_get uses i ≡ Some one = slice_get-get_or uses i (record { shift = 0; period = 0 }) c.loop-one-test.true in
    let bound : ℕ = register_count c.args.net.now.nets + most_frames source.frame.period uses + different (parted_frames source uses) in
    let put = c.in_ok-end_at.ensures in
    rw put.answers_are
    (done-more c.args.net.now c.loop-one.net c.end_at.new.net source uses bound c.as_slice-taps.result.now
    c.loop-one.ends c.end_at.new.ends c.loop-one.answers i put.number one c.loop-one.invariant at put.end
    put.put)

pub loop-one-init : goal.loop-one-init
loop-one-init c =
    let count = c.in_ok-made.ensures.few ∙ ap (λ (n : ℕ). register_count c.args.net.now.nets + n) c.most_frames.ensures in
    rw (c.as_slice-taps.ensures, c.new-ends.ensures, c.new-answers.ensures)
    (done-start c.args.net.now c.taps_of.new.net c.args.source c.args.uses.now c.in_ok-made.made
    c.in_ok-made.ensures.taps c.in_ok-made.ensures.grown count)

pub taps_of-requires-clause-room : goal.taps_of-requires-clause-room
taps_of-requires-clause-room c = room c.args.source.frame.period c.args.net.now.cycles c.requires.source.most c.requires.high

pub returns-clause-answers : goal.returns-clause-answers
returns-clause-answers c =
    done-answers c.args.net.now c.loop-one.net c.args.source c.args.uses.now _ c.as_slice-taps.result.now
    c.loop-one.ends c.loop-one.answers c.loop-one.one-index
    (omega (arith, c.loop-one-test.false, c.loop-one.auto.one-index-end)) c.loop-one.invariant

pub returns-clause-chained : goal.returns-clause-chained
returns-clause-chained c =
    done-chained c.args.net.now c.loop-one.net c.args.source c.args.uses.now _ c.as_slice-taps.result.now
    c.loop-one.ends c.loop-one.answers c.loop-one.one-index
    (omega (arith, c.loop-one-test.false, c.loop-one.auto.one-index-end)) c.loop-one.invariant refl
