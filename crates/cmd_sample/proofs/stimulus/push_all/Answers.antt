use Rattle.std.proofs.Common.{◌≡◌, ℕ, ◌+◌, ◌++◌, ◌∙◌, ap, arith}
use Rattle.std.specs.List.{flat_map, range_with_len}
use Rattle.cmd_sample.specs.Numbers.{sample_number}
use Rattle.cmd_sample.specs.Stimulus.{stimulus_at, stimulus_line}
use Rattle.cmd_sample.proofs.Congruence.{next_is}
use Rattle.cmd_sample.proofs.Texts.{texts_more}
use Rattle.cmd_sample.proofs.stimulus.push_all.Goals as goal

pub loop-preserved : goal.loop-preserved
loop-preserved c =
    let further : c.args.count + c.loop.counter + 1 ≡ c.args.count + (c.loop.counter + 1) = omega arith in
    let next = c.number_after-number.ensures ∙ next_is c.args.count (c.args.count + c.loop.counter) c.loop.number c.loop.invariant.0 ∙ ap (sample_number c.args.count) further in
    let put = c.in_ok-push_stimulus.ensures ∙ ap (λ (number : ℕ). c.loop.text.items ++ stimulus_line number) next in
    (next, texts_more (stimulus_at c.args.count) (c.args.count + 1) c.loop.counter (c.args.count + (c.loop.counter + 1)) c.args.text.now.items c.loop.text.items _ c.loop.invariant.1 put (omega arith))

pub returns : goal.returns
returns c =
    let low = c.loop-test.false in
    let end = c.loop.auto.counter-end in
    let all : c.loop.counter ≡ 8 = omega (arith, low, end) in
    c.loop.invariant.1 ∙ ap (λ (n : ℕ). c.args.text.now.items ++ flat_map (stimulus_at c.args.count) (range_with_len (c.args.count + 1) n)) all
