use Rattle.hw_sched.proofs.SpanLines.{few_clocks, spans_none, spans_more, spans_end}
use Rattle.std.proofs.Common.{◌≡◌, ◌<◌, ◌*◌, ◌-◌, ℕ, length, slice_index, ap, ◌∙◌, arith}
use Rattle.std.proofs.lemmas.List.{get_or_default}
use Rattle.hw_sched.proofs.spans.spans_of.Goals as goal

pub loop-period-init : goal.loop-period-init
loop-period-init c = spans_none c.args.checked.now.diagram c.args.plan.now c.new-spans.result.items c.new-spans.ensures.items

pub returns : goal.returns
returns c =
    let size : c.len-period-end.result ≡ length c.in_ok-longest.longest.items = c.len-period-end.ensures ∙ c.in_ok-longest.longest.ok.0 in
    spans_end c.args.checked.now.diagram c.args.plan.now c.loop-period.period c.in_ok-longest.longest.items
    c.loop-period.spans.items c.in_ok-longest.ensures (omega (arith, size, c.loop-period-test.false))
    (omega (arith, size, c.loop-period.auto.period-end)) c.loop-period.invariant

pub loop-period-preserved : goal.loop-period-preserved
loop-period-preserved c =
    let longest = c.in_ok-longest.longest in
    let period = c.loop-period.period in
    let size : c.len-period-end.result ≡ length longest.items = c.len-period-end.ensures ∙ longest.ok.0 in
    let below : period < length longest.items = omega (arith, size, c.loop-period-test.true) in
    let read : c.index.result.now ≡ slice_index longest.items period = c.index.ensures ∙ get_or_default longest.items period c.index.result.now 0 below in
    rw c.in_ok-push.ensures.items
    (spans_more c.args.checked.now.diagram c.args.plan.now period longest.items c.loop-period.spans.items
    (c.index.result.now * c.from-cycles.result) c.saturating_sub.result c.in_ok-longest.ensures below
    (ap (λ (n : ℕ). n * c.from-cycles.result) read ∙ ap (λ (n : ℕ). slice_index longest.items period * n) c.from-cycles.ensures)
    (c.saturating_sub.ensures ∙ ap (λ (n : ℕ). period * n - 1) c.from-cycles.ensures) c.loop-period.invariant)

pub overflow_mul-index : goal.overflow_mul-index
overflow_mul-index c =
    let longest = c.in_ok-longest.longest in
    let period = c.loop-period.period in
    let size : c.len-period-end.result ≡ length longest.items = c.len-period-end.ensures ∙ longest.ok.0 in
    let below : period < length longest.items = omega (arith, size, c.loop-period-test.true) in
    let read : c.index.result.now ≡ slice_index longest.items period = c.index.ensures ∙ get_or_default longest.items period c.index.result.now 0 below in
    let low = c.in_ok-longest.ensures.short period in
    let few = few_clocks c.args.checked.now.diagram c.args.plan.now c.index.result.now (omega (arith, read, low)) c.requires.plan.few_clocks in
    let same = ap (λ (n : ℕ). c.index.result.now * n) c.from-cycles.ensures in
    omega (arith, few, same)

pub overflow_mul-clocks : goal.overflow_mul-clocks
overflow_mul-clocks c =
    let longest = c.in_ok-longest.longest in
    let period = c.loop-period.period in
    let size : c.len-period-end.result ≡ length longest.items = c.len-period-end.ensures ∙ longest.ok.0 in
    let test = c.loop-period-test.true in
    let low = c.in_ok-longest.ensures.counted.few in
    let few = few_clocks c.args.checked.now.diagram c.args.plan.now period (omega (arith, size, test, low)) c.requires.plan.few_clocks in
    let same = ap (λ (n : ℕ). period * n) c.from-cycles.ensures in
    omega (arith, few, same)
