use Rattle.std.proofs.Common.{◌≡◌, ℕ, ◌+◌, ◌∙◌, ap, rules}
use Rattle.std.specs.Prelude.{decimal}
use Rattle.std.proofs.lemmas.Result.{on_ok_weaker}
use Rattle.cmd_sample.proofs.Texts.{summary_put}
use Rattle.cmd_sample.proofs.summing.push_summary.Goals as goal

pub returns : goal.returns
returns c =
    let blocks : c.as_bytes.result.now ≡ decimal (c.from.result + 4) = search rules in
    let samples : c.as_bytes-2.result.now ≡ decimal 8 = search rules in
    let multiplications : c.as_bytes-3.result.now ≡ decimal c.args.made.multiplications = search rules in
    let out : c.as_bytes-4.result.now ≡ decimal c.args.made.out_latency = search rules in
    let slow : c.as_bytes-5.result.now ≡ decimal c.args.made.slow_latency = search rules in
    let fields : c.as_bytes-6.result.now ≡ decimal c.args.equal = search rules in
    on_ok_weaker c.push_each.result
    (summary_put c.args.text.now.items _ _ _ _ _ _ _ c.args.count c.args.made c.args.equal
    (blocks ∙ ap (λ (n : ℕ). decimal (n + 4)) c.from.ensures) samples multiplications out slow fields)
    c.push_each.ensures
