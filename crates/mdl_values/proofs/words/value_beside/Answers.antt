use Rattle.std.proofs.Common.{ap, sym, ◌∙◌}
use Rattle.std.specs.Prelude.{bytes_eq}
use Rattle.mdl_values.proofs.Beside.{beside_own, beside_other}
use Rattle.mdl_values.proofs.words.value_beside.Goals as goal

pub returns-then-eq : goal.returns-then-eq
returns-then-eq g c =
    let text = c.args.text.now in
    beside_own c.args.words.now text c.loop-word.word-index c.loop-word-item.result c.loop-word-test.true c.loop-word-item.is
    (ap (bytes_eq text) (sym c.as_bytes.ensures.value) ∙ sym c.if-eq.ensures) ∙ c.loop-word.invariant

pub loop-word-preserved : goal.loop-word-preserved
loop-word-preserved g c =
    let text = c.args.text.now in
    beside_other c.args.words.now text c.loop-word.word-index c.loop-word-item.result c.loop-word-test.true c.loop-word-item.is
    (ap (bytes_eq text) (sym c.as_bytes.ensures.value) ∙ sym c.if-eq.ensures) ∙ c.loop-word.invariant
