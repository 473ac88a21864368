use Rattle.std.proofs.Common.{◌+◌, ◌∙◌, ap}
use Rattle.fx_io.proofs.SinkBytes.{rest-whole}
use Rattle.vl_read.specs.inner.Lexemes.{sized_in}
use Rattle.vl_read.proofs.Digits.{sized_with}
use Rattle.vl_read.proofs.numbers.sized_of.Goals as goal

pub returns-in-Some : goal.returns-in-Some
returns-in-Some c =
    sized_with c.args.bytes.now c.quote_at-at.result c.in-Some.width c.sized_in.result c.quote_at-at.ensures.value c.if-at-bytes.false c.in-Some.ensures.value
    (c.sized_in.ensures ∙ ap (sized_in c.in-Some.width) (rest-whole c.args.bytes.now (c.quote_at-at.result + 1)))
