use Rattle.std.proofs.Common.{◌∙◌, ◌+◌, drop, get_or, ap, sym}
use Rattle.std.proofs.lemmas.List.{at_drop_more, drop_all}
use Rattle.vl_read.specs.inner.Lexemes.{number_after}
use Rattle.vl_read.proofs.Digits.{number_some, number_none}
use Rattle.vl_read.proofs.numbers.number_in.Goals as goal

pub loop-byte-preserved : goal.loop-byte-preserved
loop-byte-preserved c =
    let digits = c.args.digits.now in
    let i = c.loop-byte.byte-index in
    let next = at_drop_more (number_after c.args.base c.loop-byte.number) digits i 0 c.loop-byte-test.true in
    sym (number_some c.args.base c.loop-byte.number c.in-Some.next (get_or digits i 0) (drop (i + 1) digits) c.in-Some.ensures)
    ∙ (sym next ∙ c.loop-byte.invariant)

pub returns-in-None : goal.returns-in-None
returns-in-None c =
    let digits = c.args.digits.now in
    let i = c.loop-byte.byte-index in
    let next = at_drop_more (number_after c.args.base c.loop-byte.number) digits i 0 c.loop-byte-test.true in
    sym (sym c.loop-byte.invariant ∙ (next ∙ number_none c.args.base c.loop-byte.number (get_or digits i 0) (drop (i + 1) digits) c.in-None.ensures))

pub returns : goal.returns
returns c =
    sym (ap (number_after c.args.base c.loop-byte.number) (drop_all c.loop-byte.byte-index c.args.digits.now c.loop-byte-test.false))
    ∙ c.loop-byte.invariant
