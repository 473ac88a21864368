use Rattle.std.proofs.Common.{◌≡◌, true, false, sym, ap, ◌∙◌}
use Rattle.std.specs.Prelude.{bytes_eq}
use Rattle.mdl_values.specs.Words.{value_beside}
use Rattle.mdl_values.proofs.Beside.{whole_types, named_whole, named_other}
use Rattle.mdl_values.proofs.types.named_type.Goals as goal

pub returns-in-Some : goal.returns-in-Some
returns-in-Some c =
    let found : c.value_beside.result ≡ value_beside whole_types c.args.text.now = c.value_beside.ensures in
    named_whole c.args.text.now c.value_beside.result found c.in-Some.signed c.in-Some.width c.whole.result c.in-Some.is c.whole.ensures

pub returns-then-eq : goal.returns-then-eq
returns-then-eq c =
    let found : c.value_beside.result ≡ value_beside whole_types c.args.text.now = c.value_beside.ensures in
    named_other c.args.text.now c.value_beside.result found true c.in-None.is (ap (bytes_eq c.args.text.now) (sym c.as_slice.ensures) ∙ sym c.eq.ensures ∙ c.if-eq.true)

pub returns-else-eq : goal.returns-else-eq
returns-else-eq c =
    let found : c.value_beside.result ≡ value_beside whole_types c.args.text.now = c.value_beside.ensures in
    named_other c.args.text.now c.value_beside.result found false c.in-None.is (ap (bytes_eq c.args.text.now) (sym c.as_slice.ensures) ∙ sym c.eq.ensures ∙ c.if-eq.false)
