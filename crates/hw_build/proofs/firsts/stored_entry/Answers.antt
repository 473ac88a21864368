use Rattle.std.proofs.Common.{◌≡◌, Option, Some, None, length, ap, sym, ◌∙◌, refl}
use Rattle.std.specs.Int.{w128}
use Rattle.std.proofs.lemmas.Bool.{ltb-false}
use Rattle.std.proofs.lemmas.Int.{to_z-of_z}
use Rattle.std.proofs.lemmas.Option.{slice_get_read, slice_get_past}
use Rattle.fx_type.specs.declared.decimal.Decimal.{Decimal}
use Rattle.dg_model.specs.Wires.{entry_of}
use Rattle.hw_sched.specs.Chained.{stored_in}
use Rattle.hw_build.specs.inner.Operands.{or_zero}
use Rattle.hw_build.proofs.FirstValues.{stored_as, entry_at}
use Rattle.hw_build.proofs.firsts.stored_entry.Goals as goal

pub returns-in-Some : goal.returns-in-Some
returns-in-Some c =
    let h = c.in-Some.ensures.lookup in
    let entry : entry_of c.args.list.now c.args.element ≡ Some c.in-Some.decimal.now =
    entry_at c.args.list.now c.args.element c.place_in.result (Some c.in-Some.decimal.now) c.place_in.ensures
    (slice_get_read c.args.list.now _ c.place_in.result c.in-Some.decimal.now refl h.3.0 h.1) in
    to_z-of_z w128 c.to_stored.result (record { sfits = c.to_stored.type_inv })
    ∙ stored_as c.stored_is_one.ensures c.args.kind c.in-Some.decimal.now c.to_stored.result c.requires c.to_stored.ensures ∙ ap (λ (o : Option Decimal). or_zero (stored_in c.args.kind o)) (sym entry)

pub returns-in-None : goal.returns-in-None
returns-in-None c =
    let h = c.in-None.ensures.lookup in
    let entry : entry_of c.args.list.now c.args.element ≡ None =
    entry_at c.args.list.now c.args.element c.place_in.result None c.place_in.ensures
    (slice_get_past c.args.list.now c.place_in.result
    (ltb-false c.place_in.result (length c.args.list.now) (sym h.0))) in
    ap (λ (o : Option Decimal). or_zero (stored_in c.args.kind o)) (sym entry)
