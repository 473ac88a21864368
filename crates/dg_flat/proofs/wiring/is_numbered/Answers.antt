use Rattle.std.proofs.Common.{Some, sym, ◌∙◌}
use Rattle.std.proofs.lemmas.Bool.{eqb-false}
use Rattle.std.proofs.lemmas.Option.{same_Some, none-some}
use Rattle.dg_flat.specs.inner.Slots.{slot_of}
use Rattle.dg_flat.proofs.Verdicts.{numbered_unique}
use Rattle.dg_flat.proofs.wiring.is_numbered.Goals as goal

pub returns-in-Some-clause-no : goal.returns-in-Some-clause-no
returns-in-Some-clause-no c = λ differs blocks side is its.
    let found = numbered_unique blocks side (slot_of c.args.system) c.args.number c.first.result (Some c.args.place) (c.first.ensures blocks side is) its in
    eqb-false c.in-Some.first c.args.place differs (same_Some c.in-Some.first c.args.place (sym c.in-Some.is ∙ found))

pub returns-in-None-clause-no : goal.returns-in-None-clause-no
returns-in-None-clause-no c = λ differs blocks side is its.
    none-some c.args.place (sym c.in-None.is ∙ numbered_unique blocks side (slot_of c.args.system) c.args.number c.first.result (Some c.args.place) (c.first.ensures blocks side is) its)
