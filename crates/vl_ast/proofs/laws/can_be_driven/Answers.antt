use Rattle.vl_ast.proofs.OneRun.{rows-run}
use Rattle.vl_ast.proofs.SomeInputs.{can-be-driven}
use Rattle.vl_ast.proofs.laws.can_be_driven.Goals as goal

pub returns-clause-inputs : goal.returns-clause-inputs
returns-clause-inputs c m stimulus samples window b within =
    can-be-driven c.meaning_by_layer.ensures.value m b.acyclic.driven b.acyclic.once b.acyclic.acyclic b.clocked stimulus samples window within

pub returns-clause-rows : goal.returns-clause-rows
returns-clause-rows c m stimulus samples window start b within fits =
    let d = can-be-driven c.meaning_by_layer.ensures.value m b.acyclic.driven b.acyclic.once b.acyclic.acyclic b.clocked stimulus samples window within in
    let r = rows-run c.meaning_by_layer.ensures.value m b.acyclic.driven b.acyclic.once b.acyclic.acyclic window.rows start d.inputs (record { started = fits.at; driven = d.room }) in
    record { inputs = d.inputs; rows = r.0; driven = d.driven; runs = r.1 }
