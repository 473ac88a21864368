use Rattle.std.proofs.Common.{◌++◌, ◌∷◌, ◌<◌, ◌∙◌, [], List, All, filter, map, take, ap, subst, sym}
use Rattle.std.proofs.lemmas.List.{take_more}
use Rattle.fx_tables.specs.declared.table.Column.{Column}
use Rattle.vl_eval.proofs.LoopLists.{kept-none, kept-one}
use Rattle.vl_replay.specs.Columns.{column_of}
use Rattle.vl_replay.specs.inner.Samplers.{carries}
use Rattle.vl_replay.proofs.Widths.{all-periods}
use Rattle.vl_replay.proofs.port_columns.columns_where.Goals.{then-carries+in_ok-push, else-carries}
use Rattle.vl_replay.proofs.port_columns.columns_where.Goals as goal

pub column-requires : goal.column-requires
column-requires c = c.requires c.port-item.result (c.loop-port.port-index, c.loop-port-test.true, sym c.port-item.is)

pub loop-port-preserved : goal.loop-port-preserved
loop-port-preserved c =
    let ports = c.args.ports.now in
    let i = c.loop-port.port-index in
    let port = c.port-item.result in
    let test = carries c.args.inputs c.args.stalls in
    let more = take_more ports i port c.loop-port-test.true ∙ ap (λ x. take i ports ++ x ∷ []) (sym c.port-item.is) in
    elim c.if-carries.branch [
      | then-carries+in_ok-push w ↦ (
          w.columns-is ∙ w.in_ok-push.ensures.appended ∙ (λ j. c.loop-port.invariant j ++ w.column.ensures.column j ∷ [])
          ∙ kept-one column_of test (take i ports) port (sym c.carries.ensures ∙ w.if-carries.true) ∙ ap (λ xs. map column_of (filter test xs)) (sym more))
      | else-carries w ↦ (
          w.columns-is ∙ c.loop-port.invariant
          ∙ kept-none column_of test (take i ports) port (sym c.carries.ensures ∙ w.if-carries.false) ∙ ap (λ xs. map column_of (filter test xs)) (sym more))
    ]

pub returns-clause-periods : goal.returns-clause-periods
returns-clause-periods c = subst (λ (xs : List Column). All (λ (column : Column). 0 < column.period) xs) (sym c.loop-port.invariant) (all-periods _)
