use Rattle.vl_eval.proofs.Edges.{first-fits-named, first-named, first-still-named}
use Rattle.vl_eval.proofs.machine.Machine.new.Goals as goal

pub returns-in-Ok-begin-clause-row : goal.returns-in-Ok-begin-clause-row
returns-in-Ok-begin-clause-row c =
    let of = c.in-Ok.ensures.planned in
    let first = c.in-Ok-begin.ensures.values in
    first-named c.meaning_by_layer.ensures.value c.args.source of.sound of.scope of.scope_is c.in-Ok.plan of.plan_is first.zeros c.in-Ok-begin.field-0.values.items first.none first.kept first.settled

pub returns-in-Ok-begin-clause-ready : goal.returns-in-Ok-begin-clause-ready
returns-in-Ok-begin-clause-ready c =
    let of = c.in-Ok.ensures.planned in
    let first = c.in-Ok-begin.ensures.values in
    record {
      plan_is = of;
      room = first.long;
      settled = first.settled;
      fits = first-fits-named c.meaning_by_layer.ensures.value c.args.source of.sound of.scope of.scope_is
          c.in-Ok.plan of.plan_is first.zeros c.in-Ok-begin.field-0.values.items first.none first.kept first.settled;
      still = first-still-named c.meaning_by_layer.ensures.value c.args.source of.sound of.scope of.scope_is
          c.in-Ok.plan of.plan_is first.zeros c.in-Ok-begin.field-0.values.items first.none first.kept first.settled;
      watched = c.in-Ok-begin.ensures.watch;
    }
