use Rattle.std.proofs.Common.{false, get_or, arith}
use Rattle.std.proofs.lemmas.Option.{slice_get-get_or}
use Rattle.hw_arcs.specs.declared.arc.Arc.{Arc}
use Rattle.hw_arcs.proofs.Steps.{rows_begin, rows_next, rows_pass, rows_end}
use Rattle.hw_arcs.proofs.solving.rows_of.Goals.{then-arc+in_ok-push_at, else-arc}
use Rattle.hw_arcs.proofs.solving.rows_of.Goals as goal

abbrev no_arc : Arc
no_arc = record { from = 0; to = 0; counts = false; gain = 0; slack = 0 }

pub loop-number-init : goal.loop-number-init
loop-number-init c = rows_begin c.args.arcs.now c.args.count c.in_ok-rows.rows.items c.in_ok-rows.ensures

pub push_at-requires : goal.push_at-requires
push_at-requires c =
    let from = c.requires.known.from c.loop-number.number (get_or c.args.arcs.now c.loop-number.number no_arc) (slice_get-get_or c.args.arcs.now c.loop-number.number no_arc c.loop-number-test.true) in
    omega (arith, from, c.loop-number.invariant.size)

pub loop-number-preserved : goal.loop-number-preserved
loop-number-preserved c = elim c.if-arc.branch [
  | then-arc+in_ok-push_at w ↦ rw (w.rows-is, w.in_ok-push_at.ensures)
      (rows_next c.args.arcs.now c.args.count c.loop-number.number no_arc c.loop-number.rows.items c.requires.known c.loop-number-test.true w.if-arc.true c.loop-number.invariant)
  | else-arc w ↦ rw w.rows-is
      (rows_pass c.args.arcs.now c.args.count c.loop-number.number no_arc c.loop-number.rows.items c.loop-number-test.true w.if-arc.false c.loop-number.invariant)
]

pub returns : goal.returns
returns c = rows_end c.args.arcs.now c.args.count c.loop-number.number c.loop-number.rows.items c.loop-number-test.false c.loop-number.invariant
