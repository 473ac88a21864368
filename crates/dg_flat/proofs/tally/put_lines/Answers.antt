use Rattle.std.proofs.Common.{arith, ◌+◌, ◌||◌, Bool, false, length, List, take, set, get_or, ap, subst, ◌∙◌}
use Rattle.std.proofs.lemmas.List.{length-set, take_all}
use Rattle.dg_model.specs.declared.nested.NestedLine.{NestedLine}
use Rattle.dg_flat.specs.Rules.{is_port, is_enable_end}
use Rattle.dg_flat.specs.inner.Ports.{is_lacking}
use Rattle.dg_flat.specs.inner.Tables.{IsTable}
use Rattle.dg_flat.specs.inner.Tally.{IsTally}
use Rattle.dg_flat.proofs.Drivers.{no_line, take_line, control_more, control_same, marked_more, port_more, port_none, port_past}
use Rattle.dg_flat.proofs.tally.put_lines.Goals.{in-Port+in-Some, in-Port+in_default, in-Enable}
use Rattle.dg_flat.proofs.tally.put_lines.Goals as goal

pub loop-line-init : goal.loop-line-init
loop-line-init c = c.requires.tally

pub loop-line-preserved : goal.loop-line-preserved
loop-line-preserved c =
    let blocks = c.args.blocks.now in
    let lines = c.args.lines.now in
    let i = c.loop-line.line-index in
    let done = take i lines in
    let line = get_or lines i no_line in
    let ends = c.requires.ends i no_line c.loop-line-test.true in
    let before = c.loop-line.invariant in
    let old = c.loop-line.tally.lacks.items in
    let lengths = c.loop-line.tally.rows.lengths.items in
    let drivers = c.loop-line.tally.drivers.items in
    let enables = c.loop-line.tally.enables.items in
    let once = c.mark.ensures ∙ ap (λ (b : Bool). set old line.from (get_or old line.from false || b)) c.lacks_output.ensures in
    let twice = c.mark-in-loop-line.ensures ∙ ap (λ (b : Bool). set c.mark.new.marks.items line.to (get_or c.mark.new.marks.items line.to false || b)) c.lacks_end.ensures in
    let more = take_line lines i c.loop-line-test.true in
    let lacks : IsTable (length blocks) (is_lacking blocks (take (i + 1) lines)) c.mark-in-loop-line.new.marks.items =
    rw (more, twice) (marked_more blocks done line (length blocks) old c.mark.new.marks.items ends.0 ends.1 once before.lacks) in
    elim c.match-line.branch [
      | in-Port+in-Some w ↦
          let cell = w.in-Some.ensures in
          rw w.tally-is (record {
            rows = before.rows;
            lengths = before.lengths;
            drivers = rw (more, w.count_one.ensures) (port_more done line w.in-Port.port w.in-Some.cell lengths drivers w.in-Port.is cell.0 cell.1 before.drivers);
            enables = rw more (control_same done line (length blocks) enables (ap is_enable_end w.in-Port.is) before.enables);
            lacks = lacks;
          })
      | in-Port+in_default w ↦
          rw w.tally-is (record {
            rows = before.rows;
            lengths = before.lengths;
            drivers = rw more (port_past done line w.in-Port.port lengths drivers w.in-Port.is w.in_default.ensures before.drivers);
            enables = rw more (control_same done line (length blocks) enables (ap is_enable_end w.in-Port.is) before.enables);
            lacks = lacks;
          })
      | in-Enable w ↦
          rw w.tally-is (record {
            rows = before.rows;
            lengths = before.lengths;
            drivers = rw more (port_none done line lengths drivers (λ n. ap (is_port n) w.in-Enable.is) before.drivers);
            enables = rw (more, w.count_one-in-Enable.ensures) (control_more done line (length blocks) enables w.in-Enable.is ends.1 before.enables);
            lacks = lacks;
          })
    ]

pub lacks_output-requires-clause-there : goal.lacks_output-requires-clause-there
lacks_output-requires-clause-there c = (c.requires.ends c.loop-line.line-index no_line c.loop-line-test.true).0

pub lacks_end-requires-clause-there : goal.lacks_end-requires-clause-there
lacks_end-requires-clause-there c = (c.requires.ends c.loop-line.line-index no_line c.loop-line-test.true).1

pub mark-requires : goal.mark-requires
mark-requires c =
    let ends = c.requires.ends c.loop-line.line-index no_line c.loop-line-test.true in
    omega (arith, ends.0, c.loop-line.invariant.lacks.size)

pub mark-requires-in-loop-line : goal.mark-requires-in-loop-line
mark-requires-in-loop-line c =
    let ends = c.requires.ends c.loop-line.line-index no_line c.loop-line-test.true in
    let long = ap (λ (bs : List Bool). length bs) c.mark.ensures ∙ length-set _ _ _ in
    omega (arith, ends.1, long, c.loop-line.invariant.lacks.size)

pub cell-requires-clause-there : goal.cell-requires-clause-there
cell-requires-clause-there c =
    let ends = c.requires.ends c.loop-line.line-index no_line c.loop-line-test.true in
    omega (arith, ends.1, c.loop-line.invariant.lengths.size)

pub cell-requires-clause-rows : goal.cell-requires-clause-rows
cell-requires-clause-rows c = c.loop-line.invariant.rows

pub count_one-requires : goal.count_one-requires
count_one-requires c = let cell = c.in-Some.ensures in omega (arith, cell.2, c.loop-line.invariant.drivers.size)

pub count_one-requires-in-Enable : goal.count_one-requires-in-Enable
count_one-requires-in-Enable c =
    let ends = c.requires.ends c.loop-line.line-index no_line c.loop-line-test.true in
    omega (arith, ends.1, c.loop-line.invariant.enables.size)

pub returns : goal.returns
returns c =
    subst (λ (done : List NestedLine). IsTally c.args.blocks.now done c.loop-line.tally) (take_all c.loop-line.line-index c.args.lines.now c.loop-line-test.false) c.loop-line.invariant
