use Rattle.std.proofs.Common.{Option, Some, None, cond, sym, ◌∙◌, ap}
use Rattle.mdl_text.specs.declared.reader.Reader.{Reader}
use Rattle.mdl_text.proofs.BracketBounds.{step_bounded}
use Rattle.mdl_text.proofs.Whole.{reached_next, refused_line, fault_line, found_end, refused_end, fault_end}
use Rattle.mdl_text.proofs.reading.read.Goals as goal

pub loop-next-preserved : goal.loop-next-preserved
loop-next-preserved c =
    let split = c.in-Some.ensures in
    let read : Option Reader = Some c.step.new.self in
    let goes_on = c.in-Ok-true.ensures ∙ ap (λ t. cond t read None) c.in-Ok-true.field-0-test in
    record {
      reached = reached_next c.args.bytes.now c.loop-next.rest.now c.loop-next.reader c.loop-next.line
          c.loop-next.invariant.reached c.in-Some.next.now c.in-Some.after.now split.0 split.1 c.step.new.self
          goes_on;
      bounded = step_bounded c.loop-next.reader c.step.new.self c.in-Some.next.now c.loop-next.invariant.bounded goes_on;
    }

pub returns-in-Ok-false-clause-refused : goal.returns-in-Ok-false-clause-refused
returns-in-Ok-false-clause-refused c =
    let split = c.in-Some.ensures in
    refused_line c.args.bytes.now c.loop-next.rest.now c.loop-next.reader c.loop-next.line c.loop-next.invariant.reached c.in-Some.next.now c.in-Some.after.now split.0 split.1
    (c.in-Ok-false.ensures ∙ ap (λ t. cond t (Some c.step.new.self) None) c.in-Ok-false.field-0-test)

pub returns-in-Ok-false-clause-line : goal.returns-in-Ok-false-clause-line
returns-in-Ok-false-clause-line c =
    let split = c.in-Some.ensures in
    fault_line c.args.bytes.now c.loop-next.rest.now c.loop-next.reader c.loop-next.line c.loop-next.invariant.reached c.in-Some.next.now c.in-Some.after.now split.0 split.1
    (c.in-Ok-false.ensures ∙ ap (λ t. cond t (Some c.step.new.self) None) c.in-Ok-false.field-0-test)

pub returns-in-None-clause-refused : goal.returns-in-None-clause-refused
returns-in-None-clause-refused c =
    refused_end c.args.bytes.now c.loop-next.rest.now c.loop-next.reader c.loop-next.line c.loop-next.invariant.reached c.in_default.ensures (sym c.in_ok-last_line.ensures ∙ c.in-None.is)

pub returns-in-None-clause-line : goal.returns-in-None-clause-line
returns-in-None-clause-line c =
    fault_end c.args.bytes.now c.loop-next.rest.now c.loop-next.reader c.loop-next.line c.loop-next.invariant.reached c.in_default.ensures (sym c.in_ok-last_line.ensures ∙ c.in-None.is)

pub returns-in-Some-2-clause-found : goal.returns-in-Some-2-clause-found
returns-in-Some-2-clause-found c =
    found_end c.args.bytes.now c.loop-next.rest.now c.loop-next.reader c.loop-next.line
    c.loop-next.invariant.reached c.in_default.ensures c.in-Some-2.items
    (sym c.in_ok-last_line.ensures ∙ c.in-Some-2.is)
