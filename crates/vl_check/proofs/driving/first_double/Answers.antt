use Rattle.std.proofs.Common.{[], length, take, Some, None, refl, sym, ap, ◌∙◌, rules}
use Rattle.std.proofs.Math.ListN.{drop_of_length-le}
use Rattle.vl_ast.specs.Conditions.{first_fault, is_declaration_of, is_double, is_driver_of}
use Rattle.vl_check.specs.inner.Mentions.{shown}
use Rattle.vl_check.specs.inner.Marks.{declares, drives}
use Rattle.vl_check.proofs.Marks.{driver-test, declaration-test, marks-step, fault-step, fault-found, mark-here, declared-here, double-here, marks-long, none-marked, number-there, number-below}
use Rattle.vl_check.proofs.Marks.{past-all}
use Rattle.vl_check.proofs.driving.first_double.Goals as goal

pub returns-then-is_double : goal.returns-then-is_double
returns-then-is_double c m whole =
    let text = c.args.text.now in
    let old = c.loop-i.invariant in
    let marked = c.index.ensures ∙ mark-here text c.loop-i.i _ c.loop-i-test.true is_declaration_of
    c.args.numbers.now c.loop-i.declared.items (take c.loop-i.i (shown text)) c.index.result.now old.marks in
    let driven = c.index-in-loop-i.ensures
    ∙ mark-here text c.loop-i.i _ c.loop-i-test.true is_driver_of c.args.numbers.now c.loop-i.driven.items
    (take c.loop-i.i (shown text)) c.index-in-loop-i.result.now old.driven_marks in
    let first = declared-here m text whole c.loop-i.i _ c.loop-i-test.true c.args.numbers.now c.args.first.now None c.requires.first in
    let bad = sym (double-here m (take c.loop-i.i (shown text)) _ _ _ _ marked driven first) ∙ sym c.if-is_double.ensures in
    ap Some c.mentioned_name.ensures ∙ fault-found text c.loop-i.i _ c.loop-i-test.true (is_double m) _ bad (old.fault m whole) ∙ ap (first_fault (is_double m) []) whole

pub returns : goal.returns
returns c m whole =
    let text = c.args.text.now in
    sym (ap (first_fault (is_double m) (take c.loop-i.i (shown text)))
    (drop_of_length-le (shown text) (past-all text c.loop-i.i c.loop-i-test.false)))
    ∙ c.loop-i.invariant.fault m whole ∙ ap (first_fault (is_double m) []) whole

pub loop-i-preserved : goal.loop-i-preserved
loop-i-preserved c =
    let text = c.args.text.now in
    let old = c.loop-i.invariant in
    let marked = c.index.ensures ∙ mark-here text c.loop-i.i _ c.loop-i-test.true is_declaration_of
    c.args.numbers.now c.loop-i.declared.items (take c.loop-i.i (shown text)) c.index.result.now old.marks in
    let driven = c.index-in-loop-i.ensures
    ∙ mark-here text c.loop-i.i _ c.loop-i-test.true is_driver_of c.args.numbers.now c.loop-i.driven.items
    (take c.loop-i.i (shown text)) c.index-in-loop-i.result.now old.driven_marks in
    record {
      long = marks-long _ _ _ _ c.mark.ensures ∙ old.long;
      driven_long = marks-long _ _ _ _ c.mark-in-loop-i.ensures ∙ old.driven_long;
      marks = marks-step text c.loop-i.i _ c.loop-i-test.true is_declaration_of declares declaration-test
          c.args.numbers.now (length c.args.first.now) c.requires.numbers.known c.loop-i.declared.items _ _ old.long
          c.declares.ensures c.mark.ensures old.marks;
      driven_marks = marks-step text c.loop-i.i _ c.loop-i-test.true is_driver_of drives driver-test
          c.args.numbers.now (length c.args.first.now) c.requires.numbers.known c.loop-i.driven.items _ _
          old.driven_long c.drives.ensures c.mark-in-loop-i.ensures old.driven_marks;
      fault = λ m whole.
          let first = declared-here m text whole c.loop-i.i _ c.loop-i-test.true c.args.numbers.now c.args.first.now None c.requires.first in
          let sound = sym (double-here m (take c.loop-i.i (shown text)) _ _ _ _ marked driven first) ∙ sym c.if-is_double.ensures in
          fault-step text c.loop-i.i _ c.loop-i-test.true (is_double m) _ sound (old.fault m whole);
    }

pub loop-i-init : goal.loop-i-init
loop-i-init c = record {
  long = sym c.in_ok-declared.declared.ok.0 ∙ c.in_ok-declared.ensures.len;
  driven_long = sym c.in_ok-driven.driven.ok.0 ∙ c.in_ok-driven.ensures.len;
  marks = none-marked is_declaration_of _ _ _ c.requires.numbers.known _ (c.in_ok-declared.ensures.items_if_clones_equal (search rules));
  driven_marks = none-marked is_driver_of _ _ _ c.requires.numbers.known _ (c.in_ok-driven.ensures.items_if_clones_equal (search rules));
  fault = λ m whole. refl;
}

pub bounds-numbers-i : goal.bounds-numbers-i
bounds-numbers-i c = number-there _ _ _ c.requires.numbers c.loop-i.i c.loop-i-test.true

pub bounds-first-number : goal.bounds-first-number
bounds-first-number c = c.requires.numbers.low c.loop-i.i c.loop-i-test.true

pub index-requires : goal.index-requires
index-requires c = number-below _ _ _ c.requires.numbers c.loop-i.i c.loop-i-test.true _ (c.loop-i.declared.ok.0 ∙ c.loop-i.invariant.long)

pub index-requires-in-loop-i : goal.index-requires-in-loop-i
index-requires-in-loop-i c = number-below _ _ _ c.requires.numbers c.loop-i.i c.loop-i-test.true _ (c.loop-i.driven.ok.0 ∙ c.loop-i.invariant.driven_long)

pub mark-requires : goal.mark-requires
mark-requires c = number-below _ _ _ c.requires.numbers c.loop-i.i c.loop-i-test.true _ c.loop-i.invariant.long

pub mark-requires-in-loop-i : goal.mark-requires-in-loop-i
mark-requires-in-loop-i c = number-below _ _ _ c.requires.numbers c.loop-i.i c.loop-i-test.true _ c.loop-i.invariant.driven_long
