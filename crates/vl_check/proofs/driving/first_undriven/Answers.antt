use Rattle.std.proofs.Common.{take, Some, refl, sym, ap, ◌∙◌, rules}
use Rattle.std.proofs.Math.ListN.{drop_of_length-le}
use Rattle.vl_ast.specs.Conditions.{first_fault, is_declaration_of, is_driver_of, is_undriven}
use Rattle.vl_check.specs.inner.Mentions.{shown}
use Rattle.vl_check.specs.inner.Marks.{declares}
use Rattle.vl_check.proofs.Marks.{declaration-test, marks-step, fault-step, fault-found, mark-here, undriven-here, marks-long, none-marked, number-there, number-below, past-all}
use Rattle.vl_check.proofs.driving.first_undriven.Goals as goal

pub returns-then-is_undriven : goal.returns-then-is_undriven
returns-then-is_undriven c =
    let text = c.args.text.now in
    let marked = c.index.ensures ∙ mark-here text c.loop-i.i _ c.loop-i-test.true is_declaration_of
    c.args.numbers.now c.loop-i.declared.items
    (take c.loop-i.i (shown text)) c.index.result.now c.loop-i.invariant.marks in
    let driven = c.index-in-loop-i.ensures
    ∙ mark-here text c.loop-i.i _ c.loop-i-test.true is_driver_of c.args.numbers.now c.in_ok-driven.driven.items
    (shown text) c.index-in-loop-i.result.now c.in_ok-driven.ensures.marks in
    let bad = sym (undriven-here (shown text) (take c.loop-i.i (shown text)) _ _ _ marked driven) ∙ sym c.if-is_undriven.ensures in
    ap Some c.mentioned_name.ensures ∙ fault-found text c.loop-i.i _ c.loop-i-test.true (is_undriven (shown text)) _ bad c.loop-i.invariant.fault

pub loop-i-preserved : goal.loop-i-preserved
loop-i-preserved c =
    let text = c.args.text.now in
    let old = c.loop-i.invariant in
    let marked = c.index.ensures ∙ mark-here text c.loop-i.i _ c.loop-i-test.true is_declaration_of
    c.args.numbers.now c.loop-i.declared.items
    (take c.loop-i.i (shown text)) c.index.result.now c.loop-i.invariant.marks in
    let driven = c.index-in-loop-i.ensures
    ∙ mark-here text c.loop-i.i _ c.loop-i-test.true is_driver_of c.args.numbers.now c.in_ok-driven.driven.items
    (shown text) c.index-in-loop-i.result.now c.in_ok-driven.ensures.marks in
    let sound = sym (undriven-here (shown text) (take c.loop-i.i (shown text)) _ _ _ marked driven) ∙ sym c.if-is_undriven.ensures in
    record {
      long = marks-long _ _ _ _ c.mark.ensures ∙ old.long;
      marks = marks-step text c.loop-i.i _ c.loop-i-test.true is_declaration_of declares declaration-test
          c.args.numbers.now c.args.count c.requires.known c.loop-i.declared.items _ _ old.long c.declares.ensures
          c.mark.ensures old.marks;
      fault = fault-step text c.loop-i.i _ c.loop-i-test.true (is_undriven (shown text)) _ sound old.fault;
    }

pub loop-i-init : goal.loop-i-init
loop-i-init c = record {
  long = sym c.in_ok-declared.declared.ok.0 ∙ c.in_ok-declared.ensures.len;
  marks = none-marked is_declaration_of _ _ _ c.requires.known _ (c.in_ok-declared.ensures.items_if_clones_equal (search rules));
  fault = refl;
}

pub driven_names-requires : goal.driven_names-requires
driven_names-requires c = c.requires

pub returns : goal.returns
returns c =
    let text = c.args.text.now in
    sym (ap (first_fault (is_undriven (shown text)) (take c.loop-i.i (shown text))) (drop_of_length-le (shown text) (past-all text c.loop-i.i c.loop-i-test.false))) ∙ c.loop-i.invariant.fault

pub bounds-numbers-i : goal.bounds-numbers-i
bounds-numbers-i c = number-there _ _ _ c.requires c.loop-i.i c.loop-i-test.true

pub index-requires : goal.index-requires
index-requires c = number-below _ _ _ c.requires c.loop-i.i c.loop-i-test.true _ (c.loop-i.declared.ok.0 ∙ c.loop-i.invariant.long)

pub index-requires-in-loop-i : goal.index-requires-in-loop-i
index-requires-in-loop-i c = number-below _ _ _ c.requires c.loop-i.i c.loop-i-test.true _ (c.in_ok-driven.driven.ok.0 ∙ c.in_ok-driven.ensures.long)

pub mark-requires : goal.mark-requires
mark-requires c = number-below _ _ _ c.requires c.loop-i.i c.loop-i-test.true _ c.loop-i.invariant.long
