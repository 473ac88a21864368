use Rattle.std.proofs.Common.{map, sym, subst, ◌∙◌, rules}
use Rattle.std.proofs.lemmas.List.{take_all}
use Rattle.vl_ast.specs.Conditions.{is_driver_of, mentioned}
use Rattle.vl_check.specs.inner.Mentions.{shown}
use Rattle.vl_check.specs.inner.Marks.{Marks, drives}
use Rattle.vl_check.proofs.Marks.{driver-test, marks-step, marks-long, none-marked, number-there, number-below, past-all}
use Rattle.vl_check.proofs.driving.driven_names.Goals as goal

pub loop-i-init : goal.loop-i-init
loop-i-init c = record {
  long = sym c.in_ok-driven.driven.ok.0 ∙ c.in_ok-driven.ensures.len;
  marks = none-marked is_driver_of _ _ _ c.requires.known _ (c.in_ok-driven.ensures.items_if_clones_equal (search rules));
}

pub loop-i-preserved : goal.loop-i-preserved
loop-i-preserved c =
    let old = c.loop-i.invariant in
    record {
      long = marks-long _ _ _ _ c.mark.ensures ∙ old.long;
      marks = marks-step c.args.text.now c.loop-i.i _ c.loop-i-test.true is_driver_of drives driver-test
          c.args.numbers.now c.args.count c.requires.known c.loop-i.driven.items _ _ old.long c.drives.ensures
          c.mark.ensures old.marks;
    }

pub returns : goal.returns
returns c =
    let text = c.args.text.now in
    record {
      long = c.loop-i.invariant.long;
      marks = subst (λ part. Marks is_driver_of
          (map mentioned (shown text)) c.args.numbers.now c.loop-i.driven.items part)
          (take_all c.loop-i.i (shown text) (past-all text c.loop-i.i c.loop-i-test.false))
          c.loop-i.invariant.marks;
    }

pub bounds-numbers-i : goal.bounds-numbers-i
bounds-numbers-i c = number-there _ _ _ c.requires c.loop-i.i c.loop-i-test.true

pub mark-requires : goal.mark-requires
mark-requires c = number-below _ _ _ c.requires c.loop-i.i c.loop-i-test.true _ c.loop-i.invariant.long
