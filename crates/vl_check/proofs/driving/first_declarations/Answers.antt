use Rattle.std.proofs.Common.{◌+◌, map, take, sym, subst, ◌∙◌, rules}
use Rattle.std.proofs.lemmas.List.{take_all}
use Rattle.vl_ast.specs.Conditions.{mentioned}
use Rattle.vl_check.specs.inner.Mentions.{shown}
use Rattle.vl_check.specs.inner.Marks.{AreFirst}
use Rattle.vl_check.proofs.Marks.{first-step, first-long, none-first, number-there, number-below, past-all}
use Rattle.vl_check.proofs.driving.first_declarations.Goals as goal

pub loop-i-init : goal.loop-i-init
loop-i-init c = record {
  long = sym c.in_ok-first.first.ok.0 ∙ c.in_ok-first.ensures.len;
  first = none-first _ _ _ c.requires.known _ (c.in_ok-first.ensures.items_if_clones_equal (search rules));
}

pub loop-i-preserved : goal.loop-i-preserved
loop-i-preserved c =
    let old = c.loop-i.invariant in
    record {
      long = first-long _ _ _ _ c.declare.ensures ∙ old.long;
      first = subst (λ fs. AreFirst (map mentioned (shown c.args.text.now)) c.args.numbers.now fs (take (c.loop-i.i + 1) (shown c.args.text.now))) (sym c.declare.ensures)
          (first-step c.args.text.now c.loop-i.i _ c.loop-i-test.true c.args.numbers.now c.args.count c.requires.known c.loop-i.first.items old.long old.first);
    }

pub returns : goal.returns
returns c =
    let text = c.args.text.now in
    record {
      long = c.loop-i.invariant.long;
      first = subst (λ part. AreFirst (map mentioned (shown text)) c.args.numbers.now c.loop-i.first.items part)
          (take_all c.loop-i.i (shown text) (past-all text c.loop-i.i c.loop-i-test.false))
          c.loop-i.invariant.first;
    }

pub bounds-numbers-i : goal.bounds-numbers-i
bounds-numbers-i c = number-there _ _ _ c.requires c.loop-i.i c.loop-i-test.true

pub declare-requires : goal.declare-requires
declare-requires c = number-below _ _ _ c.requires c.loop-i.i c.loop-i-test.true _ c.loop-i.invariant.long
