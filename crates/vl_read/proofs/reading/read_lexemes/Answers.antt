use Rattle.std.proofs.Common.{◌≡◌, ◌∙◌, [], None, Some, ap, sym, arith}
use Rattle.std.proofs.lemmas.List.{drop_all, take_all}
use Rattle.vl_read.specs.inner.Designs.{sketch_step}
use Rattle.vl_read.specs.inner.DesignerFields.{gathered, told}
use Rattle.vl_read.specs.inner.Turns.{ahead, between, line_at}
use Rattle.vl_read.proofs.Reach.{reached_start, reads_all, fault_at_end}
use Rattle.vl_read.proofs.Scoped.{alone_state}
use Rattle.vl_read.proofs.Progress.{byte_refused, byte_line, gap_read, lexeme_refused, lexeme_line, lexeme_read}
use Rattle.vl_read.proofs.reading.read_lexemes.Goals as goal

pub loop-at-init : goal.loop-at-init
loop-at-init c = record {
  within = omega arith;
  beyond = tt;
  reached = reached_start c.args.scope c.args.bytes.now (gathered c.new-designer.result) c.new-designer.ensures;
}

pub returns-in_default-clause-refused : goal.returns-in_default-clause-refused
returns-in_default-clause-refused c = byte_refused _ _ _ _ _ c.loop-at.invariant.reached c.loop-at.invariant.beyond c.loop-at-test.true c.in_default.ensures

pub returns-in_default-clause-line : goal.returns-in_default-clause-line
returns-in_default-clause-line c = rw c.line_at.ensures (byte_line _ _ _ _ _ c.loop-at.invariant.reached c.loop-at.invariant.beyond c.loop-at-test.true c.in_default.ensures)

pub loop-at-preserved-then-not-is_within : goal.loop-at-preserved-then-not-is_within
loop-at-preserved-then-not-is_within c =
    let beyond = c.is_within.ensures.beyond c.if-not-is_within.true in
    record {
      within = omega (arith, c.loop-at-test.true);
      beyond = beyond;
      reached = gap_read _ _ _ _ _ c.loop-at.invariant.reached c.loop-at.invariant.beyond c.loop-at-test.true _ c.in-Some.ensures beyond;
    }

pub returns-then-not-branch-clause-refused : goal.returns-then-not-branch-clause-refused
returns-then-not-branch-clause-refused c =
    let unfed : None ≡ sketch_step (gathered c.loop-at.designer)
    (between c.loop-at.at c.lexeme_end-end.result c.args.bytes.now) =
    ap (λ t. told t (gathered c.step.new.self)) (sym c.if-not-branch.true) ∙ c.in_ok-step.ensures in
    lexeme_refused _ _ _ _ _ c.loop-at.invariant.reached c.loop-at.invariant.beyond c.loop-at-test.true _ c.in-Some.ensures (c.is_within.ensures.within c.if-not-is_within.false)
    _ c.lexeme_end-end.ensures.more c.lexeme_end-end.ensures.within c.lexeme_end-end.ensures.each c.lexeme_end-end.ensures.stops unfed

pub returns-then-not-branch-clause-line : goal.returns-then-not-branch-clause-line
returns-then-not-branch-clause-line c =
    let unfed : None ≡ sketch_step (gathered c.loop-at.designer)
    (between c.loop-at.at c.lexeme_end-end.result c.args.bytes.now) =
    ap (λ t. told t (gathered c.step.new.self)) (sym c.if-not-branch.true) ∙ c.in_ok-step.ensures in
    rw c.line_at-then-not-branch.ensures
    (lexeme_line _ _ _ _ _ c.loop-at.invariant.reached c.loop-at.invariant.beyond c.loop-at-test.true _ c.in-Some.ensures (c.is_within.ensures.within c.if-not-is_within.false)
    _ c.lexeme_end-end.ensures.more c.lexeme_end-end.ensures.within c.lexeme_end-end.ensures.each c.lexeme_end-end.ensures.stops unfed)

pub loop-at-preserved : goal.loop-at-preserved
loop-at-preserved c =
    let fed : Some (gathered c.step.new.self)
    ≡ sketch_step (gathered c.loop-at.designer)
    (between c.loop-at.at c.lexeme_end-end.result c.args.bytes.now) =
    ap (λ t. told t (gathered c.step.new.self)) (sym c.if-not-branch.false) ∙ c.in_ok-step.ensures in
    record {
      within = c.lexeme_end-end.ensures.within;
      beyond = tt;
      reached =
          lexeme_read _ _ _ _ _ c.loop-at.invariant.reached c.loop-at.invariant.beyond c.loop-at-test.true _ c.in-Some.ensures (c.is_within.ensures.within c.if-not-is_within.false)
          _ c.lexeme_end-end.ensures.more c.lexeme_end-end.ensures.within c.lexeme_end-end.ensures.each c.lexeme_end-end.ensures.stops _ fed;
    }

pub returns-clause-ahead : goal.returns-clause-ahead
returns-clause-ahead c = reads_all _ _ _ _ _ _ _ c.loop-at.invariant.reached ∙ ap (ahead (gathered c.loop-at.designer) c.loop-at.mode []) (drop_all c.loop-at.at c.args.bytes.now c.loop-at-test.false)

pub returns-clause-stops : goal.returns-clause-stops
returns-clause-stops c none =
    let all = take_all c.loop-at.at c.args.bytes.now c.loop-at-test.false in
    rw (sym (ap line_at all)) (fault_at_end _ _ _ _ _ _ _ c.loop-at.invariant.reached (drop_all c.loop-at.at c.args.bytes.now c.loop-at-test.false))

pub returns-clause-alone : goal.returns-clause-alone
returns-clause-alone c is = alone_state c.args.scope c.loop-at.invariant.reached.lexemes (gathered c.loop-at.designer) is c.loop-at.invariant.reached.fed
