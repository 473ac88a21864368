use Rattle.std.proofs.Common.{◌≡◌, take, sym, ◌∙◌, ap, arith}
use Rattle.mdl_text.specs.inner.Plain.{trimmed}
use Rattle.mdl_text.proofs.Scans.{cut_blank, cut_kept}
use Rattle.mdl_text.proofs.scan.trim_end.Goals as goal
use Rattle.mdl_text.proofs.scan.trim_end.Goals.{then-loop-end-test+else-is_blank, else-loop-end-test}

-- a blank at the end goes
pub loop-end-preserved : goal.loop-end-preserved
loop-end-preserved c = (
  cut_blank c.args.bytes.now c.loop-end.end c.loop-end-test.true c.loop-end.invariant.1 (sym c.is_blank.ensures ∙ c.if-is_blank.true) ∙ c.loop-end.invariant.0,
  omega arith,
)

-- the last byte is no blank, or there is none
pub returns : goal.returns
returns c =
    elim c.loop-end-test.branch [
      | then-loop-end-test+else-is_blank w ↦ sym
          (cut_kept c.args.bytes.now c.loop-end.end w.loop-end-test.true c.loop-end.invariant.1
          (sym w.is_blank.ensures ∙ w.if-is_blank.false)) ∙ c.loop-end.invariant.0
      | else-loop-end-test w ↦ let none : c.loop-end.end ≡ 0 = omega arith in
          ap (λ n. take n c.args.bytes.now) none ∙ sym (ap (λ n. trimmed (take n c.args.bytes.now)) none) ∙ c.loop-end.invariant.0
    ]
