use Rattle.std.proofs.Common.{◌≡◌, ⊎_elim, inl, inr, sym, ◌∙◌, arith}
use Rattle.std.proofs.lemmas.Bool.{cases_eq}
use Rattle.fx_prog.proofs.ProgramEnd.{begun}
use Rattle.fx_prog.proofs.answer.Goals as goal

pub returns-clause-done : goal.returns-clause-done
returns-clause-done g c = record {
  of_run = c.run-status.result;
  between = c.run-status.new.err;
  out_faults = c.run-status.new.out.faults;
  ends = begun c.in_ok-out.out.faults c.run-status.new.out.faults c.in_ok-out.ensures.faults c.run-status.ensures.ends;
  closed = ⊎_elim
      (λ (none : c.run-status.result ≡ 0). ⊎_elim
      (λ (kept : c.closed.result.status ≡ 0). let same = kept ∙ sym none in inl (same, c.closed.ensures.silent same))
      (λ (failed : c.closed.result.status ≡ 4). inr (none, failed, c.closed.ensures.said none failed))
      (c.closed.ensures.done none))
      (λ (some : c.run-status.result ≡ 0 → ⊥). let same = c.closed.ensures.refused (omega (arith, some)) in inl (same, c.closed.ensures.silent same))
      (cases_eq c.run-status.result 0);
}
