use Rattle.vl_read.specs.inner.Plain.{frame_step}
use Rattle.vl_read.proofs.places.Reader.frame_step.Goals as goal

pub returns-in-InRepeat : goal.returns-in-InRepeat
unfolding frame_step
returns-in-InRepeat c = rw c.in-InRepeat.is (c.ended_step.ensures _ c.wrapped-made.ensures)

pub returns-in-InCast : goal.returns-in-InCast
unfolding frame_step
returns-in-InCast c = rw c.in-InCast.is (c.ended_step-in-InCast.ensures _ c.wrapped-made-in-InCast.ensures)

pub returns-in-InUnary : goal.returns-in-InUnary
unfolding frame_step
returns-in-InUnary c = rw c.in-InUnary.is (c.ended_step-in-InUnary.ensures _ c.wrapped-made-in-InUnary.ensures)

pub returns-in-InRight : goal.returns-in-InRight
unfolding frame_step
returns-in-InRight c = rw c.in-InRight.is (c.ended_step-in-InRight.ensures _ c.binary-made.ensures)

pub returns-in-InOther : goal.returns-in-InOther
unfolding frame_step
returns-in-InOther c = rw c.in-InOther.is (c.ended_step-in-InOther.ensures _ c.choose-made.ensures)
