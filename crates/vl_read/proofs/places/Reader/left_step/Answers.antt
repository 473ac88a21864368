use Rattle.std.proofs.Common.{refl, sym, ◌∙◌}
use Rattle.vl_read.specs.inner.Plain.{left_step}
use Rattle.vl_read.proofs.places.Reader.left_step.Goals as goal

pub returns-then-is : goal.returns-then-is
unfolding left_step
returns-then-is c = rw (sym c.is.ensures ∙ c.if-is.true, sym c.in_ok-test.ensures) c.inside.ensures

pub returns-in_ok-left-in-Some : goal.returns-in_ok-left-in-Some
unfolding left_step
returns-in_ok-left-in-Some c = rw (sym c.is.ensures ∙ c.if-is.false, sym c.of_text.ensures ∙ c.in-Some.is, sym c.in_ok-left-in-Some.ensures) c.inside-in-Some.ensures

pub returns-in-Some-of_text : goal.returns-in-Some-of_text
unfolding left_step
returns-in-Some-of_text c = rw (sym c.is.ensures ∙ c.if-is.false, sym c.of_text.ensures ∙ c.in-None.is, sym c.of_text-in-None.ensures ∙ c.in-Some-of_text.is, c.hold.ensures) refl

pub returns-in-None-of_text : goal.returns-in-None-of_text
unfolding left_step
returns-in-None-of_text c = rw (sym c.is.ensures ∙ c.if-is.false, sym c.of_text.ensures ∙ c.in-None.is, sym c.of_text-in-None.ensures ∙ c.in-None-of_text.is) refl
