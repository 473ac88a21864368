use Rattle.std.proofs.Common.{◌∙◌, sym, refl}
use Rattle.vl_read.specs.inner.Plain.{attr_step}
use Rattle.vl_read.proofs.places.Reader.after_attribute.Goals as goal

pub returns-then-is : goal.returns-then-is
unfolding attr_step
returns-then-is c = rw (sym c.is.ensures ∙ c.if-is.true) refl

pub returns-then-of_port : goal.returns-then-of_port
unfolding attr_step
returns-then-of_port c = rw (sym c.is.ensures ∙ c.if-is.false, c.if-of_port.true) (c.expected.ensures c.args.self.now.draft c.args.self.now.held)
