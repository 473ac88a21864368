use Rattle.std.proofs.Common.{◌∙◌, refl, sym}
use Rattle.vl_read.specs.inner.Plain.{net_step}
use Rattle.vl_read.proofs.places.Reader.net_step.Goals as goal

pub returns-then-is_name : goal.returns-then-is_name
unfolding net_step
returns-then-is_name c = rw (c.in-Named.is, sym c.is_name.ensures ∙ c.if-is_name.true) c.declare.ensures

pub returns-else-is_name : goal.returns-else-is_name
unfolding net_step
returns-else-is_name c = rw (c.in-Named.is, sym c.is_name.ensures ∙ c.if-is_name.false) refl
