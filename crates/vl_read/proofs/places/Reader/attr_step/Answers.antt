use Rattle.vl_read.specs.inner.Plain.{attr_step}
use Rattle.vl_read.proofs.places.Reader.attr_step.Goals as goal

pub returns-in-AttrName : goal.returns-in-AttrName
unfolding attr_step
returns-in-AttrName c = rw c.in-AttrName.is c.name_step.ensures

pub returns-in-AttrSign : goal.returns-in-AttrSign
unfolding attr_step
returns-in-AttrSign c = rw c.in-AttrSign.is (c.expected.ensures c.args.self.now.draft c.args.self.now.held)

pub returns-in-More : goal.returns-in-More
unfolding attr_step
returns-in-More c = rw c.in-More.is c.after_attribute.ensures
