use Rattle.std.proofs.Common.{sym}
use Rattle.vl_read.specs.inner.Plain.{spot_step}
use Rattle.vl_read.proofs.places.Reader.spot_step.Goals as goal

pub returns-in-Operand : goal.returns-in-Operand
unfolding spot_step
returns-in-Operand c = rw (c.in-Operand.is, sym c.kind_of.ensures) c.operand_step.ensures

pub returns-in-Opened : goal.returns-in-Opened
unfolding spot_step
returns-in-Opened c = rw (c.in-Opened.is, sym c.kind_of-in-Opened.ensures) c.opened_step.ensures

pub returns-in-Braced : goal.returns-in-Braced
unfolding spot_step
returns-in-Braced c = rw (c.in-Braced.is, sym c.kind_of-in-Braced.ensures) c.braced_step.ensures

pub returns-in-Begins : goal.returns-in-Begins
unfolding spot_step
returns-in-Begins c = rw (c.in-Begins.is, sym c.byte.ensures) (c.expected_spot.ensures c.args.self.now.draft c.args.self.now.held)

pub returns-in-Ends : goal.returns-in-Ends
unfolding spot_step
returns-in-Ends c = rw (c.in-Ends.is, sym c.byte-in-Ends.ensures) (c.expected_spot-in-Ends.ensures c.args.self.now.draft c.args.self.now.held)

pub returns-in-Value : goal.returns-in-Value
unfolding spot_step
returns-in-Value c = rw c.in-Value.is c.value_step.ensures

pub returns-in-Amount : goal.returns-in-Amount
unfolding spot_step
returns-in-Amount c = rw c.in-Amount.is c.amount_step.ensures

pub returns-in-High : goal.returns-in-High
unfolding spot_step
returns-in-High c = rw c.in-High.is c.high_step.ensures
