use Rattle.fx_top.proofs.Sayings.{said-alone}
use Rattle.fx_top.proofs.answer.Answer.report.Goals as goal

pub returns-in-OutOfMemory : goal.returns-in-OutOfMemory
returns-in-OutOfMemory g c = rw c.in-OutOfMemory.is c.say.ensures.said

pub returns-in-Usage : goal.returns-in-Usage
returns-in-Usage g c = rw c.in-Usage.is c.say-in-Usage.ensures.said

pub returns-in-CannotWrite : goal.returns-in-CannotWrite
returns-in-CannotWrite g c = rw c.in-CannotWrite.is c.say-in-CannotWrite.ensures.said

pub returns-in-BreaksRule : goal.returns-in-BreaksRule
returns-in-BreaksRule g c = rw c.in-BreaksRule.is (said-alone c.bytes.result.now c.in-BreaksRule.line c.bytes.ensures c.say-in-BreaksRule.ensures.said)

pub returns-in-NotMdl : goal.returns-in-NotMdl
returns-in-NotMdl g c = rw c.in-NotMdl.is c.say_number.ensures

pub returns-in-BadTable : goal.returns-in-BadTable
returns-in-BadTable g c = rw c.in-BadTable.is (rw c.cause_end.ensures at c.say_number-in-BadTable.ensures)

pub returns-in-NotVerilog : goal.returns-in-NotVerilog
returns-in-NotVerilog g c = rw c.in-NotVerilog.is c.say_number-in-NotVerilog.ensures

pub returns-in-Broken : goal.returns-in-Broken
returns-in-Broken g c = rw c.in-Broken.is c.say_fault.ensures

pub returns-in-BadInstance : goal.returns-in-BadInstance
returns-in-BadInstance g c = rw c.in-BadInstance.is c.say_name.ensures

pub returns-in-TooLong : goal.returns-in-TooLong
returns-in-TooLong g c = rw c.in-TooLong.is c.say_number-in-TooLong.ensures
