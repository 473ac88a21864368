use Rattle.fx_top.proofs.answer.say_fault.Goals as goal

pub returns-in-OutOfMemory : goal.returns-in-OutOfMemory
returns-in-OutOfMemory g c = rw c.in-OutOfMemory.is c.say.ensures.said

pub returns-in-Undriven : goal.returns-in-Undriven
returns-in-Undriven g c = rw c.in-Undriven.is c.say_name.ensures

pub returns-in-Doubly : goal.returns-in-Doubly
returns-in-Doubly g c = rw c.in-Doubly.is c.say_name-in-Doubly.ensures

pub returns-in-TooWide : goal.returns-in-TooWide
returns-in-TooWide g c = rw c.in-TooWide.is c.say_name-in-TooWide.ensures

pub returns-in-NoReset : goal.returns-in-NoReset
returns-in-NoReset g c = rw c.in-NoReset.is c.say_name-in-NoReset.ensures

pub returns-in-NoAttribute : goal.returns-in-NoAttribute
returns-in-NoAttribute g c = rw c.in-NoAttribute.is c.say_name-in-NoAttribute.ensures
