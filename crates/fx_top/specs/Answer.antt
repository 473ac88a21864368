-- The status of an answer, and the line that it puts on the stream of messages (own).
use Rattle.std.specs.Prelude.{ℕ, List, []}
use Rattle.fx_top.specs.declared.answer.Answer.{Answer}
use Rattle.fx_top.specs.declared.answer.Answer.TheVariants.{Done, OutOfMemory, Usage, CannotRead, CannotWrite, NotMdl, BadTable, BreaksRule, NotVerilog, Broken, BadInstance, TooLong}
use Rattle.fx_top.specs.Messages.{memory_line, usage_line, unread_line, unwritten_line, syntax_line, bad_line, not_verilog_line, broken_line, instance_line, too_long_line}

-- the exit status of an answer
abbrev pub status_of : Answer → ℕ
status_of Done = 0
status_of OutOfMemory = 1
status_of Usage = 2
status_of (CannotRead file) = 3
status_of CannotWrite = 4
status_of (NotMdl file line) = 5
status_of (BadTable file line cause) = 6
status_of (BreaksRule line) = 7
status_of (NotVerilog file line) = 8
status_of (Broken file fault) = 8
status_of (BadInstance file name) = 8
status_of (TooLong file length) = 9

-- the line that an answer puts on the stream of messages
abbrev pub line_of : Answer → List ℕ
line_of Done = []
line_of OutOfMemory = memory_line
line_of Usage = usage_line
line_of (CannotRead file) = unread_line file.now
line_of CannotWrite = unwritten_line
line_of (NotMdl file line) = syntax_line file.now line
line_of (BadTable file line cause) = bad_line file.now line cause
line_of (BreaksRule line) = line
line_of (NotVerilog file line) = not_verilog_line file.now line
line_of (Broken file fault) = broken_line file.now fault
line_of (BadInstance file name) = instance_line file.now name
line_of (TooLong file length) = too_long_line file.now length
