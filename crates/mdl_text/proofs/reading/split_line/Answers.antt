use Rattle.mdl_text.proofs.Whole.{first_newline, no_newline}
use Rattle.mdl_text.proofs.reading.split_line.Goals as goal

pub returns-in-None : goal.returns-in-None
returns-in-None c = no_newline c.args.text.now c.in-None.ensures

pub returns-in-Some : goal.returns-in-Some
returns-in-Some c = first_newline c.args.text.now c.in-Some.end c.in-Some.ensures
