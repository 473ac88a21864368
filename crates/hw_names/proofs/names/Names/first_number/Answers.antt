use Rattle.std.proofs.Common.{sym}
use Rattle.hw_names.proofs.names.Names.first_number.Goals as goal

pub returns-in-Some : goal.returns-in-Some
returns-in-Some c list are = are.tried c.args.name.now c.in-Some.number.now (sym c.in-Some.ensures.value)
