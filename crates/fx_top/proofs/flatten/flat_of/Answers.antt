use Rattle.fx_top.proofs.Flat.{made-flat, not-flat, some-modules, unread}
use Rattle.fx_top.proofs.flatten.flat_of.Goals as goal

pub returns-in-Err-clause-refused : goal.returns-in-Err-clause-refused
returns-in-Err-clause-refused c = unread c.args.verilog.now c.in-Err.fault c.in-Err.ensures.refused c.in-Err.ensures.line c.in-Err.ensures.unlinked

pub flat-made-requires : goal.flat-made-requires
flat-made-requires c = some-modules c.args.verilog.now c.in-Ok.design c.in-Ok.ensures.found

pub returns-clause-made : goal.returns-clause-made
returns-clause-made c = made-flat c.args.verilog.now c.in-Ok.design c.in-Ok.ensures.found c.in-Ok.ensures.few c.flat-made.result c.flat-made.ensures.flat c.flat-made.ensures.linked

pub returns-clause-refused : goal.returns-clause-refused
returns-clause-refused c = not-flat c.args.verilog.now c.in-Ok.design c.in-Ok.ensures.found c.in-Ok.ensures.few c.flat-made.result c.flat-made.ensures.bad c.flat-made.ensures.spelled
