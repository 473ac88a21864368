use Rattle.vl_ast.proofs.OneDriver.{driven-once}
use Rattle.vl_ast.proofs.Facts.{listed-mention}
use Rattle.vl_ast.proofs.laws.one_driver.Goals as goal

pub returns : goal.returns
returns c m d sound there needs = driven-once m sound.driven sound.once d (listed-mention m sound.driven sound.once d there) needs
