use Rattle.std.proofs.Common.{sym}
use Rattle.dg_types.proofs.LinkRows.{open_by_first}
use Rattle.dg_types.proofs.build.are_all_open.Goals as goal

pub returns : goal.returns
returns c = sym (open_by_first c.args.sizes.now 0 c.requires.some c.requires.alike)
