use Rattle.cmd_check.proofs.PieceBytes.{both}
use Rattle.cmd_check.proofs.quoting.put_path.Goals as goal

pub returns : goal.returns
returns g c = both (both c.put.ensures c.put_names.ensures) c.put-2.ensures
