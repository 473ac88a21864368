use Rattle.std.proofs.Common.{ap, ◌∙◌}
use Rattle.std.specs.Option.{option_copied}
use Rattle.dg_model.specs.Joined.{joined}
use Rattle.cmd_check.proofs.PieceBytes.{adds_as, both}
use Rattle.cmd_check.proofs.PieceTexts.{quoted_within}
use Rattle.cmd_check.proofs.quoting.+put_names.Goals as goal

pub returns : goal.returns
returns g t c =
    adds_as (quoted_within c.args.path.now c.in-Some.around.now c.split.result.1.now (c.split.ensures ∙ ap (λ (o : _). joined (option_copied o) c.split.result.1.now) c.in-Some.is))
    (both (both c.put_names.ensures c.put.ensures) c.put_name-2.ensures)
