use Rattle.std.proofs.Common.{◌∙◌}
use Rattle.mdl_build.specs.Library.{block_types}
use Rattle.mdl_build.proofs.TypeNumbers.{beside_name}
use Rattle.mdl_build.proofs.type_names.type_of_name.Goals as goal

pub returns : goal.returns
returns c = c.value_beside.ensures ∙ beside_name block_types c.args.name.now
