use Rattle.mdl_values.specs.Lists.{IsListText}
use Rattle.mdl_build.specs.declared.settings.Setting.{Setting}
use Rattle.mdl_build.proofs.Readings.{found_in}
use Rattle.mdl_build.proofs.list_readers.list.Goals as goal

pub returns : goal.returns
returns c = found_in (IsListText c.args.text.now) Setting.List c.in_ok-read_list.field-0 c.map.result c.map.ensures.cases c.in_ok-read_list.ensures
