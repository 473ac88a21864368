use Rattle.mdl_build.proofs.Zeros.{unset_by}
use Rattle.mdl_build.proofs.settings.Settings.unset.Goals as goal

pub returns : goal.returns
returns c = unset_by _ _ _ _ _ _ _ c.new.ensures c.new-2.ensures c.new-3.ensures c.new-4.ensures
