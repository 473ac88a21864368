use Rattle.std.proofs.Common.{◌∙◌, arith, refl, ap}
use Rattle.mdl_text.specs.Bytes.{is_name_byte}
use Rattle.mdl_text.proofs.Classes.{marked}
use Rattle.mdl_text.proofs.scan.is_name_byte.Goals as goal

pub returns : goal.returns
unfolding is_name_byte
returns c = marked _ c.from.result refl (omega arith) ∙ ap is_name_byte c.from.ensures
