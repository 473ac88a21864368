use Rattle.std.proofs.Common.{◌∙◌, arith, refl, ap}
use Rattle.vl_read.specs.inner.Lexemes.{class_of}
use Rattle.vl_read.proofs.Classes.{classed}
use Rattle.vl_read.proofs.scan.class_of.Goals as goal

pub returns : goal.returns
unfolding class_of
returns c = classed _ c.from.result refl (omega arith) ∙ ap class_of c.from.ensures
