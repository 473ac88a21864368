use Rattle.std.proofs.Common.{refl}
use Rattle.dg_sim.proofs.joining.Cursors.new.Goals as goal

pub returns : goal.returns
returns c = λ diagram attributes. record { into = refl; out = refl }
