use Rattle.std.proofs.Common.{length}
use Rattle.fx_top.proofs.answer.+say.Given as goal

abbrev pub decreases-say : goal.decreases-say
decreases-say g l = length l.pieces.now
