use Rattle.fir_block.proofs.Readable.{sound}
use Rattle.fir_block.proofs.laws.are_sound_blocks.Goals as goal

pub returns : goal.returns
returns c = sound
