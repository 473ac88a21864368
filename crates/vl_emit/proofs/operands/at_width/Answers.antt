use Rattle.math_num.proofs.Words.{word_width}
use Rattle.vl_emit.proofs.operands.at_width.Goals as goal

pub piece-requires-clause-net : goal.piece-requires-clause-net
piece-requires-clause-net c = (word_width c.args.operand.width c.args.operand.signed c.requires.word).0

pub piece-requires-clause-some : goal.piece-requires-clause-some
piece-requires-clause-some c = c.requires.room.0

pub piece-requires-clause-most : goal.piece-requires-clause-most
piece-requires-clause-most c = c.requires.room.1
