use Rattle.math_num.proofs.Words.{word_width}
use Rattle.vl_emit.proofs.operators.expression.Goals as goal

pub piece-requires-clause-net : goal.piece-requires-clause-net
piece-requires-clause-net c = (word_width c.args.first.width c.args.first.signed c.requires.first.word).0

pub piece-requires-clause-some : goal.piece-requires-clause-some
piece-requires-clause-some c = c.requires.first.room.0

pub piece-requires-clause-most : goal.piece-requires-clause-most
piece-requires-clause-most c = c.requires.first.room.1

pub choice-requires-clause-test : goal.choice-requires-clause-test
choice-requires-clause-test c = c.requires.first.word

pub slice_at-requires-clause-net : goal.slice_at-requires-clause-net
slice_at-requires-clause-net c = c.requires.first.word

pub slice_at-requires-clause-width : goal.slice_at-requires-clause-width
slice_at-requires-clause-width c = c.requires.first.room

pub returns-in-Input : goal.returns-in-Input
returns-in-Input c = rw c.in-Input.is c.at_width.ensures

pub returns-in-Resize : goal.returns-in-Resize
returns-in-Resize c = rw c.in-Resize.is c.at_width-in-Resize.ensures

pub returns-in-ShiftUp : goal.returns-in-ShiftUp
returns-in-ShiftUp c = rw c.in-ShiftUp.is c.shifted_up.ensures

pub returns-in-Add : goal.returns-in-Add
returns-in-Add c = rw c.in-Add.is c.in_width.ensures

pub returns-in-Subtract : goal.returns-in-Subtract
returns-in-Subtract c = rw c.in-Subtract.is c.in_width-in-Subtract.ensures

pub returns-in-Negate : goal.returns-in-Negate
returns-in-Negate c = rw c.in-Negate.is c.unary.ensures

pub returns-in-And : goal.returns-in-And
returns-in-And c = rw c.in-And.is c.in_width-in-And.ensures

pub returns-in-Or : goal.returns-in-Or
returns-in-Or c = rw c.in-Or.is c.in_width-in-Or.ensures

pub returns-in-Xor : goal.returns-in-Xor
returns-in-Xor c = rw c.in-Xor.is c.in_width-in-Xor.ensures

pub returns-in-Not : goal.returns-in-Not
returns-in-Not c = rw c.in-Not.is c.unary-in-Not.ensures

pub returns-in-Less : goal.returns-in-Less
returns-in-Less c = rw c.in-Less.is c.less.ensures

pub returns-in-Equal : goal.returns-in-Equal
returns-in-Equal c = rw c.in-Equal.is c.equal.ensures

pub returns-in-Choose : goal.returns-in-Choose
returns-in-Choose c = rw c.in-Choose.is c.choice.ensures
