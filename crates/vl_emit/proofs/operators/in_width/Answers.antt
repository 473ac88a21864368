use Rattle.vl_emit.proofs.operators.in_width.Goals as goal

pub at_width-left-requires : goal.at_width-left-requires
at_width-left-requires c = record { word = c.requires.left; room = c.requires.room }

pub at_width-right-requires : goal.at_width-right-requires
at_width-right-requires c = record { word = c.requires.right; room = c.requires.room }

pub returns : goal.returns
returns c = c.binary.ensures _ _ c.at_width-left.ensures c.at_width-right.ensures
