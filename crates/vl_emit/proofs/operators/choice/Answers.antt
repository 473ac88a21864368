use Rattle.vl_emit.proofs.operators.choice.Goals as goal

pub test_of-test-requires : goal.test_of-test-requires
test_of-test-requires c = c.requires.test

pub at_width-chosen-requires : goal.at_width-chosen-requires
at_width-chosen-requires c = record { word = c.requires.both.left; room = c.requires.both.room }

pub at_width-other-requires : goal.at_width-other-requires
at_width-other-requires c = record { word = c.requires.both.right; room = c.requires.both.room }

pub returns : goal.returns
returns c = c.choose.ensures _ _ _ c.test_of-test.ensures c.at_width-chosen.ensures c.at_width-other.ensures
