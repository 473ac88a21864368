use Rattle.mdl_build.proofs.SomeNested.{some_nested}
use Rattle.mdl_build.proofs.laws.nested_is_there.Goals as goal

pub returns : goal.returns
returns c = some_nested c.values_are_one.ensures c.are_sound_blocks.ensures c.names_differ.ensures c.blocks_are_counted.ensures
