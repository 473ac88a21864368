use Rattle.std.proofs.lemmas.Result.{on_ok_weaker}
use Rattle.hw_build.proofs.block_inputs.put_inputs.Goals as goal

pub put_types-requires-clause-is : goal.put_types-requires-clause-is
put_types-requires-clause-is c = c.requires.is

pub put_types-requires-clause-none : goal.put_types-requires-clause-none
put_types-requires-clause-none c = c.requires.bare.types

pub put_parts-requires-clause-is : goal.put_parts-requires-clause-is
put_parts-requires-clause-is c = c.requires.is

pub put_parts-requires-clause-none : goal.put_parts-requires-clause-none
put_parts-requires-clause-none c = c.requires.bare.parts

pub put_begins-requires-clause-is : goal.put_begins-requires-clause-is
put_begins-requires-clause-is c = c.requires.is

pub put_begins-requires-clause-none : goal.put_begins-requires-clause-none
put_begins-requires-clause-none c = c.requires.bare.begins

pub returns : goal.returns
returns c = on_ok_weaker c.put_begins.result (λ begins. record { types_are = c.in_ok-put_types.ensures; parts_are = c.in_ok-put_parts.ensures; begins_are = begins }) c.put_begins.ensures
