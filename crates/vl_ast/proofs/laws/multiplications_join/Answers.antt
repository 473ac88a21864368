use Rattle.std.proofs.lemmas.List.Concat.{flat_map-append}
use Rattle.vl_ast.specs.Multiplications.{item_multiplications}
use Rattle.vl_ast.proofs.laws.multiplications_join.Goals as goal

pub returns : goal.returns
returns c nets items more = flat_map-append (item_multiplications nets) items more
