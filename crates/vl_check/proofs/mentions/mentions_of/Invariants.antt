use Rattle.std.proofs.Common.{◌++◌, map, take}
use Rattle.std.specs.List.{flat_map}
use Rattle.vl_ast.specs.Nets.{port_declared, Declares, item_mentions}
use Rattle.vl_check.proofs.ExpressionNames.{Has}
use Rattle.vl_check.proofs.mentions.mentions_of.Given as goal

abbrev pub invariant-loop-port : goal.invariant-loop-port
invariant-loop-port l = Has l.mentions (map (λ port. Declares (port_declared port)) (take l.port-index l.source.ports))

abbrev pub invariant-loop-item : goal.invariant-loop-item
invariant-loop-item l = Has l.mentions (map (λ port. Declares (port_declared port)) l.source.ports ++ flat_map item_mentions (take l.item-index l.source.items))
