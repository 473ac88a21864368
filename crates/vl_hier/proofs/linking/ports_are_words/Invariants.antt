use Rattle.std.proofs.Common.{◌≡◌, take}
use Rattle.std.specs.List.{list_all}
use Rattle.vl_ast.specs.declared.modules.Port.{Port}
use Rattle.vl_hier.specs.inner.Tests.{is_word}
use Rattle.vl_hier.proofs.linking.ports_are_words.Given as goal

abbrev pub invariant-loop-port : goal.invariant-loop-port
invariant-loop-port l = l.words ≡ list_all (λ (port : Port). is_word l.head port.name) (take l.port-index l.ports)
