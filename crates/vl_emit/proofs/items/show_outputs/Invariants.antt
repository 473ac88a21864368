use Rattle.std.proofs.Common.{map, take}
use Rattle.vl_ast.specs.Listing.{Lists}
use Rattle.vl_emit.specs.inner.NetItems.{output_item, naming_of}
use Rattle.vl_emit.specs.inner.Ready.{circuit_of}
use Rattle.vl_emit.proofs.items.show_outputs.Given as goal

abbrev pub invariant-loop-output : goal.invariant-loop-output
invariant-loop-output l = Lists l.initial.out l.out (map (output_item (naming_of (circuit_of l.source))) (take l.output-index (circuit_of l.source).outputs))
