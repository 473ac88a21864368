use Rattle.std.proofs.Common.{take}
use Rattle.mdl_build.specs.Roles.{blocks_of}
use Rattle.mdl_build.specs.inner.ItemFacts.{AreEnabled, AreNumbersTo}
use Rattle.mdl_build.proofs.making.note_blocks.Given as goal

abbrev pub invariant-loop-number : goal.invariant-loop-number
invariant-loop-number l = record {
  enabled : AreEnabled l.known.layout.items.now (take l.number (blocks_of l.known.layout.items.now)) l.enabled.items;
  numbers : AreNumbersTo l.known.layout.items.now l.number l.numbers.items;
}
