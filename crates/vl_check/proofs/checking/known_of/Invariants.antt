use Rattle.std.proofs.Common.{map, take}
use Rattle.vl_ast.specs.Conditions.{mentioned}
use Rattle.vl_check.specs.inner.Mentions.{shown, texts}
use Rattle.vl_check.specs.inner.Names.{HasPlaces, Numbered}
use Rattle.vl_check.proofs.checking.known_of.Given as goal

abbrev pub invariant-loop-mention : goal.invariant-loop-mention
invariant-loop-mention l = record {
  numbers : Numbered (take l.mention-index (map mentioned (shown l.text))) (texts l.known.names.items) l.known.numbers.items;
  places : HasPlaces l.known.names.items l.known.by_name;
}
