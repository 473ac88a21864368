use Rattle.std.proofs.Common.{◌≡◌, drop}
use Rattle.mdl_values.specs.Words.{value_beside, listed}
use Rattle.mdl_values.proofs.words.value_beside.Given as goal

abbrev pub invariant-loop-word : goal.invariant-loop-word
invariant-loop-word g l = value_beside (listed (drop l.word-index l.words)) l.text ≡ value_beside (listed l.words) l.text
