use Rattle.std.proofs.Common.{◌≡◌, ◌++◌, length}
use Rattle.mdl_values.specs.Pieces.{words_of}
use Rattle.mdl_values.proofs.pieces.push_words.Given as goal

abbrev pub invariant-loop-word : goal.invariant-loop-word
invariant-loop-word l = l.words ++ words_of l.rest ≡ l.initial.words ++ words_of l.text

abbrev pub decreases-loop-word : goal.decreases-loop-word
decreases-loop-word l = length l.rest
