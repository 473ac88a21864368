use Rattle.std.proofs.Common.{◌≡◌, ◌<◌, ℕ, false, slice_index_or}
use Rattle.vl_ast.specs.Nets.{is_mention_of}
use Rattle.vl_check.specs.declared.mentions.Mention.{Mention}
use Rattle.vl_check.specs.inner.Mentions.{mention_of}
use Rattle.vl_check.proofs.clocking.place_of.Given as goal

abbrev pub invariant-loop-mention : goal.invariant-loop-mention
invariant-loop-mention l = record {
  place : l.place ≡ l.mention-index;
  none : (d : Mention) (k : ℕ) → k < l.mention-index → is_mention_of l.name (mention_of (slice_index_or l.text k d)) ≡ false;
}
