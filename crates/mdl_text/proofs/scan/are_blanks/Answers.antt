use Rattle.std.proofs.Common.{true, false, sym, ◌∙◌}
use Rattle.std.specs.List.{list_all}
use Rattle.std.proofs.lemmas.List.{at_drop_all}
use Rattle.mdl_text.specs.Bytes.{is_blank}
use Rattle.mdl_text.proofs.Scans.{all_here}
use Rattle.mdl_text.proofs.scan.are_blanks.Goals as goal

pub loop-byte-preserved : goal.loop-byte-preserved
loop-byte-preserved c = sym (all_here is_blank c.args.bytes.now c.loop-byte.byte-index true c.loop-byte-test.true (sym c.is_blank.ensures ∙ c.if-not-is_blank.false)) ∙ c.loop-byte.invariant

pub returns-then-not-is_blank : goal.returns-then-not-is_blank
returns-then-not-is_blank c = sym (all_here is_blank c.args.bytes.now c.loop-byte.byte-index false c.loop-byte-test.true (sym c.is_blank.ensures ∙ c.if-not-is_blank.true)) ∙ c.loop-byte.invariant

pub returns : goal.returns
returns c = sym (at_drop_all (list_all is_blank) c.args.bytes.now c.loop-byte.byte-index c.loop-byte-test.false) ∙ c.loop-byte.invariant
