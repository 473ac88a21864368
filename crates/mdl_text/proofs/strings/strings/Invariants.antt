use Rattle.std.proofs.Common.{◌≡◌, length}
use Rattle.mdl_text.specs.inner.Plain.{strings, strings_from}
use Rattle.mdl_text.proofs.strings.strings.Given as goal

abbrev pub invariant-loop-rest : goal.invariant-loop-rest
invariant-loop-rest l = strings l.place l.said.items l.rest ≡ strings_from l.initial.said.items l.bytes

abbrev pub decreases-loop-rest : goal.decreases-loop-rest
decreases-loop-rest l = length l.rest
