use Rattle.std.proofs.Common.{◌≡◌, ℕ, List, Some, slice_get, slice_index_or, arith, refl}
use Rattle.std.specs.Int.{w128}
use Rattle.std.proofs.lemmas.Int.{to_z-of_z}
use Rattle.std.proofs.lemmas.Option.{slice_get-get_or}
use Rattle.hw_lines.specs.declared.source.Use.{Use}
use Rattle.hw_lines.proofs.lines.line.Goals as goal

pub returns-clause-answer : goal.returns-clause-answer
returns-clause-answer c =
    let first = to_z-of_z w128 c.args.first c.ranges.first in
    let are = rw first at c.in_ok-answers.ensures.answers in
    let one : Use = record { shift = c.args.shift; period = c.args.period } in
    let answers : List ℕ = c.in_ok-answers.answers in
    let there : slice_get answers 0 ≡ Some (slice_index_or answers 0 0) = slice_get-get_or answers 0 0 (omega (arith, are.count)) in
    rw c.as_slice.ensures (are.each 0 one (slice_index_or answers 0 0) refl there)
