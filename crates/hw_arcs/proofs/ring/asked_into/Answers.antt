use Rattle.std.proofs.Common.{◌≡◌, ◌<◌, ℕ, List, false, length, get_or, Some, None, ap, sym, ◌∙◌, arith}
use Rattle.std.specs.Prelude.{Option}
use Rattle.std.proofs.lemmas.Option.{slice_get-get_or}
use Rattle.hw_arcs.specs.declared.arc.Arc.{Arc}
use Rattle.hw_arcs.specs.inner.Walk.{of_arc, of_number}
use Rattle.hw_arcs.proofs.ring.asked_into.Goals.{In-Some}
use Rattle.hw_arcs.proofs.ring.asked_into.Goals as goal

abbrev no_arc : Arc
no_arc = record { from = 0; to = 0; counts = false; gain = 0; slack = 0 }

asked : (value : Arc → ℕ) (arcs : List Arc) (read : Option ℕ) (number : ℕ) → read ≡ Some number → number < length arcs → value (get_or arcs number no_arc) ≡ of_number value arcs read
asked value arcs read number is inside = sym (ap (of_number value arcs) is ∙ ap (of_arc value) (slice_get-get_or arcs number no_arc inside))

inside : (c : In-Some) → c.in-Some.number < length c.args.arcs.now
inside c = c.requires.given.given c.args.block c.in-Some.number (slice_get-get_or c.args.tight.now c.args.block None c.requires.there ∙ ap Some c.in-Some.is)

pub bounds-arcs-number : goal.bounds-arcs-number
bounds-arcs-number c = inside (goal.at.bounds-arcs-number c).In-Some

pub returns-in-Some-clause-gain : goal.returns-in-Some-clause-gain
returns-in-Some-clause-gain c = asked (λ arc. arc.gain) c.args.arcs.now _ c.in-Some.number c.in-Some.is (inside (goal.at.returns-in-Some-clause-gain c).In-Some)

pub returns-in-Some-clause-slack : goal.returns-in-Some-clause-slack
returns-in-Some-clause-slack c = asked (λ arc. arc.slack) c.args.arcs.now _ c.in-Some.number c.in-Some.is (inside (goal.at.returns-in-Some-clause-slack c).In-Some)

pub returns-in-Some-clause-small : goal.returns-in-Some-clause-small
returns-in-Some-clause-small c = c.requires.known.gain c.in-Some.number _ (slice_get-get_or c.args.arcs.now c.in-Some.number no_arc (inside (goal.at.returns-in-Some-clause-small c).In-Some))

pub offset_bounds-arcs-number : goal.offset_bounds-arcs-number
offset_bounds-arcs-number c =
    let below = inside (goal.at.offset_bounds-arcs-number c).In-Some in
    omega (arith, below)
