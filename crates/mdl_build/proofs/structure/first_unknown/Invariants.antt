use Rattle.std.proofs.Common.{◌≡◌, drop}
use Rattle.std.specs.Prelude.{find, is_none}
use Rattle.mdl_build.specs.Rules.{type_at}
use Rattle.mdl_build.proofs.structure.first_unknown.Given as goal

abbrev pub invariant-loop-place : goal.invariant-loop-place
invariant-loop-place l =
    find (λ place. is_none (type_at l.layout.items.now place)) l.places
    ≡ find (λ place. is_none (type_at l.layout.items.now place)) (drop l.place-index l.places)
