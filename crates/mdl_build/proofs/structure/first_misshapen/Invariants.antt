use Rattle.std.proofs.Common.{◌≡◌, drop, not}
use Rattle.std.specs.Prelude.{find}
use Rattle.mdl_build.specs.Roles.{blocks_of}
use Rattle.mdl_build.specs.Rules.{keeps_structure}
use Rattle.mdl_build.proofs.structure.first_misshapen.Given as goal

abbrev pub invariant-loop-number : goal.invariant-loop-number
invariant-loop-number l =
    find (λ place. not (keeps_structure l.layout.items.now place)) (blocks_of l.layout.items.now)
    ≡ find (λ place. not (keeps_structure l.layout.items.now place)) (drop l.number (blocks_of l.layout.items.now))
