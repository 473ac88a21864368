use Rattle.std.proofs.Common.{◌≡◌, map}
use Rattle.std.specs.List.{range_with_len}
use Rattle.mdl_build.specs.Roles.{role_of}
use Rattle.mdl_build.proofs.roles.roles.Given as goal

abbrev pub invariant-loop-place : goal.invariant-loop-place
invariant-loop-place l = l.roles.items ≡ map (role_of l.layout.items.now) (range_with_len 0 l.place)
