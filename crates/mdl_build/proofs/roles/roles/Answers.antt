use Rattle.mdl_build.proofs.Places.{pushed}
use Rattle.mdl_build.specs.Roles.{role_of}
use Rattle.mdl_build.proofs.roles.roles.Goals as goal

pub loop-place-preserved : goal.loop-place-preserved
loop-place-preserved c = pushed (role_of c.args.layout.now.items.now) _ _ _ c.loop-place.place c.loop-place.invariant c.in_ok-push.ensures.items c.role_at-role.ensures
