use Rattle.std.proofs.Common.{◌≡◌, length, subst, arith}
use Rattle.mdl_build.specs.declared.roles.Role.TheVariants.{Other}
use Rattle.mdl_build.specs.inner.Structure.{AreCounts}
use Rattle.mdl_build.proofs.RoleLemmas.{roles_long, role_listed}
use Rattle.mdl_build.proofs.structure.systems_in.Goals as goal

pub add_system-requires-clause-within : goal.add_system-requires-clause-within
add_system-requires-clause-within c = omega (arith, c.loop-place-test.true, roles_long c.args.layout.now.items.now c.args.roles.now c.requires)

pub add_system-requires-clause-role : goal.add_system-requires-clause-role
add_system-requires-clause-role c =
    role_listed c.args.layout.now.items.now c.args.roles.now c.loop-place.place Other c.requires c.loop-place-test.true

pub returns : goal.returns
returns c =
    let items = c.args.layout.now.items.now in
    let all : c.loop-place.place ≡ length items = omega (arith, c.loop-place-test.false, c.loop-place.auto.place-end, roles_long items c.args.roles.now c.requires) in
    subst (AreCounts items c.loop-place.counts.items) all c.loop-place.invariant

pub add_system-requires-clause-counted : goal.add_system-requires-clause-counted
add_system-requires-clause-counted c = c.loop-place.invariant

pub loop-place-preserved : goal.loop-place-preserved
loop-place-preserved c = c.add_system.ensures
