use Rattle.std.proofs.Common.{length, sym, ◌∙◌, ◌≤◌, ◌<◌, arith}
use Rattle.mdl_build.specs.Lookup.{has_defaults, defaults_of}
use Rattle.mdl_build.proofs.RoleLemmas.{roles_long}
use Rattle.mdl_build.proofs.FirstDefaults.{find_here, find_behind, find_at_end, asks}
use Rattle.mdl_build.proofs.lookup.defaults_of.Goals as goal
use Rattle.mdl_build.proofs.lookup.defaults_of.Goals.{In-loop-place}

-- the loop looks at an item
within : (c : In-loop-place) → c.loop-place.place < length c.args.layout.now.items.now
within c = let t = c.loop-place-test.true in omega (arith, roles_long c.args.layout.now.items.now c.args.roles.now c.requires.roles)

pub has_defaults-requires : goal.has_defaults-requires
has_defaults-requires c = within (goal.at.has_defaults-requires c).In-loop-place

pub returns-then-has_defaults : goal.returns-then-has_defaults
returns-then-has_defaults c =
    let low = within (goal.at.returns-then-has_defaults c).In-loop-place in
    find_here (has_defaults c.args.layout.now.items.now c.args.block_type) c.loop-place.place (length c.args.layout.now.items.now) _ low c.loop-place.invariant
    (asks c.args.layout.now.items.now c.args.roles.now c.args.block_type c.args.section c.loop-place.place _ c.requires.roles c.requires.section low ∙ sym c.if-has_defaults.ensures)

pub loop-place-preserved : goal.loop-place-preserved
loop-place-preserved c =
    let low = within (goal.at.loop-place-preserved c).In-loop-place in
    find_behind (has_defaults c.args.layout.now.items.now c.args.block_type) c.loop-place.place (length c.args.layout.now.items.now) _ low c.loop-place.invariant
    (asks c.args.layout.now.items.now c.args.roles.now c.args.block_type c.args.section c.loop-place.place _ c.requires.roles c.requires.section low ∙ sym c.if-has_defaults.ensures)

pub returns : goal.returns
returns c =
    let t = c.loop-place-test.false in
    let past : length c.args.layout.now.items.now ≤ c.loop-place.place = omega (arith, roles_long c.args.layout.now.items.now c.args.roles.now c.requires.roles) in
    find_at_end (has_defaults c.args.layout.now.items.now c.args.block_type) c.loop-place.place
    (length c.args.layout.now.items.now)
    (defaults_of c.args.layout.now.items.now c.args.block_type) past c.loop-place.invariant
