use Rattle.std.proofs.Common.{sym, ap, ◌∙◌, arith}
use Rattle.mdl_build.proofs.RoleLemmas.{above_before}
use Rattle.mdl_build.proofs.Places.{known_at, known_length}
use Rattle.mdl_build.proofs.RoleSteps.{role_found}
use Rattle.mdl_build.specs.declared.roles.Role.{Role}
use Rattle.mdl_build.specs.Roles.{role_of, role_under}
use Rattle.mdl_build.specs.Sections.{depth_at}
use Rattle.mdl_build.proofs.roles.role_at.Goals as goal

pub depth-requires : goal.depth-requires
depth-requires c =
    let before = above_before c.args.layout.now.items.now (depth_at c.args.layout.now.items.now c.args.place) c.args.place c.in-Some-holder.holder (sym c.in-Some-holder.ensures) in
    let within = c.requires.within in omega arith

pub offset_bounds-roles-holder : goal.offset_bounds-roles-holder
offset_bounds-roles-holder c =
    let before = above_before c.args.layout.now.items.now (depth_at c.args.layout.now.items.now c.args.place) c.args.place c.in-Some-holder.holder (sym c.in-Some-holder.ensures) in
    let long = known_length (role_of c.args.layout.now.items.now) c.args.roles.now c.args.place c.requires.known in omega arith

pub bounds-roles-holder : goal.bounds-roles-holder
bounds-roles-holder c =
    let before = above_before c.args.layout.now.items.now (depth_at c.args.layout.now.items.now c.args.place) c.args.place c.in-Some-holder.holder (sym c.in-Some-holder.ensures) in
    let long = known_length (role_of c.args.layout.now.items.now) c.args.roles.now c.args.place c.requires.known in omega arith

pub returns-in-Some-holder : goal.returns-in-Some-holder
returns-in-Some-holder c =
    let before = above_before c.args.layout.now.items.now (depth_at c.args.layout.now.items.now c.args.place) c.args.place c.in-Some-holder.holder (sym c.in-Some-holder.ensures) in
    let role_is = known_at (role_of c.args.layout.now.items.now) c.args.roles.now c.args.place c.in-Some-holder.holder c.requires.known before in
    c.role_under.ensures
    ∙ ap (λ (role : Role). role_under c.args.layout.now.items.now c.in-Some-holder.holder role c.args.place) (role_is _)
    ∙ role_found c.args.layout.now.items.now c.args.place c.in-Some.depth c.in-Some-holder.holder (sym c.in-Some.ensures) (sym c.in-Some-holder.ensures) (sym c.depth.ensures ∙ c.if-depth.true)
