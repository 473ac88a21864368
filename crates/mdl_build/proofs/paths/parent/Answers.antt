use Rattle.std.proofs.Common.{rules, ◌≡◌, ℕ, ◌<◌, length, Option, Some, None, sym, ap, ◌∙◌, arith}
use Rattle.mdl_build.specs.Blocks.{at, if_subsystem}
use Rattle.mdl_build.specs.Roles.{role_of}
use Rattle.mdl_build.specs.Sections.{holder_of}
use Rattle.mdl_build.specs.declared.roles.Role.TheVariants.{Other}
use Rattle.mdl_build.proofs.RoleLemmas.{holder_before, roles_long, role_here}
use Rattle.mdl_build.proofs.paths.parent.Goals as goal

pub holder-requires-2 : goal.holder-requires-2
holder-requires-2 c =
    let h = holder_before c.args.layout.now.items.now c.args.place c.in-Some.system (sym c.holder.ensures ∙ c.in-Some.is) in
    omega (arith, h, c.requires.within)

pub offset_bounds-roles-holder : goal.offset_bounds-roles-holder
offset_bounds-roles-holder c =
    let h = holder_before c.args.layout.now.items.now c.args.place c.in-Some.system (sym c.holder.ensures ∙ c.in-Some.is) in
    let g = holder_before c.args.layout.now.items.now c.in-Some.system c.in-Some-holder.holder (sym c.holder-2.ensures ∙ c.in-Some-holder.is) in
    let inside : c.in-Some-holder.holder < length c.args.roles.now = omega (arith, h, g, c.requires.within, roles_long c.args.layout.now.items.now c.args.roles.now c.requires.known) in
    search rules

pub bounds-roles-holder : goal.bounds-roles-holder
bounds-roles-holder c =
    let h = holder_before c.args.layout.now.items.now c.args.place c.in-Some.system (sym c.holder.ensures ∙ c.in-Some.is) in
    let g = holder_before c.args.layout.now.items.now c.in-Some.system c.in-Some-holder.holder (sym c.holder-2.ensures ∙ c.in-Some-holder.is) in
    omega (arith, h, g, c.requires.within, roles_long c.args.layout.now.items.now c.args.roles.now c.requires.known)

pub returns : goal.returns
returns c =
    let items = c.args.layout.now.items.now in
    let first : holder_of items c.args.place ≡ Some c.in-Some.system = sym c.holder.ensures ∙ c.in-Some.is in
    let second : holder_of items c.in-Some.system ≡ Some c.in-Some-holder.holder = sym c.holder-2.ensures ∙ c.in-Some-holder.is in
    let h = holder_before items c.args.place c.in-Some.system first in
    let g = holder_before items c.in-Some.system c.in-Some-holder.holder second in
    let below : c.in-Some-holder.holder < length items = omega (arith, h, g, c.requires.within) in
    c.if_subsystem.ensures
    ∙ ap (if_subsystem c.in-Some-holder.holder) (sym (role_here items c.args.roles.now c.in-Some-holder.holder Other c.requires.known below))
    ∙ sym (ap (λ (found : Option ℕ). at None (λ system. at None (λ holder. if_subsystem holder (role_of items holder)) (holder_of items system)) found) first
    ∙ ap (λ (found : Option ℕ). at None (λ holder. if_subsystem holder (role_of items holder)) found) second)
