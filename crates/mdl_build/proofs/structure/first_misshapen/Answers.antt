use Rattle.std.proofs.Common.{rules, ◌≡◌, ℕ, ◌<◌, ◌≤◌, true, false, List, Some, length, get_or, not, refl, subst, sym, ap, ◌∙◌, arith}
use Rattle.std.proofs.lemmas.List.{get_or_default}
use Rattle.mdl_build.specs.declared.roles.Role.TheVariants.{Other}
use Rattle.mdl_build.specs.Roles.{blocks_of}
use Rattle.mdl_build.specs.Rules.{keeps_structure}
use Rattle.mdl_build.proofs.BlockPlaces.{block_here}
use Rattle.mdl_build.proofs.FindSteps.{find_next, find_here, find_end}
use Rattle.mdl_build.proofs.RoleLemmas.{roles_long, role_here}
use Rattle.mdl_build.proofs.structure.first_misshapen.Goals as goal

pub offset_bounds-roles-place : goal.offset_bounds-roles-place
offset_bounds-roles-place c =
    let items = c.args.layout.now.items.now in
    let h = block_here items c.places-place-items.result.now c.loop-number.number 0 (c.places-place-items.ensures ∙ c.requires.known.places) c.loop-number-test.true in
    let inside : get_or c.places-place-items.result.now c.loop-number.number 0 < length c.args.roles.now = omega (arith, h.within, roles_long items c.args.roles.now c.requires.roles) in
    search rules

pub bounds-roles-place : goal.bounds-roles-place
bounds-roles-place c =
    let items = c.args.layout.now.items.now in
    let h = block_here items c.places-place-items.result.now c.loop-number.number 0 (c.places-place-items.ensures ∙ c.requires.known.places) c.loop-number-test.true in
    omega (arith, h.within, roles_long items c.args.roles.now c.requires.roles)

pub index-requires : goal.index-requires
index-requires c =
    let items = c.args.layout.now.items.now in
    let h = block_here items c.places-place-items.result.now c.loop-number.number 0 (c.places-place-items.ensures ∙ c.requires.known.places) c.loop-number-test.true in
    omega (arith, h.within, c.in_ok-counts.counts.ok.0, c.in_ok-counts.ensures.long)

pub keeps_structure-requires-clause-block : goal.keeps_structure-requires-clause-block
keeps_structure-requires-clause-block c =
    let items = c.args.layout.now.items.now in
    let place = get_or c.places-place-items.result.now c.loop-number.number 0 in
    let h = block_here items c.places-place-items.result.now c.loop-number.number 0 (c.places-place-items.ensures ∙ c.requires.known.places) c.loop-number-test.true in
    let inside : place < length c.in_ok-counts.counts.items = omega (arith, h.within, c.in_ok-counts.ensures.long) in
    record {
      within = h.within;
      number_is = h.number_is;
      role_is = role_here items c.args.roles.now place Other c.requires.roles h.within;
      systems_are = c.index.ensures ∙ get_or_default c.in_ok-counts.counts.items place c.index.result.now 0 inside ∙ c.in_ok-counts.ensures.each place h.within;
    }

pub systems_in-requires : goal.systems_in-requires
systems_in-requires c = c.requires.roles

pub loop-number-init : goal.loop-number-init
loop-number-init c = refl

pub loop-number-preserved : goal.loop-number-preserved
loop-number-preserved c =
    let items = c.args.layout.now.items.now in
    let number = c.loop-number.number in
    let is = c.places-place-items.ensures ∙ c.requires.known.places in
    let keeps : keeps_structure items (get_or (blocks_of items) number 0) ≡ true =
    ap (λ (places : List ℕ). keeps_structure items (get_or places number 0)) (sym is)
    ∙ sym c.keeps_structure.ensures ∙ c.if-not-keeps_structure.false in
    let below = subst (λ (places : List ℕ). number < length places) is c.loop-number-test.true in
    c.loop-number.invariant ∙ find_next (λ (place : ℕ). not (keeps_structure items place)) (blocks_of items) number below (ap not keeps)

pub returns-then-not-keeps_structure : goal.returns-then-not-keeps_structure
returns-then-not-keeps_structure c =
    let items = c.args.layout.now.items.now in
    let number = c.loop-number.number in
    let is = c.places-place-items.ensures ∙ c.requires.known.places in
    let breaks : keeps_structure items (get_or (blocks_of items) number 0) ≡ false =
    ap (λ (places : List ℕ). keeps_structure items (get_or places number 0)) (sym is)
    ∙ sym c.keeps_structure.ensures ∙ c.if-not-keeps_structure.true in
    let below = subst (λ (places : List ℕ). number < length places) is c.loop-number-test.true in
    ap (λ (places : List ℕ). Some (get_or places number 0)) is
    ∙ sym (c.loop-number.invariant ∙ find_here (λ (place : ℕ). not (keeps_structure items place)) (blocks_of items) number below (ap not breaks))

pub returns : goal.returns
returns c =
    let items = c.args.layout.now.items.now in
    let is = c.places-place-items.ensures ∙ c.requires.known.places in
    let past : length (blocks_of items) ≤ c.loop-number.number = omega (arith, c.loop-number-test.false, ap length is) in
    sym (c.loop-number.invariant ∙ find_end (λ (place : ℕ). not (keeps_structure items place)) (blocks_of items) c.loop-number.number past)
