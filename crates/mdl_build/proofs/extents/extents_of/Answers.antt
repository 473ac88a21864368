use Rattle.std.proofs.Common.{◌≡◌, ℕ, ◌+◌, ◌<◌, Bool, true, false, cond, List, [], ◌∷◌, ◌++◌, length, sym, ap, subst, ◌∙◌, arith}
use Rattle.std.specs.List.{AllZip}
use Rattle.std.proofs.lemmas.List.{append-nil}
use Rattle.std.proofs.lemmas.Slice.Zip.{all_zipped_more}
use Rattle.mdl_build.specs.declared.roles.Role.TheVariants.{Other}
use Rattle.mdl_build.specs.Extents.{IsExtentAt}
use Rattle.mdl_build.specs.Roles.{role_of, is_block}
use Rattle.mdl_build.specs.inner.Names.{blocks_before}
use Rattle.mdl_build.proofs.Ranges.{filter_next}
use Rattle.mdl_build.proofs.RoleLemmas.{roles_long, role_here}
use Rattle.mdl_build.proofs.extents.extents_of.Goals as goal
use Rattle.mdl_build.proofs.extents.extents_of.Goals.{then-is_block+in_ok-extent_at+in_ok-push, else-is_block}

pub extent_at-requires-clause-within : goal.extent_at-requires-clause-within
extent_at-requires-clause-within c = omega (arith, c.loop-place-test.true, roles_long c.args.layout.now.items.now c.args.roles.now c.requires)

pub extent_at-requires-clause-role : goal.extent_at-requires-clause-role
extent_at-requires-clause-role c =
    let items = c.args.layout.now.items.now in
    let below : c.loop-place.place < length items = omega (arith, c.loop-place-test.true, roles_long items c.args.roles.now c.requires) in
    role_here items c.args.roles.now c.loop-place.place Other c.requires below

pub loop-place-preserved : goal.loop-place-preserved
loop-place-preserved c = elim c.if-is_block.branch [
  | then-is_block+in_ok-extent_at+in_ok-push w ↦
      let items = c.args.layout.now.items.now in
      let place = c.loop-place.place in
      let below : place < length items = omega (arith, c.loop-place-test.true, roles_long items c.args.roles.now c.requires) in
      let is : is_block (role_of items place) ≡ true = ap is_block (role_here items c.args.roles.now place Other c.requires below) ∙ sym c.is_block.ensures ∙ w.if-is_block.true in
      let next = filter_next (λ (other : ℕ). is_block (role_of items other)) place ∙ ap (λ (b : Bool). blocks_before items place ++ cond b (place ∷ []) []) is in
      subst (λ (extents : List ℕ). AllZip (IsExtentAt items) (blocks_before items (place + 1)) extents) (sym (ap (λ extents. extents.items) w.extents-is ∙ w.in_ok-push.ensures.items))
      (subst (λ (places : List ℕ). AllZip (IsExtentAt items) places (c.loop-place.extents.items ++ w.in_ok-extent_at.field-0 ∷ [])) (sym next)
      (all_zipped_more (IsExtentAt items) (blocks_before items place) c.loop-place.extents.items place w.in_ok-extent_at.field-0 c.loop-place.invariant w.in_ok-extent_at.ensures))
  | else-is_block w ↦
      let items = c.args.layout.now.items.now in
      let place = c.loop-place.place in
      let below : place < length items = omega (arith, c.loop-place-test.true, roles_long items c.args.roles.now c.requires) in
      let is : is_block (role_of items place) ≡ false = ap is_block (role_here items c.args.roles.now place Other c.requires below) ∙ sym c.is_block.ensures ∙ w.if-is_block.false in
      let next = filter_next (λ (other : ℕ). is_block (role_of items other)) place
      ∙ ap (λ (b : Bool). blocks_before items place ++ cond b (place ∷ []) []) is
      ∙ append-nil (blocks_before items place) in
      subst (λ (extents : List ℕ). AllZip (IsExtentAt items) (blocks_before items (place + 1)) extents) (sym (ap (λ extents. extents.items) w.extents-is))
      (subst (λ (places : List ℕ). AllZip (IsExtentAt items) places c.loop-place.extents.items) (sym next) c.loop-place.invariant)
]

pub returns : goal.returns
returns c =
    let items = c.args.layout.now.items.now in
    let all : c.loop-place.place ≡ length items = omega (arith, c.loop-place-test.false, c.loop-place.auto.place-end, roles_long items c.args.roles.now c.requires) in
    subst (λ (place : ℕ). AllZip (IsExtentAt items) (blocks_before items place) c.loop-place.extents.items) all c.loop-place.invariant
