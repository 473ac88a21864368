use Rattle.std.proofs.Common.{◌≡◌, ◌≢◌, ◌≤◌, subst, ℕ, ◌<◌, Bool, true, false, cond, List, [], ◌∷◌, ◌++◌, length, sym, ap, ◌∙◌, arith}
use Rattle.std.proofs.lemmas.List.{append-nil, length-append}
use Rattle.mdl_build.specs.declared.names.Blocks.{Blocks}
use Rattle.mdl_build.specs.declared.roles.Role.TheVariants.{Other}
use Rattle.mdl_build.specs.Roles.{role_of, is_block}
use Rattle.mdl_build.specs.inner.Names.{blocks_before, AreNumbered}
use Rattle.mdl_build.proofs.Ranges.{filter_next, too_many}
use Rattle.mdl_build.proofs.RoleLemmas.{roles_long, role_here}
use Rattle.mdl_build.proofs.names.Blocks.add_all.Goals as goal
use Rattle.mdl_build.proofs.names.Blocks.add_all.Goals.{then-is_block+else-len-eq-MOST+in_ok-add, else-is_block}

pub loop-place-init : goal.loop-place-init
loop-place-init c = record { places = c.requires.none; numbered = c.requires.numbered; few = omega (arith, ap length c.requires.none) }

pub returns-then-len-eq-MOST : goal.returns-then-len-eq-MOST
returns-then-len-eq-MOST c =
    let items = c.args.layout.now.items.now in
    let place = c.loop-place.place in
    let below : place < length items = omega (arith, c.loop-place-test.true, roles_long items c.args.roles.now c.requires.roles) in
    too_many (λ (other : ℕ). is_block (role_of items other)) place (length items) below
    (ap is_block (role_here items c.args.roles.now place Other c.requires.roles below) ∙ sym c.is_block.ensures ∙ c.if-is_block.true)
    (ap length (sym c.loop-place.invariant.places) ∙ sym c.loop-place.self.places.ok.0 ∙ sym c.len.ensures ∙ c.if-len-eq-MOST.true)

pub add-requires-clause-within : goal.add-requires-clause-within
add-requires-clause-within c = omega (arith, c.loop-place-test.true, roles_long c.args.layout.now.items.now c.args.roles.now c.requires.roles)

pub add-requires-clause-few : goal.add-requires-clause-few
add-requires-clause-few c = let no : length c.loop-place.self.places.items ≢ 20000 =
    λ e. c.if-len-eq-MOST.false (c.len.ensures ∙ c.loop-place.self.places.ok.0 ∙ e) in
    omega (arith, c.loop-place.self.places.ok.0, no, c.loop-place.invariant.few)

pub loop-place-preserved : goal.loop-place-preserved
loop-place-preserved c = elim c.if-is_block.branch [
  | then-is_block+else-len-eq-MOST+in_ok-add w ↦
      let items = c.args.layout.now.items.now in
      let place = c.loop-place.place in
      let below : place < length items = omega (arith, c.loop-place-test.true, roles_long items c.args.roles.now c.requires.roles) in
      let is : is_block (role_of items place) ≡ true = ap is_block (role_here items c.args.roles.now place Other c.requires.roles below) ∙ sym c.is_block.ensures ∙ w.if-is_block.true in
      let no : length c.loop-place.self.places.items ≢ 20000 = λ e. w.if-len-eq-MOST.false (w.len.ensures ∙ c.loop-place.self.places.ok.0 ∙ e) in
      let places_are = ap (λ (b : Blocks). b.places.items) w.self-is ∙ w.in_ok-add.ensures.places in
      record {
        places =
            places_are
            ∙ ap (λ (front : List ℕ). front ++ place ∷ []) c.loop-place.invariant.places
            ∙ sym (filter_next (λ (other : ℕ). is_block (role_of items other)) place ∙ ap (λ (b : Bool). blocks_before items place ++ cond b (place ∷ []) []) is);
        numbered = subst (AreNumbered items) (sym w.self-is) w.in_ok-add.ensures.numbered;
        few = omega (arith, no, c.loop-place.invariant.few, ap length places_are, length-append c.loop-place.self.places.items (place ∷ []));
      }
  | else-is_block w ↦
      let items = c.args.layout.now.items.now in
      let place = c.loop-place.place in
      let below : place < length items = omega (arith, c.loop-place-test.true, roles_long items c.args.roles.now c.requires.roles) in
      let is : is_block (role_of items place) ≡ false = ap is_block (role_here items c.args.roles.now place Other c.requires.roles below) ∙ sym c.is_block.ensures ∙ w.if-is_block.false in
      record {
        places =
            ap (λ (b : Blocks). b.places.items) w.self-is
            ∙ c.loop-place.invariant.places
            ∙ sym (filter_next (λ (other : ℕ). is_block (role_of items other)) place
            ∙ ap (λ (b : Bool). blocks_before items place ++ cond b (place ∷ []) []) is
            ∙ append-nil (blocks_before items place));
        numbered = subst (AreNumbered items) (sym w.self-is) c.loop-place.invariant.numbered;
        few = subst (λ (b : Blocks). length b.places.items ≤ 20000) (sym w.self-is) c.loop-place.invariant.few;
      }
]

pub returns : goal.returns
returns c =
    let items = c.args.layout.now.items.now in
    let all : c.loop-place.place ≡ length items = omega (arith, c.loop-place-test.false, c.loop-place.auto.place-end, roles_long items c.args.roles.now c.requires.roles) in
    let places_are = c.loop-place.invariant.places ∙ ap (blocks_before items) all in
    record { places = places_are; numbers = c.loop-place.invariant.numbered; few = omega (arith, ap length places_are, c.loop-place.invariant.few) }
