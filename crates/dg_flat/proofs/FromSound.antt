-- What sound blocks and lines give.
use Rattle.std.proofs.Common.{◌≡◌, ℕ, ◌<◌, ◌≤◌, true, List, length, get_or, Option, Some, None, refl, subst, inl, inr, arith}
use Rattle.std.specs.Prelude.{slice_get, MatchOption}
use Rattle.std.proofs.lemmas.Bool.{cases_lt}
use Rattle.std.proofs.lemmas.Option.{slice_get_past}
use Rattle.dg_model.specs.declared.nested.Nested.{Nested}
use Rattle.dg_model.specs.declared.nested.NestedBlock.{NestedBlock}
use Rattle.dg_model.specs.declared.nested.NestedLine.{NestedLine}
use Rattle.dg_model.specs.declared.nested.Part.{Part}
use Rattle.dg_model.specs.declared.nested.Part.TheVariants.{Plain, In, Out, SubSystem, Enable}
use Rattle.dg_model.specs.Sound.{IsSound, HasParent, IsSubSystem}
use Rattle.dg_flat.specs.Parts.{is_subsystem}
use Rattle.dg_flat.specs.inner.Slots.{slot_of, HaveParents}
use Rattle.dg_flat.specs.inner.Tally.{HaveEnds}

subsystem_is : (part : Part) → IsSubSystem part → is_subsystem part ≡ true
subsystem_is (Plain block) is = absurd is
subsystem_is (In block number) is = absurd is
subsystem_is (Out block number) is = absurd is
subsystem_is SubSystem is = refl
subsystem_is (Enable reset) is = absurd is

parent_before : (blocks : List NestedBlock) (place : ℕ) (parent : Option ℕ) → HasParent blocks place parent → slot_of parent ≤ place
parent_before blocks place None has = omega arith
parent_before blocks place (Some system) has = omega (arith, has.0)

parent_holds : (blocks : List NestedBlock) (place system : ℕ) (holder : NestedBlock) → slice_get blocks system ≡ Some holder → HasParent blocks place (Some system) → is_subsystem holder.part ≡ true
parent_holds blocks place system holder there has =
    subsystem_is holder.part (subst (λ (o : Option NestedBlock). MatchOption o ⊥ (λ other. IsSubSystem other.part)) there has.1)

pub have_parents : (nested : Nested) → IsSound nested → HaveParents nested.blocks
have_parents nested sound = record {
  before = λ place block at. parent_before nested.blocks place block.parent (sound.parents place block at);
  subsystem = λ place system block holder at held there.
      parent_holds nested.blocks place system holder there (subst (λ (o : Option ℕ). HasParent nested.blocks place o) held (sound.parents place block at));
}

-- a match that holds at no None holds at an element
matched : (blocks : List NestedBlock) (place : ℕ) (P : NestedBlock → Type 0) → MatchOption (slice_get blocks place) ⊥ P → place < length blocks
matched blocks place P has =
    elim (cases_lt place (length blocks)) [
      | inl inside ↦ inside
      | inr past ↦ absurd (subst (λ (o : Option NestedBlock). MatchOption o ⊥ P) (slice_get_past blocks place past) has)
    ]

pub have_ends : (nested : Nested) → IsSound nested → HaveEnds nested.blocks nested.lines
have_ends nested sound = λ k d inside.
    let line : NestedLine = get_or nested.lines k d in
    let joins = (sound.lines k d inside).system in
    let from = matched nested.blocks line.from (λ source. MatchOption (slice_get nested.blocks line.to) ⊥ (λ target. source.parent ≡ target.parent)) joins in
    (from, second nested.blocks line.to (slice_get nested.blocks line.from) joins) where
      second : (blocks : List NestedBlock) (to : ℕ) (o : Option NestedBlock)
          → MatchOption o ⊥ (λ source. MatchOption (slice_get blocks to) ⊥
          (λ target. source.parent ≡ target.parent)) → to < length blocks
      second blocks to None joins = absurd joins
      second blocks to (Some source) joins = matched blocks to (λ target. source.parent ≡ target.parent) joins
