-- Groups by the table of those of the blocks before.
use Rattle.std.proofs.Common.{◌≡◌, ℕ, zero, suc, ◌<◌, ◌≤◌, ◌+◌, true, false, not, List, [], ◌∷◌, ◌++◌, length, get_or, Option, Some, None, refl, sym, ap, subst, ◌∙◌, inl, inr, arith}
use Rattle.std.specs.Prelude.{slice_get}
use Rattle.std.proofs.lemmas.Bool.{cases_eq}
use Rattle.std.proofs.lemmas.List.{get_or_append_left, get_or_push, length_push}
use Rattle.std.proofs.lemmas.List.Sums.{count_by_more_no, count_by_more_yes}
use Rattle.std.proofs.lemmas.Option.{same_Some, slice_get-get_or, slice_get_within}
use Rattle.dg_model.specs.declared.nested.NestedBlock.{NestedBlock}
use Rattle.dg_flat.specs.Flat.{flat_place}
use Rattle.dg_flat.specs.Groups.{AreGroups, group_by, group_in, group_of, group_within, is_root_subsystem, own_group, root_subsystems}
use Rattle.dg_flat.specs.Parts.{is_subsystem}
use Rattle.dg_flat.specs.inner.Groups.{AreFlatGroups, AreNestedGroups}
use Rattle.dg_flat.specs.inner.Slots.{HaveParents, slot_of}
use Rattle.dg_flat.proofs.Origins.{count_before}

-- ---- levels

group_settles : (blocks : List NestedBlock) → HaveParents blocks → (levels more place : ℕ) → place < levels → place < more → group_within blocks levels place ≡ group_within blocks more place
group_settles blocks have zero more place inside other = absurd (omega (arith, inside))
group_settles blocks have (suc levels) zero place inside other = absurd (omega (arith, other))
group_settles blocks have (suc levels) (suc more) place inside other = go (slice_get blocks place) refl (group_settles blocks have levels more) where
  at : (own : ℕ) (parent : Option ℕ) → slot_of parent ≤ place →
      ((around : ℕ) → around < levels → around < more → group_within blocks levels around ≡ group_within blocks more around) →
      group_in own (group_within blocks levels) parent ≡ group_in own (group_within blocks more) parent
  at own None before settles = refl
  at own (Some system) before settles = settles system (omega (arith, before, inside)) (omega (arith, before, other))

  go : (o : Option NestedBlock) → slice_get blocks place ≡ o →
      ((around : ℕ) → around < levels → around < more → group_within blocks levels around ≡ group_within blocks more around) →
      group_by (root_subsystems blocks place) (group_within blocks levels) o ≡ group_by (root_subsystems blocks place) (group_within blocks more) o
  go None e settles = refl
  go (Some block) e settles = at (own_group (root_subsystems blocks place) block.part) block.parent (have.before place block e) settles

-- ---- the table

-- the group of a block by the table of those before it
pub group_is : (blocks : List NestedBlock) (place : ℕ) (block : NestedBlock) (groups : List ℕ) → HaveParents blocks → AreNestedGroups blocks place groups →
    place < length blocks → get_or blocks place block ≡ block → group_in (own_group (root_subsystems blocks place) block.part) (λ k. get_or groups k 0) block.parent ≡ group_of blocks place
group_is blocks place block groups have are inside at =
    go block.parent refl ∙ sym (ap (group_by (root_subsystems blocks place) (group_within blocks place)) here) where
      own : ℕ
      own = own_group (root_subsystems blocks place) block.part

      here : slice_get blocks place ≡ Some block
      here = slice_get-get_or blocks place block inside ∙ ap (λ (b : NestedBlock). Some b) at

      go : (parent : Option ℕ) → block.parent ≡ parent → group_in (own_group (root_subsystems blocks place) block.part) (λ k. get_or groups k 0) parent
          ≡ group_in (own_group (root_subsystems blocks place) block.part) (group_within blocks place) parent
      go None e = refl
      go (Some system) e =
          let before : system < place = omega (arith, rw e at (have.before place block here)) in
          are.at system before ∙ group_settles blocks have (suc system) place system (omega arith) before

pub groups_more : (blocks : List NestedBlock) (place group : ℕ) (groups : List ℕ) → group ≡ group_of blocks place → AreNestedGroups blocks place groups → AreNestedGroups blocks (place + 1) (groups ++ group ∷ [])
groups_more blocks place group groups is are = record {
  size = length_push groups group ∙ ap (λ n. n + 1) are.size;
  at = λ k below.
      elim (cases_eq k place) [
        | inl e ↦ subst (λ (j : ℕ). get_or (groups ++ group ∷ []) j 0 ≡ group_of blocks j) (sym e) (get_or_push groups group 0 place are.size ∙ is)
        | inr n ↦ get_or_append_left groups (group ∷ []) 0 k (omega (arith, are.size, below, n)) ∙ are.at k (omega (arith, below, n))
      ];
}

-- ---- how many of the root's subsystems there are

pub counted_yes : (blocks : List NestedBlock) (place : ℕ) (block : NestedBlock) → place < length blocks → get_or blocks place block ≡ block → is_root_subsystem block ≡ true
    → root_subsystems blocks (place + 1) ≡ root_subsystems blocks place + 1
counted_yes blocks place block inside at is = count_by_more_yes is_root_subsystem blocks place block inside (ap is_root_subsystem at ∙ is)

pub counted_no : (blocks : List NestedBlock) (place : ℕ) (block : NestedBlock) → place < length blocks → get_or blocks place block ≡ block → is_root_subsystem block ≡ false
    → root_subsystems blocks (place + 1) ≡ root_subsystems blocks place
counted_no blocks place block inside at is = count_by_more_no is_root_subsystem blocks place block inside (ap is_root_subsystem at ∙ is)

-- ---- the flat list

module _ (blocks : List NestedBlock) (place : ℕ) (block : NestedBlock) (inside : place < length blocks) (at : get_or blocks place block ≡ block) where
  here : slice_get blocks place ≡ Some block
  here = slice_get-get_or blocks place block inside ∙ ap (λ (b : NestedBlock). Some b) at

  kept-place : is_subsystem block.part ≡ false → flat_place blocks (place + 1) ≡ flat_place blocks place + 1
  kept-place kept = count_by_more_yes (λ b. not (is_subsystem b.part)) blocks place block inside (ap (λ (b : NestedBlock). not (is_subsystem b.part)) at ∙ ap not kept)

  left-place : is_subsystem block.part ≡ true → flat_place blocks (place + 1) ≡ flat_place blocks place
  left-place left = count_by_more_no (λ b. not (is_subsystem b.part)) blocks place block inside (ap (λ (b : NestedBlock). not (is_subsystem b.part)) at ∙ ap not left)

  -- a subsystem has no place in it
  pub flat_left : (groups : List ℕ) → is_subsystem block.part ≡ true → AreFlatGroups blocks place groups → AreFlatGroups blocks (place + 1) groups
  flat_left groups left are = record {
    size = are.size ∙ sym (left-place left);
    at = λ k b below there kept.
        elim (cases_eq k place) [
          | inl e ↦ (let same : b ≡ block = same_Some b block (sym there ∙ ap (slice_get blocks) e ∙ here) in
              let no : true ≡ false = sym left ∙ ap (λ (o : NestedBlock). is_subsystem o.part) (sym same) ∙ kept in
              absurd (cc no))
          | inr n ↦ are.at k b (omega (arith, below, n)) there kept
        ];
  }

  -- any other has the next
  pub flat_more : (groups : List ℕ) (group : ℕ) → is_subsystem block.part ≡ false → group ≡ group_of blocks place → AreFlatGroups blocks place groups → AreFlatGroups blocks (place + 1) (groups ++ group ∷ [])
  flat_more groups group kept is are = record {
    size = length_push groups group ∙ ap (λ n. n + 1) are.size ∙ sym (kept-place kept);
    at = λ k b below there such.
        elim (cases_eq k place) [
          | inl e ↦ subst (λ (j : ℕ). get_or (groups ++ group ∷ []) (flat_place blocks j) 0 ≡ group_of blocks j) (sym e)
              (get_or_push groups group 0 (flat_place blocks place) are.size ∙ is)
          | inr n ↦ (let early : k < place = omega (arith, below, n) in
              get_or_append_left groups (group ∷ []) 0 (flat_place blocks k) (omega (arith, are.size, before k b early there such)) ∙ are.at k b early there such)
        ];
  } where
    before : (k : ℕ) (b : NestedBlock) → k < place → slice_get blocks k ≡ Some b → is_subsystem b.part ≡ false → flat_place blocks k < flat_place blocks place
    before k b early there such = count_before (λ o. not (is_subsystem o.part)) blocks k place b there (ap not such) early

-- at the end each has its group
pub all_flat : (blocks : List NestedBlock) (count : ℕ) (groups : List ℕ) → count ≤ length blocks → length blocks ≤ count → AreFlatGroups blocks count groups → AreGroups blocks groups
all_flat blocks count groups most least are =
    let all : count ≡ length blocks = omega (arith, most, least) in
    record {
      size = are.size ∙ ap (flat_place blocks) all;
      at = λ place block there kept. are.at place block (omega (arith, least, inside place block there)) there kept;
    }
  where
    inside : (place : ℕ) (block : NestedBlock) → slice_get blocks place ≡ Some block → place < length blocks
    inside place block there = slice_get_within blocks place block there
