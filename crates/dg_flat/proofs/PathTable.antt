-- Paths by the table of the subsystems' paths.
use Rattle.std.proofs.Common.{◌≡◌, ℕ, zero, suc, ◌<◌, ◌≤◌, ◌+◌, true, List, [], ◌∷◌, ◌++◌, length, codes, get_or, Option, Some, None, refl, sym, ap, subst, ◌∙◌, inl, inr, arith}
use Rattle.std.specs.Prelude.{slice_get}
use Rattle.std.proofs.lemmas.Bool.{cases_eq}
use Rattle.std.proofs.lemmas.List.{length_push, get_or_push, get_or_append_left}
use Rattle.std.proofs.lemmas.Option.{slice_get-get_or, same_Some}
use Rattle.dg_model.specs.declared.nested.NestedBlock.{NestedBlock}
use Rattle.dg_model.specs.Naming.{escaped}
use Rattle.dg_flat.specs.Parts.{below, path_by, path_within, nested_path, is_subsystem}
use Rattle.dg_flat.specs.inner.Paths.{ArePaths}
use Rattle.dg_flat.specs.inner.Slots.{slot_of, HaveParents}

-- ---- levels

path_settles : (blocks : List NestedBlock) → HaveParents blocks → (levels more place : ℕ) → place < levels → place < more → path_within blocks levels place ≡ path_within blocks more place
path_settles blocks have zero more place inside other = absurd (omega (arith, inside))
path_settles blocks have (suc levels) zero place inside other = absurd (omega (arith, other))
path_settles blocks have (suc levels) (suc more) place inside other = go (slice_get blocks place) refl (path_settles blocks have levels more) where
  at : (name : List ℕ) (parent : Option ℕ) → slot_of parent ≤ place →
      ((around : ℕ) → around < levels → around < more → path_within blocks levels around ≡ path_within blocks more around) →
      below (path_within blocks levels) name parent ≡ below (path_within blocks more) name parent
  at name None before settles = refl
  at name (Some system) before settles = ap (λ (path : List ℕ). path ++ codes "/" ++ name) (settles system (omega (arith, before, inside)) (omega (arith, before, other)))

  go : (o : Option NestedBlock) → slice_get blocks place ≡ o →
      ((around : ℕ) → around < levels → around < more → path_within blocks levels around ≡ path_within blocks more around) →
      path_by (path_within blocks levels) o ≡ path_by (path_within blocks more) o
  go None e settles = refl
  go (Some block) e settles = at (escaped block.name) block.parent (have.before place block e) settles

-- ---- the table

-- the path of a block by the table of those before it
pub path_is : (blocks : List NestedBlock) (count place : ℕ) (block : NestedBlock) (paths : List (List ℕ)) → HaveParents blocks → ArePaths blocks count paths → slot_of block.parent ≤ count →
    place < length blocks → get_or blocks place block ≡ block → below (λ k. get_or paths k []) (escaped block.name) block.parent ≡ nested_path blocks place
path_is blocks count place block paths have are reaches inside at =
    go block.parent refl ∙ sym (ap (path_by (path_within blocks place)) here) where
      here : slice_get blocks place ≡ Some block
      here = slice_get-get_or blocks place block inside ∙ ap (λ (b : NestedBlock). Some b) at

      go : (parent : Option ℕ) → block.parent ≡ parent → below (λ k. get_or paths k []) (escaped block.name) parent ≡ below (path_within blocks place) (escaped block.name) parent
      go None e = refl
      go (Some system) e =
          let before : system < place = omega (arith, rw e at (have.before place block here)) in
          let early : system < count = omega (arith, rw e at reaches) in
          let holder = get_or blocks system block in
          let there : slice_get blocks system ≡ Some holder = slice_get-get_or blocks system block (omega (arith, before, inside)) in
          let known = are.at system holder early there (have.subsystem place system block holder here e there) in
          ap (λ (path : List ℕ). path ++ codes "/" ++ escaped block.name) (known ∙ path_settles blocks have (suc system) place system (omega arith) before)

pub paths_more : (blocks : List NestedBlock) (place : ℕ) (block : NestedBlock) (paths : List (List ℕ)) (path : List ℕ) → place < length blocks → get_or blocks place block ≡ block →
    (is_subsystem block.part ≡ true → path ≡ nested_path blocks place) → ArePaths blocks place paths → ArePaths blocks (place + 1) (paths ++ path ∷ [])
paths_more blocks place block paths path inside at is are = record {
  size = length_push paths path ∙ ap (λ n. n + 1) are.size;
  at = λ k b below there such.
      elim (cases_eq k place) [
        | inl e ↦
            let here : slice_get blocks place ≡ Some block = slice_get-get_or blocks place block inside ∙ ap (λ (o : NestedBlock). Some o) at in
            let same : b ≡ block = same_Some b block (sym there ∙ ap (slice_get blocks) e ∙ here) in
            let last : get_or (paths ++ path ∷ []) place [] ≡ nested_path blocks place =
            get_or_push paths path [] place are.size
            ∙ is (ap (λ (o : NestedBlock). is_subsystem o.part) (sym same) ∙ such) in
            subst (λ (j : ℕ). get_or (paths ++ path ∷ []) j [] ≡ nested_path blocks j) (sym e) last
        | inr n ↦ get_or_append_left paths (path ∷ []) [] k (omega (arith, are.size, below, n)) ∙ are.at k b (omega (arith, below, n)) there such
      ];
}
