-- Blocks that were placed and sorted.
use Rattle.std.proofs.Common.{◌≡◌, ℕ, List, ap, sym, ◌∙◌, subst, Contains}
use Rattle.std.specs.Prelude.{slice_get, Some}
use Rattle.std.specs.List.Sorted.{IsPermutation}
use Rattle.std.proofs.lemmas.List.Sorted.{IsPermutation-map, IsPermutation-sym, Contains-permutation}
use Rattle.std.proofs.lemmas.Option.{slice_get_within, slice_get-get_or, get_or_from_slice_get}
use Rattle.hw_arcs.specs.declared.parts.Placed.{Placed}
use Rattle.hw_arcs.specs.Found.{IsIn, IsWhole}
use Rattle.hw_arcs.specs.inner.Parts.{blocks_of}

contained : (blocks : List ℕ) (place block : ℕ) → slice_get blocks place ≡ Some block → Contains blocks block
contained blocks place block at = (place, slice_get_within blocks place block at, get_or_from_slice_get blocks place block block at)

stands : (blocks : List ℕ) (block : ℕ) → Contains blocks block → IsIn blocks block
stands blocks block is = record { place = is.0; at = slice_get-get_or blocks is.0 block is.1 ∙ ap Some is.2 }

sorted_whole : (before after : List ℕ) (count : ℕ) → IsPermutation before after → IsWhole before count → IsWhole after count
sorted_whole before after count sorted whole = record {
  there = λ place block at.
      let is = stands before block (Contains-permutation after before block (IsPermutation-sym before after sorted) (contained after place block at)) in
      whole.there is.place block is.at;
  all = λ block below.
      let is = whole.all block below in
      stands after block (Contains-permutation before after block sorted (contained before is.place block is.at));
}

pub whole_moved : (before after : List Placed) (order : List ℕ) (count : ℕ) → IsPermutation before after → blocks_of before ≡ order → IsWhole order count → IsWhole (blocks_of after) count
whole_moved before after order count sorted same whole =
    sorted_whole (blocks_of before) (blocks_of after) count (IsPermutation-map (λ (it : Placed). it.block) before after sorted) (subst (λ (blocks : List ℕ). IsWhole blocks count) (sym same) whole)
