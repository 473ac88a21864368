-- The blocks and lines of a tree are well formed.
use Rattle.std.proofs.Common.{◌≡◌, ℕ, List, [], ◌∷◌, map, get_or, refl, sym, subst, arith}
use Rattle.std.specs.List.{AllZip}
use Rattle.std.proofs.lemmas.Option.{slice_get-get_or}
use Rattle.std.proofs.lemmas.Slice.Zip.{AllZip-long}
use Rattle.dg_model.specs.declared.nested.Nested.{Nested}
use Rattle.dg_model.specs.declared.nested.NestedBlock.{NestedBlock}
use Rattle.dg_model.specs.declared.nested.NestedLine.{NestedLine}
use Rattle.dg_model.specs.Sound.{IsSound, HasReadable, HasPlainRole}
use Rattle.fir_block.specs.Laws.{AreSoundBlocks, BlocksAreCounted, NamesDiffer}
use Rattle.mdl_text.specs.declared.tree.Item.{Item}
use Rattle.mdl_text.specs.declared.tree.Tree.{Tree}
use Rattle.mdl_values.specs.Laws.{ValuesAreOne}
use Rattle.mdl_build.specs.declared.expanding.DrawnBlock.{DrawnBlock}
use Rattle.mdl_build.specs.Blocks.{standing_of}
use Rattle.mdl_build.specs.Extents.{AreExtents}
use Rattle.mdl_build.specs.Lines.{lines_of}
use Rattle.mdl_build.specs.Nested.{IsBlockAt, IsDrawnAt, IsNestedOf}
use Rattle.mdl_build.specs.Roles.{blocks_of}
use Rattle.mdl_build.specs.Settings.{zero_decimal}
use Rattle.mdl_build.specs.inner.Sketch.{AreDrawn}
use Rattle.mdl_build.proofs.FilterSketch.{IsDrawnModel}
use Rattle.mdl_build.proofs.FilterModel.{expanded_sound}
use Rattle.mdl_build.proofs.Readable.{readable}
use Rattle.mdl_build.proofs.SoundBlocks.{block_here, has_parent, have_levels, level_of}
use Rattle.mdl_build.proofs.SoundFilters.{drawn_here, filter_sub, filter_reads, filters_bare, extents_zip}
use Rattle.mdl_build.proofs.SoundLines.{sound_lines}
use Rattle.mdl_build.proofs.SoundNames.{have_names}
use Rattle.mdl_build.proofs.SoundParts.{plain_role}
use Rattle.mdl_build.proofs.SoundPorts.{sound_ins, sound_outs}
use Rattle.mdl_build.proofs.SoundTree.{IsKept, kept, kept_few}

-- as they are drawn
drawn_sound : (items : List Item) → IsKept items → (blocks : List NestedBlock) (lines : List NestedLine) → AllZip (IsBlockAt items) (blocks_of items) blocks → lines ≡ lines_of items
    → IsSound (record { blocks = blocks; lines = lines })
drawn_sound items known blocks lines all are = record {
  size = omega (arith, AllZip-long (IsBlockAt items) (blocks_of items) blocks all, known.few);
  parents = has_parent items blocks all;
  levels = (level_of items, have_levels items blocks known all);
  names = have_names items blocks known all;
  lines = sound_lines items blocks all lines are;
  blocks = λ k d below.
      let h = block_here items blocks all k (get_or blocks k d) (slice_get-get_or blocks k d below) in
      subst HasReadable (sym h.here.part) (readable items h.place (standing_of items h.place) h.here.block_type h.here.settings h.here.has);
  ins = sound_ins items blocks known all;
  outs = sound_outs items blocks known all;
  plains = λ k d below.
      let h = block_here items blocks all k (get_or blocks k d) (slice_get-get_or blocks k d below) in
      subst HasPlainRole (sym h.here.part) (plain_role (standing_of items h.place) h.here.block_type h.here.settings);
}

only_blocks : (items : List Item) (places : List ℕ) (drawn : List DrawnBlock) → AllZip (IsDrawnAt items) places drawn → AllZip (IsBlockAt items) places (map (λ (own : DrawnBlock). own.block) drawn)
only_blocks items [] [] all = tt
only_blocks items [] (own ∷ drawn) all = absurd all
only_blocks items (place ∷ places) [] all = absurd all
only_blocks items (place ∷ places) (own ∷ drawn) all = (all.0.block, only_blocks items places drawn all.1)

drawn_by : ValuesAreOne → (items : List Item) → IsKept items
    → (extents : List ℕ) (drawn : List DrawnBlock) (lines : List NestedLine) → AreExtents items extents
    → AreDrawn items extents drawn lines → IsDrawnModel extents drawn lines
drawn_by values items known extents drawn lines counts are = record {
  sound = drawn_sound items known (map (λ (own : DrawnBlock). own.block) drawn) lines (only_blocks items (blocks_of items) drawn are.blocks) are.lines;
  extents_are = extents_zip values items drawn extents are.blocks counts;
  few = kept_few items extents are.structured;
  filters = λ k own fir at is.
      let h = drawn_here items drawn are.blocks k own at in
      (filter_sub items h.place own fir h.here is, filter_reads values items h.place own fir h.here is);
  bare = filters_bare items drawn are.blocks;
}

pub drawn_model : ValuesAreOne → (items : List Item) (extents : List ℕ) (drawn : List DrawnBlock)
    (lines : List NestedLine) → AreExtents items extents → AreDrawn items extents drawn lines
    → IsDrawnModel extents drawn lines
drawn_model values items extents drawn lines counts are = drawn_by values items (kept items extents counts are.structured) extents drawn lines counts are

-- and where each filter is taken apart
pub sound : ValuesAreOne → AreSoundBlocks → NamesDiffer → BlocksAreCounted → (tree : Tree) (nested : Nested) → IsNestedOf tree nested → IsSound nested
sound values shaped differ counted tree nested is =
    let are : AreDrawn tree.items is.extents is.drawn (lines_of tree.items) = record { structured = is.structured; known = is.known; blocks = is.are_drawn; lines = refl } in
    let whole = expanded_sound shaped differ counted zero_decimal is.extents is.drawn (lines_of tree.items)
    (drawn_model values tree.items is.extents is.drawn (lines_of tree.items) is.are_extents are) in
    subst IsSound (λ i. record { blocks = sym (is.blocks zero_decimal) i; lines = sym is.lines i }) whole
