-- A model whose blocks and lines are well formed as they are drawn is well formed where each filter is
-- taken apart.
use Rattle.std.proofs.Common.{◌≡◌, ℕ, List, sym, subst, arith}
use Rattle.std.proofs.lemmas.Slice.Zip.{AllZip-map}
use Rattle.fx_type.specs.declared.decimal.Decimal.{Decimal}
use Rattle.dg_model.specs.declared.nested.NestedLine.{NestedLine}
use Rattle.dg_model.specs.Sound.{IsSound}
use Rattle.fir_block.specs.Laws.{BlocksAreCounted, AreSoundBlocks, NamesDiffer}
use Rattle.mdl_build.specs.declared.expanding.DrawnBlock.{DrawnBlock}
use Rattle.mdl_build.specs.Expanded.{expanded_blocks, expanded_lines}
use Rattle.mdl_build.specs.Extents.{starts}
use Rattle.mdl_build.proofs.FilterSketch.{extent_of, extents_of, IsDrawnModel, are_firs}
use Rattle.mdl_build.proofs.FilterPlaces.{numbers_from, put_long}
use Rattle.mdl_build.proofs.FilterPorts.{sound_blocks, sound_plains, sound_ins, sound_outs, sound_lines}
use Rattle.mdl_build.proofs.FilterSound.{level, sound_parents, sound_levels, sound_names}

abbrev IsSoundBy : Decimal → List ℕ → List DrawnBlock → List NestedLine → Type 0
IsSoundBy other extents drawn lines =
    IsSound (record { blocks = expanded_blocks other (starts 0 extents) drawn; lines = expanded_lines (starts 0 extents) drawn lines })

module _ (shaped : AreSoundBlocks) (differ : NamesDiffer) (counted : BlocksAreCounted) (other : Decimal) where
  counted_sound : (drawn : List DrawnBlock) (lines : List NestedLine) → IsDrawnModel (extents_of drawn) drawn lines → IsSoundBy other (extents_of drawn) drawn lines
  counted_sound drawn lines are = record {
    size = omega (arith, put_long counted other (numbers_from 0 drawn) 0 drawn (are_firs (extents_of drawn) drawn lines are), are.few);
    parents = sound_parents counted other drawn lines are;
    levels = (level counted other drawn lines are, sound_levels counted other drawn lines are);
    names = sound_names counted other drawn lines are differ;
    lines = sound_lines counted shaped other drawn lines are;
    blocks = sound_blocks counted shaped other drawn lines are;
    ins = sound_ins counted shaped other drawn lines are;
    outs = sound_outs counted shaped other drawn lines are;
    plains = sound_plains counted shaped other drawn lines are;
  }

  pub expanded_sound : (extents : List ℕ) (drawn : List DrawnBlock) (lines : List NestedLine) → IsDrawnModel extents drawn lines → IsSoundBy other extents drawn lines
  expanded_sound extents drawn lines are =
      let same : extents ≡ extents_of drawn = AllZip-map (λ (own : DrawnBlock). extent_of own.filter) drawn extents are.extents_are in
      subst (λ (sizes : List ℕ). IsSoundBy other sizes drawn lines) (sym same)
      (counted_sound drawn lines (subst (λ (sizes : List ℕ). IsDrawnModel sizes drawn lines) same are))
