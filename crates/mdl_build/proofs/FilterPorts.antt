-- The blocks and lines of a model in which each filter is taken apart are well formed.
use Rattle.std.proofs.Common.{◌≡◌, ◌≢◌, ℕ, zero, suc, ◌+◌, ◌<◌, Bool, true, false, cond, inl, inr, List, [], ◌∷◌, ◌++◌, length, map, Option, Some, None, refl, sym, ◌∙◌, ap, subst, arith, eqb-true}
use Rattle.std.specs.Prelude.{◌==◌, All, codes, zip, flat_map, slice_get, option_map, MatchOption}
use Rattle.std.proofs.lemmas.Bool.{eqb-false}
use Rattle.std.proofs.lemmas.List.{length-append}
use Rattle.std.proofs.lemmas.List.Elements.{All-append}
use Rattle.std.proofs.lemmas.Option.{same_Some, slice_get_within}
use Rattle.fx_type.specs.declared.decimal.Decimal.{Decimal}
use Rattle.dg_model.specs.declared.diagram.Block.{Block}
use Rattle.dg_model.specs.declared.diagram.Edge.{Edge}
use Rattle.dg_model.specs.declared.nested.NestedBlock.{NestedBlock}
use Rattle.dg_model.specs.declared.nested.NestedLine.{NestedLine}
use Rattle.dg_model.specs.declared.nested.Part.{Part}
use Rattle.dg_model.specs.declared.row.Role.{Role}
use Rattle.dg_model.specs.Library.{row_of}
use Rattle.dg_model.specs.Readable.{IsReadable}
use Rattle.dg_model.specs.Sound.{IsEnable, JoinsWithin, HasEnablePort, HasReadable, HasInRole, HasOutRole, HasPlainRole}
use Rattle.fir_block.specs.declared.filter.Fir.{Fir}
use Rattle.fir_block.specs.declared.filter.FirBlock.{FirBlock}
use Rattle.fir_block.specs.Expanded.{blocks_of, lines_of, port_block}
use Rattle.fir_block.specs.Laws.{BlocksAreCounted, AreSoundBlocks, AreSound}
use Rattle.mdl_build.specs.declared.expanding.DrawnBlock.{DrawnBlock}
use Rattle.mdl_build.specs.Expanded.{inner_part, inner_block, inner_line, filling_lines, moved, moved_block, moved_line, expanded_lines}
use Rattle.mdl_build.proofs.FilterSketch.{extents_of, IsDrawnModel}
use Rattle.mdl_build.proofs.FilterEdges.{Joins, edges_join}
use Rattle.mdl_build.proofs.FilterLists.{get_right, get_split, item_at, mapped_at, pair_at, match_there, all_at, one_of, all_flat, all_mapped, any_at, any_there}
use Rattle.mdl_build.proofs.FilterPlaces.{numbers_from, put_from, FromDrawn}
use Rattle.mdl_build.proofs.FilterSound.{blocks_in, SameEnable, has_in_role, has_out_role, no_enable, own_at, block_there, holder, parent_back, none_in, origin_of}

-- ---- a block of a filter

-- what a part is by where it stands: the first, the last, or one between
inner_by : (P : Part → Type 0) (number count : ℕ) (block : Block)
    → (number ≡ 0 → P (Part.In block 1)) → (number ≢ 0 → number + 1 ≡ count → P (Part.Out block 1)) → (number ≢ 0 → number + 1 ≢ count → P (Part.Plain block))
    → P (inner_part count number block)
inner_by P number count block input output plain = by (number == 0) refl (number + 1 == count) refl
  where
    by : (first : Bool) → (number == 0) ≡ first → (last : Bool) → (number + 1 == count) ≡ last → P (cond first (Part.In block 1) (cond last (Part.Out block 1) (Part.Plain block)))
    by true is last test = input (eqb-true number 0 is)
    by false is true test = output (eqb-false number 0 is) (eqb-true (number + 1) count test)
    by false is false test = plain (eqb-false number 0 is) (eqb-false (number + 1) count test)

-- the first and the last are ports, and those between are none
module _ (other : Decimal) (fir : Fir) (sound : AreSound other fir) where
  whole : slice_get (blocks_of other fir) 0 ≡ Some (port_block (codes "in"))
  whole = ap (λ (list : List FirBlock). slice_get list 0) sound.ends

  long : length (blocks_of other fir) ≡ length sound.between + 2
  long =
      let both = length-append sound.between (port_block (codes "out") ∷ []) in
      let all : length (blocks_of other fir) ≡ suc (length (sound.between ++ port_block (codes "out") ∷ [])) = ap (λ (list : List FirBlock). length list) sound.ends in
      omega (arith, both, all)

  pub first_is : (inner : FirBlock) (i : ℕ) → i ≡ 0 → slice_get (blocks_of other fir) i ≡ Some inner → inner ≡ port_block (codes "in")
  first_is inner i start at =
      same_Some inner (port_block (codes "in")) (sym at ∙ ap (slice_get (blocks_of other fir)) start ∙ whole)

  behind : (i k : ℕ) → i ≡ suc k → slice_get (blocks_of other fir) i ≡ slice_get (sound.between ++ port_block (codes "out") ∷ []) k
  behind i k same = ap (slice_get (blocks_of other fir)) same ∙ ap (λ (list : List FirBlock). slice_get list (suc k)) sound.ends

  pub last_is : (inner : FirBlock) (i : ℕ) → i + 1 ≡ length (blocks_of other fir) → slice_get (blocks_of other fir) i ≡ Some inner → inner ≡ port_block (codes "out")
  last_is inner i end at =
      let place : i ≡ suc (length sound.between) = omega (arith, end, long) in
      let there : slice_get (sound.between ++ port_block (codes "out") ∷ []) (length sound.between) ≡ Some inner = sym (behind i (length sound.between) place) ∙ at in
      let zero_on : length sound.between ≡ length sound.between + 0 = omega arith in
      same_Some inner (port_block (codes "out")) (sym there ∙ get_right sound.between (port_block (codes "out") ∷ []) 0 (length sound.between) zero_on)

  pub between_is : (inner : FirBlock) (i : ℕ) → i ≢ 0 → i + 1 ≢ length (blocks_of other fir) → slice_get (blocks_of other fir) i ≡ Some inner → (row_of inner.block.kind).place.role ≡ Role.Plain
  between_is inner zero start end at = absurd (start refl)
  between_is inner (suc k) start end at = elim (get_split sound.between (port_block (codes "out") ∷ []) k inner (sym (behind (suc k) k refl) ∙ at)) [
    | inl there ↦ one_of (λ (b : FirBlock). (row_of b.block.kind).place.role ≡ Role.Plain) sound.between sound.plain k inner there
    | inr past ↦
        let within : past.k < 1 = slice_get_within (port_block (codes "out") ∷ []) past.k inner past.there in
        let e : suc k + 1 ≡ length (blocks_of other fir) = omega (arith, past.at, within, long) in
        absurd (end e)
  ]

-- ---- the whole model

module _ (counted : BlocksAreCounted) (shaped : AreSoundBlocks) (other : Decimal) (drawn : List DrawnBlock) (lines : List NestedLine) (are : IsDrawnModel (extents_of drawn) drawn lines) where
  abbrev numbers : List ℕ
  numbers = numbers_from 0 drawn

  abbrev blocks : List NestedBlock
  blocks = put_from other (numbers_from 0 drawn) 0 drawn

  abbrev drawn_blocks : List NestedBlock
  drawn_blocks = blocks_in drawn

  -- what holds of each drawn block where it stands, and of each block of a filter, holds of all
  by_origin : (P : Option ℕ → Part → Type 0)
      → ((k : ℕ) (own : DrawnBlock) → slice_get drawn k ≡ Some own → P (option_map (moved numbers) own.block.parent) own.block.part)
      → ((k : ℕ) (own : DrawnBlock) (fir : Fir) (n i : ℕ) (inner : FirBlock) → slice_get drawn k ≡ Some own
      → own.filter ≡ Some fir → slice_get numbers k ≡ Some n → slice_get (blocks_of other fir) i ≡ Some inner
      → P (Some n) (inner_part (length (blocks_of other fir)) i inner.block))
      → All (λ block. P block.parent block.part) blocks
  by_origin P of_drawn of_filter = all_at (λ (b : NestedBlock). P b.parent b.part) blocks (λ place block at.
      elim (origin_of counted other drawn lines are place block at) [
        | inl h ↦ subst (λ (b : NestedBlock). P b.parent b.part) (sym h.is) (of_drawn h.k h.own h.there)
        | inr h ↦ subst (λ (b : NestedBlock). P b.parent b.part) (sym h.is) (of_filter h.k h.own h.fir h.n h.i h.inner h.there h.filter h.number h.inner_there)
      ])

  sound_of : (k : ℕ) (own : DrawnBlock) (fir : Fir) → slice_get drawn k ≡ Some own → own.filter ≡ Some fir → AreSound other fir
  sound_of k own fir at is = shaped other fir (are.filters k own fir at is).1

  own_holds : (P : NestedBlock → Type 0) → All P drawn_blocks → (k : ℕ) (own : DrawnBlock) → slice_get drawn k ≡ Some own → P own.block
  own_holds P all k own at = one_of P drawn_blocks all k own.block (block_there counted other drawn lines are k own at)

  pub sound_blocks : All (λ block. HasReadable block.part) blocks
  sound_blocks = by_origin (λ parent part. HasReadable part)
      (λ k own at. own_holds (λ (b : NestedBlock). HasReadable b.part) are.sound.blocks k own at)
      (λ k own fir n i inner at is number there.
      let reads = one_of (λ (b : FirBlock). IsReadable b.block) (blocks_of other fir) (sound_of k own fir at is).readable i inner there in
      inner_by HasReadable i (length (blocks_of other fir)) inner.block (λ first. reads) (λ first last. reads) (λ first last. reads))

  pub sound_plains : All (λ block. HasPlainRole block.part) blocks
  sound_plains = by_origin (λ parent part. HasPlainRole part)
      (λ k own at. own_holds (λ (b : NestedBlock). HasPlainRole b.part) are.sound.plains k own at)
      (λ k own fir n i inner at is number there.
      inner_by HasPlainRole i (length (blocks_of other fir)) inner.block (λ first. tt) (λ first last. tt)
      (λ first last. between_is other fir (sound_of k own fir at is) inner i first last there))

  pub sound_ins : All (λ block. HasInRole block.parent block.part) blocks
  sound_ins = by_origin HasInRole
      (λ k own at. has_in_role own.block.parent (moved numbers) own.block.part (own_holds (λ (b : NestedBlock). HasInRole b.parent b.part) are.sound.ins k own at))
      (λ k own fir n i inner at is number there.
      inner_by (HasInRole (Some n)) i (length (blocks_of other fir)) inner.block
      (λ first. subst (λ (b : FirBlock). HasInRole (Some n) (Part.In b.block 1)) (sym (first_is other fir (sound_of k own fir at is) inner i first there)) tt)
      (λ first last. tt) (λ first last. tt))

  -- ---- EnablePorts

  -- an EnablePort is one that is drawn
  enable_drawn : (place : ℕ) (block : NestedBlock) → slice_get blocks place ≡ Some block → IsEnable block.part → FromDrawn numbers 0 drawn place block
  enable_drawn place block at is = elim (origin_of counted other drawn lines are place block at) [
    | inl h ↦ h
    | inr h ↦ absurd (no_enable h.i (length (blocks_of other h.fir)) h.inner.block (subst (λ (b : NestedBlock). IsEnable b.part) h.is is))
  ]

  no_port : (k n : ℕ) (own : DrawnBlock) (fir : Fir) → slice_get drawn k ≡ Some own → own.filter ≡ Some fir → slice_get numbers k ≡ Some n → ¬ HasEnablePort blocks (Some n)
  no_port k n own fir at is number port =
      let found = any_there (λ (b : NestedBlock). (b.parent ≡ Some n) × IsEnable b.part) blocks port in
      let h = enable_drawn found.0 found.1 found.2 (found.3).1 in
      none_in counted other drawn lines are h.k k n h.own own fir h.there at is number (sym (ap (λ (b : NestedBlock). b.parent) h.is) ∙ (found.3).0)

  same_enable : (k : ℕ) (own : DrawnBlock) → slice_get drawn k ≡ Some own → SameEnable drawn_blocks blocks own.block.parent (moved numbers)
  same_enable k own at = record {
    on = λ system parent port.
        let found = any_there (λ (b : NestedBlock). (b.parent ≡ Some system) × IsEnable b.part) drawn_blocks port in
        let from = mapped_at (λ (b : DrawnBlock). b.block) drawn found.0 found.1 found.2 in
        let s = own_at counted other drawn lines are found.0 from.0 from.1 in
        any_at (λ (b : NestedBlock). (b.parent ≡ Some (moved numbers system)) × IsEnable b.part) blocks s.place (moved_block numbers (from.0).block) s.there
        (ap (option_map (moved numbers)) (sym (ap (λ (b : NestedBlock). b.parent) from.2) ∙ (found.3).0), subst (λ (b : NestedBlock). IsEnable b.part) from.2 (found.3).1);
    off = λ system parent port.
        let found = any_there (λ (b : NestedBlock). (b.parent ≡ Some (moved numbers system)) × IsEnable b.part) blocks port in
        let h = enable_drawn found.0 found.1 found.2 (found.3).1 in
        let holds = holder counted other drawn lines are k own at system parent in
        let s = own_at counted other drawn lines are system holds.held holds.there in
        let moves : option_map (moved numbers) h.own.block.parent ≡ Some s.place = sym (ap (λ (b : NestedBlock). b.parent) h.is) ∙ (found.3).0 ∙ ap (λ (n : ℕ). Some n) s.moves in
        any_at (λ (b : NestedBlock). (b.parent ≡ Some system) × IsEnable b.part) drawn_blocks h.k h.own.block (block_there counted other drawn lines are h.k h.own h.there)
        (parent_back counted other drawn lines are h.k h.own h.there system s.place s.number h.own.block.parent refl moves, subst (λ (b : NestedBlock). IsEnable b.part) h.is (found.3).1);
  }

  pub sound_outs : All (λ block. HasOutRole blocks block.parent block.part) blocks
  sound_outs = by_origin (HasOutRole blocks)
      (λ k own at. has_out_role drawn_blocks blocks own.block.parent (moved numbers)
      (same_enable k own at) own.block.part
      (own_holds (λ (b : NestedBlock). HasOutRole drawn_blocks b.parent b.part) are.sound.outs k own at))
      (λ k own fir n i inner at is number there.
      inner_by (HasOutRole blocks (Some n)) i (length (blocks_of other fir)) inner.block
      (λ first. tt)
      (λ first last. subst (λ (b : FirBlock). HasOutRole blocks (Some n) (Part.Out b.block 1))
      (sym (last_is other fir (sound_of k own fir at is) inner i last there))
      (refl, no_port k n own fir at is number))
      (λ first last. tt))

  -- ---- lines

  -- blocks of one System have one parent where they stand
  abbrev Joined : ℕ → ℕ → Type 0
  Joined from to = MatchOption (slice_get blocks from) ⊥ (λ source. MatchOption (slice_get blocks to) ⊥ (λ target. source.parent ≡ target.parent))

  joined : (from to : ℕ) (source target : NestedBlock) → slice_get blocks from ≡ Some source → slice_get blocks to ≡ Some target → source.parent ≡ target.parent → Joined from to
  joined from to source target here there same =
      subst (λ (f : Option NestedBlock). MatchOption f ⊥ (λ s. MatchOption (slice_get blocks to) ⊥ (λ t. s.parent ≡ t.parent))) (sym here)
      (subst (λ (f : Option NestedBlock). MatchOption f ⊥ (λ t. source.parent ≡ t.parent)) (sym there) same)

  drawn_joins : (line : NestedLine) → JoinsWithin drawn_blocks line → JoinsWithin blocks (moved_line numbers line)
  drawn_joins line is =
      let source = match_there (slice_get drawn_blocks line.from) (λ (s : NestedBlock). MatchOption (slice_get drawn_blocks line.to) ⊥ (λ t. s.parent ≡ t.parent)) is.system in
      let target = match_there (slice_get drawn_blocks line.to) (λ (t : NestedBlock). (source.0).parent ≡ t.parent) source.2 in
      let from = mapped_at (λ (b : DrawnBlock). b.block) drawn line.from source.0 source.1 in
      let to = mapped_at (λ (b : DrawnBlock). b.block) drawn line.to target.0 target.1 in
      let s = own_at counted other drawn lines are line.from from.0 from.1 in
      let t = own_at counted other drawn lines are line.to to.0 to.1 in
      let same : (from.0).block.parent ≡ (to.0).block.parent = sym (ap (λ (b : NestedBlock). b.parent) from.2) ∙ target.2 ∙ ap (λ (b : NestedBlock). b.parent) to.2 in
      record {
        system = joined (moved numbers line.from) (moved numbers line.to) (moved_block numbers (from.0).block) (moved_block numbers (to.0).block)
            (ap (slice_get blocks) s.moves ∙ s.there) (ap (slice_get blocks) t.moves ∙ t.there) (ap (option_map (moved numbers)) same);
        from_port = is.from_port;
        target = is.target;
      }

  inner_joins : (k n : ℕ) (own : DrawnBlock) (fir : Fir) → slice_get drawn k ≡ Some own → own.filter ≡ Some fir
      → slice_get numbers k ≡ Some n → (edge : Edge) → Joins (n + 1) (length fir.coefficients) edge
      → JoinsWithin blocks (inner_line edge)
  inner_joins k n own fir at is number edge joins =
      let s = own_at counted other drawn lines are k own at in
      let same : s.place ≡ n = same_Some s.place n (sym s.number ∙ number) in
      let many = counted other fir (are.filters k own fir at is).1.is_fir in
      let source = item_at (blocks_of other fir) joins.source (omega (arith, many, joins.source_within)) in
      let goal = item_at (blocks_of other fir) joins.goal (omega (arith, many, joins.goal_within)) in
      let from : edge.from ≡ suc (s.place + joins.source) = omega (arith, joins.from_is, same) in
      let to : edge.to ≡ suc (s.place + joins.goal) = omega (arith, joins.to_is, same) in
      record {
        system = joined edge.from edge.to (inner_block s.place (length (blocks_of other fir)) joins.source source.0) (inner_block s.place (length (blocks_of other fir)) joins.goal goal.0)
            (ap (slice_get blocks) from ∙ s.inners fir joins.source source.0 is source.1) (ap (slice_get blocks) to ∙ s.inners fir joins.goal goal.0 is goal.1) refl;
        from_port = (joins.from_port.0, omega (arith, joins.from_port.1));
        target = (joins.to_port.0, omega (arith, joins.to_port.1));
      }

  filter_joins : (k n : ℕ) (own : DrawnBlock) → slice_get drawn k ≡ Some own → slice_get numbers k ≡ Some n
      → (filter : Option Fir) → own.filter ≡ filter → All (JoinsWithin blocks) (filling_lines n filter)
  filter_joins k n own at number None is = λ j d within. absurd (omega (arith, within))
  filter_joins k n own at number (Some fir) is =
      let few = (are.filters k own fir at is).1.is_fir.coefficients in
      all_mapped (JoinsWithin blocks) inner_line (lines_of (n + 1) (length fir.coefficients)) (λ j edge there.
      inner_joins k n own fir at is number edge
      (one_of (Joins (n + 1) (length fir.coefficients)) (lines_of (n + 1) (length fir.coefficients))
      (edges_join (n + 1) (length fir.coefficients) few.0 few.1) j edge there))

  pub sound_lines : All (JoinsWithin blocks) (expanded_lines numbers drawn lines)
  sound_lines =
      All-append (JoinsWithin blocks) (map (moved_line numbers) lines) (flat_map (λ (entry : ℕ × DrawnBlock). filling_lines entry.0 entry.1.filter) (zip numbers drawn))
      (all_mapped (JoinsWithin blocks) (moved_line numbers) lines (λ k line at. drawn_joins line (one_of (JoinsWithin drawn_blocks) lines are.sound.lines k line at)))
      (all_flat (JoinsWithin blocks) (λ (entry : ℕ × DrawnBlock). filling_lines entry.0 entry.1.filter) (zip numbers drawn) (λ k entry at.
      let pair = pair_at numbers drawn k entry at in
      filter_joins k entry.0 entry.1 pair.1 pair.0 entry.1.filter refl))
