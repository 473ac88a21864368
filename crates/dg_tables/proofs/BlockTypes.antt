-- The types of a diagram's blocks after all rounds: they are valid, and each is the one that its block takes of those of its inputs.
use Rattle.std.proofs.Common.{◌≡◌, ℕ, zero, suc, ◌<◌, ◌⊎◌, inl, inr, List, [], ◌∷◌, length, map, slice_get, Option, Some, None, ap, sym, ◌∙◌, subst, refl}
use Rattle.std.proofs.lemmas.Option.{none-some, same_Some, slice_get_within}
use Rattle.dg_waves.specs.Rounds.{round}
use Rattle.dg_waves.proofs.WaveRounds.{length_after}
use Rattle.fx_type.specs.declared.kind.FxType.{FxType}
use Rattle.fx_type.specs.declared.spec.TypeSpec.{TypeSpec}
use Rattle.fx_type.specs.declared.spec.TypeSpec.TheVariants.{Fixed, Internal, SameFirst, Auto}
use Rattle.fx_type.specs.FxType.{IsType}
use Rattle.fx_type.specs.Laws.{FullSumIsOne, FullProductIsOne, UnionIsOne}
use Rattle.dg_model.specs.declared.diagram.Diagram.{Diagram}
use Rattle.dg_model.specs.declared.diagram.Block.{Block}
use Rattle.dg_model.specs.declared.diagram.Edge.{Edge}
use Rattle.dg_model.specs.KindRow.{IsSpec}
use Rattle.dg_model.specs.Readable.{IsReadable}
use Rattle.dg_model.specs.GainParam.{ParamTypeIsOne}
use Rattle.dg_model.specs.Periods.{known_at}
use Rattle.dg_model.specs.TypeRounds.{Types, explicit_type, input_types, type_of_next, next_types, taken_type, types_after, types_of}
use Rattle.dg_model.specs.Attributes.{or_logical}
use Rattle.dg_model.specs.Wires.{edges_into}
use Rattle.dg_model.specs.Wired.{IsWired}
use Rattle.math_list.proofs.Places.{held, map_there}
use Rattle.dg_tables.proofs.Rounds.{Grows, known_there, there_known, round_grows, round_known, settled, taken_known}
use Rattle.dg_tables.proofs.TypeRules.{AreValid, taken_more, taken_valid}
use Rattle.std.proofs.lemmas.List.{length-map}

-- what is known of inputs is known of a block
known_source : (types : Types) (edges : List Edge) (i : ℕ) (t : FxType) → known_at (map (λ (edge : Edge). known_at types edge.from) edges) i ≡ Some t → (from : ℕ) × (known_at types from ≡ Some t)
known_source types [] i t e = absurd (none-some t e)
known_source types (x ∷ xs) zero t e = (x.from, e)
known_source types (x ∷ xs) (suc i) t e = known_source types xs i t e

inputs_grow : (types later : Types) (edges : List Edge) → Grows types later → Grows (map (λ (edge : Edge). known_at types edge.from) edges) (map (λ (edge : Edge). known_at later edge.from) edges)
inputs_grow types later edges g = record {
  same = length-map edges (λ (edge : Edge). known_at types edge.from) ∙ sym (length-map edges (λ (edge : Edge). known_at later edge.from));
  kept = λ k t e. kept edges k t e;
}
  where
    kept : (edges : List Edge) (k : ℕ) (t : FxType)
        → slice_get (map (λ (edge : Edge). known_at types edge.from) edges) k ≡ Some (Some t)
        → slice_get (map (λ (edge : Edge). known_at later edge.from) edges) k ≡ Some (Some t)
    kept [] k t e = absurd (none-some (Some t) e)
    kept (x ∷ xs) zero t e =
        ap (λ (o : Option FxType). Some o) (there_known later x.from t (g.kept x.from t (known_there types x.from t (same_Some (known_at types x.from) (Some t) e))))
    kept (x ∷ xs) (suc k) t e = kept xs k t e

explicit_is : (spec : TypeSpec) (t : FxType) → explicit_type spec ≡ Some t → spec ≡ Fixed t
explicit_is (Fixed type) t e = ap (λ (x : FxType). Fixed x) (same_Some type t e)
explicit_is Internal t e = absurd (none-some t e)
explicit_is SameFirst t e = absurd (none-some t e)
explicit_is Auto t e = absurd (none-some t e)

module _ (sums : FullSumIsOne) (products : FullProductIsOne) (unions : UnionIsOne) (params : ParamTypeIsOne) (diagram : Diagram) (wired : IsWired diagram) where
  readable : (place : ℕ) (block : Block) → slice_get diagram.blocks place ≡ Some block → IsReadable block
  readable place block e = held IsReadable diagram.blocks place block wired.blocks e

  -- what the blocks take in a round
  abbrev taken : Types → ℕ → Option FxType
  taken types place = type_of_next (slice_get diagram.blocks place) (input_types diagram types place)

  abbrev start : Types
  start = map (λ (block : Block). explicit_type block.result) diagram.blocks

  -- each known type is the one that its block takes
  abbrev pub AreTaken : Types → Type 0
  AreTaken types = (place : ℕ) (block : Block) (t : FxType) → slice_get diagram.blocks place ≡ Some block
      → known_at types place ≡ Some t → taken_type block.kind block.result (input_types diagram types place)
      ≡ Some t

  pub inputs_valid : (types : Types) (place : ℕ) → AreValid types → AreValid (input_types diagram types place)
  inputs_valid types place v i t e = let s = known_source types (edges_into diagram place) i t e in v s.0 t s.1

  start_valid : AreValid start
  start_valid place t e =
      let b = map_there (λ (block : Block). explicit_type block.result) diagram.blocks place (Some t) (known_there start place t e) in
      subst IsSpec (explicit_is b.0.result t b.2) (readable place b.0 b.1).types

  start_taken : AreTaken start
  start_taken place block t at e =
      let b = map_there (λ (block : Block). explicit_type block.result) diagram.blocks place (Some t) (known_there start place t e) in
      let same : b.0 ≡ block = same_Some b.0 block (sym b.1 ∙ at) in
      let fixed : block.result ≡ Fixed t = subst (λ (x : Block). x.result ≡ Fixed t) same (explicit_is b.0.result t b.2) in
      subst (λ (spec : TypeSpec). taken_type block.kind spec (input_types diagram start place) ≡ Some t) (sym fixed) refl

  next_valid : (types : Types) → AreValid types → AreValid (round (next_types diagram) types)
  next_valid types v place t e = go (round_known taken types place t e)
    where
      by_block : (o : Option Block) → slice_get diagram.blocks place ≡ o → type_of_next o (input_types diagram types place) ≡ Some t → IsType t
      by_block None at e = absurd (none-some t e)
      by_block (Some block) at e = taken_valid sums products unions params block.kind block.result
          (input_types diagram types place) t (readable place block at).parameters (readable place block at).types
          (inputs_valid types place v) e

      go : (known_at types place ≡ Some t) ⊎ (taken types place ≡ Some t) → IsType t
      go (inl e) = v place t e
      go (inr e) = by_block (slice_get diagram.blocks place) refl e

  next_taken : (types : Types) → AreTaken types → AreTaken (round (next_types diagram) types)
  next_taken types h place block t at e = more (go (round_known taken types place t e))
    where
      more : taken_type block.kind block.result (input_types diagram types place) ≡ Some t → taken_type block.kind block.result (input_types diagram (round (next_types diagram) types) place) ≡ Some t
      more k = taken_more block.kind block.result (input_types diagram types place) (input_types diagram (round (next_types diagram) types) place)
          (inputs_grow types (round (next_types diagram) types) (edges_into diagram place) (round_grows taken types)) t k

      go : (known_at types place ≡ Some t) ⊎ (taken types place ≡ Some t) → taken_type block.kind block.result (input_types diagram types place) ≡ Some t
      go (inl e) = h place block t at e
      go (inr e) = subst (λ (o : Option Block). type_of_next o (input_types diagram types place) ≡ Some t) at e

  after_valid : (n : ℕ) → AreValid (types_after diagram n)
  after_valid zero = start_valid
  after_valid (suc n) = next_valid (types_after diagram n) (after_valid n)

  after_taken : (n : ℕ) → AreTaken (types_after diagram n)
  after_taken zero = start_taken
  after_taken (suc n) = next_taken (types_after diagram n) (after_taken n)

  -- ---- after all rounds
  pub types_valid : AreValid (types_of diagram)
  types_valid = after_valid (length diagram.blocks)

  pub types_taken : AreTaken (types_of diagram)
  types_taken = after_taken (length diagram.blocks)

  pub type_valid : (place : ℕ) → IsType (or_logical (known_at (types_of diagram) place))
  type_valid place = go (known_at (types_of diagram) place) refl
    where
      go : (o : Option FxType) → known_at (types_of diagram) place ≡ o → IsType (or_logical o)
      go None e = tt
      go (Some t) e = types_valid place t e

  -- a block that would take a type has it
  pub type_known : (place : ℕ) (block : Block) (t : FxType) → slice_get diagram.blocks place ≡ Some block → taken_type block.kind block.result (input_types diagram (types_of diagram) place) ≡ Some t
      → (u : FxType) × (known_at (types_of diagram) place ≡ Some u)
  type_known place block t at e =
      let size : length start ≡ length diagram.blocks = length-map diagram.blocks (λ (block : Block). explicit_type block.result) in
      taken_known taken (types_of diagram) place t (settled taken (length diagram.blocks) start size)
      (subst (λ (n : ℕ). place < n) (sym (length_after (next_types diagram) (length diagram.blocks) start ∙ size)) (slice_get_within diagram.blocks place block at))
      (subst (λ (o : Option Block). type_of_next o (input_types diagram (types_of diagram) place) ≡ Some t) (sym at) e)
