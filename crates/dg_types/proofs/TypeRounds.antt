-- A wired diagram has what the rounds of types ask of it, and the code's step is the diagram's.
use Rattle.std.proofs.Common.{◌≡◌, ℕ, zero, suc, ◌<◌, Bool, true, false, List, [], ◌∷◌, length, map, All, Some, get_or, pos, negsuc, inl, inr, refl, sym, ap, subst, ◌∙◌, arith}
use Rattle.std.specs.Prelude.{slice_get, ◌≢◌}
use Rattle.std.specs.Cmp.Derive.{both_true}
use Rattle.std.proofs.lemmas.Bool.{le-leb, eq-eqb, cases_Bool, true≢false}
use Rattle.std.proofs.lemmas.List.{length-map}
use Rattle.std.proofs.lemmas.Option.{slice_get_within}
use Rattle.dg_waves.specs.Rounds.{after_rounds}
use Rattle.math_list.specs.Numbers.{numbers_from}
use Rattle.dg_waves.proofs.WaveRounds.{rounds_agree}
use Rattle.math_list.proofs.Numbers.{length_numbers}
use Rattle.math_num.specs.Word.{IsWord}
use Rattle.math_list.proofs.Searches.{Decides-int_le}
use Rattle.fx_type.specs.declared.kind.FxType.{FxType}
use Rattle.fx_type.specs.declared.kind.FxType.TheVariants.{Num, Logical}
use Rattle.fx_type.specs.declared.spec.TypeSpec.{TypeSpec}
use Rattle.fx_type.specs.declared.spec.TypeSpec.TheVariants.{Fixed}
use Rattle.fx_type.specs.FxType.{IsType}
use Rattle.fx_type.specs.FullTypeOf.{is_word}
use Rattle.fx_type.specs.Laws.{FullSumIsOne, UnionIsOne}
use Rattle.dg_model.proofs.Ports.{drivers_are_edges}
use Rattle.dg_model.specs.declared.diagram.Diagram.{Diagram}
use Rattle.dg_model.specs.declared.diagram.Block.{Block}
use Rattle.dg_model.specs.declared.diagram.Edge.{Edge}
use Rattle.dg_model.specs.declared.kind.Kind.{Kind}
use Rattle.dg_model.specs.declared.kind.Kind.TheVariants.{Sum, Gain}
use Rattle.dg_model.specs.KindRow.{IsSpec}
use Rattle.dg_model.specs.Library.{row_of}
use Rattle.dg_model.specs.Readable.{HasPorts, IsReadable}
use Rattle.dg_model.specs.Periods.{known_at, known_or}
use Rattle.dg_model.specs.TypeRounds.{Types, next_types, types_of, type_of_next, input_types, explicit_type}
use Rattle.dg_model.specs.Wired.{IsWired}
use Rattle.dg_model.specs.Wires.{edges_into, driver_of}
use Rattle.dg_types.specs.declared.linked.Form.{Form}
use Rattle.dg_types.specs.declared.linked.Source.{Source}
use Rattle.dg_types.specs.inner.WidthShapes.{Mirrors, source_of}
use Rattle.dg_types.specs.inner.TypeInputs.{source_types, IsKnownValid, AreReady, FullTypesAreValid, is_valid_type, is_valid_spec, is_full_ready, next_typed}
use Rattle.dg_model.proofs.Propagation.{length_types}
use Rattle.dg_types.specs.inner.TypeLaws.{first_types}
use Rattle.dg_types.specs.inner.TypeScan.{IsTyped}
use Rattle.dg_types.proofs.WidthRounds.{readable}

-- ---- valid types pass the test

word_is : (signed : Bool) (width : ℕ) → IsWord width signed → is_word width signed ≡ true
word_is true width word = both_true (le-leb 2 width word.0) (le-leb width 128 word.1)
word_is false width word = both_true (le-leb 1 width word.0) (le-leb width 127 word.1)

type_is : (type : FxType) → IsType type → is_valid_type type ≡ true
type_is (Num signed width frac) valid = both_true (word_is signed width valid.0) (both_true ((Decides-int_le (negsuc 63) frac).1 valid.1) ((Decides-int_le frac (pos 128)).1 valid.2))
type_is Logical valid = refl

spec_is : (spec : TypeSpec) → IsSpec spec → is_valid_spec spec ≡ true
spec_is (Fixed type) valid = type_is type valid
spec_is _ valid = refl

pub full_types_are : FullSumIsOne → UnionIsOne → FullTypesAreValid
full_types_are sums unions = record {
  sums = λ terms type valid e. type_is type ((sums terms type valid).1 e).valid;
  unions = λ left right type l r e. elim (cases_Bool (is_valid_type type)) [
    | inl valid ↦ valid
    | inr invalid ↦
        let is = (unions left right type l r).1 e in
        let no : ¬ IsType type = λ v. true≢false (sym (type_is type v) ∙ invalid) in
        let differ : left ≢ right = λ same. no (subst IsType (sym (is.same same)) l) in absurd (no (is.different differ).valid)
  ];
}

full_ready : (kind : Kind) (inputs outputs : ℕ) → HasPorts kind inputs outputs → (row_of kind).parameters → is_full_ready (row_of kind).types.full inputs ≡ true
full_ready (Sum negative accum) inputs outputs ports has =
    both_true (eq-eqb (length negative) inputs (sym ports.0))
    (both_true (le-leb 1 (length negative) (omega (arith, has.0.0)))
    (both_true (le-leb (length negative) 32 has.0.1) (spec_is accum has.2)))
full_ready (Gain value param) inputs outputs ports has = spec_is param has.2
full_ready _ inputs outputs ports has = refl

inputs_are : (diagram : Diagram) (place : ℕ) (block : Block) → IsWired diagram → slice_get diagram.blocks place ≡ Some block → length (edges_into diagram place) ≡ block.inputs
inputs_are diagram place block wired at =
    sym (length-map (edges_into diagram place) (λ (edge : Edge). Some edge)) ∙ ap length (sym (drivers_are_edges diagram place block wired at))
    ∙ length-map (numbers_from 1 block.inputs) (driver_of diagram place) ∙ length_numbers 1 block.inputs

explicit_valid : (spec : TypeSpec) → IsSpec spec → IsKnownValid (explicit_type spec)
explicit_valid (Fixed type) valid = valid
explicit_valid _ valid = tt

-- the types that are written out are valid
pub first_valid : (blocks : List Block) → All IsReadable blocks → All IsKnownValid (first_types blocks)
first_valid [] are k d inside = absurd (omega arith)
first_valid (block ∷ blocks) are zero d inside = explicit_valid block.result (are 0 block (omega arith)).types
first_valid (block ∷ blocks) are (suc k) d inside = first_valid blocks (λ j b i. are (suc j) b (omega arith)) k d (omega arith)

pub are_ready : (diagram : Diagram) (forms : List Form) (sources : List (List Source)) → IsWired diagram
    → length sources ≡ length diagram.blocks → Mirrors diagram forms sources → AreReady diagram.blocks sources
are_ready diagram forms sources wired size mirrors = record {
  size = size;
  ready = λ k block at.
      let inputs : length (get_or sources k []) ≡ block.inputs =
      ap length (mirrors.source k (slice_get_within diagram.blocks k block at))
      ∙ length-map (edges_into diagram k) (source_of diagram.blocks)
      ∙ inputs_are diagram k block wired at in
      let is = readable diagram k block wired at in
      rw inputs (both_true (spec_is block.result is.types) (full_ready block.kind block.inputs block.outputs is.ports is.parameters));
}

-- ---- the step

sources_are : (blocks : List Block) (values : Types) (edges : List Edge) → source_types values (map (source_of blocks) edges) ≡ map (λ edge. known_at values edge.from) edges
sources_are blocks values [] = refl
sources_are blocks values (edge ∷ edges) = ap (λ (types : Types). known_at values edge.from ∷ types) (sources_are blocks values edges)

-- the types at the sources of a block are those of its inputs
pub inputs_are_typed : (diagram : Diagram) (forms : List Form) (sources : List (List Source)) (values : Types)
    (place : ℕ) → Mirrors diagram forms sources → place < length diagram.blocks
    → source_types values (get_or sources place []) ≡ input_types diagram values place
inputs_are_typed diagram forms sources values place mirrors there = ap (source_types values) (mirrors.source place there) ∙ sources_are diagram.blocks values (edges_into diagram place)

same_types_agree : (diagram : Diagram) (forms : List Form) (sources : List (List Source))
    → Mirrors diagram forms sources → after_rounds (next_typed diagram.blocks sources) (length diagram.blocks)
    (first_types diagram.blocks) ≡ types_of diagram
same_types_agree diagram forms sources mirrors =
    rounds_agree (next_typed diagram.blocks sources) (next_types diagram) (length diagram.blocks) (λ values block size inside.
    ap (λ (types : Types). known_or (known_at values block) (type_of_next (slice_get diagram.blocks block) types)) (inputs_are_typed diagram forms sources values block mirrors inside))
    (length diagram.blocks) (first_types diagram.blocks) (length-map diagram.blocks (λ (block : Block). explicit_type block.result))

pub types_agree : (diagram : Diagram) (blocks : List Block) (forms : List Form) (sources : List (List Source))
    → blocks ≡ diagram.blocks → Mirrors diagram forms sources
    → after_rounds (next_typed blocks sources) (length blocks) (first_types blocks) ≡ types_of diagram
types_agree diagram blocks forms sources is mirrors =
    subst (λ (bs : List Block). after_rounds (next_typed bs sources) (length bs) (first_types bs)
    ≡ types_of diagram) (sym is) (same_types_agree diagram forms sources mirrors)

-- ---- what the scans look at

pub is_typed : (diagram : Diagram) (blocks : List Block) (forms : List Form) (sources : List (List Source))
    (types : Types) → blocks ≡ diagram.blocks → length sources ≡ length blocks → Mirrors diagram forms sources
    → types ≡ types_of diagram → All IsKnownValid types → IsTyped diagram blocks forms sources types
is_typed diagram blocks forms sources types is size mirrors typed valid = record {
  blocks_are = is;
  size = size ∙ ap length is;
  mirrors = mirrors;
  types_are = typed;
  types_size = ap length typed ∙ length_types diagram;
  valid = valid;
}
