-- The tests of a block tell whether it keeps a part of the rule of types.
use Rattle.std.proofs.Common.{◌≡◌, ℕ, ◌≤◌, ◌<◌, Bool, true, List, [], length, get_or, All, Option, sym, subst}
use Rattle.std.specs.Prelude.{◌↔◌, IsSome}
use Rattle.std.proofs.lemmas.Option.{slice_get-get_or}
use Rattle.fx_type.specs.declared.kind.FxType.{FxType}
use Rattle.dg_model.specs.declared.diagram.Diagram.{Diagram}
use Rattle.dg_model.specs.declared.diagram.Block.{Block}
use Rattle.dg_model.specs.Library.{row_of}
use Rattle.dg_model.specs.Periods.{known_at}
use Rattle.dg_model.specs.Types.{names_full_type}
use Rattle.dg_model.specs.TypeRounds.{Types, input_types, full_type, types_of}
use Rattle.dg_model.specs.TypeRule.{AgreesWith, AgreeInside}
use Rattle.dg_types.specs.declared.linked.Form.{Form}
use Rattle.dg_types.specs.declared.linked.Source.{Source}
use Rattle.dg_types.specs.declared.typed.Part.{Part}
use Rattle.dg_types.specs.declared.typed.Part.TheVariants.{Narrow, Known, Agree}
use Rattle.dg_types.specs.inner.TypeInputs.{AreReady, is_ready}
use Rattle.dg_types.specs.inner.TypeScan.{IsTyped, keeps_part}

-- the block that the rounds see at a place can be typed from the sources that they see there
pub ready_at : {diagram : Diagram} {blocks : List Block} {forms : List Form} {sources : List (List Source)}
    {types : Types} → IsTyped diagram blocks forms sources types → AreReady blocks sources
    → (place : ℕ) (none : Block) → place < length diagram.blocks
    → is_ready (get_or blocks place none) (length (get_or sources place [])) ≡ true
ready_at {blocks = blocks} typed ready place none there =
    ready.ready place (get_or blocks place none) (slice_get-get_or blocks place none (subst (λ (bs : List Block). place < length bs) (sym typed.blocks_are) there))

module _ (diagram : Diagram) (place : ℕ) (part : Part) (own block : Block) (here : own ≡ block) (inputs : Types) (e : inputs ≡ input_types diagram (types_of diagram) place) (test : Bool) where
  at_part : (p : Part) → part ≡ p → (test ≡ true) ↔ keeps_part p diagram (types_of diagram) place own → (test ≡ true) ↔ keeps_part part diagram (types_of diagram) place block
  at_part p is given =
      subst (λ (b : Block). (test ≡ true) ↔ keeps_part part diagram (types_of diagram) place b) here
      (subst (λ (q : Part). (test ≡ true) ↔ keeps_part q diagram (types_of diagram) place own) (sym is) given)

  pub is_narrow_part : part ≡ Narrow → (test ≡ true) ↔
      (names_full_type own.kind own.result ≡ true → All IsSome inputs
      → IsSome (full_type (row_of own.kind).types.full inputs))
      → (test ≡ true) ↔ keeps_part part diagram (types_of diagram) place block
  is_narrow_part is given =
      let P : Types → Type 0 = λ types. names_full_type own.kind own.result ≡ true → All IsSome types → IsSome (full_type (row_of own.kind).types.full types) in
      at_part Narrow is ((λ y. subst P e (given.0 y)), (λ k. given.1 (subst P (sym e) k)))

  pub is_known_part : (type : Option FxType) → type ≡ known_at (types_of diagram) place → part ≡ Known
      → (test ≡ true) ↔ ((1 ≤ own.outputs → IsSome type) × All IsSome inputs)
      → (test ≡ true) ↔ keeps_part part diagram (types_of diagram) place block
  is_known_part type o is given =
      let P : Types → Type 0 = λ types. All IsSome types in
      let Q : Option FxType → Type 0 = λ t. IsSome t in
      at_part Known is (
        (λ y. let h = given.0 y in record { outputs = λ some. subst Q o (h.0 some); inputs = subst P e h.1 }),
        (λ k. given.1 ((λ some. subst Q (sym o) (k.outputs some)), subst P (sym e) k.inputs)),
      )

  pub is_agree_part : part ≡ Agree → (test ≡ true) ↔
      (AgreesWith (row_of own.kind).place.role own.result inputs
      × AgreeInside (row_of own.kind).signal.shape inputs)
      → (test ≡ true) ↔ keeps_part part diagram (types_of diagram) place block
  is_agree_part is given =
      let P : Types → Type 0 = λ types. AgreesWith (row_of own.kind).place.role own.result types in
      let Q : Types → Type 0 = λ types. AgreeInside (row_of own.kind).signal.shape types in
      at_part Agree is (
        (λ y. let h = given.0 y in record { written = subst P e h.0; inside = subst Q e h.1 }),
        (λ k. given.1 (subst P (sym e) k.written, subst Q (sym e) k.inside)),
      )
