-- What registers have first is in the range of their block's type.
use Rattle.std.proofs.Common.{◌≡◌, ℕ, zero, suc, ◌-◌, ◌<◌, min, ◌⊎◌, inl, inr, ℤ, Bool, cond, List, [], ◌∷◌, length, Option, None, Some, ap, sym, ◌∙◌, subst, refl, arith}
use Rattle.std.specs.Prelude.{MatchOption, slice_get}
use Rattle.std.proofs.lemmas.Bool.{eq-eqb}
use Rattle.std.proofs.lemmas.Option.{same_Some}
use Rattle.fx_round.specs.Laws.{StoringGivesOne}
use Rattle.fx_type.specs.declared.decimal.Decimal.{Decimal}
use Rattle.fx_type.specs.declared.kind.FxType.{FxType}
use Rattle.fx_type.specs.Conversion.{Stores}
use Rattle.fx_type.specs.FxType.{IsType, InRange}
use Rattle.fx_type.specs.Laws.{StoredIsOne}
use Rattle.fx_type.specs.StoredOf.{stored_of}
use Rattle.fx_type.proofs.Ranges.{InRange-zero}
use Rattle.dg_model.specs.declared.diagram.Diagram.{Diagram}
use Rattle.dg_model.specs.declared.diagram.Block.{Block}
use Rattle.dg_model.specs.Attributes.{attributes_of}
use Rattle.dg_model.specs.Dimension.{IsRepeated}
use Rattle.dg_model.specs.Equation.{StoresEntry}
use Rattle.dg_model.specs.Library.{row_of}
use Rattle.dg_model.specs.Wires.{repeated, entry_of}
use Rattle.hw_sched.specs.Chained.{first_list, stored_in, initial_at}
use Rattle.hw_build.specs.inner.Operands.{or_zero, first_of_block, first_at}
use Rattle.hw_build.proofs.Sources.{repeated_own}

-- what a decimal is stored as
pub stored_as : StoredIsOne → (type : FxType) (d : Decimal) (v : ℤ) → IsType type → Stores d type v → v ≡ or_zero (stored_in type (Some d))
stored_as law type d v is stores = sym ((law d type v is).0 stores)

entry_in_range : StoredIsOne → StoringGivesOne → (type : FxType) (entry : Option Decimal) → IsType type → InRange type (or_zero (stored_in type entry))
entry_in_range law gives type None is = InRange-zero type
entry_in_range law gives type (Some d) is = let one = gives d type is in subst (InRange type) (stored_as law type d one.number is one.given) one.in_range

pub first_in_range : StoredIsOne → StoringGivesOne → (diagram : Diagram) (block : ℕ) (b : Block) (element : ℕ)
    → slice_get diagram.blocks block ≡ Some b → IsType ((attributes_of diagram).type_at block 1)
    → InRange ((attributes_of diagram).type_at block 1) (first_at diagram block element)
first_in_range law gives diagram block b element at is =
    subst (λ (o : Option Block). InRange ((attributes_of diagram).type_at block 1) (first_of_block diagram block element o)) (sym at)
    (entry_in_range law gives ((attributes_of diagram).type_at block 1) (entry_of (first_list (row_of b.kind).signal.lists) (min element ((attributes_of diagram).width_at block 1 - 1))) is)

-- an entry as the code finds it
pub entry_at : (list : List Decimal) (element place : ℕ) (o : Option Decimal) → place ≡ repeated (length list) element → slice_get list place ≡ o → entry_of list element ≡ o
entry_at list element place o at is = ap (slice_get list) (sym at) ∙ is

-- a list of one entry, or of one for each element, has one for each
pub entry_there : (list : List Decimal) (width element : ℕ) → IsRepeated width (length list) → element < width → (d : Decimal) × (entry_of list element ≡ Some d)
entry_there list width element many below = get_there list (repeated (length list) element) (inside many)
  where
    get_there : (xs : List Decimal) (k : ℕ) → k < length xs → (d : Decimal) × (slice_get xs k ≡ Some d)
    get_there [] k low = absurd (omega (arith, low))
    get_there (x ∷ xs) zero low = (x, refl)
    get_there (x ∷ xs) (suc k) low = get_there xs k (omega (arith, low))

    inside : (length list ≡ 1) ⊎ (length list ≡ width) → repeated (length list) element < length list
    inside (inl one) = let e : repeated (length list) element ≡ 0 = ap (λ (b : Bool). cond b 0 element) (eq-eqb (length list) 1 one) in omega (arith, e, one)
    inside (inr same) = let e = repeated_own (length list) element (omega (arith, same, below)) in omega (arith, e, same, below)

-- what is first is what the block's list has, where it has an entry
pub first_is_initial : (diagram : Diagram) (block : ℕ) (b : Block) (element : ℕ)
    → slice_get diagram.blocks block ≡ Some b → element < (attributes_of diagram).width_at block 1
    → IsRepeated ((attributes_of diagram).width_at block 1) (length (first_list (row_of b.kind).signal.lists))
    → initial_at (attributes_of diagram) block b element ≡ Some (first_at diagram block element)
first_is_initial diagram block b element at below many =
    let width : ℕ = (attributes_of diagram).width_at block 1 in
    let entry = entry_there (first_list (row_of b.kind).signal.lists) width element many below in
    let own : initial_at (attributes_of diagram) block b element
    ≡ Some (stored_of entry.0 ((attributes_of diagram).type_at block 1)) =
    ap (stored_in ((attributes_of diagram).type_at block 1)) entry.1 in
    let last : element ≡ min element (width - 1) = omega (arith, below) in
    let first : stored_of entry.0 ((attributes_of diagram).type_at block 1) ≡ first_at diagram block element =
    sym (ap or_zero own) ∙ ap (λ (e : ℕ). or_zero (initial_at (attributes_of diagram) block b e)) last ∙ ap (first_of_block diagram block element) (sym at)
    in
    own ∙ ap (λ (v : ℤ). Some v) first

pub first_stores : StoredIsOne → (diagram : Diagram) (block : ℕ) (b : Block) (element : ℕ) (list : List Decimal)
    → slice_get diagram.blocks block ≡ Some b → element < (attributes_of diagram).width_at block 1
    → (row_of b.kind).signal.lists ≡ list ∷ []
    → IsRepeated ((attributes_of diagram).width_at block 1) (length list)
    → IsType ((attributes_of diagram).type_at block 1) → StoresEntry list element ((attributes_of diagram).type_at block 1) (first_at diagram block element)
first_stores law diagram block b element list at below lists many is =
    let width : ℕ = (attributes_of diagram).width_at block 1 in
    let type : FxType = (attributes_of diagram).type_at block 1 in
    let same : first_list (row_of b.kind).signal.lists ≡ list = ap first_list lists in
    let entry = entry_there list width element many below in
    let initial = first_is_initial diagram block b element at below (subst (λ (xs : List Decimal). IsRepeated width (length xs)) (sym same) many) in
    let own : initial_at (attributes_of diagram) block b element ≡ Some (stored_of entry.0 type) =
    ap (λ (xs : List Decimal). stored_in type (entry_of xs element)) same ∙ ap (stored_in type) entry.1 in
    let first : stored_of entry.0 type ≡ first_at diagram block element = same_Some (stored_of entry.0 type) (first_at diagram block element) (sym own ∙ initial) in
    subst (λ (o : Option Decimal). MatchOption o ⊥ (λ (d : Decimal). Stores d type (first_at diagram block element))) (sym entry.1) ((law entry.0 type (first_at diagram block element) is).1 first)
