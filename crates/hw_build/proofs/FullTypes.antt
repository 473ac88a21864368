-- A block that multiplies has a type that holds every product.
use Rattle.std.proofs.Common.{◌≡◌, ℕ, zero, suc, ◌≤◌, inl, inr, true, ℤ, List, [], ◌∷◌, length, Option, Some, Result, Ok, Err, ap, sym, subst, refl, arith}
use Rattle.std.specs.Prelude.{slice_get, MatchOption, OnErr, IsOk, ◌==◌}
use Rattle.std.proofs.lemmas.Bool.{cases_Bool, eqb-true, false≢true}
use Rattle.fx_round.specs.Laws.{StoringGivesOne}
use Rattle.fx_type.specs.declared.decimal.Decimal.{Decimal}
use Rattle.fx_type.specs.declared.kind.FxType.{FxType}
use Rattle.fx_type.specs.Conversion.{Stores}
use Rattle.fx_type.specs.FxType.{IsType}
use Rattle.fx_type.specs.FullType.{IsFullProduct}
use Rattle.dg_model.specs.declared.diagram.Diagram.{Diagram}
use Rattle.dg_model.specs.declared.diagram.Block.{Block}
use Rattle.dg_model.specs.declared.kind.Kind.{Kind}
use Rattle.dg_model.specs.declared.kind.Kind.TheVariants.{Gain, Product}
use Rattle.dg_model.specs.declared.op.Op.{Op}
use Rattle.dg_model.specs.declared.op.Op.TheVariants.{Gain as OpGain, Product as OpProduct}
use Rattle.dg_model.specs.Attributes.{attributes_of}
use Rattle.dg_model.specs.Equation.{StoresEntry, IsOpOf}
use Rattle.dg_model.specs.Library.{row_of}
use Rattle.dg_model.specs.Readable.{IsReadable}
use Rattle.dg_model.specs.Operation.{type_of}
use Rattle.dg_model.specs.Signals.{Attributes}
use Rattle.dg_model.specs.Wires.{entry_of, repeated, type_into, types_into}
use Rattle.dg_tables.specs.Laws.{IsOrdered, OperationsPrepare, TypesAreValid}
use Rattle.hw_sched.specs.Slots.{right_type, right_of}
use Rattle.hw_build.proofs.Assembly.{repeated_one, repeated_more}
use Rattle.hw_build.proofs.Multipliers.{is_product, multiplies_input, product_inputs}
use Rattle.math_list.proofs.Places.{held}

-- the types of a block's inputs in order
pub type_first : (diagram : Diagram) (attributes : Attributes) (block inputs : ℕ) → 1 ≤ inputs → type_of (types_into diagram attributes block inputs) 0 ≡ type_into diagram attributes block 1
type_first diagram attributes block zero some = absurd (omega (arith, some))
type_first diagram attributes block (suc inputs) some = refl

pub type_second : (diagram : Diagram) (attributes : Attributes) (block inputs : ℕ) → 2 ≤ inputs → type_of (types_into diagram attributes block inputs) 1 ≡ type_into diagram attributes block 2
type_second diagram attributes block zero some = absurd (omega (arith, some))
type_second diagram attributes block (suc zero) some = absurd (omega (arith, some))
type_second diagram attributes block (suc (suc inputs)) some = refl

-- what there is was found
pub found_ok : {E : Type 0} (P : FxType → Type 0) (result : Result FxType E) → OnErr result ((type : FxType) → ¬ P type) → (found : FxType) × P found → IsOk result
found_ok P (Ok type) none found = refl
found_ok P (Err fault) none found = absurd (none found.0 found.1)

first_repeated : (width : ℕ) → repeated width 0 ≡ 0
first_repeated width = elim (cases_Bool (width == 1)) [
  | inl holds ↦ repeated_one width 0 (eqb-true width 1 holds)
  | inr fails ↦ repeated_more width 0 fails
]

-- a list that isn't empty has a stored entry
some_stored : StoringGivesOne → (list : List Decimal) (type : FxType) → IsType type → 1 ≤ length list → (v : ℤ) × StoresEntry list 0 type v
some_stored storing [] type valid some = absurd (omega (arith, some))
some_stored storing (first ∷ list) type valid some =
    let there : entry_of (first ∷ list) 0 ≡ Some first = ap (slice_get (first ∷ list)) (first_repeated (length (first ∷ list))) in
    let one = storing first type valid in
    (one.number, subst (λ (o : Option Decimal). MatchOption o ⊥ (λ decimal. Stores decimal type one.number)) (sym there) one.given)

module _ (storing : StoringGivesOne) (prepare : OperationsPrepare) (valid : TypesAreValid) (diagram : Diagram)
    (order : List ℕ) (ordered : IsOrdered diagram order) (block : ℕ) (b : Block)
    (at : slice_get diagram.blocks block ≡ Some b)
    (multiplies : (row_of b.kind).hardware.multiplies ≡ true) where
  readable : IsReadable b
  readable = held IsReadable diagram.blocks block b ordered.checked.wired.blocks at

  abbrev IsOp : Kind → Op → Type 0
  IsOp kind op = IsOpOf kind 0 ((attributes_of diagram).param_at block) (type_into diagram (attributes_of diagram) block 2) op

  full_by : (kind : Kind) → b.kind ≡ kind → (row_of kind).hardware.multiplies ≡ true
      → (full : FxType) × IsFullProduct (type_into diagram (attributes_of diagram) block 1)
      (right_type diagram (attributes_of diagram) block (row_of kind).types.full) full
  full_by (Gain value spec) is e =
      let list = (subst (λ (k : Kind). (row_of k).parameters) is readable.parameters).0.0 in
      let stored = some_stored storing value ((attributes_of diagram).param_at block) (valid diagram order block b ordered at).1 list in
      let op : Op = OpGain stored.0 ((attributes_of diagram).param_at block) in
      let can = prepare diagram order block b 0 op ordered at (subst (λ (k : Kind). IsOp k op) (sym is) (stored.0, stored.1, refl)) in
      let some = multiplies_input b.kind b.inputs b.outputs readable.ports multiplies in
      let found = can.full_type in
      (found.0, subst (λ (t : FxType). IsFullProduct t ((attributes_of diagram).param_at block) found.0) (type_first diagram (attributes_of diagram) block b.inputs some) found.1)
  full_by Product is e =
      let can = prepare diagram order block b 0 OpProduct ordered at (subst (λ (k : Kind). IsOp k OpProduct) (sym is) refl) in
      let some = product_inputs b.kind b.inputs b.outputs readable.ports (ap (λ (k : Kind). is_product (row_of k).types.full) is) in
      let found = can.full_type in (
        found.0,
        subst (λ (t : FxType). IsFullProduct t (type_into diagram (attributes_of diagram) block 2) found.0) (type_first diagram (attributes_of diagram) block b.inputs (omega (arith, some)))
            (subst (λ (t : FxType). IsFullProduct
            (type_of (types_into diagram (attributes_of diagram) block b.inputs) 0) t found.0)
            (type_second diagram (attributes_of diagram) block b.inputs some) found.1),
      )
  full_by _ is e = absurd (false≢true e)

  pub full_is_there : (full : FxType) × IsFullProduct (type_into diagram (attributes_of diagram) block 1) (right_of diagram (attributes_of diagram) block (Some b)) full
  full_is_there = full_by b.kind refl multiplies

  valid_by : (kind : Kind) → (row_of kind).hardware.multiplies ≡ true → IsType (right_type diagram (attributes_of diagram) block (row_of kind).types.full)
  valid_by (Gain value spec) e = (valid diagram order block b ordered at).1
  valid_by Product e = (valid diagram order block b ordered at).2 2
  valid_by _ e = absurd (false≢true e)

  pub second_is_valid : IsType (right_of diagram (attributes_of diagram) block (Some b))
  second_is_valid = valid_by b.kind multiplies
