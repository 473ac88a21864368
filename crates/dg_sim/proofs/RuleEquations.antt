-- Rules serve the equations of their blocks.
use Rattle.std.proofs.Common.{◌≡◌, ℕ, suc, ◌<◌, ◌≤◌, ◌+◌, ◌++◌, ℤ, pos, List, [], ◌∷◌, length, map, take, Some, slice_get, sym, ◌∙◌, subst, ap, refl, arith, zero, ◌⊎◌, inl, inr, ap₂, subst₂, false}
use Rattle.dg_model.specs.declared.diagram.Diagram.{Diagram}
use Rattle.dg_model.specs.Signals.{Attributes, Stimulus, Table}
use Rattle.fx_type.specs.declared.kind.FxType.TheVariants.{Num}
use Rattle.fx_type.specs.FxType.{InRange}
use Rattle.math_list.specs.Numbers.{numbers_from}
use Rattle.dg_model.specs.declared.diagram.Block.{Block}
use Rattle.dg_model.specs.declared.op.Op.{Op}
use Rattle.dg_model.specs.Operation.{Operation, OpGives, CanPrepare, CanCarryOut, type_of, value_of}
use Rattle.dg_model.specs.Wires.{type_into, types_into, value_into, values_into}
use Rattle.dg_model.specs.Equation.{Equation, IsOpOf, signs_of}
use Rattle.dg_tables.specs.declared.entries.Place.{Place}
use Rattle.dg_sim.specs.declared.program.Program.{Program}
use Rattle.dg_sim.specs.declared.program.Rule.TheVariants.{Fixed, Same, Works}
use Rattle.dg_sim.specs.declared.program.Work.{Work}
use Rattle.dg_tables.specs.Laws.{EntriesAreInRange}
use Rattle.dg_tables.specs.Entries.{entry, IsEntry, Reads}
use Rattle.dg_sim.specs.Program.{part, operation_at, looked_at}
use Rattle.dg_sim.specs.Sim.{Agrees}
use Rattle.dg_sim.specs.inner.ProgramSteps.{IsRule, HandsOn, IsAlways, AreRead, IsElementwise}
use Rattle.math_list.proofs.Numbers.{get_mapped, length_mapped}
use Rattle.math_list.proofs.Places.{push_cases, get_some}

-- ---- parts of a list that grows
pub part_more : {A : Type 0} (xs ys : List A) (first count : ℕ) → first + count ≤ length xs → part (xs ++ ys) first count ≡ part xs first count
part_more [] ys zero zero h = refl
part_more [] ys zero (suc count) h = absurd (omega (arith, h))
part_more [] ys (suc first) count h = absurd (omega (arith, h))
part_more (x ∷ xs) ys zero zero h = refl
part_more (x ∷ xs) ys zero (suc count) h = ap (λ zs. x ∷ zs) (part_more xs ys zero count (omega (arith, h)))
part_more (x ∷ xs) ys (suc first) count h = part_more xs ys first count (omega (arith, h))

take_all : {A : Type 0} (xs : List A) → take (length xs) xs ≡ xs
take_all [] = refl
take_all (x ∷ xs) = ap (λ zs. x ∷ zs) (take_all xs)

pub part_last : {A : Type 0} (xs ys : List A) → part (xs ++ ys) (length xs) (length ys) ≡ ys
part_last [] ys = take_all ys
part_last (x ∷ xs) ys = part_last xs ys

-- entries by place give the values of a block's input ports
pub values_same : (look : ℕ → ℤ) (f : ℕ → ℤ) (numbers : List ℕ) (n from : ℕ) → length numbers ≡ n
    → ((i j : ℕ) → slice_get numbers i ≡ Some j → look j ≡ f (from + i))
    → map look numbers ≡ map f (numbers_from from n)
values_same look f [] zero from size same = refl
values_same look f [] (suc n) from size same = absurd (omega (arith, size))
values_same look f (j ∷ numbers) zero from size same = absurd (omega (arith, size))
values_same look f (j ∷ numbers) (suc n) from size same =
    let first : from + 0 ≡ from = omega arith in
    ap₂ (λ (x : ℤ) (xs : List ℤ). x ∷ xs) (same 0 j refl ∙ ap f first)
    (values_same look f numbers n (suc from) (omega (arith, size)) (λ i j at. let e : from + suc i ≡ suc from + i = omega arith in same (suc i) j at ∙ ap f e))

pub read_more : (diagram : Diagram) (attributes : Attributes) (places : List Place) (block element k : ℕ)
    (numbers : List ℕ) (number n : ℕ) → length numbers ≡ n → number < k
    → Reads diagram attributes places block (suc n) element number
    → AreRead diagram attributes places block element k numbers → AreRead diagram attributes places block element k (numbers ++ number ∷ [])
read_more diagram attributes places block element k numbers number n size below reads are i j at = go (push_cases numbers number i j at)
  where
    go : (slice_get numbers i ≡ Some j) ⊎ ((i ≡ length numbers) × (number ≡ j)) → (j < k) × Reads diagram attributes places block (suc i) element j
    go (inl h) = are i j h
    go (inr h) =
        let at_end : suc n ≡ suc i = omega (arith, h.0, size) in
        (subst (λ (m : ℕ). m < k) h.1 below, subst₂ (λ (port m : ℕ). Reads diagram attributes places block port element m) at_end h.1 reads)

-- ---- what entries give
module _ (diagram : Diagram) (attributes : Attributes) (program : Program) (k : ℕ) (place : Place) where
  pub same_rule : (port element j : ℕ) → Reads diagram attributes program.places place.block port element j → j < k
      → HandsOn diagram attributes place port element → IsRule diagram attributes program k place (Same j)
  same_rule port element j reads below hands = record {
    within = tt;
    serves = λ stimulus table t look kept row v agrees keep row_is hit gives.
        subst (λ (v : ℤ). Equation diagram attributes stimulus table place.block place.port place.element t v)
        (reads.is_source.value table t ∙ sym (agrees j reads.place below reads.there) ∙ sym gives) (hands stimulus table t);
    can = λ table t look agrees in_range. tt;
  }

  pub fixed_rule : (v : ℤ) → IsAlways diagram attributes place v → IsRule diagram attributes program k place (Fixed v)
  fixed_rule v is = record {
    within = tt;
    serves = λ stimulus table t look kept row w agrees keep row_is hit gives. subst
        (λ (v : ℤ). Equation diagram attributes stimulus table place.block place.port place.element t v) (sym gives)
        (is stimulus table t);
    can = λ table t look agrees in_range. tt;
  }

  -- the operation of a block
  abbrev pub operation_of_block : Block → Op → Operation
  operation_of_block b op = record {
    op = op;
    signs = signs_of b.kind;
    types =
        types_into diagram attributes place.block b.inputs;
    result =
        attributes.type_at place.block 1;
    rounding = b.rounding;
    saturate = b.saturate;
  }

  module _ (b : Block) (op : Op) (work : Work) (numbers : List ℕ)
      (is_op : IsOpOf b.kind place.element (attributes.param_at place.block) (type_into diagram attributes place.block 2) op) (elementwise : IsElementwise diagram attributes b place)
      (same : operation_at program work ≡ operation_of_block b op) (args : part program.args work.first work.count ≡ numbers) (size : length numbers ≡ b.inputs)
      (are : AreRead diagram attributes program.places place.block place.element k numbers)
    where
      values_are : (table : Table) (t : ℕ) (look : ℕ → ℤ) → Agrees diagram attributes program.places k look table t
          → looked_at program look work.first work.count
          ≡ values_into diagram attributes table place.block b.inputs place.element t
      values_are table t look agrees =
          ap (map look) args
          ∙ values_same look (λ port. value_into diagram attributes table place.block port place.element t) numbers b.inputs 1 size
          (λ i j at.
          let read = are i j at in
          let port : suc i ≡ 1 + i = omega arith in
          agrees j read.1.place read.0 read.1.there ∙ sym (read.1.is_source.value table t) ∙ ap (λ (port : ℕ). value_into diagram attributes table place.block port place.element t) port)

      serves_work : (stimulus : Stimulus) (table : Table) (t : ℕ) (look : ℕ → ℤ) (v : ℤ) → Agrees diagram attributes program.places k look table t
          → OpGives (operation_at program work) (looked_at program look work.first work.count) v → Equation diagram attributes stimulus table place.block place.port place.element t v
      serves_work stimulus table t look v agrees gives =
          elementwise stimulus table t v (
            op,
            is_op,
            subst₂ (λ (operation : Operation) (values : List ℤ). OpGives operation values v) same (values_are table t look agrees) gives,
          )

      module _ (prepared : CanPrepare (operation_of_block b op)) (entries : (j : ℕ) (p : Place) → slice_get program.places j ≡ Some p → IsEntry diagram attributes p) where
        input_in_range : (table : Table) (t : ℕ) (look : ℕ → ℤ) → Agrees diagram attributes program.places k look table t → EntriesAreInRange diagram attributes table (suc t)
            → (input : ℕ) → input < length (types_into diagram attributes place.block b.inputs)
            → InRange (type_of (types_into diagram attributes place.block b.inputs) input) (value_of (values_into diagram attributes table place.block b.inputs place.element t) input)
        input_in_range table t look agrees in_range input below =
            let within : input < b.inputs = subst (λ (n : ℕ). input < n) (length_mapped (type_into diagram attributes place.block) 1 b.inputs) below in
            let number = get_some numbers input (subst (λ (n : ℕ). input < n) (sym size) within) in
            let read = (are input number.0 number.1).1 in
            let port : 1 + input ≡ suc input = omega arith in
            let entry_is = entries number.0 read.place read.there in
            let type : type_of (types_into diagram attributes place.block b.inputs) input ≡ attributes.type_at read.place.block read.place.port =
            get_mapped (type_into diagram attributes place.block) (Num false 0 (pos 0)) 1 b.inputs input within ∙ ap (type_into diagram attributes place.block) port ∙ read.is_source.type in
            let value : value_of (values_into diagram attributes table place.block b.inputs place.element t) input ≡ entry table read.place t =
            get_mapped (λ port. value_into diagram attributes table place.block port place.element t) (pos 0) 1 b.inputs input within
            ∙ ap (λ (port : ℕ). value_into diagram attributes table place.block port place.element t) port ∙ read.is_source.value table t in
            subst₂ InRange (sym type) (sym value) (in_range read.place.block entry_is.0 read.place.port read.place.element t entry_is.1 (omega arith))

        carries_out : (table : Table) (t : ℕ) (look : ℕ → ℤ) → Agrees diagram attributes program.places k look table t → EntriesAreInRange diagram attributes table (suc t)
            → CanCarryOut (operation_at program work) (looked_at program look work.first work.count)
        carries_out table t look agrees in_range =
            subst₂ CanCarryOut (sym same) (sym (values_are table t look agrees)) (record {
              prepared = prepared;
              values = record {
                count = length_mapped (λ port. value_into diagram attributes table place.block port place.element t)
                    1 b.inputs ∙ sym (length_mapped (type_into diagram attributes place.block) 1 b.inputs);
                in_range = input_in_range table t look agrees in_range;
              };
            })

        pub work_rule : work.count ≤ 32 → work.first + work.count ≤ length program.args
            → work.first + work.count ≤ length program.types → work.first_sign + work.signs ≤ length program.signs
            → IsRule diagram attributes program k place (Works work)
        work_rule few args_end types_end signs_end = record {
          within = (args_end, types_end, signs_end);
          serves = λ stimulus table t look kept row v agrees keep row_is hit gives. serves_work stimulus table t look v agrees gives;
          can = λ table t look agrees in_range. (few, args_end, types_end, signs_end, carries_out table t look agrees in_range);
        }
