-- An operation gives exactly one number, since a conversion does.
use Rattle.std.proofs.Common.{◌≡◌, Bool, true, false, ℤ, pos, ◌*ℤ◌, ◌≤ℤ◌, MatchBool, All, Any, List, [], ◌∷◌, suc, length, zip, Some, None, ap, sym, ◌∙◌, refl, subst, arith}
use Rattle.std.proofs.lemmas.Int.{ints}
use Rattle.fx_type.specs.declared.kind.FxType.{FxType}
use Rattle.fx_type.specs.declared.kind.FxType.TheVariants.{Num, Logical}
use Rattle.fx_type.specs.declared.rounding.Rounding.{Rounding}
use Rattle.fx_type.specs.FxType.{IsType, InRange, frac_of}
use Rattle.fx_type.specs.FullType.{Terms, IsFullSum}
use Rattle.fx_type.specs.Conversion.{IsTruthOf, Converts}
use Rattle.fx_round.specs.Laws.{ConversionGivesOne}
use Rattle.dg_model.specs.declared.op.Op.{Op}
use Rattle.dg_model.specs.declared.op.Op.TheVariants.{Sum, Gain, Product, Switch, Relational, Logic, Convert, Pass}
use Rattle.dg_model.specs.Operation.{Operation, OpGives, Gives, IsConverted, IsExactSum, IsAddedUp, step_of, HasArity, HasResultType, HasParameters, HasFullType, CanCarryOut, signed_sum, meets}
use Rattle.dg_model.specs.Operation.{value_of, type_of, without_frac, stored_truth, compares_values, gate_of}
use Rattle.dg_blocks.specs.Laws.{AddsUpInType, OperationGivesAtMostOne, OperationGivesOne}
use Rattle.fx_type.proofs.FullTypes.{greatest_only}

-- only the frac of the source counts
same_frac : (v w : ℤ) (from other to : FxType) (mode : Rounding) (saturate : Bool) (r : ℤ) → v ≡ w
    → frac_of from ≡ frac_of other → Converts v from to mode saturate r → Converts w other to mode saturate r
same_frac v w from other Logical mode saturate r e f p = subst (λ (z : ℤ). IsTruthOf z r) e p
same_frac v w from other (Num s n g) mode saturate r e f p = rw (← e, ← f) p

reached_at_most : (terms : Terms) (f g : ℤ) → Any (λ term. frac_of term.1 ≡ f) terms → All (λ term. frac_of term.1 ≤ℤ g) terms → f ≤ℤ g
reached_at_most terms f g a b =
    let h : frac_of (a.1).1 ≤ℤ g = subst (λ (x : Bool × FxType). frac_of x.1 ≤ℤ g) a.3 (b a.0 a.1 a.2) in
    subst (λ (z : ℤ). z ≤ℤ g) a.4 h

without_valid : (type : FxType) → IsType type → IsType (without_frac type)
without_valid Logical t = tt
without_valid (Num s w f) t = (t.0, omega (arith, ints), omega (arith, ints))

pub truth_range : (truth : Bool) → InRange Logical (stored_truth truth)
truth_range true = record { low = omega (arith, ints); high = omega (arith, ints) }
truth_range false = record { low = omega (arith, ints); high = omega (arith, ints) }

without_range : (type : FxType) (v : ℤ) → InRange (without_frac type) v → InRange type v
without_range Logical v i = i
without_range (Num s w f) v i = record { low = i.low; high = i.high }

module _ (conversion : ConversionGivesOne) where
  converts_one : (v : ℤ) (from to : FxType) (mode : Rounding) (saturate : Bool) (a b : ℤ) → IsType to → Converts v from to mode saturate a → Converts v from to mode saturate b → a ≡ b
  converts_one v from to mode saturate a b t p q = let one = conversion v from to mode saturate t in one.only a p ∙ sym (one.only b q)

  converts_some : (v : ℤ) (from to : FxType) (mode : Rounding) (saturate : Bool) → IsType to → (r : ℤ) × Converts v from to mode saturate r × InRange to r
  converts_some v from to mode saturate t = let one = conversion v from to mode saturate t in (one.number, one.given, one.in_range)

  -- exact sums are one, and so is what an accumulator has in the end
  sum_one : (operation : Operation) (types : List FxType) (inputs : List ℤ) (r s : ℤ) → IsType operation.result → IsExactSum operation types inputs r → IsExactSum operation types inputs s → r ≡ s
  sum_one operation types inputs r s t a b =
      let terms = zip operation.signs types in
      let e : frac_of b.0 ≡ frac_of a.0 = greatest_only terms (frac_of b.0) (frac_of a.0) b.1.frac a.1.frac in
      converts_one (signed_sum (frac_of a.0) terms inputs) a.0 operation.result operation.rounding operation.saturate r s t a.2
      (same_frac (signed_sum (frac_of b.0) terms inputs)
      (signed_sum (frac_of a.0) terms inputs) b.0 a.0 operation.result operation.rounding operation.saturate s
      (ap (λ (f : ℤ). signed_sum f terms inputs) e) e b.2)

  added_one : (operation : Operation) (accum : FxType) (terms : Terms) (inputs : List ℤ) (before r s : ℤ)
      → IsType accum → IsAddedUp operation accum terms inputs before r
      → IsAddedUp operation accum terms inputs before s → r ≡ s
  added_one operation accum [] inputs before r s t a b = a ∙ sym b
  added_one operation accum (term ∷ terms) [] before r s t a b = a ∙ sym b
  added_one operation accum (term ∷ terms) (v ∷ inputs) before r s t a b =
      let e : b.0 ≡ a.0 = sum_one (step_of operation accum term) (accum ∷ term.1 ∷ []) (before ∷ v ∷ []) b.0 a.0 t b.1 a.1 in
      added_one operation accum terms inputs a.0 r s t a.2 (subst (λ (x : ℤ). IsAddedUp operation accum terms inputs x s) e b.2)

  -- and there is one where each step has a full sum
  added_some : (operation : Operation) (accum : FxType) (terms : Terms) (inputs : List ℤ) (before : ℤ)
      → IsType accum
      → All (λ (term : Bool × FxType). (full : FxType) × IsFullSum ((false, accum) ∷ term ∷ []) full) terms
      → (last : ℤ) × IsAddedUp operation accum terms inputs before last
  added_some operation accum [] inputs before t full = (before, refl)
  added_some operation accum (term ∷ terms) [] before t full = (before, refl)
  added_some operation accum (term ∷ terms) (v ∷ inputs) before t full =
      let here = full 0 term (omega arith) in
      let one = converts_some (signed_sum (frac_of here.0) ((false, accum) ∷ term ∷ []) (before ∷ v ∷ [])) here.0 accum operation.rounding operation.saturate t in
      let rest = added_some operation accum terms inputs one.0 t (λ k d inside. full (suc k) d (omega (arith, inside))) in
      (rest.0, (one.0, (here.0, here.1, one.1), rest.1))

  pub at_most_one : OperationGivesAtMostOne
  at_most_one operation inputs r s t adds p q = by_op operation.op adds p q
    where
      conv : (v : ℤ) (from : FxType) → IsConverted operation v from r → IsConverted operation v from s → r ≡ s
      conv v from a b = converts_one v from operation.result operation.rounding operation.saturate r s t a b

      by_op : (op : Op) → AddsUpInType op → Gives op operation operation.types inputs r → Gives op operation operation.types inputs s → r ≡ s
      by_op (Sum None) adds a b = sum_one operation operation.types inputs r s t a b
      by_op (Sum (Some accum)) adds a b =
          let e : b.0 ≡ a.0 = added_one operation accum (zip operation.signs operation.types) inputs (pos 0) b.0 a.0 (adds accum refl) b.1 a.1 in
          conv a.0 accum a.2 (subst (λ (x : ℤ). IsConverted operation x accum s) e b.2)
      by_op (Gain coefficient param) adds a b =
          conv (value_of inputs 0 *ℤ coefficient) a.0 a.2
          (same_frac (value_of inputs 0 *ℤ coefficient)
          (value_of inputs 0 *ℤ coefficient) b.0 a.0 operation.result operation.rounding operation.saturate
          s refl (b.1.frac ∙ sym a.1.frac) b.2)
      by_op Product adds a b =
          conv (value_of inputs 0 *ℤ value_of inputs 1) a.0 a.2
          (same_frac (value_of inputs 0 *ℤ value_of inputs 1)
          (value_of inputs 0 *ℤ value_of inputs 1) b.0 a.0 operation.result operation.rounding
          operation.saturate s refl (b.1.frac ∙ sym a.1.frac) b.2)
      by_op (Switch criterion threshold) adds a b = by_test (meets criterion threshold (value_of inputs 1)) a b
        where
          by_test : (test : Bool) → MatchBool test (IsConverted operation (value_of inputs 0) (type_of operation.types 0) r) (IsConverted operation (value_of inputs 2) (type_of operation.types 2) r)
              → MatchBool test (IsConverted operation (value_of inputs 0) (type_of operation.types 0) s) (IsConverted operation (value_of inputs 2) (type_of operation.types 2) s) → r ≡ s
          by_test true a b = conv (value_of inputs 0) (type_of operation.types 0) a b
          by_test false a b = conv (value_of inputs 2) (type_of operation.types 2) a b
      by_op (Relational operator) adds a b = a ∙ sym b
      by_op (Logic gate) adds a b = a ∙ sym b
      by_op (Convert false) adds a b = conv (value_of inputs 0) (type_of operation.types 0) a b
      by_op (Convert true) adds a b = converts_one (value_of inputs 0) (without_frac (type_of operation.types 0))
          (without_frac operation.result) operation.rounding operation.saturate r s
          (without_valid operation.result t) a b
      by_op Pass adds a b = a ∙ sym b

  some_number : (operation : Operation) (values : List ℤ) → CanCarryOut operation values → (r : ℤ) × OpGives operation values r × InRange operation.result r
  some_number operation values can = by_op operation.op can.prepared.arity can.prepared.parameters can.prepared.result_type can.prepared.full_type
    where
      conv : (v : ℤ) (from : FxType) → (r : ℤ) × IsConverted operation v from r × InRange operation.result r
      conv v from = converts_some v from operation.result operation.rounding operation.saturate can.prepared.result

      by_op : (op : Op) → HasArity op (length operation.types) → HasParameters op operation.types
          → HasResultType op operation.types operation.result → HasFullType op operation.signs operation.types
          → (r : ℤ) × Gives op operation operation.types values r × InRange operation.result r
      by_op (Sum None) arity has result full = let r = conv (signed_sum (frac_of full.0) (zip operation.signs operation.types) values) full.0 in (r.0, (full.0, full.1, r.1), r.2)
      by_op (Sum (Some accum)) arity has result full =
          let last = added_some operation accum (zip operation.signs operation.types) values (pos 0) has full in
          let r = conv last.0 accum in
          (r.0, (last.0, last.1, r.1), r.2)
      by_op (Gain coefficient param) arity has result full = let r = conv (value_of values 0 *ℤ coefficient) full.0 in (r.0, (full.0, full.1, r.1), r.2)
      by_op Product arity has result full = let r = conv (value_of values 0 *ℤ value_of values 1) full.0 in (r.0, (full.0, full.1, r.1), r.2)
      by_op (Switch criterion threshold) arity has result full = go (meets criterion threshold (value_of values 1))
        where
          go : (test : Bool) → (r : ℤ) × MatchBool test
              (IsConverted operation (value_of values 0) (type_of operation.types 0) r)
              (IsConverted operation (value_of values 2) (type_of operation.types 2) r)
              × InRange operation.result r
          go true = conv (value_of values 0) (type_of operation.types 0)
          go false = conv (value_of values 2) (type_of operation.types 2)
      by_op (Relational operator) arity has result full =
          let r = compares_values operator (type_of operation.types 0) (type_of operation.types 1) (value_of values 0) (value_of values 1) in
          (stored_truth r, refl, subst (λ (type : FxType). InRange type (stored_truth r)) (sym result) (truth_range r))
      by_op (Logic gate) arity has result full = (
        stored_truth (gate_of gate values),
        refl,
        subst (λ (type : FxType). InRange type (stored_truth (gate_of gate values))) (sym result)
            (truth_range (gate_of gate values)),
      )
      by_op (Convert false) arity has result full = conv (value_of values 0) (type_of operation.types 0)
      by_op (Convert true) arity has result full =
          let r = converts_some (value_of values 0) (without_frac (type_of operation.types 0))
          (without_frac operation.result) operation.rounding operation.saturate
          (without_valid operation.result can.prepared.result) in
          (r.0, r.1, without_range operation.result r.0 r.2)
      by_op Pass arity has result full = (value_of values 0, refl, subst (λ (type : FxType). InRange type (value_of values 0)) (sym result) (can.values.in_range 0 (omega (arith, arity))))

  pub exactly_one : OperationGivesOne
  exactly_one operation inputs can =
      let r = some_number operation inputs can in
      record {
        number = r.0;
        given = r.1;
        in_range = r.2;
        only =
            λ other p. at_most_one operation inputs other r.0 can.prepared.result
            (λ accum e. subst (λ (op : Op). HasParameters op operation.types) e can.prepared.parameters) p r.1;
      }
