-- What a plan gives of its arguments.
use Rattle.std.proofs.Common.{◌≡◌, ℕ, ◌+◌, ◌<◌, ◌≤◌, inl, inr, Bool, true, false, List, [], ◌∷◌, ◌++◌, length, slice_get, None, Option, Some, ℤ, pos, negsuc, ◌+ℤ◌, ◌≤ℤ◌, to_z, of_z, FitsSigned, All}
use Rattle.std.proofs.Common.{sym, ap, ◌∙◌, subst, arith, refl}
use Rattle.std.specs.Prelude.{MatchBool}
use Rattle.std.specs.Int.{w16}
use Rattle.std.proofs.lemmas.Int.{ints}
use Rattle.std.proofs.lemmas.Bool.{cases_lt}
use Rattle.fx_type.specs.declared.kind.FxType.{FxType}
use Rattle.fx_type.specs.declared.kind.FxType.TheVariants.{Num, Logical}
use Rattle.fx_type.specs.FxType.{IsType, InRange, frac_of}
use Rattle.dg_model.specs.declared.op.Op.{Op}
use Rattle.dg_model.specs.declared.op.Op.TheVariants.{Sum, Gain, Product, Switch, Relational, Logic, Convert, Pass}
use Rattle.dg_model.specs.declared.kind.Gate.{Gate}
use Rattle.dg_model.specs.declared.kind.Gate.TheVariants.{And, Or, Nand, Nor, Xor, Nxor, Not}
use Rattle.hw_net.specs.declared.netlist.NetOp.TheVariants.{Input}
use Rattle.dg_model.specs.Operation.{Operation, HasArity, Gives, IsConverted, without_frac, type_of}
use Rattle.hw_lower.specs.declared.plan.Step.{Step}
use Rattle.hw_lower.specs.declared.plan.Operand.{Operand}
use Rattle.hw_lower.specs.declared.plan.Plan.{Plan}
use Rattle.hw_lower.specs.Lowered.{multiply_of}
use Rattle.hw_lower.specs.inner.PlanSteps.{Numbers, IsMade, IsPut, IsSwitched, word_of, step_of}
use Rattle.hw_lower.specs.inner.Spread.{AreArguments, AreInputs, BeginsWith, HasArguments, OfArguments, IsPlanned, IsScaled}
use Rattle.math_list.proofs.Places.{last_at}
use Rattle.hw_lower.proofs.PlanSteps.{one-longer, still-at}
use Rattle.hw_lower.proofs.Multiplies.{made-plain}
use Rattle.fx_type.proofs.Ranges.{type-word}

-- the range of an argument
pub range-at : (types : List FxType) (numbers : Numbers) (values : List ℤ) (k : ℕ) → AreArguments types numbers values → k < length types → InRange (type_of types k) (numbers k)
range-at types numbers values k are inside = subst (InRange (type_of types k)) (sym (are.each k inside)) (are.in_range.in_range k inside)

-- a sum of two fracs, as 16 bits have it
pub frac_sum : (f g h : ℤ) → FitsSigned w16 f → FitsSigned w16 g → h ≡ f +ℤ g → negsuc 63 ≤ℤ h → h ≤ℤ pos 128 → to_z w16 (of_z w16 (to_z w16 (of_z w16 f) +ℤ to_z w16 (of_z w16 g))) ≡ h
frac_sum f g h fits_f fits_g e low high = omega (arith, ints)

-- a choice between two numbers, of each of which a fact holds
match-switched : (b : Bool) (A B : ℤ → Type 0) (first other r : ℤ) → A first → B other → IsSwitched b first other r → MatchBool b (A r) (B r)
match-switched true A B first other r p q is = subst A (sym (is.holds refl)) p
match-switched false A B first other r p q is = subst B (sym (is.fails refl)) q

pub switch-is : (operation : Operation) (test : ℤ → Bool) (a b : FxType) (x y z u v w first other r : ℤ) → x ≡ u
    → y ≡ v → z ≡ w → IsConverted operation x a first → IsConverted operation z b other
    → IsSwitched (test y) first other r
    → MatchBool (test v) (IsConverted operation u a r) (IsConverted operation w b r)
switch-is operation test a b x y z u v w first other r e f g p q is =
    match-switched (test v) (IsConverted operation u a) (IsConverted operation w b) first other r
    (subst (λ (n : ℤ). IsConverted operation n a first) e p) (subst (λ (n : ℤ). IsConverted operation n b other) g q) (subst (λ (n : ℤ). IsSwitched (test n) first other r) f is)

pub scaled-at : (operation : Operation) (a b : FxType) (x y u v r : ℤ) → x ≡ u → y ≡ v → IsScaled operation a b x y r → IsScaled operation a b u v r
scaled-at operation a b x y u v r e f is = subst (λ (n : ℤ). IsScaled operation a b u n r) f (subst (λ (n : ℤ). IsScaled operation a b n y r) e is)

pub without-type : (type : FxType) → IsType type → IsType (without_frac type)
without-type Logical valid = tt
without-type (Num signed width frac) valid = (valid.0, omega (arith, ints), omega (arith, ints))

pub without-word : (type : FxType) → word_of (without_frac type) ≡ word_of type
without-word Logical = refl
without-word (Num signed width frac) = refl

pub without-none : (type : FxType) → frac_of (without_frac type) ≡ pos 0
without-none Logical = refl
without-none (Num signed width frac) = refl

-- the plan of an operation that is known
abbrev pub PlansOp : Plan → Plan → Operation → Op → Operand → Type 0
PlansOp old new operation op made =
    IsPlanned old new (multiply_of op) (word_of operation.result) (λ numbers. OfArguments operation.types numbers (λ values. Gives op operation operation.types values (numbers made.place))) made

pub plan-of : {old new : Plan} {made : Operand} (operation : Operation) (op : Op) → operation.op ≡ op → PlansOp old new operation op made → PlansOp old new operation operation.op made
plan-of {old} {new} {made} operation op e is = subst (λ (o : Op). PlansOp old new operation o made) (sym e) is

-- a plan that begins with inputs has the arguments
pub inputs-there : (plan : Plan) (types : List FxType) → BeginsWith plan types (length types) → All IsType types → HasArguments plan types
inputs-there plan types begins valid = record {
  each = λ input inside. record {
    valid = type-word (type_of types input) (valid input (Num false 0 (pos 0)) inside);
    there = λ enough. record { step = step_of (Input input) 0 0 0 (word_of (type_of types input)); is = (begins.are enough).each input inside; word = refl };
  };
}

-- no operation has more than 32 inputs
pub few-inputs : (op : Op) (n : ℕ) → HasArity op n → n ≤ 32
few-inputs (Sum accum) n has = has.1
few-inputs (Gain coefficient param) n has = omega (arith, has)
few-inputs Product n has = omega (arith, has)
few-inputs (Switch criterion threshold) n has = omega (arith, has)
few-inputs (Relational operator) n has = omega (arith, has)
few-inputs (Logic And) n has = has.1
few-inputs (Logic Or) n has = has.1
few-inputs (Logic Nand) n has = has.1
few-inputs (Logic Nor) n has = has.1
few-inputs (Logic Xor) n has = has.1
few-inputs (Logic Nxor) n has = has.1
few-inputs (Logic Not) n has = omega (arith, has)
few-inputs (Convert stored) n has = omega (arith, has)
few-inputs Pass n has = omega (arith, has)

-- and each has one
pub gate-inputs : (gate : Gate) (n : ℕ) → HasArity (Logic gate) n → 1 ≤ n
gate-inputs And n has = omega (arith, has.0)
gate-inputs Or n has = omega (arith, has.0)
gate-inputs Nand n has = omega (arith, has.0)
gate-inputs Nor n has = omega (arith, has.0)
gate-inputs Xor n has = omega (arith, has.0)
gate-inputs Nxor n has = omega (arith, has.0)
gate-inputs Not n has = omega (arith, has)

-- one input more
input-more : (old new : List Step) (types : List FxType) (k : ℕ) → AreInputs old types k → new ≡ old ++ step_of (Input k) 0 0 0 (word_of (type_of types k)) ∷ [] → AreInputs new types (k + 1)
input-more old new types k are is = record {
  size = one-longer old new (step_of (Input k) 0 0 0 (word_of (type_of types k))) is ∙ omega (arith, are.size);
  each = λ input inside.
      elim (cases_lt input k) [
        | inl less ↦ still-at old (step_of (Input k) 0 0 0 (word_of (type_of types k)) ∷ []) new input (step_of (Input input) 0 0 0 (word_of (type_of types input))) is (are.each input less)
        | inr more ↦
            let last : input ≡ length old = omega (arith, are.size) in
            let same : k ≡ input = omega arith in
            ap (slice_get new) last ∙ ap (λ (xs : List Step). slice_get xs (length old)) is ∙ last_at old (step_of (Input k) 0 0 0 (word_of (type_of types k)))
            ∙ ap (λ (i : ℕ). Some (step_of (Input i) 0 0 0 (word_of (type_of types i)))) same
      ];
}

pub inputs-more : (old new : Plan) (types : List FxType) (k : ℕ) (made : Operand) → BeginsWith old types k
    → IsPut old new (step_of (Input k) 0 0 0 (word_of (type_of types k))) made → BeginsWith new types (k + 1)
inputs-more old new types k made begins put = record {
  are = λ enough. let p = put.put enough in input-more old.steps new.steps types k (begins.are p.0) p.1.is;
}

-- the same where the result has a type that is known
pub plan-typed : {old new : Plan} {made : Operand} (operation : Operation) (op : Op) (type : FxType) → operation.op ≡ op → operation.result ≡ type
    → IsPlanned old new (multiply_of op) (word_of type) (λ numbers. OfArguments operation.types numbers (λ values. Gives op operation operation.types values (numbers made.place))) made
    → PlansOp old new operation operation.op made
plan-typed {old} {new} {made} operation op type e f is =
    plan-of operation op e
    (subst (λ (t : FxType). IsPlanned old new (multiply_of op) (word_of t)
    (λ numbers. OfArguments operation.types numbers
    (λ values. Gives op operation operation.types values (numbers made.place))) made) (sym f) is)

-- what an operation gives of its arguments is the number of a step
abbrev pub GivenBy : Operation → Op → Operand → Numbers → Type 0
GivenBy operation op made numbers = OfArguments operation.types numbers (λ values. Gives op operation operation.types values (numbers made.place))

-- the same of a plan with no Multiply
pub plan-plain : {old new : Plan} {made : Operand} (operation : Operation) (op : Op) (type : FxType)
    → operation.op ≡ op → operation.result ≡ type → multiply_of op ≡ None
    → IsMade old new (word_of type) (GivenBy operation op made) made
    → PlansOp old new operation operation.op made
plan-plain {old} {new} {made} operation op type e f none is =
    plan-typed operation op type e f
    (subst (λ (m : Option ℕ). IsPlanned old new m (word_of type) (GivenBy operation op made) made) (sym none) (made-plain (GivenBy operation op made) is (λ numbers p. p)))
