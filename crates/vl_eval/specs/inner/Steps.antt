-- The operations that steps stand for, of which a list apart has those that no step holds.
use Rattle.std.specs.Prelude.{◌≡◌, ℕ, ◌<◌, ◌≤◌, Bool, true, false, List, length, map, slice_index_or, ⊤}
use Rattle.vl_eval.specs.declared.ops.Op.{Op}
use Rattle.vl_eval.specs.declared.ops.Op.TheVariants.{Constant, One, Two, Beside, Choose, Next}
use Rattle.vl_eval.specs.declared.ops.OneOp.TheVariants.{Extended, Select, Negate, Invert, IsZero, Up, SignedDown}
use Rattle.vl_eval.specs.declared.ops.TwoOp.TheVariants.{Add, Subtract, Multiply, And, Or, Xor, Equal, NotEqual, Less, LessEqual, Both, Either}
use Rattle.vl_eval.specs.declared.steps.Step.{Step}
use Rattle.vl_eval.specs.declared.steps.Step.TheVariants.{Constant as ConstantStep, Extended as ExtendedStep, Select as SelectStep, Add as AddStep, Subtract as SubtractStep, Multiply as MultiplyStep, And as AndStep, Or as OrStep, Xor as XorStep, Equal as EqualStep, NotEqual as NotEqualStep, Less as LessStep, LessEqual as LessEqualStep, Both as BothStep, Either as EitherStep, Negate as NegateStep, Invert as InvertStep, IsZero as IsZeroStep, Up as UpStep, SignedDown as SignedDownStep, Choose as ChooseStep, Beside as BesideStep, Next as NextStep, Whole}

-- the operation of a step; `Whole` has its number in the list
abbrev pub op_in : List Op → Step → Op
op_in wide (ConstantStep bits) = Constant bits
op_in wide (ExtendedStep part half fill) = One (Extended half fill) part
op_in wide (SelectStep part low mask) = One (Select low mask) part
op_in wide (AddStep pair mask) = Two (Add mask) pair.left pair.right
op_in wide (SubtractStep pair mask) = Two (Subtract mask) pair.left pair.right
op_in wide (MultiplyStep pair mask) = Two (Multiply mask) pair.left pair.right
op_in wide (AndStep pair) = Two And pair.left pair.right
op_in wide (OrStep pair) = Two Or pair.left pair.right
op_in wide (XorStep pair) = Two Xor pair.left pair.right
op_in wide (EqualStep pair) = Two Equal pair.left pair.right
op_in wide (NotEqualStep pair) = Two NotEqual pair.left pair.right
op_in wide (LessStep pair half) = Two (Less half) pair.left pair.right
op_in wide (LessEqualStep pair half) = Two (LessEqual half) pair.left pair.right
op_in wide (BothStep pair) = Two Both pair.left pair.right
op_in wide (EitherStep pair) = Two Either pair.left pair.right
op_in wide (NegateStep part mask) = One (Negate mask) part
op_in wide (InvertStep part mask) = One (Invert mask) part
op_in wide (IsZeroStep part) = One IsZero part
op_in wide (UpStep part places mask) = One (Up places mask) part
op_in wide (SignedDownStep places part half mask) = One (SignedDown places half mask) part
op_in wide (ChooseStep test chosen other) = Choose test chosen other
op_in wide (BesideStep pair places) = Beside pair.left pair.right places
op_in wide (NextStep register) =
    Next (record {
      reset = register.reset;
      first = register.first;
      test = register.test;
      value = register.value;
      kept = register.kept;
    })
op_in wide (Whole number) = slice_index_or wide number (Constant 0)

-- the number of a step is one of so many
abbrev pub IsWithin : ℕ → Step → Type 0
IsWithin count (Whole number) = number < count
IsWithin count _ = ⊤

pub record AreWithin (count : ℕ) (steps : List Step) : Type 0 where
  pub at : (k : ℕ) (d : Step) → k < length steps → IsWithin count (slice_index_or steps k d)

-- the operations of steps in order
abbrev pub ops_of : List Op → List Step → List Op
ops_of wide steps = map (op_in wide) steps

abbrev pub is_constant : Op → Bool
is_constant (Constant bits) = true
is_constant _ = false

-- the first so many operations are constants
pub record AreConstants (count : ℕ) (ops : List Op) : Type 0 where
  pub few : count ≤ length ops
  pub at : (k : ℕ) (d : Op) → k < count → is_constant (slice_index_or ops k d) ≡ true
