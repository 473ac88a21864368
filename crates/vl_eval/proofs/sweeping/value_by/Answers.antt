use Rattle.std.proofs.Common.{◌+◌, ◌-◌, ◌*◌, ◌%◌, ◌^◌, ◌==◌, bit_and, bit_or, bit_xor, if◌then◌else◌, ℕ, List, length, slice_index, sym, ap, subst, ◌∙◌}
use Rattle.vl_eval.specs.declared.ops.Op.{Op}
use Rattle.vl_eval.specs.declared.steps.Step.{Step}
use Rattle.vl_eval.specs.inner.Ops.{op_value, reads_below}
use Rattle.vl_eval.specs.inner.Steps.{IsWithin, op_in}
use Rattle.vl_eval.proofs.sweeping.value_by.Goals as goal

-- what a step gives
abbrev gives : List Op → List ℕ → Step → ℕ
gives wide values step = op_value (op_in wide step) (λ k. slice_index values k)

-- that it reads what stands there
abbrev reads : List Op → List ℕ → Step → Type 0
reads wide values step = reads_below (op_in wide step) (length values)

pub returns-in-Beside : goal.returns-in-Beside
returns-in-Beside c = (λ i. ((c.words-left-in-Beside.ensures.left i) * 2 ^ c.in-Beside.places % 2 ^ 128
    + c.words-left-in-Beside.ensures.right i) % 2 ^ 128)
    ∙ ap (gives c.args.wide.now c.args.values.now) (sym c.in-Beside.is)

pub signed_down-requires : goal.signed_down-requires
signed_down-requires c = (subst (reads c.args.wide.now c.args.values.now) c.in-SignedDown.is c.requires.reads).1

pub overflow_shr-result : goal.overflow_shr-result
overflow_shr-result c = (subst (reads c.args.wide.now c.args.values.now) c.in-Select.is c.requires.reads).1

pub overflow_shl-result : goal.overflow_shl-result
overflow_shl-result c = (subst (reads c.args.wide.now c.args.values.now) c.in-Up.is c.requires.reads).1

pub overflow_shl-result-in-Beside : goal.overflow_shl-result-in-Beside
overflow_shl-result-in-Beside c = (subst (reads c.args.wide.now c.args.values.now) c.in-Beside.is c.requires.reads).2

pub chosen_word-requires : goal.chosen_word-requires
chosen_word-requires c = subst (reads c.args.wide.now c.args.values.now) c.in-Choose.is c.requires.reads

pub bounds-values-register : goal.bounds-values-register
bounds-values-register c = (subst (reads c.args.wide.now c.args.values.now) c.in-Next.is c.requires.reads).0

pub chosen_word-requires-else-values-register-eq1 : goal.chosen_word-requires-else-values-register-eq1
chosen_word-requires-else-values-register-eq1 c = let below = subst (reads c.args.wide.now c.args.values.now) c.in-Next.is c.requires.reads in (below.1, below.2, below.3)

pub returns-then-values-register-eq1 : goal.returns-then-values-register-eq1
returns-then-values-register-eq1 c = sym
    (ap (λ (n : ℕ). if n == 1 then c.in-Next.register.first else
    (if slice_index c.args.values.now c.in-Next.register.test == 0 then slice_index c.args.values.now
    c.in-Next.register.kept else slice_index c.args.values.now c.in-Next.register.value))
    c.if-values-register-eq1.true) ∙ ap (gives c.args.wide.now c.args.values.now) (sym c.in-Next.is)

pub bounds-wide-number : goal.bounds-wide-number
bounds-wide-number c = subst (IsWithin (length c.args.wide.now)) c.in-Whole.is c.requires.within

pub value_of-requires : goal.value_of-requires
value_of-requires c = subst (reads c.args.wide.now c.args.values.now) c.in-Whole.is c.requires.reads

pub returns-in-Add : goal.returns-in-Add
returns-in-Add c = c.sum.ensures ∙ (λ i. bit_and
    (((c.words-left.ensures.left i) + (c.words-left.ensures.right i)) % 2 ^ 128) c.in-Add.mask)
    ∙ ap (gives c.args.wide.now c.args.values.now) (sym c.in-Add.is)

pub returns-in-Subtract : goal.returns-in-Subtract
returns-in-Subtract c = c.difference.ensures
    ∙ (λ i. bit_and (((c.words-left-in-Subtract.ensures.left i)
    + (2 ^ 128 - (c.words-left-in-Subtract.ensures.right i))) % 2 ^ 128) c.in-Subtract.mask)
    ∙ ap (gives c.args.wide.now c.args.values.now) (sym c.in-Subtract.is)

pub returns-in-Multiply : goal.returns-in-Multiply
returns-in-Multiply c = c.product.ensures
    ∙ (λ i. bit_and ((c.words-left-in-Multiply.ensures.left i)
    * (c.words-left-in-Multiply.ensures.right i) % 2 ^ 128) c.in-Multiply.mask)
    ∙ ap (gives c.args.wide.now c.args.values.now) (sym c.in-Multiply.is)

pub returns-in-And : goal.returns-in-And
returns-in-And c = (λ i. bit_and (c.words-left-in-And.ensures.left i) (c.words-left-in-And.ensures.right i)) ∙ ap (gives c.args.wide.now c.args.values.now) (sym c.in-And.is)

pub returns-in-Or : goal.returns-in-Or
returns-in-Or c = (λ i. bit_or (c.words-left-in-Or.ensures.left i) (c.words-left-in-Or.ensures.right i)) ∙ ap (gives c.args.wide.now c.args.values.now) (sym c.in-Or.is)

pub returns-in-Xor : goal.returns-in-Xor
returns-in-Xor c = (λ i. bit_xor (c.words-left-in-Xor.ensures.left i) (c.words-left-in-Xor.ensures.right i)) ∙ ap (gives c.args.wide.now c.args.values.now) (sym c.in-Xor.is)

pub returns-in-Constant : goal.returns-in-Constant
returns-in-Constant c = ap (gives c.args.wide.now c.args.values.now) (sym c.in-Constant.is)

pub returns-in-Extended : goal.returns-in-Extended
returns-in-Extended c = c.sign_extension.ensures ∙ ap (gives c.args.wide.now c.args.values.now) (sym c.in-Extended.is)

pub returns-in-Select : goal.returns-in-Select
returns-in-Select c = ap (gives c.args.wide.now c.args.values.now) (sym c.in-Select.is)

pub returns-in-Negate : goal.returns-in-Negate
returns-in-Negate c = ap (gives c.args.wide.now c.args.values.now) (sym c.in-Negate.is)

pub returns-in-Invert : goal.returns-in-Invert
returns-in-Invert c = ap (gives c.args.wide.now c.args.values.now) (sym c.in-Invert.is)

pub returns-in-Up : goal.returns-in-Up
returns-in-Up c = ap (gives c.args.wide.now c.args.values.now) (sym c.in-Up.is)

pub returns-in-SignedDown : goal.returns-in-SignedDown
returns-in-SignedDown c = c.signed_down.ensures ∙ ap (gives c.args.wide.now c.args.values.now) (sym c.in-SignedDown.is)

pub returns-in-Choose : goal.returns-in-Choose
returns-in-Choose c = c.chosen_word.ensures ∙ ap (gives c.args.wide.now c.args.values.now) (sym c.in-Choose.is)

pub bounds-values-part : goal.bounds-values-part
bounds-values-part c = (subst (reads c.args.wide.now c.args.values.now) c.in-Extended.is c.requires.reads).0

pub bounds-values-part-in-Invert : goal.bounds-values-part-in-Invert
bounds-values-part-in-Invert c = (subst (reads c.args.wide.now c.args.values.now) c.in-Invert.is c.requires.reads).0

pub bounds-values-part-in-IsZero : goal.bounds-values-part-in-IsZero
bounds-values-part-in-IsZero c = (subst (reads c.args.wide.now c.args.values.now) c.in-IsZero.is c.requires.reads).0

pub bounds-values-part-in-Negate : goal.bounds-values-part-in-Negate
bounds-values-part-in-Negate c = (subst (reads c.args.wide.now c.args.values.now) c.in-Negate.is c.requires.reads).0

pub bounds-values-part-in-Select : goal.bounds-values-part-in-Select
bounds-values-part-in-Select c = (subst (reads c.args.wide.now c.args.values.now) c.in-Select.is c.requires.reads).0

pub bounds-values-part-in-SignedDown : goal.bounds-values-part-in-SignedDown
bounds-values-part-in-SignedDown c = (subst (reads c.args.wide.now c.args.values.now) c.in-SignedDown.is c.requires.reads).0

pub bounds-values-part-in-Up : goal.bounds-values-part-in-Up
bounds-values-part-in-Up c = (subst (reads c.args.wide.now c.args.values.now) c.in-Up.is c.requires.reads).0
