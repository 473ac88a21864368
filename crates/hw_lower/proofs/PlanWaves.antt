-- What the nets of a plan show.
use Rattle.std.proofs.Common.{◌≡◌, ℕ, zero, suc, ◌+◌, ◌-◌, ◌^◌, ◌<◌, ◌≤◌, ◌⊎◌, inl, inr, Contains, Bool, None, false, List, [], ◌∷◌, take, map, length}
use Rattle.std.proofs.Common.{slice_get, slice_index_or, Option, Some, ℤ, pos, ap, sym}
use Rattle.std.proofs.Common.{◌∙◌, subst, arith, refl, length-append}
use Rattle.std.proofs.lemmas.Bool.{cases_lt}
use Rattle.std.proofs.lemmas.Option.{none-some, same_Some, slice_get_within, slice_get-get_or}
use Rattle.math_num.specs.Word.{IsWrapped}
use Rattle.math_num.proofs.Arithmetic.{IsCongruent-refl}
use Rattle.fx_type.specs.declared.kind.FxType.{FxType}
use Rattle.fx_type.specs.declared.kind.FxType.TheVariants.{Num}
use Rattle.fx_type.specs.FxType.{InRange, is_signed, width_of}
use Rattle.dg_model.specs.Operation.{Operation, AreInRange, OpGives, type_of, value_of}
use Rattle.hw_net.specs.declared.netlist.Net.{Net}
use Rattle.hw_net.specs.declared.netlist.NetKind.TheVariants.{Comb}
use Rattle.hw_net.specs.declared.netlist.NetOp.{NetOp}
use Rattle.hw_net.specs.declared.netlist.NetOp.TheVariants.{Input, Const, Resize, ShiftUp, ShiftDown, Add, Subtract, Negate, Multiply, And, Or, Xor, Not, Less, Equal, Choose, Slice}
use Rattle.hw_net.specs.Circuit.{Circuit}
use Rattle.hw_net.specs.Operation.{arity, given_by}
use Rattle.hw_net.specs.Netlist.{HasWord}
use Rattle.hw_net.specs.NetRows.{Inputs, Rows, NetShows, NetRows, operands_at}
use Rattle.hw_net.specs.Growing.{InRows, Keeps}
use Rattle.hw_lower.specs.declared.plan.Word.{Word}
use Rattle.hw_lower.specs.declared.plan.Step.{Step}
use Rattle.hw_lower.specs.declared.plan.Operand.{Operand}
use Rattle.hw_lower.specs.Lowered.{AreArgs, GivesOfTotals, IsLowered, IsTotalled, IsComb, Lowers, multiply_of, values_at}
use Rattle.hw_lower.specs.inner.PlanSteps.{Numbers, Obeys, IsStep, Give, operands_of, reads_of, step_of, word_of}
use Rattle.hw_lower.specs.inner.Spread.{AreInputs, AreArguments, OfArguments, IsInner, Spreads}
use Rattle.hw_lower.specs.inner.PlanNets.{number_of, net_of, AreNets, CanPut}
use Rattle.hw_lower.proofs.PlanSteps.{stood-at}
use Rattle.fx_type.proofs.Ranges.{range-word}
use Rattle.hw_lower.proofs.PlanNets.{no-input, number-given, number-later, word-at}

-- a step and its net are given the same
given-same : (op : NetOp) (inputs other row : ℕ → ℤ) (f : ℕ → ℕ) (a b c : ℕ) → IsInner op
    → given_by op inputs (operands_at row (map f (take (arity op) (a ∷ b ∷ c ∷ [])))) ≡ given_by op other (record { first = row (f a); second = row (f b); third = row (f c) })
given-same (Input number) inputs other row f a b c inner = absurd (no-input number inner)
given-same (Const value) inputs other row f a b c inner = refl
given-same Resize inputs other row f a b c inner = refl
given-same (ShiftUp places) inputs other row f a b c inner = refl
given-same (ShiftDown places) inputs other row f a b c inner = refl
given-same Add inputs other row f a b c inner = refl
given-same Subtract inputs other row f a b c inner = refl
given-same Negate inputs other row f a b c inner = refl
given-same Multiply inputs other row f a b c inner = refl
given-same And inputs other row f a b c inner = refl
given-same Or inputs other row f a b c inner = refl
given-same Xor inputs other row f a b c inner = refl
given-same Not inputs other row f a b c inner = refl
given-same Less inputs other row f a b c inner = refl
given-same Equal inputs other row f a b c inner = refl
given-same Choose inputs other row f a b c inner = refl
given-same (Slice high low) inputs other row f a b c inner = refl

-- the plan's first steps are the arguments, and its nets are behind the others
pub record IsPutDown (before after : Circuit) (types : List FxType) (args : List ℕ) (start steps : List Step) (multiply : Option ℕ) : Type 0 where
  pub are_args : AreArgs before types args
  pub inputs : AreInputs start types (length types)
  pub spreads : Spreads start steps multiply
  pub nets : AreNets before after args steps (length steps)

input-at : (types : List FxType) (start steps : List Step) (multiply : Option ℕ) → AreInputs start types (length types) → Spreads start steps multiply
    → (k : ℕ) (step : Step) → k < length types → slice_get steps k ≡ Some step → step_of (Input k) 0 0 0 (word_of (type_of types k)) ≡ step
input-at types start steps multiply inputs spreads k step inside there =
    same_Some (step_of (Input k) 0 0 0 (word_of (type_of types k))) step
    (sym (inputs.each k inside) ∙ stood-at start spreads.adds.added steps k step spreads.adds.is (omega (arith, inputs.size, inside)) there)

pub can-put : (before : Circuit) (types : List FxType) (args : List ℕ) (start steps : List Step)
    (multiply : Option ℕ) → AreArgs before types args → AreInputs start types (length types)
    → Spreads start steps multiply
    → CanPut before steps args
can-put before types args start steps multiply are_args inputs spreads = record {
  count = omega (arith, are_args.count, inputs.size, ap length spreads.adds.is, length-append start spreads.adds.added);
  words = λ k number step given there.
      let inside : k < length types = omega (arith, are_args.count, slice_get_within args k number given) in
      let same = input-at types start steps multiply inputs spreads k step inside there in
      subst (λ (s : Step). HasWord before.nets number s.word.width s.word.signed) same
      (are_args.words k number (type_of types k) given (slice_get-get_or types k (Num false 0 (pos 0)) inside));
  sound = λ k step past there. spreads.adds.sound k step (omega (arith, are_args.count, inputs.size, past)) there;
  inner = λ k step past there. spreads.adds.parts k step (omega (arith, are_args.count, inputs.size, past)) there;
}

-- the numbers of the steps at a clock
abbrev numbers_of : List ℕ → ℕ → Rows → ℕ → Numbers
numbers_of args base rows clock place = rows (number_of args base place) clock

-- a net behind the arguments shows in a later netlist what its step gives
shown : (before after later : Circuit) (args : List ℕ) (steps : List Step) → AreNets before after args steps (length steps) → Keeps before after later
    → (n : ℕ) (given : Inputs) (rows : Rows) → NetRows later n given rows → (clock : ℕ) → clock < n → (k : ℕ) (step : Step) → slice_get steps (length args + k) ≡ Some step → IsInner step.op
    → IsWrapped (given_by step.op (numbers_of args (length before.nets) rows clock)
    (operands_of (numbers_of args (length before.nets) rows clock) step)) step.word.width step.word.signed
    (numbers_of args (length before.nets) rows clock (length args + k))
shown before after later args steps nets keeps n given rows is clock below k step there inner =
    let base : ℕ = length before.nets in
    let numbers : Numbers = numbers_of args base rows clock in
    let place : ℕ = base + k in
    let net : Net = net_of args base step in
    let at : slice_get after.nets place ≡ Some net = nets.each k step (slice_get_within steps (length args + k) step there) there in
    let later_at : slice_get later.nets place ≡ Some net =
    elim (keeps.nets place (slice_get_within after.nets place net at)) [
      | inl kept ↦ kept ∙ at
      | inr changed ↦ absurd (omega (arith, changed.0))
    ] in
    let shows : NetShows later.cycles n given rows step.word.width step.word.signed (Comb step.op (map (number_of args base) (reads_of step))) (rows place) = is.shows place net later_at in
    let same = given-same step.op (λ number. given number clock) numbers (λ one. rows one clock) (number_of args base) step.first step.second step.third inner in
    let end : rows place clock ≡ numbers (length args + k) = ap (λ (x : ℕ). rows x clock) (sym (number-later args base k)) in
    subst (IsWrapped (given_by step.op numbers (operands_of numbers step)) step.word.width step.word.signed) end
    (subst (λ (z : ℤ). IsWrapped z step.word.width step.word.signed (rows place clock)) same (shows clock below))

-- an argument's number
pub value-in : (rows : Rows) (clock : ℕ) (args : List ℕ) (k number : ℕ) → slice_get args k ≡ Some number → rows number clock ≡ value_of (values_at rows args clock) k
value-in rows clock [] k number at = absurd (none-some number at)
value-in rows clock (arg ∷ args) zero number at = ap (λ (x : ℕ). rows x clock) (sym (same_Some arg number at))
value-in rows clock (arg ∷ args) (suc k) number at = value-in rows clock args k number at

arguments-are : (types : List FxType) (args : List ℕ) (base : ℕ) (rows : Rows) (clock : ℕ) → length args ≡ length types → AreInRange types (values_at rows args clock)
    → AreArguments types (numbers_of args base rows clock) (values_at rows args clock)
arguments-are types args base rows clock count in_range = record {
  in_range = in_range;
  each = λ k inside. value-in rows clock args k (number_of args base k) (number-given args base k (omega (arith, count, inside)));
}

-- the input of an argument
input-obeys : (type : FxType) (k : ℕ) (step : Step) (numbers : Numbers) → step_of (Input k) 0 0 0 (word_of type) ≡ step → InRange type (numbers k)
    → IsWrapped (given_by step.op numbers (operands_of numbers step)) step.word.width step.word.signed (numbers k)
input-obeys type k step numbers is range =
    let own : IsWrapped (numbers k) (width_of type) (is_signed type) (numbers k) =
    record {
      in_word = range-word type (numbers k) range;
      congruent =
          IsCongruent-refl (numbers k) (2 ^ width_of type);
    } in
    subst (λ (s : Step). IsWrapped (given_by s.op numbers (operands_of numbers s)) s.word.width s.word.signed (numbers k)) is own

-- the numbers that the nets show are those of the plan
obeys-rows : (before after later : Circuit) (types : List FxType) (args : List ℕ) (start steps : List Step)
    (multiply : Option ℕ) → IsPutDown before after types args start steps multiply → Keeps before after later
    → (n : ℕ) (given : Inputs) (rows : Rows) → NetRows later n given rows → (clock : ℕ) → clock < n → AreArguments types (numbers_of args (length before.nets) rows clock) (values_at rows args clock)
    → Obeys steps (numbers_of args (length before.nets) rows clock) (numbers_of args (length before.nets) rows clock)
obeys-rows before after later types args start steps multiply down keeps n given rows is clock below are = record {
  each = λ k step there.
      let count = down.are_args.count in
      let size = down.inputs.size in
      let numbers : Numbers = numbers_of args (length before.nets) rows clock in
      elim (cases_lt k (length args)) [
        | inl less ↦
            let inside : k < length types = omega (arith, count, less) in
            let range : InRange (type_of types k) (numbers k) = subst (InRange (type_of types k)) (sym (are.each k inside)) (are.in_range.in_range k inside) in
            input-obeys (type_of types k) k step numbers (input-at types start steps multiply down.inputs down.spreads k step inside there) range
        | inr more ↦
            let behind : k ≡ length args + (k - length args) = omega arith in
            let at : slice_get steps (length args + (k - length args)) ≡ Some step = ap (slice_get steps) (sym behind) ∙ there in
            let inner = down.spreads.adds.parts k step (omega (arith, count, size, more)) there in
            subst (λ (place : ℕ). IsWrapped (given_by step.op numbers (operands_of numbers step)) step.word.width step.word.signed (numbers place)) (sym behind)
            (shown before after later args steps down.nets keeps n given rows is clock below (k - length args) step at inner)
      ];
}

-- the number of a step is that of an argument, or past those that were there
number-stands : (args : List ℕ) (base place : ℕ) → Contains args (number_of args base place) ⊎ (base ≤ number_of args base place)
number-stands [] base place = inr (omega arith)
number-stands (arg ∷ args) base zero = inl (0, omega arith, refl)
number-stands (arg ∷ args) base (suc place) = elim (number-stands args base place) [
  | inl among ↦ inl (suc among.0, let inside = among.1 in omega (arith, inside), among.2)
  | inr past ↦ inr past
]

-- the net of a step shows what the plan says of its number
pub shows-by : (before after : Circuit) (args : List ℕ) (start steps : List Step) (types : List FxType) (multiply : Option ℕ) (P : List ℤ → ℤ → Type 0) (made : Operand)
    → IsPutDown before after types args start steps multiply → Give steps (λ numbers. OfArguments types numbers (λ values. P values (numbers made.place)))
    → InRows before after (λ n rows. (clock : ℕ) → clock < n → AreInRange types (values_at rows args clock) → P (values_at rows args clock) (rows (number_of args
    (length before.nets) made.place) clock))
shows-by before after args start steps types multiply P made down gives = record {
  holds = λ later keeps n given rows is clock below in_range.
      let numbers : Numbers = numbers_of args (length before.nets) rows clock in
      let are : AreArguments types numbers (values_at rows args clock) = arguments-are types args (length before.nets) rows clock down.are_args.count in_range in
      gives.holds numbers numbers (obeys-rows before after later types args start steps multiply down keeps n given rows is clock below are) (values_at rows args clock) are;
}

pub word-by : (before after : Circuit) (args : List ℕ) (start steps : List Step) (types : List FxType) (result : FxType) (multiply : Option ℕ) (made : Operand)
    → IsPutDown before after types args start steps multiply → IsStep steps made → made.word ≡ word_of result
    → HasWord after.nets (number_of args (length before.nets) made.place) (width_of result) (is_signed result)
word-by before after args start steps types result multiply made down at word =
    let can = can-put before types args start steps multiply down.are_args down.inputs down.spreads in
    let has = word-at before after steps args (length steps) can down.nets made.place at.step (slice_get_within steps made.place at.step at.is) at.is in
    subst (λ (w : Word). HasWord after.nets (number_of args (length before.nets) made.place) w.width w.signed) (at.word ∙ word) has

-- the nets show what the operation gives
pub lowered : (before after : Circuit) (args : List ℕ) (start steps : List Step) (operation : Operation)
    (made : Operand) → IsPutDown before after operation.types args start steps (multiply_of operation.op)
    → IsStep steps made → made.word ≡ word_of operation.result → Give steps (λ numbers. OfArguments operation.types numbers (λ values. OpGives operation values (numbers made.place)))
    → IsLowered before after operation args (number_of args (length before.nets) made.place)
lowered before after args start steps operation made down at word gives = record {
  gives = shows-by before after args start steps operation.types (multiply_of operation.op) (OpGives operation) made down gives;
  word = word-by before after args start steps operation.types operation.result (multiply_of operation.op) made down at word;
  stands = number-stands args (length before.nets) made.place;
}

-- and what a Sum gives of totals
pub totalled : (before after : Circuit) (args : List ℕ) (start steps : List Step) (operation : Operation) (full : FxType) (signs : List Bool) (types : List FxType)
    (made : Operand) → IsPutDown before after types args start steps None
    → IsStep steps made → made.word ≡ word_of operation.result → Give steps (λ numbers. OfArguments types numbers (λ given. GivesOfTotals operation full signs types given (numbers made.place)))
    → IsTotalled before after operation full signs types args (number_of args (length before.nets) made.place)
totalled before after args start steps operation full signs types made down at word gives = record {
  gives = shows-by before after args start steps types None (GivesOfTotals operation full signs types) made down gives;
  word = word-by before after args start steps types operation.result None made down at word;
  stands = number-stands args (length before.nets) made.place;
}

step-comb : (before after : Circuit) (args : List ℕ) (steps : List Step)
    → AreNets before after args steps (length steps) → (k : ℕ) (step : Step)
    → slice_get steps (length args + k) ≡ Some step → IsComb after (length before.nets + k) step.op
step-comb before after args steps nets k step there = record {
  net = net_of args (length before.nets) step;
  reads = map (number_of args (length before.nets)) (reads_of step);
  is = nets.each k step (slice_get_within steps (length args + k) step there) there;
  kind = refl;
}

-- a Comb net of a step has its operation
comb-step : (net : Net) (args : List ℕ) (base : ℕ) (step : Step) (op : NetOp) (reads : List ℕ) → net ≡ net_of args base step → net.kind ≡ Comb op reads → step.op ≡ op
comb-step net args base step op reads same kind =
    let kinds : Comb step.op (map (number_of args base) (reads_of step)) ≡ Comb op reads = ap (λ (x : Net). x.kind) (sym same) ∙ kind in
    cc

-- operations alone are put in, with the one Multiply
pub lowers : (before after : Circuit) (args : List ℕ) (start steps : List Step) (operation : Operation)
    (made : Operand) (types : List FxType) → IsPutDown before after types args start steps (multiply_of operation.op)
    → IsStep steps made → Lowers before after operation args
lowers before after args start steps operation made types down at = record {
  appends = down.nets.appends;
  combs = λ k past inside.
      let place : ℕ = k - length before.nets in
      let step : Step = slice_index_or steps (length args + place) at.step in
      let within : length args + place < length steps = omega (arith, down.nets.size) in
      let there : slice_get steps (length args + place) ≡ Some step = slice_get-get_or steps (length args + place) at.step within in
      let e : length before.nets + place ≡ k = omega arith in
      (step.op, subst (λ (i : ℕ). IsComb after i step.op) e (step-comb before after args steps down.nets place step there));
  multiplies = λ place e.
      let own = down.spreads.multiplies place e in
      let size : length start + place ≡ length args + place = omega (arith, down.are_args.count, down.inputs.size) in
      let there : slice_get steps (length args + place) ≡ Some own.step = ap (slice_get steps) (sym size) ∙ own.is in
      subst (IsComb after (length before.nets + place)) own.multiplies (step-comb before after args steps down.nets place own.step there);
  no_other = λ place comb.
      let within = slice_get_within after.nets (length before.nets + place) comb.net comb.is in
      let step : Step = slice_index_or steps (length args + place) at.step in
      let inside : length args + place < length steps = omega (arith, down.nets.size, within) in
      let there : slice_get steps (length args + place) ≡ Some step = slice_get-get_or steps (length args + place) at.step inside in
      let net : slice_get after.nets (length before.nets + place) ≡ Some (net_of args (length before.nets) step) = down.nets.each place step inside there in
      let one : comb.net ≡ net_of args (length before.nets) step = same_Some comb.net (net_of args (length before.nets) step) (sym comb.is ∙ net) in
      let op : step.op ≡ Multiply = comb-step comb.net args (length before.nets) step Multiply comb.reads one comb.kind in
      let size : length start + place ≡ length args + place = omega (arith, down.are_args.count, down.inputs.size) in
      down.spreads.only place (record { step = step; is = ap (slice_get steps) size ∙ there; multiplies = op });
}
