-- A plan that grows by one step, and what its numbers are then.
use Rattle.std.proofs.Common.{◌≡◌, inl, inr, ℕ, zero, suc, ◌+◌, ◌<◌, ◌≤◌, ℤ, List, [], ◌∷◌, ◌++◌, take, length, All, slice_get, Some, ap, sym, ◌∙◌, subst, arith, refl, length-append, append_assoc}
use Rattle.std.proofs.Common.{append-nil, false}
use Rattle.std.proofs.lemmas.Bool.{cases_lt}
use Rattle.std.proofs.lemmas.Option.{same_Some, slice_get_within}
use Rattle.math_num.specs.Word.{IsWord, InWord, IsWrapped}
use Rattle.hw_net.specs.declared.netlist.NetOp.{NetOp}
use Rattle.hw_net.specs.declared.netlist.NetOp.TheVariants.{Input, Const, Resize, ShiftUp, ShiftDown, Add, Subtract, Negate, Multiply, And, Or, Xor, Not, Less, Equal, Choose, Slice}
use Rattle.hw_net.specs.Operation.{Operands, arity, given_by}
use Rattle.math_list.proofs.Places.{get_front, last_at}
use Rattle.math_num.proofs.Words.{wrapped-is}
use Rattle.hw_lower.specs.declared.plan.Word.{Word}
use Rattle.hw_lower.specs.declared.plan.Step.{Step}
use Rattle.hw_lower.specs.declared.plan.Operand.{Operand}
use Rattle.hw_lower.specs.declared.plan.Plan.{Plan}
use Rattle.hw_lower.specs.inner.PlanSteps.{Numbers, Obeys, IsAt, IsStep, HasParts, CanRead, IsPlain, IsSound, Adds, Grows, IsMade, IsLast, IsPut, operands_of, three, no_inputs, step_of}

-- Plans that grow.

pub still-at : (old added new : List Step) (k : ℕ) (step : Step) → new ≡ old ++ added → slice_get old k ≡ Some step → slice_get new k ≡ Some step
still-at old added new k step is there = ap (λ (xs : List Step). slice_get xs k) is ∙ get_front old added k (slice_get_within old k step there) ∙ there

pub stood-at : (old added new : List Step) (k : ℕ) (step : Step) → new ≡ old ++ added → k < length old → slice_get new k ≡ Some step → slice_get old k ≡ Some step
stood-at old added new k step is inside there = sym (get_front old added k inside) ∙ ap (λ (xs : List Step). slice_get xs k) (sym is) ∙ there

step-later : (old added new : List Step) (one : Operand) → new ≡ old ++ added → IsStep old one → IsStep new one
step-later old added new one is at = record { step = at.step; is = still-at old added new one.place at.step is at.is; word = at.word }

pub at-later : (old new : Plan) (one : Operand) → Grows old new → IsAt old one → IsAt new one
at-later old new one g at = record {
  valid = at.valid;
  there = λ enough. let grown = g.adds enough in step-later old.steps grown.1.added new.steps one grown.1.is (at.there grown.0);
}

pub obeys-before : (old new : List Step) {part : NetOp → Type 0} (inputs numbers : Numbers) → Adds old new part → Obeys new inputs numbers → Obeys old inputs numbers
obeys-before old new inputs numbers g obeys = record { each = λ k step there. obeys.each k step (still-at old g.added new k step g.is there) }

adds-none : (steps : List Step) (part : NetOp → Type 0) → Adds steps steps part
adds-none steps part = record {
  added = [];
  is = sym (append-nil steps);
  sound = λ k step past there. absurd (omega (arith, past, slice_get_within steps k step there));
  parts = λ k step past there. absurd (omega (arith, past, slice_get_within steps k step there));
}

pub grows-self : (plan : Plan) → Grows plan plan
grows-self plan = record { adds = λ enough. (enough, adds-none plan.steps IsPlain) }

pub parts-later : (old added new : List Step) (op : NetOp) (first second third : ℕ) → new ≡ old ++ added
    → All (λ read. read < length old) (take (arity op) (first ∷ second ∷ third ∷ [])) → HasParts old first op → HasParts new first op
parts-later old added new (Input number) first second third is inside has = tt
parts-later old added new (Const value) first second third is inside has = tt
parts-later old added new Resize first second third is inside has = tt
parts-later old added new (ShiftUp places) first second third is inside has = tt
parts-later old added new (ShiftDown places) first second third is inside has = tt
parts-later old added new Add first second third is inside has = tt
parts-later old added new Subtract first second third is inside has = tt
parts-later old added new Negate first second third is inside has = tt
parts-later old added new Multiply first second third is inside has = tt
parts-later old added new And first second third is inside has = tt
parts-later old added new Or first second third is inside has = tt
parts-later old added new Xor first second third is inside has = tt
parts-later old added new Not first second third is inside has = tt
parts-later old added new Less first second third is inside has = tt
parts-later old added new Equal first second third is inside has = tt
parts-later old added new Choose first second third is inside has = tt
parts-later old added new (Slice high low) first second third is inside has =
    (has.0, λ step there. has.1 step (stood-at old added new first step is (inside 0 0 (omega arith)) there))

pub sound-later : (old added new : List Step) (k : ℕ) (step : Step) → new ≡ old ++ added → k < length old → IsSound old k step → IsSound new k step
sound-later old added new k step is inside sound = record {
  word = sound.word;
  before = sound.before;
  parts = parts-later old added new step.op step.first step.second step.third is (λ i d within. omega (arith, sound.before i d within, inside)) sound.parts;
}

-- what is so of each step behind one plan and, in a third, of each behind a second is so of all behind the first
pub each-trans : (a b added c : List Step) (P Q : ℕ → Step → Type 0) → c ≡ b ++ added
    → ((k : ℕ) (step : Step) → k < length b → P k step → Q k step)
    → ((k : ℕ) (step : Step) → length a ≤ k → slice_get b k ≡ Some step → P k step)
    → ((k : ℕ) (step : Step) → length b ≤ k → slice_get c k ≡ Some step → Q k step) → (k : ℕ) (step : Step) → length a ≤ k → slice_get c k ≡ Some step → Q k step
each-trans a b added c P Q is keeps before behind k step past there = elim (cases_lt k (length b)) [
  | inl less ↦ keeps k step less (before k step past (stood-at b added c k step is less there))
  | inr more ↦ behind k step more there
]

pub sound-trans : (a b added c : List Step) → c ≡ b ++ added
    → ((k : ℕ) (step : Step) → length a ≤ k → slice_get b k ≡ Some step → IsSound b k step)
    → ((k : ℕ) (step : Step) → length b ≤ k → slice_get c k ≡ Some step → IsSound c k step)
    → (k : ℕ) (step : Step) → length a ≤ k → slice_get c k ≡ Some step → IsSound c k step
sound-trans a b added c is = each-trans a b added c (IsSound b) (IsSound c) is (λ k step less sound. sound-later b added c k step is less sound)

pub adds-then : (a b c : List Step) (first last all : NetOp → Type 0) → ((op : NetOp) → first op → all op) → ((op : NetOp) → last op → all op) → Adds a b first → Adds b c last → Adds a c all
adds-then a b c first last all f g p q = record {
  added = p.added ++ q.added;
  is = q.is ∙ ap (λ (xs : List Step). xs ++ q.added) p.is ∙ append_assoc a p.added q.added;
  sound = sound-trans a b q.added c q.is p.sound q.sound;
  parts = each-trans a b q.added c (λ k step. first step.op) (λ k step. all step.op) q.is (λ k step less is. f step.op is) p.parts (λ k step more there. g step.op (q.parts k step more there));
}

pub grows-trans : (a b c : Plan) → Grows a b → Grows b c → Grows a c
grows-trans a b c p q = record {
  adds = λ enough.
      let last = q.adds enough in
      let first = p.adds last.0 in
      (first.0, adds-then a.steps b.steps c.steps IsPlain IsPlain IsPlain (λ op plain. plain) (λ op plain. plain) first.1 last.1);
}

-- one step more

pub one-longer : (old new : List Step) (step : Step) → new ≡ old ++ step ∷ [] → length new ≡ length old + 1
one-longer old new step is = ap length is ∙ length-append old (step ∷ []) ∙ omega arith

pub last-is : (old new : List Step) (step other : Step) (k : ℕ) → new ≡ old ++ step ∷ [] → length old ≤ k → slice_get new k ≡ Some other → (k ≡ length old) × (step ≡ other)
last-is old new step other k is past there =
    let within = slice_get_within new k other there in
    let size = one-longer old new step is in
    let last : k ≡ length old = omega arith in
    let found : slice_get new k ≡ Some step = ap (λ (xs : List Step). slice_get xs k) is ∙ ap (slice_get (old ++ step ∷ [])) last ∙ last_at old step in
    (last, same_Some step other (sym found ∙ there))

pub sound-one : (old new : List Step) (step : Step) → new ≡ old ++ step ∷ [] → IsSound new (length old) step
    → (k : ℕ) (other : Step) → length old ≤ k → slice_get new k ≡ Some other → IsSound new k other
sound-one old new step is sound k other past there =
    let last = last-is old new step other k is past there in
    subst (λ (i : ℕ). IsSound new i other) (sym last.0) (subst (λ (s : Step). IsSound new (length old) s) last.1 sound)

pub adds-one : (old new : List Step) (step : Step) (part : NetOp → Type 0) → new ≡ old ++ step ∷ [] → IsSound new (length old) step → part step.op → Adds old new part
adds-one old new step part is sound own = record {
  added = step ∷ [];
  is = is;
  sound = sound-one old new step is sound;
  parts = λ k other past there.
      let last = last-is old new step other k is past there in
      subst (λ (s : Step). part s.op) last.1 own;
}

pub last-there : (old new : List Step) (step : Step) (made : Operand) → IsLast old new step made → slice_get new made.place ≡ Some step
last-there old new step made last = ap (slice_get new) last.place ∙ ap (λ (xs : List Step). slice_get xs (length old)) last.is ∙ last_at old step

pub put-at : (old new : Plan) (step : Step) (made : Operand) → IsPut old new step made → IsWord step.word.width step.word.signed → IsAt new made
put-at old new step made put valid = record {
  valid = subst (λ (w : Word). IsWord w.width w.signed) (sym put.word) valid;
  there = λ enough. record { step = step; is = last-there old.steps new.steps step made (put.put enough).1; word = sym put.word };
}

put-made : (old new : Plan) (step : Step) (made : Operand) (P : Numbers → Type 0) → IsPut old new step made → IsWord step.word.width step.word.signed
    → (old.wanting ≡ false → IsLast old.steps new.steps step made → IsSound new.steps (length old.steps) step) → IsPlain step.op
    → ((inputs numbers : Numbers) → IsWrapped (given_by step.op inputs (operands_of numbers step)) step.word.width step.word.signed (numbers made.place) → P numbers)
    → IsMade old new step.word P made
put-made old new step made P put valid sound plain gives = record {
  grows = record { adds = λ enough. let p = put.put enough in (p.0, adds-one old.steps new.steps step IsPlain p.1.is (sound p.0 p.1) plain) };
  at = put-at old new step made put valid;
  has_word = put.word;
  gives = record {
    give = λ enough. record { holds = λ inputs numbers obeys. gives inputs numbers (obeys.each made.place step (last-there old.steps new.steps step made (put.put enough).1)) };
  };
}

-- operations of steps alone do not look at the inputs
pub plain-given : (op : NetOp) (inputs : Numbers) (of : Operands) → IsPlain op → given_by op inputs of ≡ given_by op no_inputs of
plain-given (Input number) inputs of plain = absurd plain
plain-given (Const value) inputs of plain = refl
plain-given Resize inputs of plain = refl
plain-given (ShiftUp places) inputs of plain = refl
plain-given (ShiftDown places) inputs of plain = refl
plain-given Add inputs of plain = refl
plain-given Subtract inputs of plain = refl
plain-given Negate inputs of plain = refl
plain-given Multiply inputs of plain = absurd plain
plain-given And inputs of plain = refl
plain-given Or inputs of plain = refl
plain-given Xor inputs of plain = refl
plain-given Not inputs of plain = refl
plain-given Less inputs of plain = refl
plain-given Equal inputs of plain = refl
plain-given Choose inputs of plain = refl
plain-given (Slice high low) inputs of plain = refl

pub parts-are : (plan : List Step) (op : NetOp) (one : Operand) → IsStep plan one → CanRead op one.word.width → HasParts plan one.place op
parts-are plan (Input number) one at can = tt
parts-are plan (Const value) one at can = tt
parts-are plan Resize one at can = tt
parts-are plan (ShiftUp places) one at can = tt
parts-are plan (ShiftDown places) one at can = tt
parts-are plan Add one at can = tt
parts-are plan Subtract one at can = tt
parts-are plan Negate one at can = tt
parts-are plan Multiply one at can = tt
parts-are plan And one at can = tt
parts-are plan Or one at can = tt
parts-are plan Xor one at can = tt
parts-are plan Not one at can = tt
parts-are plan Less one at can = tt
parts-are plan Equal one at can = tt
parts-are plan Choose one at can = tt
parts-are plan (Slice high low) one at can = (
  can.0,
  λ step there.
      let same : at.step ≡ step = same_Some at.step step (sym at.is ∙ there) in
      let wide : one.word.width ≡ step.word.width = ap (λ (w : Word). w.width) (sym at.word) ∙ ap (λ (s : Step). s.word.width) same in
      omega (arith, can.1, wide),
)

-- what stands among the first of three places below a bound is below it
pub below-taken : (n a b c bound : ℕ) → a < bound → b < bound → c < bound → All (λ read. read < bound) (take n (a ∷ b ∷ c ∷ []))
below-taken zero a b c bound p q r i d within = absurd (omega arith)
below-taken (suc n) a b c bound p q r zero d within = p
below-taken (suc zero) a b c bound p q r (suc i) d within = absurd (omega arith)
below-taken (suc (suc n)) a b c bound p q r (suc zero) d within = q
below-taken (suc (suc zero)) a b c bound p q r (suc (suc i)) d within = absurd (omega arith)
below-taken (suc (suc (suc n))) a b c bound p q r (suc (suc zero)) d within = r
below-taken (suc (suc (suc zero))) a b c bound p q r (suc (suc (suc i))) d within = absurd (omega arith)
below-taken (suc (suc (suc (suc n)))) a b c bound p q r (suc (suc (suc i))) d within = absurd (omega arith)

pub operation-made : (old new : Plan) (op : NetOp) (first second third made : Operand) (word : Word) → IsPlain op → CanRead op first.word.width
    → IsAt old first → IsAt old second → IsAt old third → IsWord word.width word.signed → IsPut old new (step_of op first.place second.place third.place word) made
    → IsMade old new word (λ numbers. IsWrapped (given_by op no_inputs (three numbers first second third)) word.width word.signed (numbers made.place)) made
operation-made old new op first second third made word plain can one other last valid put =
    put-made old new (step_of op first.place second.place third.place word) made _ put valid
    (λ enough is.
    let x = one.there enough in
    let y = other.there enough in
    let z = last.there enough in
    let reads = below-taken (arity op) first.place second.place third.place (length old.steps)
    (slice_get_within old.steps first.place x.step x.is) (slice_get_within old.steps second.place y.step y.is)
    (slice_get_within old.steps third.place z.step z.is) in
    record {
      word = valid;
      before = reads;
      parts = parts-later old.steps (step_of op first.place second.place third.place word ∷ []) new.steps op first.place second.place third.place is.is reads (parts-are old.steps op first x can);
    })
    plain (λ inputs numbers is. rw (plain-given op inputs (three numbers first second third) plain) at is)

-- the number of a word that is congruent to one of the word is that one
pub constant-made : (old new : Plan) (value : ℤ) (word : Word) (made : Operand) → IsWord word.width word.signed
    → InWord word.width word.signed value → IsPut old new (step_of (Const value) 0 0 0 word) made
    → IsMade old new word (λ numbers. numbers made.place ≡ value) made
constant-made old new value word made valid has put =
    put-made old new (step_of (Const value) 0 0 0 word) made _ put valid
    (λ enough is. record { word = valid; before = λ i d within. absurd (omega arith); parts = tt })
    tt (λ inputs numbers is. wrapped-is value word.width word.signed (numbers made.place) valid has is)
