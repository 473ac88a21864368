-- Plans that may have the one Multiply.
use Rattle.std.proofs.Common.{◌≡◌, ℕ, ◌+◌, ◌-◌, ◌≤◌, ◌*ℤ◌, List, [], ◌∷◌, ◌++◌, length, slice_get, Option, None, Some, inl, inr, ap, sym, ◌∙◌, subst, arith, refl, false}
use Rattle.std.proofs.lemmas.Bool.{cases_lt}
use Rattle.std.proofs.lemmas.Option.{none-some, same_Some, slice_get_within}
use Rattle.math_num.specs.Word.{IsWord, IsWrapped}
use Rattle.hw_net.specs.declared.netlist.NetOp.TheVariants.{Multiply}
use Rattle.hw_lower.specs.declared.plan.Word.{Word}
use Rattle.hw_lower.specs.declared.plan.Step.{Step}
use Rattle.hw_lower.specs.declared.plan.Operand.{Operand}
use Rattle.hw_lower.specs.declared.plan.Plan.{Plan}
use Rattle.hw_lower.specs.inner.PlanSteps.{Numbers, Adds, IsAt, IsLast, IsPlain, IsPut, IsSound, IsStep, Gives, IsMade, step_of}
use Rattle.hw_lower.specs.inner.Spread.{IsInner, IsMultiplyAt, Spreads, IsPlanned}
use Rattle.math_list.proofs.Places.{last_at}
use Rattle.hw_lower.proofs.StepChains.{gives-on}
use Rattle.hw_lower.proofs.PlanSteps.{adds-one, adds-then, last-is, last-there, still-at, stood-at, one-longer, put-at, below-taken}

-- no plain step is a Multiply
plain-none : (old new : List Step) (k : ℕ) → Adds old new IsPlain → length old ≤ k → IsMultiplyAt new k → ⊥
plain-none old new k g past at = subst IsPlain at.multiplies (g.parts k at.step past at.is)

spreads-plain : (old new : List Step) → Adds old new IsPlain → Spreads old new None
spreads-plain old new g = record {
  adds = record { added = g.added; is = g.is; sound = g.sound; parts = λ k step past there. inl (g.parts k step past there) };
  multiplies = λ place e. absurd (none-some place e);
  only = λ place at. absurd (plain-none old new (length old + place) g (omega arith) at);
}

spreads-multiply : (old new : List Step) (step : Step) → new ≡ old ++ step ∷ [] → IsSound new (length old) step → step.op ≡ Multiply → Spreads old new (Some 0)
spreads-multiply old new step is sound multiplies = record {
  adds = adds-one old new step IsInner is sound (inr multiplies);
  multiplies = λ place e.
      let none : place ≡ 0 = sym (same_Some 0 place e) in
      let at : length old + place ≡ length old = omega arith in
      record {
        step = step;
        is = ap (λ (xs : List Step). slice_get xs (length old + place)) is ∙ ap (slice_get (old ++ step ∷ [])) at ∙ last_at old step;
        multiplies = multiplies;
      };
  only = λ place at.
      let last = last-is old new step at.step (length old + place) is (omega arith) at.is in
      let none : 0 ≡ place = omega (arith, last.0) in
      ap Some none;
}

spreads-then : (a b c : List Step) (m : Option ℕ) → Spreads a b m → Adds b c IsPlain → Spreads a c m
spreads-then a b c m p q = record {
  adds = adds-then a b c IsInner IsPlain IsInner (λ op inner. inner) (λ op plain. inl plain) p.adds q;
  multiplies = λ place e.
      let at = p.multiplies place e in
      record { step = at.step; is = still-at b q.added c (length a + place) at.step q.is at.is; multiplies = at.multiplies };
  only = λ place at.
      elim (cases_lt (length a + place) (length b)) [
        | inl less ↦ p.only place (record { step = at.step; is = stood-at b q.added c (length a + place) at.step q.is less at.is; multiplies = at.multiplies })
        | inr more ↦ absurd (plain-none b c (length a + place) q more at)
      ];
}

-- one plain step before
spreads-after : (a b c : List Step) → Adds a b IsPlain → length b ≡ length a + 1 → Spreads b c (Some 0) → Spreads a c (Some 1)
spreads-after a b c p size q = record {
  adds = adds-then a b c IsPlain IsInner IsInner (λ op plain. inl plain) (λ op inner. inner) p q.adds;
  multiplies = λ place e.
      let one : place ≡ 1 = sym (same_Some 1 place e) in
      let at = q.multiplies 0 refl in
      let same : length b + 0 ≡ length a + place = omega arith in
      record { step = at.step; is = ap (slice_get c) (sym same) ∙ at.is; multiplies = at.multiplies };
  only = λ place at.
      elim (cases_lt (length a + place) (length b)) [
        | inl less ↦ absurd (plain-none a b (length a + place) p (omega arith)
            (record {
              step = at.step;
              is = stood-at b q.adds.added c
                  (length a + place) at.step q.adds.is less at.is;
              multiplies = at.multiplies;
            }))
        | inr more ↦
            let same : length a + place ≡ length b + (place - 1) = omega arith in
            let none : 0 ≡ place - 1 = same_Some 0 (place - 1) (q.only (place - 1) (subst (IsMultiplyAt c) same at)) in
            let one : 1 ≡ place = omega arith in
            ap Some one
      ];
}

-- a plan with no Multiply
pub made-plain : {old new : Plan} {word : Word} {P : Numbers → Type 0} {made : Operand} (Q : Numbers → Type 0) → IsMade old new word P made
    → ((numbers : Numbers) → P numbers → Q numbers) → IsPlanned old new None word Q made
made-plain {old} {new} Q is f = record {
  spreads = λ enough. let grown = is.grows.adds enough in (grown.0, spreads-plain old.steps new.steps grown.1);
  at = is.at;
  has_word = is.has_word;
  gives = record { give = λ enough. record { holds = λ inputs numbers obeys. f numbers ((is.gives.give enough).holds inputs numbers obeys) } };
}

-- what follows of a plan that may have one
pub planned-map : {old new : Plan} {m : Option ℕ} {word : Word} {P : Numbers → Type 0} {made : Operand} (Q : Numbers → Type 0) → IsPlanned old new m word P made
    → ((numbers : Numbers) → P numbers → Q numbers) → IsPlanned old new m word Q made
planned-map Q is f = record {
  spreads = is.spreads;
  at = is.at;
  has_word = is.has_word;
  gives = record { give = λ enough. record { holds = λ inputs numbers obeys. f numbers ((is.gives.give enough).holds inputs numbers obeys) } };
}

-- the one Multiply is put, and its product is in a word
pub record IsMultiplied (old new : Plan) (one other : Operand) (word : Word) (made : Operand) : Type 0 where
  pub spreads : new.wanting ≡ false → (old.wanting ≡ false) × Spreads old.steps new.steps (Some 0)
  pub at : IsAt new made
  pub gives : Gives new (λ numbers. IsWrapped (numbers one.place *ℤ numbers other.place) word.width word.signed (numbers made.place))

multiplied-sound : (old new : List Step) (one other made : Operand) (word : Word) → IsStep old one → IsStep old other → IsWord word.width word.signed
    → IsLast old new (step_of Multiply one.place other.place other.place word) made → IsSound new (length old) (step_of Multiply one.place other.place other.place word)
multiplied-sound old new one other made word x y valid is =
    let q = slice_get_within old other.place y.step y.is in
    record {
      word = valid;
      before = below-taken 2 one.place other.place other.place (length old) (slice_get_within old one.place x.step x.is) q q;
      parts = tt;
    }

pub multiplied-put : (old new : Plan) (one other : Operand) (word : Word) (made : Operand) → IsAt old one → IsAt old other → IsWord word.width word.signed
    → IsPut old new (step_of Multiply one.place other.place other.place word) made → IsMultiplied old new one other word made
multiplied-put old new one other word made at also valid put =
    let step : Step = step_of Multiply one.place other.place other.place word in
    record {
      spreads = λ enough.
          let p = put.put enough in
          (p.0, spreads-multiply old.steps new.steps step p.1.is (multiplied-sound old.steps new.steps one other made word (at.there p.0) (also.there p.0) valid p.1) refl);
      at = put-at old new step made put valid;
      gives = record {
        give = λ enough. record { holds = λ inputs numbers obeys. obeys.each made.place step (last-there old.steps new.steps step made (put.put enough).1) };
      };
    }

-- a step behind the Multiply
pub made-after : {a b c : Plan} {one other exact made : Operand} {first word : Word} {P : Numbers → Type 0} (Q : Numbers → Type 0) → IsMultiplied a b one other first exact → IsMade b c word P made
    → ((numbers : Numbers) → IsWrapped (numbers one.place *ℤ numbers other.place) first.width first.signed (numbers exact.place) → P numbers → Q numbers) → IsPlanned a c (Some 0) word Q made
made-after {a} {b} {c} Q p q f = record {
  spreads = λ enough.
      let last = q.grows.adds enough in
      let first = p.spreads last.0 in
      (first.0, spreads-then a.steps b.steps c.steps (Some 0) first.1 last.1);
  at = q.at;
  has_word = q.has_word;
  gives = gives-on Q q.grows.adds p.gives q.gives f;
}

-- a plan with the one Multiply behind a plain step that was put
pub made-behind : {a b c : Plan} {first word : Word} {step : Step} {one made : Operand} {P Q : Numbers → Type 0} (R : Numbers → Type 0) → IsMade a b first P one → IsPut a b step one
    → IsPlanned b c (Some 0) word Q made → ((numbers : Numbers) → P numbers → Q numbers → R numbers) → IsPlanned a c (Some 1) word R made
made-behind {a} {b} {c} {step = step} R p put q f = record {
  spreads = λ enough.
      let last = q.spreads enough in
      let first = p.grows.adds last.0 in
      (first.0, spreads-after a.steps b.steps c.steps first.1 (one-longer a.steps b.steps step (put.put last.0).1.is) last.1);
  at = q.at;
  has_word = q.has_word;
  gives = gives-on R (λ enough. let last = q.spreads enough in (last.0, last.1.adds)) p.gives q.gives f;
}
