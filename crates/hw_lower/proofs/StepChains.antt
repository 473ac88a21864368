-- One function's steps behind another's.
use Rattle.std.proofs.Common.{◌≡◌, false, subst, refl}
use Rattle.math_num.specs.Word.{InWord}
use Rattle.hw_net.specs.declared.netlist.NetOp.{NetOp}
use Rattle.hw_lower.specs.declared.plan.Word.{Word}
use Rattle.hw_lower.specs.declared.plan.Operand.{Operand}
use Rattle.hw_lower.specs.declared.plan.Plan.{Plan}
use Rattle.hw_lower.specs.inner.PlanSteps.{Adds, Gives, Numbers, Obeys, IsAt, IsMade}
use Rattle.hw_lower.proofs.PlanSteps.{grows-self, grows-trans, obeys-before}

-- every operand has a number of its word
abbrev pub InWords : Plan → Numbers → Type 0
InWords plan numbers = (one : Operand) → IsAt plan one → InWord one.word.width one.word.signed (numbers one.place)

pub in-words : (plan : Plan) (inputs numbers : Numbers) → plan.wanting ≡ false → Obeys plan.steps inputs numbers → InWords plan numbers
in-words plan inputs numbers enough obeys one at =
    let is = at.there enough in
    subst (λ (w : Word). InWord w.width w.signed (numbers one.place)) is.word (obeys.each one.place is.step is.is).in_word

-- what the numbers of a plan have, with what they had before it grew, and what follows
pub gives-on : {old new : Plan} {IsOne : NetOp → Type 0} {P Q : Numbers → Type 0} (R : Numbers → Type 0)
    → (new.wanting ≡ false → (old.wanting ≡ false) × Adds old.steps new.steps IsOne) → Gives old P → Gives new Q
    → ((numbers : Numbers) → P numbers → Q numbers → R numbers) → Gives new R
gives-on {old} {new} R grows p q f = record {
  give = λ enough.
      let last = grows enough in
      record {
        holds = λ inputs numbers obeys. f numbers
            ((p.give last.0).holds inputs numbers (obeys-before old.steps new.steps inputs numbers last.1 obeys))
            ((q.give enough).holds inputs numbers obeys);
      };
}

words-given : (plan : Plan) → Gives plan (InWords plan)
words-given plan = record { give = λ enough. record { holds = λ inputs numbers obeys. in-words plan inputs numbers enough obeys } }

-- both hold, and what follows
pub made-then : {a b c : Plan} {first word : Word} {P Q : Numbers → Type 0} {one made : Operand} (R : Numbers → Type 0) → IsMade a b first P one → IsMade b c word Q made
    → ((numbers : Numbers) → InWords a numbers → InWords b numbers → P numbers → Q numbers → R numbers) → IsMade a c word R made
made-then {a} {b} {c} R p q f = record {
  grows = grows-trans a b c p.grows q.grows;
  at = q.at;
  has_word = q.has_word;
  gives = record {
    give = λ enough.
        let last = q.grows.adds enough in
        let first = p.grows.adds last.0 in
        record {
          holds = λ inputs numbers obeys.
              let before = obeys-before b.steps c.steps inputs numbers last.1 obeys in
              f numbers (in-words a inputs numbers first.0 (obeys-before a.steps b.steps inputs numbers first.1 before)) (in-words b inputs numbers last.0 before)
              ((p.gives.give last.0).holds inputs numbers before) ((q.gives.give enough).holds inputs numbers obeys);
        };
  };
}

pub made-both : {a b c : Plan} {first word : Word} {P Q : Numbers → Type 0} {one made : Operand} → IsMade a b first P one → IsMade b c word Q made
    → IsMade a c word (λ numbers. P numbers × Q numbers) made
made-both {P = P} {Q = Q} p q = made-then (λ numbers. P numbers × Q numbers) p q (λ numbers has later x y. (x, y))

-- what follows
pub made-map : {old new : Plan} {word : Word} {P : Numbers → Type 0} {made : Operand} (Q : Numbers → Type 0) → IsMade old new word P made
    → ((numbers : Numbers) → InWords old numbers → P numbers → Q numbers) → IsMade old new word Q made
made-map {old} Q is f = record { grows = is.grows; at = is.at; has_word = is.has_word; gives = gives-on Q is.grows.adds (words-given old) is.gives f }

-- an operand that is there
pub made-self : {plan : Plan} {one : Operand} (Q : Numbers → Type 0) → IsAt plan one → ((numbers : Numbers) → InWords plan numbers → Q numbers) → IsMade plan plan one.word Q one
made-self {plan} {one} Q at f = record {
  grows = grows-self plan;
  at = at;
  has_word = refl;
  gives = record { give = λ enough. record { holds = λ inputs numbers obeys. f numbers (in-words plan inputs numbers enough obeys) } };
}
