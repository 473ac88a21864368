use Rattle.std.proofs.Common.{◌^◌, pos, ◌*ℤ◌, ◌≤ℤ◌, ◌∙◌, arith, refl}
use Rattle.std.specs.Int.{w128}
use Rattle.std.proofs.lemmas.Int.{ints, to_z-of_z}
use Rattle.math_num.specs.Word.{InWord}
use Rattle.hw_lower.specs.inner.PlanSteps.{IsHeldBelow}
use Rattle.hw_lower.proofs.PlanSteps.{at-later}
use Rattle.hw_lower.proofs.StepChains.{made-both, made-self, made-then}
use Rattle.hw_net.proofs.Words.{lowest-below}
use Rattle.hw_lower.proofs.Ends.{held-below, highest-least}
use Rattle.hw_lower.proofs.settling.held_below.Goals as goal

pub constant-end-requires-clause-value : goal.constant-end-requires-clause-value
constant-end-requires-clause-value c =
    let bound = to_z-of_z w128 c.greatest-bound.result (record { sfits = c.greatest-bound.type_inv }) in
    let end = to_z-of_z w128 c.highest.result (record { sfits = c.highest.type_inv }) in
    record {
      low = omega (arith, ints, bound, c.greatest-bound.ensures.least, lowest-below c.args.from.word.width c.args.from.word.signed);
      high = omega (arith, ints, bound, end, c.if-bound-highest.false, c.highest.ensures);
    }

pub binary-test-requires-clause-one : goal.binary-test-requires-clause-one
binary-test-requires-clause-one c = c.constant-end.ensures.at

pub binary-test-requires-clause-other : goal.binary-test-requires-clause-other
binary-test-requires-clause-other c = at-later _ _ c.args.from c.constant-end.ensures.grows c.requires.from

pub binary-test-requires-clause-word : goal.binary-test-requires-clause-word
binary-test-requires-clause-word c = rw c.bit_word.ensures (omega arith, omega arith)

pub choose_end-requires : goal.choose_end-requires
choose_end-requires c =
    let end = to_z-of_z w128 c.highest-most.result (record { sfits = c.highest-most.type_inv }) in
    record {
      at = c.binary-test.ensures.at;
      value_at =
          at-later _ _ c.args.value c.binary-test.ensures.grows
          (at-later _ _ c.args.value c.constant-end.ensures.grows c.requires.value);
      fits =
          record {
            low = omega (
              arith,
              ints,
              end,
              c.highest-most.ensures,
              lowest-below c.args.value.word.width c.args.value.word.signed,
              highest-least c.args.value.word.width c.args.value.word.signed,
            );
            high =
                omega (arith, ints, end, c.highest-most.ensures);
          };
    }

pub returns-then-bound-highest : goal.returns-then-bound-highest
returns-then-bound-highest c =
    made-self (λ numbers. IsHeldBelow c.args.value.word (numbers c.args.from.place *ℤ pos (2 ^ c.args.up)) (numbers c.args.value.place) (numbers c.args.value.place)) c.requires.value
    (λ numbers has.
    let own : InWord c.args.from.word.width c.args.from.word.signed (numbers c.args.from.place) = has c.args.from c.requires.from in
    let within : numbers c.args.from.place ≤ℤ c.greatest-bound.result =
    omega (
      arith,
      ints,
      own.high,
      c.highest.ensures,
      c.if-bound-highest.true,
      to_z-of_z w128 c.highest.result (record { sfits = c.highest.type_inv }),
      to_z-of_z w128 c.greatest-bound.result (record { sfits = c.greatest-bound.type_inv }),
    ) in
    record { within = λ _. refl; above = λ h. absurd (omega (arith, ints, h, (c.greatest-bound.ensures.bound (numbers c.args.from.place)).1 within)) })

pub returns : goal.returns
returns c =
    made-then (λ numbers. IsHeldBelow c.args.value.word (numbers c.args.from.place *ℤ pos (2 ^ c.args.up))
    (numbers c.args.value.place) (numbers c.choose_end.result.place))
    (made-both c.constant-end.ensures (rw c.bit_word.ensures at c.binary-test.ensures)) c.choose_end.ensures
    (λ numbers has later p q. held-below c.args.value.word _ (numbers c.args.from.place) c.greatest-bound.result _ _
    (numbers c.binary-test.result.place) _ _ (c.greatest-bound.ensures.bound (numbers c.args.from.place))
    (p.0 ∙ to_z-of_z w128 c.greatest-bound.result (record { sfits = c.greatest-bound.type_inv }))
    (to_z-of_z w128 c.highest-most.result (record { sfits = c.highest-most.type_inv })
    ∙ c.highest-most.ensures) p.1 q)
