use Rattle.std.proofs.Common.{ℕ, ◌+◌, ◌<◌, ◌≤◌, List, get_or, ⊎_elim, subst, arith}
use Rattle.std.proofs.lemmas.Bool.{cases_lt}
use Rattle.std.proofs.lemmas.Grind.{get_or_default_zero}
use Rattle.hw_arcs.proofs.ring.least_place.Goals.{then-block-blocks, else-block-blocks}
use Rattle.hw_arcs.proofs.ring.least_place.Goals as goal

-- what is no more than those before a place, and than the one there
least_more : (blocks : List ℕ) (k least : ℕ) → ((j : ℕ) → j < k → get_or blocks least 0 ≤ get_or blocks j 0)
    → get_or blocks least 0 ≤ get_or blocks k 0 → (j : ℕ) → j < k + 1 → get_or blocks least 0 ≤ get_or blocks j 0
least_more blocks k least before last j below =
    ⊎_elim
    (λ (less : j < k). before j less)
    (λ (past : k ≤ j). subst (λ (i : ℕ). get_or blocks least 0 ≤ get_or blocks i 0) (omega (arith, past, below)) last)
    (cases_lt j k)

pub loop-k-preserved : goal.loop-k-preserved
loop-k-preserved c =
    elim c.if-block-blocks.branch [
      | then-block-blocks w ↦
          rw w.place-is (record {
            there = c.loop-k-test.true;
            least = least_more c.args.blocks.now c.loop-k.k c.loop-k.k
                (λ j less. let now = c.loop-k.invariant.least j less in let lower =
                w.if-block-blocks.true in omega (arith, now, lower)) (omega arith);
          })
      | else-block-blocks w ↦
          rw w.place-is (record {
            there = c.loop-k.invariant.there;
            least = least_more c.args.blocks.now c.loop-k.k c.loop-k.place c.loop-k.invariant.least (omega (arith, w.if-block-blocks.false));
          })
    ]

pub returns-clause-least : goal.returns-clause-least
returns-clause-least c = λ k d inside. rw (get_or_default_zero c.args.blocks.now k d inside) (c.loop-k.invariant.least k (omega (arith, inside, c.loop-k-test.false)))
