use Rattle.std.proofs.Common.{◌≡◌, ◌≢◌, ℕ, zero, suc, ℤ, pos, ◌+ℤ◌, ◌-◌, Bool, refl, sym, ◌∙◌, arith, true, false}
use Rattle.std.specs.Int.{w128}
use Rattle.std.proofs.lemmas.Int.{to_z-of_z}
use Rattle.math_num.specs.Word.{IsWrapped}
use Rattle.hw_net.specs.NetRows.{span_of}
use Rattle.hw_net.specs.Registers.{Span, Takes}
use Rattle.hw_net.specs.Step.{AccSteps}
use Rattle.hw_run.specs.inner.StepTests.{Shows}
use Rattle.hw_run.proofs.stepping.accumulator_value.Goals as goal
use Rattle.hw_run.proofs.stepping.accumulator_value.Goals.{then-clock-eq0, else-clock-eq0}

-- behind clock 0, where the frame doesn't end
goes-on : (clock : ℕ) (span : Span) (width : ℕ) (signed : Bool) (enable from old v : ℤ) → clock ≢ 0
    → ¬ Takes span (span.length - 1) (clock - 1) → (enable ≢ pos 0 → IsWrapped (old +ℤ from) width signed v)
    → (enable ≡ pos 0 → v ≡ old)
    → Shows clock (v ≡ pos 0) (λ before. AccSteps span width signed before enable from old v)
goes-on zero span width signed enable from old v there going adds keeps = absurd (there refl)
goes-on (suc before) span width signed enable from old v there going adds keeps =
    let e : suc before - 1 ≡ before = omega arith in
    record { clears = λ ends. absurd (going (rw e ends)); adds = λ _ counts. adds counts; keeps = λ _ none. keeps none }

apart : (b : Bool) → b ≡ true → b ≡ false → (A : Type 0) → A
apart b is not A = absurd (cc (sym is ∙ not))

pub returns-else-takes : goal.returns-else-takes
returns-else-takes c =
    let e = to_z-of_z w128 c.added.result (record { sfits = c.added.type_inv }) in
    let given = rw (to_z-of_z w128 c.args.enable c.ranges.enable, to_z-of_z w128 c.args.old c.ranges.old, to_z-of_z w128 c.args.from c.ranges.from) at c.added.ensures in
    rw e (elim c.if-clock-eq0.branch [
      | then-clock-eq0 w ↦ apart c.if-clock-eq0.value (rw w.if-clock-eq0.true at w.value-is) c.if-takes.false _
      | else-clock-eq0 w ↦ goes-on c.args.clock (span_of c.args.cycles c.args.frame) c.args.width c.args.signed c.args.enable
          c.args.from c.args.old c.added.result w.if-clock-eq0.false
          (λ ends. apart c.if-clock-eq0.value (w.value-is ∙ w.takes.ensures.1 (rw w.length_of.ensures ends)) c.if-takes.false _)
          given.adds given.keeps
    ])
