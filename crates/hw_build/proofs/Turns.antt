-- A multiplier serves one operation for one hit in a clock.
use Rattle.std.proofs.Common.{◌≡◌, ℕ, suc, ◌+◌, ◌*◌, ◌/◌, ◌%◌, ◌<◌, ◌≤◌, inl, inr, Some, ap, sym, ◌∙◌, subst, arith, mul-le-mul_right}
use Rattle.std.specs.Prelude.{◌≢◌, ◌⊎◌, slice_get}
use Rattle.std.proofs.lemmas.Bool.{cases_lt}
use Rattle.std.proofs.lemmas.Nat.{div-add-mod'}
use Rattle.std.proofs.lemmas.Option.{same_Some}
use Rattle.dg_model.specs.declared.diagram.Diagram.{Diagram}
use Rattle.dg_model.specs.declared.resolved.Resolved.{Resolved}
use Rattle.dg_model.specs.Attributes.{attributes_of}
use Rattle.hw_arcs.specs.Latencies.{latency_at}
use Rattle.hw_latency.specs.Weight.{samples}
use Rattle.hw_sched.specs.Slots.{Timing as Times, Operation, OperationKind, shared_operations, slot_of}
use Rattle.hw_sched.specs.Laws.{IsOperation, OperationsAreServed, SlotsDiffer, ReadyFits}
use Rattle.hw_sched.specs.Scheduled.{IsScheduled}
use Rattle.hw_build.specs.Laws.{OneTurnAtATime}

-- a clock of a frame tells the frame and the slot
pub one_frame : (p l cycles s r t u : ℕ) → t % p ≡ 0 → u % p ≡ 0 → s < p * cycles → r < p * cycles → (t + l) * cycles + s ≡ (u + l) * cycles + r → (t ≡ u) × (s ≡ r)
one_frame p l cycles s r t u hit other low less same =
    let a : t ≡ t / p * p = omega (arith, div-add-mod' t p, hit) in
    let b : u ≡ u / p * p = omega (arith, div-add-mod' u p, other) in
    let x : t * cycles ≡ t / p * (p * cycles) = ap (λ (n : ℕ). n * cycles) a ∙ omega arith in
    let y : u * cycles ≡ u / p * (p * cycles) = ap (λ (n : ℕ). n * cycles) b ∙ omega arith in
    elim (cases_lt (t / p) (u / p)) [
      | inl before ↦ let more : suc (t / p) * (p * cycles) ≤ u / p * (p * cycles) = mul-le-mul_right (p * cycles) before in absurd (omega (arith, more, x, y, same, low))
      | inr within ↦ elim (cases_lt (u / p) (t / p)) [
        | inl after ↦ let more : suc (u / p) * (p * cycles) ≤ t / p * (p * cycles) = mul-le-mul_right (p * cycles) after in absurd (omega (arith, more, x, y, same, less))
        | inr equal ↦
            let e : t / p ≡ u / p = omega (arith, within, equal) in
            let f : t / p * p ≡ u / p * p = ap (λ (n : ℕ). n * p) e in
            let g : t / p * (p * cycles) ≡ u / p * (p * cycles) = ap (λ (n : ℕ). n * (p * cycles)) e in
            (omega (arith, a, b, f), omega (arith, x, y, g, same))
      ]
    ]

module _ (served : OperationsAreServed) (fits : ReadyFits) where
  pub slot_fits : (diagram : Diagram) (plan : Resolved) (times : Times) (number : ℕ) (o : Operation) (period : ℕ)
      → IsScheduled diagram plan times → IsOperation diagram (attributes_of diagram) plan number o
      → (attributes_of diagram).period_at o.block ≡ Some period
      → slot_of diagram (attributes_of diagram) plan times number o < period * plan.cycles
  slot_fits diagram plan times number o period s at is =
      let o_served = served diagram (attributes_of diagram) plan times number o period s.timed.fed s.timed.depths at is in
      let fit = fits diagram plan times o.block period s is in
      omega (arith, o_served.within, o_served.ready, fit)

module _ (served : OperationsAreServed) (differ : SlotsDiffer) (fits : ReadyFits) where
  pub one_turn : OneTurnAtATime
  one_turn diagram plan times number other o q period wide t u s at there is wide_is hit hit_too unit clock = elim (cases_eq number other) [
    | inl same ↦
        let one : ◌≡◌ {A = Operation} o q = same_Some o q (sym at ∙ ap (λ (n : ℕ). slice_get (shared_operations diagram (attributes_of diagram) plan) n) same ∙ there) in
        record { number_is = same; hit_is = (turn same one).0 }
    | inr apart ↦ absurd (never apart)
  ]
    where
      cases_eq : (a b : ℕ) → (a ≡ b) ⊎ (a ≢ b)
      cases_eq a b = elim (cases_lt a b) [
        | inl less ↦ inr (λ e. absurd (omega (arith, less, e)))
        | inr more ↦ elim (cases_lt b a) [ inl greater ↦ inr (λ e. absurd (omega (arith, greater, e))) | inr same ↦ inl (omega (arith, more, same)) ]
      ]

      by : wide ≡ period → latency_at times.lat q.block ≡ latency_at times.lat o.block
          → (t ≡ u) × (slot_of diagram (attributes_of diagram) plan times number o
          ≡ slot_of diagram (attributes_of diagram) plan times other q)
      by same late =
          one_frame period (latency_at times.lat o.block) plan.cycles
          (slot_of diagram (attributes_of diagram) plan times number o)
          (slot_of diagram (attributes_of diagram) plan times other q) t u hit
          (subst (λ (p : ℕ). u % p ≡ 0) same hit_too)
          (slot_fits served fits diagram plan times number o period s at is)
          (subst (λ (p : ℕ). slot_of diagram (attributes_of diagram) plan times other q < p * plan.cycles) same
          (slot_fits served fits diagram plan times other q wide s there wide_is))
          (clock ∙ ap (λ (l : ℕ). (u + l) * plan.cycles + slot_of diagram (attributes_of diagram) plan times other q) late)

      turn : number ≡ other → ◌≡◌ {A = Operation} o q → (t ≡ u) × (slot_of diagram (attributes_of diagram) plan times number o ≡ slot_of diagram (attributes_of diagram) plan times other q)
      turn same one = by (same_Some wide period
          (sym wide_is ∙ ap (λ (x : Operation). (attributes_of diagram).period_at x.block) (sym one) ∙ is))
          (ap (λ (x : Operation). latency_at times.lat x.block) (sym one))

      never : number ≢ other → ⊥
      never apart =
          let d = differ diagram (attributes_of diagram) plan times number other o q apart at there unit in
          let p : samples ((attributes_of diagram).period_at o.block) ≡ samples ((attributes_of diagram).period_at q.block) = ap (λ (k : OperationKind). k.period) d.kind in
          let same : wide ≡ period = sym (ap samples wide_is) ∙ sym p ∙ ap samples is in
          d.slots (by same (ap (λ (k : OperationKind). k.lat) (sym d.kind))).1
