-- The multipliers of a built module serve the shared operations, one at a time.
use Rattle.std.proofs.Common.{◌≡◌, ◌≢◌, ◌⊎◌, inl, inr, ℕ, zero, suc, ◌+◌, ◌-◌, ◌*◌, ◌/◌, ◌%◌, ◌<◌, List, Some, slice_get, Option, refl, ap, sym, ◌∙◌, subst, arith, div-add-mod'}
use Rattle.std.proofs.lemmas.Bool.{cases_order}
use Rattle.dg_model.specs.declared.diagram.Diagram.{Diagram}
use Rattle.dg_model.specs.declared.resolved.Resolved.{Resolved}
use Rattle.dg_model.specs.Attributes.{attributes_of}
use Rattle.dg_model.specs.Hits.{Hits}
use Rattle.dg_model.specs.Laws.{StimulusGivesColumns}
use Rattle.vl_ast.specs.declared.modules.Module.{Module}
use Rattle.vl_ast.specs.Multiplications.{multiplications}
use Rattle.vl_ast.specs.Runs.{Row, Rows}
use Rattle.vl_ast.specs.Stalls.{thin_window}
use Rattle.vl_ast.specs.Windows.{Window}
use Rattle.hw_arcs.specs.Latencies.{latency_at}
use Rattle.hw_build.specs.Serving.{clock_of}
use Rattle.hw_module.specs.inner.Offers.{Offers}
use Rattle.hw_latency.specs.Weight.{samples as base_samples}
use Rattle.hw_net.specs.Circuit.{Circuit}
use Rattle.hw_sched.specs.Laws.{IsOperation, OperationsAreServed, OperationsHavePeriods, SlotsDiffer, ReadyFits}
use Rattle.hw_sched.specs.Scheduled.{IsScheduled}
use Rattle.hw_sched.specs.Slots.{Timing, Operation, OperationKind, shared_operations, slot_of, unit_of}
use Rattle.vl_emit.specs.Products.{IsProduct}
use Rattle.hw_net.specs.Products.{products_of}
use Rattle.vl_emit.specs.Shown.{inputs_from, rows_from}
use Rattle.hw_module.specs.Serves.{IsServed, Serves, MultipliesAsOwed}
use Rattle.hw_module.specs.inner.Emission.{IsEmissionOf}
use Rattle.hw_module.proofs.Carries.{InputsHavePeriods, net-run}
use Rattle.hw_module.proofs.Lists.{zip-get, zip-length}
use Rattle.hw_module.proofs.SteadyRuns.{clock-below, clock-row, steady-run, thinned}

-- two places in frames of one length are one only where the frame and the place in it are
frame-apart : (i j w a b : ℕ) → a < w → b < w → i * w + a ≡ j * w + b → (i ≡ j) × (a ≡ b)
frame-apart zero zero w a b h k e = (refl, omega arith)
frame-apart zero (suc j) w a b h k e = absurd (omega arith)
frame-apart (suc i) zero w a b h k e = absurd (omega arith)
frame-apart (suc i) (suc j) w a b h k e = let r = frame-apart i j w a b h k (omega arith) in (ap suc r.0, r.1)

module _ (served : OperationsAreServed) (have_periods : OperationsHavePeriods) (differ : SlotsDiffer) (fits : ReadyFits)
    {diagram : Diagram} {plan : Resolved} {timing : Timing} (scheduled : IsScheduled diagram plan timing) where
  -- an operation's slot stands in its period
  slot-below : (number : ℕ) (o : Operation) (period : ℕ) → IsOperation diagram (attributes_of diagram) plan number o → (attributes_of diagram).period_at o.block ≡ Some period
      → slot_of diagram (attributes_of diagram) plan timing number o < period * plan.cycles
  slot-below number o period is own =
      let s = served diagram (attributes_of diagram) plan timing number o period scheduled.timed.fed scheduled.timed.depths is own in
      let r = fits diagram plan timing o.block period scheduled own in
      let a = s.within in
      let b = s.ready in
      omega (arith, a, b, r)

  -- the clock of a service is that of its slot in the frame of the hit
  in-frame : (number : ℕ) (o : Operation) (t period : ℕ) → t % period ≡ 0
      → clock_of diagram plan timing number o t ≡ (t / period) * (period * plan.cycles) + (latency_at timing.lat o.block * plan.cycles + slot_of diagram (attributes_of diagram) plan timing number o)
  in-frame number o t period hit =
      let whole = div-add-mod' t period in
      let e : t ≡ (t / period) * period = omega (arith, whole, hit) in
      ap (λ (x : ℕ). (x + latency_at timing.lat o.block) * plan.cycles + slot_of diagram (attributes_of diagram) plan timing number o) e ∙ omega arith

  same-hit : (number : ℕ) (o : Operation) (t s period : ℕ) → 0 < period * plan.cycles → t % period ≡ 0 → s % period ≡ 0
      → clock_of diagram plan timing number o t ≡ clock_of diagram plan timing number o s → t ≡ s
  same-hit number o t s period some hit other e =
      let a = in-frame number o t period hit in
      let b = in-frame number o s period other in
      let c : (t / period) * (period * plan.cycles) + 0 ≡ (s / period) * (period * plan.cycles) + 0 = omega (arith, a, b, e) in
      let r = frame-apart (t / period) (s / period) (period * plan.cycles) 0 0 some some c in
      let p : t ≡ (t / period) * period = (let w = div-add-mod' t period in omega (arith, w, hit)) in
      let q : s ≡ (s / period) * period = (let w = div-add-mod' s period in omega (arith, w, other)) in
      p ∙ ap (λ (x : ℕ). x * period) r.0 ∙ sym q

  -- two different operations of one multiplier are served in different clocks
  clocks-apart : (number other : ℕ) (o q : Operation) (t s : ℕ) → number ≢ other → IsOperation diagram (attributes_of diagram) plan number o → IsOperation diagram (attributes_of diagram) plan other q
      → Hits ((attributes_of diagram).period_at o.block) t → Hits ((attributes_of diagram).period_at q.block) s
      → unit_of diagram (attributes_of diagram) plan timing number o ≡ unit_of diagram (attributes_of diagram) plan timing other q
      → clock_of diagram plan timing number o t ≡ clock_of diagram plan timing other q s → ⊥
  clocks-apart number other o q t s ne is also hit too unit e =
      let p = have_periods diagram (attributes_of diagram) plan number o is in
      let r = have_periods diagram (attributes_of diagram) plan other q also in
      let apart = differ diagram (attributes_of diagram) plan timing number other o q ne is also unit in
      let same : p.0 ≡ r.0 = sym (ap base_samples p.1) ∙ ap (λ (k : OperationKind). k.period) apart.kind ∙ ap base_samples r.1 in
      let lat : latency_at timing.lat o.block ≡ latency_at timing.lat q.block = ap (λ (k : OperationKind). k.lat) apart.kind in
      let hits : t % p.0 ≡ 0 = subst (λ (x : Option ℕ). Hits x t) p.1 hit in
      let hits_too : s % p.0 ≡ 0 = subst (λ (n : ℕ). s % n ≡ 0) (sym same) (subst (λ (x : Option ℕ). Hits x s) r.1 too) in
      let a = in-frame number o t p.0 hits in
      let b = in-frame other q s p.0 hits_too in
      let c = slot-below number o p.0 is p.1 in
      let d = slot-below other q p.0 also (r.1 ∙ ap Some (sym same)) in
      let l : latency_at timing.lat o.block * plan.cycles ≡ latency_at timing.lat q.block * plan.cycles = ap (λ (x : ℕ). x * plan.cycles) lat in
      let f : (t / p.0) * (p.0 * plan.cycles) + slot_of diagram (attributes_of diagram) plan timing number o
      ≡ (s / p.0) * (p.0 * plan.cycles) + slot_of diagram (attributes_of diagram) plan timing other q =
      omega (arith, a, b, e, l) in
      apart.slots (frame-apart (t / p.0) (s / p.0) (p.0 * plan.cycles) _ _ c d f).1

  pub services-apart : (number other : ℕ) (o q : Operation) (t s : ℕ) → IsOperation diagram (attributes_of diagram) plan number o → IsOperation diagram (attributes_of diagram) plan other q
      → Hits ((attributes_of diagram).period_at o.block) t → Hits ((attributes_of diagram).period_at q.block) s
      → unit_of diagram (attributes_of diagram) plan timing number o ≡ unit_of diagram (attributes_of diagram) plan timing other q
      → clock_of diagram plan timing number o t ≡ clock_of diagram plan timing other q s → (number ≡ other) × (t ≡ s)
  services-apart number other o q t s is also hit too unit e = by (cases_order number other) where
    by : (number ≡ other) ⊎ ((number < other) ⊎ (other < number)) → (number ≡ other) × (t ≡ s)
    by (inr order) = absurd (clocks-apart number other o q t s (λ same. elim order [ inl l ↦ omega (arith, l, same) | inr g ↦ omega (arith, g, same) ]) is also hit too unit e)
    by (inl same) =
        let own : Some o ≡ Some q = sym is ∙ ap (λ (n : ℕ). slice_get (shared_operations diagram (attributes_of diagram) plan) n) same ∙ also in
        let one : o ≡ q = cc own in
        let p = have_periods diagram (attributes_of diagram) plan number o is in
        let some : 0 < p.0 * plan.cycles = (let b = slot-below number o p.0 is p.1 in omega (arith, b)) in
        let hits : t % p.0 ≡ 0 = subst (λ (x : Option ℕ). Hits x t) p.1 hit in
        let hits_too : s % p.0 ≡ 0 = subst (λ (x : Option ℕ). Hits x s) (ap (λ (x : Operation). (attributes_of diagram).period_at x.block) (sym one) ∙ p.1) too in
        let f : clock_of diagram plan timing number o t ≡ clock_of diagram plan timing number o s =
        e ∙ (λ i. clock_of diagram plan timing (sym same i) (sym one i) s) in
        (same, same-hit number o t s p.0 some hits hits_too f)

module _ {netlist : Circuit} {names : List (List ℕ)} {diagram : Diagram} {plan : Resolved} {timing : Timing}
    {m : Module} (built : Offers netlist names diagram plan timing) (made : IsEmissionOf netlist m) where
  pub owed : MultipliesAsOwed m diagram plan timing
  owed = sym (zip-length (IsProduct netlist m) (products_of netlist) (multiplications m) made.products.each) ∙ built.products

  pub serves : OperationsAreServed → OperationsHavePeriods → SlotsDiffer → ReadyFits → StimulusGivesColumns → InputsHavePeriods diagram → IsScheduled diagram plan timing → Serves m diagram plan timing
  serves served have_periods differ fits columns periods scheduled = record {
    served = λ samples window stimulus table rows run number o b t place is at early hit counts.
        let steady = steady-run made run in
        let thin : Window = thin_window m window run.inputs in
        let thin_rows : Rows = (thinned made run).thin_rows in
        let unit = built.units number o b is at in
        let x = zip-get (IsProduct netlist m) (products_of netlist) (multiplications m) made.products.each (unit_of diagram (attributes_of diagram) plan timing number o) unit.product unit.at in
        let c = clock_of diagram plan timing number o t in
        let below = clock-below made run c place counts in
        subst (λ (row : Row). IsServed m diagram table row (unit_of diagram (attributes_of diagram) plan timing number o) o b t) (clock-row made run c place counts) (record {
          left = rows_from netlist 0 thin_rows unit.product.left c;
          right = rows_from netlist 0 thin_rows unit.product.right c;
          operands = unit.has stimulus samples (thin.rows - (0 + 1)) (inputs_from netlist 0 thin_rows) (rows_from netlist 0 thin_rows) table
              (net-run built made columns periods steady) t early hit (omega (arith, below));
          multiplied = record {
            multiplication = x.0;
            at = x.1;
            left_is = x.2.left.is thin.rows steady.run.start steady.run.inputs thin_rows steady.run.runs (0 + 1 + c) below;
            right_is = x.2.right.is thin.rows steady.run.start steady.run.inputs thin_rows steady.run.runs (0 + 1 + c) below;
          };
        });
    apart = services-apart served have_periods differ fits scheduled;
  }
