-- Whether a size keeps the rule, as the code finds it.
use Rattle.std.proofs.Common.{◌≡◌, ℕ, Bool, true, false, sym, ap, ◌∙◌, inl, inr, arith}
use Rattle.std.specs.Prelude.{[], nat_le}
use Rattle.std.proofs.lemmas.Bool.{and_parts, and_cases, leb-true, leb-false}
use Rattle.dg_model.specs.declared.diagram.Diagram.{Diagram}
use Rattle.dg_model.specs.declared.fault.Shown.TheVariants.{Size}
use Rattle.dg_model.specs.declared.resolved.Resolved.{Resolved}
use Rattle.dg_model.specs.declared.rule.Rule.{Rule}
use Rattle.dg_model.specs.Attributes.{attributes_of}
use Rattle.dg_model.specs.Faults.{fault_of}
use Rattle.hw_sched.specs.declared.sizing.Sizing.{Sizing}
use Rattle.hw_sched.specs.inner.Counts.{are_within}
use Rattle.hw_sched.specs.Sizing.{IsSizeOf, IsKeptSize}
use Rattle.hw_sched.specs.Slots.{Timing}
use Rattle.hw_sched.specs.Storage.{most_latency, most_storage, storage, BreaksSize}

module _ (diagram : Diagram) (plan : Resolved) (sizing : Sizing) (timing : Timing) (within : Bool) (size : IsSizeOf diagram plan sizing timing) (within_is : within ≡ are_within sizing) where
  pub kept_as : within ≡ true → IsKeptSize diagram plan sizing timing
  kept_as on =
      let parts = and_parts (nat_le sizing.storage most_storage) (nat_le sizing.latency most_latency) (sym within_is ∙ on) in
      let few = leb-true sizing.storage most_storage parts.0 in
      let short = leb-true sizing.latency most_latency parts.1 in
      let stored = size.storage_is in
      let late = size.latency_is in
      record { size = size; keeps = record { few = omega (arith, few, stored); short = omega (arith, short, late) } }

  pub broken_as : within ≡ false → BreaksSize diagram plan timing (fault_of Rule.Size [] (Size sizing.storage sizing.latency))
  broken_as off = record {
    broken = elim (and_cases (nat_le sizing.storage most_storage) (nat_le sizing.latency most_latency) (sym within_is ∙ off)) [
      | inl many ↦ let high = leb-false sizing.storage most_storage many in let stored = size.storage_is in inl (omega (arith, high, stored))
      | inr late ↦ let high = leb-false sizing.latency most_latency late in let shown = size.latency_is in inr (omega (arith, high, shown))
    ];
    fault_is =
        ap (λ (n : ℕ). fault_of Rule.Size [] (Size n sizing.latency)) size.storage_is
        ∙ ap (λ (n : ℕ). fault_of Rule.Size [] (Size (storage diagram (attributes_of diagram) plan timing) n)) size.latency_is;
  }
