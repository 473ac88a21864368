-- The first broken rule of wiring and of enabled subsystems is one.
use Rattle.std.proofs.Common.{◌≡◌, ℕ, inl, inr, sym, ◌∙◌, ap}
use Rattle.std.proofs.lemmas.Bool.{cases_order}
use Rattle.dg_model.specs.declared.fault.RuleFault.{RuleFault}
use Rattle.dg_model.specs.declared.fault.Shown.TheVariants.{Nothing}
use Rattle.dg_model.specs.declared.nested.Nested.{Nested}
use Rattle.dg_model.specs.declared.nested.NestedBlock.{NestedBlock}
use Rattle.dg_model.specs.declared.rule.Rule.{Rule}
use Rattle.dg_model.specs.Faults.{fault_of}
use Rattle.dg_flat.specs.Parts.{nested_path}
use Rattle.dg_flat.specs.Rules.{AllNestedKeep, BreaksNested, KeepsWiring, KeepsEnable, BreaksWiringOrEnable}

one_first : (nested : Nested) (rule : Rule) (Keeps : Nested → ℕ → NestedBlock → Type 0) (one other : RuleFault)
    → BreaksNested nested rule Keeps one → BreaksNested nested rule Keeps other → one ≡ other
one_first nested rule Keeps one other is too = elim (cases_order is.place too.place) [
  | inl same ↦ is.fault_is ∙ ap (λ (place : ℕ). fault_of rule (nested_path nested.blocks place) Nothing) same ∙ sym too.fault_is
  | inr differ ↦ elim differ [
    | inl less ↦ absurd (is.broken (too.before is.place is.block less is.there))
    | inr more ↦ absurd (too.broken (is.before too.place too.block more too.there))
  ]
]

kept_first : (nested : Nested) (rule : Rule) (Keeps : Nested → ℕ → NestedBlock → Type 0) (fault : RuleFault) → AllNestedKeep nested Keeps → BreaksNested nested rule Keeps fault → ⊥
kept_first nested rule Keeps fault keep is = is.broken (keep is.place is.block is.there)

pub not_broken : (nested : Nested) (fault : RuleFault) → AllNestedKeep nested KeepsWiring → AllNestedKeep nested KeepsEnable → BreaksWiringOrEnable nested fault → ⊥
not_broken nested fault wiring enables (inl is) = kept_first nested Rule.Wiring KeepsWiring fault wiring is
not_broken nested fault wiring enables (inr is) = kept_first nested Rule.Enable KeepsEnable fault enables is.enables

pub one_broken : (nested : Nested) (one other : RuleFault) → BreaksWiringOrEnable nested one → BreaksWiringOrEnable nested other → one ≡ other
one_broken nested one other (inl is) (inl too) = one_first nested Rule.Wiring KeepsWiring one other is too
one_broken nested one other (inl is) (inr too) = absurd (kept_first nested Rule.Wiring KeepsWiring one too.wired is)
one_broken nested one other (inr is) (inl too) = absurd (kept_first nested Rule.Wiring KeepsWiring other is.wired too)
one_broken nested one other (inr is) (inr too) = one_first nested Rule.Enable KeepsEnable one other is.enables too.enables
