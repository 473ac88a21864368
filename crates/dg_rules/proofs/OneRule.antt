-- The first broken rule of dimensions, types, rates and loops is one.
use Rattle.std.proofs.Common.{◌≡◌, ◌≢◌, ℕ, ◌⊎◌, inl, inr, [], ◌∷◌, sym, ◌∙◌, ap, ap₂, arith}
use Rattle.std.specs.Prelude.{slice_get}
use Rattle.std.proofs.lemmas.Bool.{cases_order}
use Rattle.dg_model.specs.declared.diagram.Block.{Block}
use Rattle.dg_model.specs.declared.diagram.Diagram.{Diagram}
use Rattle.dg_model.specs.declared.fault.RuleFault.{RuleFault}
use Rattle.dg_model.specs.declared.fault.Shown.{Shown}
use Rattle.dg_model.specs.declared.fault.Shown.TheVariants.{Cycle}
use Rattle.dg_model.specs.declared.rule.Rule.{Rule}
use Rattle.dg_model.specs.Attributes.{attributes_of}
use Rattle.dg_model.specs.Checked.{IsChecked, BreaksRule}
use Rattle.dg_model.specs.Dimension.{KeepsDimensions, BreaksDimension}
use Rattle.dg_model.specs.Faults.{path_of, fault_of, AllKeep, BreaksAt}
use Rattle.dg_model.specs.Loop.{KeepsLoop, BreaksLoop}
use Rattle.dg_model.specs.Rate.{KeepsRates, BreaksRate}
use Rattle.dg_model.specs.Signals.{Attributes}
use Rattle.dg_model.specs.TypeRule.{KeepsTypes, BreaksType}
use Rattle.dg_rules.specs.Laws.{told_first}
use Rattle.std.proofs.lemmas.Option.{same_Some}

-- ---- a part of a rule

one_at : (diagram : Diagram) (rule : Rule) (Keeps : ℕ → Block → Type 0) (shown : ℕ → Block → Shown)
    (one other : RuleFault) → BreaksAt diagram rule Keeps shown one → BreaksAt diagram rule Keeps shown other
    → one ≡ other
one_at diagram rule Keeps shown one other is too = elim (cases_order is.place too.place) [
  | inl same ↦
      let block : is.block ≡ too.block = same_Some is.block too.block (sym is.first.there ∙ ap (slice_get diagram.blocks) same ∙ too.first.there) in
      is.fault_is ∙ ap₂ (λ (place : ℕ) (b : Block). fault_of rule (path_of diagram place) (shown place b)) same block ∙ sym too.fault_is
  | inr differ ↦ elim differ [
    | inl less ↦ absurd (is.first.broken (too.first.before is.place is.block less is.first.there))
    | inr more ↦ absurd (too.first.broken (is.first.before too.place too.block more too.first.there))
  ]
]

kept_at : (diagram : Diagram) (rule : Rule) (Keeps : ℕ → Block → Type 0) (shown : ℕ → Block → Shown) (fault : RuleFault) → AllKeep diagram Keeps → BreaksAt diagram rule Keeps shown fault → ⊥
kept_at diagram rule Keeps shown fault keep is = is.first.broken (keep is.place is.block is.first.there)

-- ---- each rule

kept_dimensions : (diagram : Diagram) (fault : RuleFault) → KeepsDimensions diagram → BreaksDimension diagram fault → ⊥
kept_dimensions diagram fault keep (inl is) = kept_at diagram Rule.Dimension _ _ fault keep.blocks is
kept_dimensions diagram fault keep (inr is) = is.unbounded keep.bounded

one_dimension : (diagram : Diagram) (one other : RuleFault) → BreaksDimension diagram one → BreaksDimension diagram other → one ≡ other
one_dimension diagram one other (inl is) (inl too) = one_at diagram Rule.Dimension _ _ one other is too
one_dimension diagram one other (inl is) (inr too) = absurd (kept_at diagram Rule.Dimension _ _ one too.blocks is)
one_dimension diagram one other (inr is) (inl too) = absurd (kept_at diagram Rule.Dimension _ _ other is.blocks too)
one_dimension diagram one other (inr is) (inr too) = is.fault_is ∙ sym too.fault_is

kept_types : (diagram : Diagram) (fault : RuleFault) → KeepsTypes diagram → BreaksType diagram fault → ⊥
kept_types diagram fault keep (inl is) = kept_at diagram Rule.Type _ _ fault keep.narrow is
kept_types diagram fault keep (inr (inl is)) = kept_at diagram Rule.Type _ _ fault keep.known is.unknown
kept_types diagram fault keep (inr (inr is)) = kept_at diagram Rule.Type _ _ fault keep.agree is.differ

one_type : (diagram : Diagram) (one other : RuleFault) → BreaksType diagram one → BreaksType diagram other → one ≡ other
one_type diagram one other (inl is) (inl too) = one_at diagram Rule.Type _ _ one other is too
one_type diagram one other (inl is) (inr (inl too)) = absurd (kept_at diagram Rule.Type _ _ one too.narrow is)
one_type diagram one other (inl is) (inr (inr too)) = absurd (kept_at diagram Rule.Type _ _ one too.narrow is)
one_type diagram one other (inr (inl is)) (inl too) = absurd (kept_at diagram Rule.Type _ _ other is.narrow too)
one_type diagram one other (inr (inl is)) (inr (inl too)) = one_at diagram Rule.Type _ _ one other is.unknown too.unknown
one_type diagram one other (inr (inl is)) (inr (inr too)) = absurd (kept_at diagram Rule.Type _ _ one too.known is.unknown)
one_type diagram one other (inr (inr is)) (inl too) = absurd (kept_at diagram Rule.Type _ _ other is.narrow too)
one_type diagram one other (inr (inr is)) (inr (inl too)) = absurd (kept_at diagram Rule.Type _ _ other is.known too.unknown)
one_type diagram one other (inr (inr is)) (inr (inr too)) = one_at diagram Rule.Type _ _ one other is.differ too.differ

kept_rates : (diagram : Diagram) (fault : RuleFault) → KeepsRates diagram → BreaksRate diagram fault → ⊥
kept_rates diagram fault keep (inl is) = kept_at diagram Rule.Rate _ _ fault keep.declared is
kept_rates diagram fault keep (inr is) = kept_at diagram Rule.Rate _ _ fault keep.periods is.periods

one_rate : (diagram : Diagram) (one other : RuleFault) → BreaksRate diagram one → BreaksRate diagram other → one ≡ other
one_rate diagram one other (inl is) (inl too) = one_at diagram Rule.Rate _ _ one other is too
one_rate diagram one other (inl is) (inr too) = absurd (kept_at diagram Rule.Rate _ _ one too.declared is)
one_rate diagram one other (inr is) (inl too) = absurd (kept_at diagram Rule.Rate _ _ other is.declared too)
one_rate diagram one other (inr is) (inr too) = one_at diagram Rule.Rate _ _ one other is.periods too.periods

kept_loop : (diagram : Diagram) (attributes : Attributes) (fault : RuleFault) → KeepsLoop diagram attributes → BreaksLoop diagram attributes fault → ⊥
kept_loop diagram attributes fault keep is = keep (is.first ∷ is.more) is.is_cycle

one_loop : (diagram : Diagram) (attributes : Attributes) (one other : RuleFault) → BreaksLoop diagram attributes one → BreaksLoop diagram attributes other → told_first one ≡ told_first other
one_loop diagram attributes one other is too =
    let low = is.least (too.first ∷ too.more) too.is_cycle 0 0 (omega arith) in
    let high = too.least (is.first ∷ is.more) is.is_cycle 0 0 (omega arith) in
    let same : is.first ≡ too.first = omega (arith, low, high) in
    ap told_first is.fault_is ∙ ap (λ (first : ℕ). fault_of Rule.Loop (path_of diagram first) (Cycle (first ∷ []))) same ∙ sym (ap told_first too.fault_is)

-- ---- the first of them

-- one fault, or two of the rule of loops that differ in their cycles at most
abbrev AreSame : RuleFault → RuleFault → Type 0
AreSame one other = (one ≡ other) ⊎ ((one.rule ≡ Rule.Loop) × (told_first one ≡ told_first other))

one_rule : (diagram : Diagram) (one other : RuleFault) → BreaksRule diagram one → BreaksRule diagram other → AreSame one other
one_rule diagram one other (inl is) (inl too) = inl (one_dimension diagram one other is too)
one_rule diagram one other (inl is) (inr (inl too)) = absurd (kept_dimensions diagram one too.dimensions is)
one_rule diagram one other (inl is) (inr (inr (inl too))) = absurd (kept_dimensions diagram one too.dimensions is)
one_rule diagram one other (inl is) (inr (inr (inr too))) = absurd (kept_dimensions diagram one too.dimensions is)
one_rule diagram one other (inr (inl is)) (inl too) = absurd (kept_dimensions diagram other is.dimensions too)
one_rule diagram one other (inr (inl is)) (inr (inl too)) = inl (one_type diagram one other is.types too.types)
one_rule diagram one other (inr (inl is)) (inr (inr (inl too))) = absurd (kept_types diagram one too.types is.types)
one_rule diagram one other (inr (inl is)) (inr (inr (inr too))) = absurd (kept_types diagram one too.types is.types)
one_rule diagram one other (inr (inr (inl is))) (inl too) = absurd (kept_dimensions diagram other is.dimensions too)
one_rule diagram one other (inr (inr (inl is))) (inr (inl too)) = absurd (kept_types diagram other is.types too.types)
one_rule diagram one other (inr (inr (inl is))) (inr (inr (inl too))) = inl (one_rate diagram one other is.rates too.rates)
one_rule diagram one other (inr (inr (inl is))) (inr (inr (inr too))) = absurd (kept_rates diagram one too.rates is.rates)
one_rule diagram one other (inr (inr (inr is))) (inl too) = absurd (kept_dimensions diagram other is.dimensions too)
one_rule diagram one other (inr (inr (inr is))) (inr (inl too)) = absurd (kept_types diagram other is.types too.types)
one_rule diagram one other (inr (inr (inr is))) (inr (inr (inl too))) = absurd (kept_rates diagram other is.rates too.rates)
one_rule diagram one other (inr (inr (inr is))) (inr (inr (inr too))) =
    inr (ap (λ (fault : RuleFault). fault.rule) is.loops.fault_is, one_loop diagram (attributes_of diagram) one other is.loops too.loops)

same_told : (one other : RuleFault) → AreSame one other → told_first one ≡ told_first other
same_told one other (inl same) = ap told_first same
same_told one other (inr both) = both.1

same_fault : (one other : RuleFault) → AreSame one other → one.rule ≢ Rule.Loop → one ≡ other
same_fault one other (inl same) not = same
same_fault one other (inr both) not = absurd (not both.0)

pub one_told : (diagram : Diagram) (one other : RuleFault) → BreaksRule diagram one → BreaksRule diagram other → told_first one ≡ told_first other
one_told diagram one other is too = same_told one other (one_rule diagram one other is too)

pub one_fault : (diagram : Diagram) (one other : RuleFault) → BreaksRule diagram one → BreaksRule diagram other → one.rule ≢ Rule.Loop → one ≡ other
one_fault diagram one other is too not = same_fault one other (one_rule diagram one other is too) not

pub not_broken : (diagram : Diagram) (fault : RuleFault) → IsChecked diagram → BreaksRule diagram fault → ⊥
not_broken diagram fault is (inl broken) = kept_dimensions diagram fault is.dimensions broken
not_broken diagram fault is (inr (inl broken)) = kept_types diagram fault is.types broken.types
not_broken diagram fault is (inr (inr (inl broken))) = kept_rates diagram fault is.rates broken.rates
not_broken diagram fault is (inr (inr (inr broken))) = kept_loop diagram (attributes_of diagram) fault is.loops broken.loops
