-- Nets that are pinned.
use Rattle.std.proofs.Common.{◌≡◌, ℕ, ◌<◌, inl, inr, Bool, true, false, List, length, set, refl, sym, ◌∙◌, subst, length-set}
use Rattle.std.proofs.lemmas.Bool.{cases_eq}
use Rattle.std.proofs.lemmas.List.{get_or-set_same, get_or-set_other}
use Rattle.hw_net.specs.declared.netlist.Net.{Net}
use Rattle.hw_fold.specs.inner.Pins.{IsPinned, KeepsMarks, is_marked}

pub keeps-none : (marks : List Bool) → KeepsMarks marks marks
keeps-none marks = record { size = refl; kept = λ k e. e }

pub keeps-trans : (old middle new : List Bool) → KeepsMarks old middle → KeepsMarks middle new → KeepsMarks old new
keeps-trans old middle new one two = record { size = two.size ∙ one.size; kept = λ k e. two.kept k (one.kept k e) }

pub keeps-one : (marks : List Bool) (k : ℕ) → k < length marks → KeepsMarks marks (set marks k true)
keeps-one marks k below = record {
  size = length-set marks k true;
  kept = λ j e. elim (cases_eq j k) [
    | inl same ↦ subst (λ (i : ℕ). is_marked (set marks k true) i ≡ true) (sym same) (get_or-set_same marks k true false below)
    | inr apart ↦ get_or-set_other marks k j true false apart ∙ e
  ];
}

pub pinned-on : (nets : List Net) (own alone own' alone' : List Bool) (k : ℕ) → KeepsMarks own own' → KeepsMarks alone alone' → IsPinned nets own alone k → IsPinned nets own' alone' k
pinned-on nets own alone own' alone' k one two pinned = record {
  own_mark = one.kept k pinned.own_mark;
  wire = λ frame slot first from is. two.kept from (pinned.wire frame slot first from is);
}
