-- Slots that were tried rise.
use Rattle.std.proofs.Common.{◌≡◌, ℕ, ◌+◌, ◌<◌, ◌≤◌, inl, inr, List, [], ◌∷◌, ◌++◌, length, take, Contains, slice_get, Some, sym, ap, ◌∙◌, subst, arith}
use Rattle.std.proofs.lemmas.List.{take_all, take_more}
use Rattle.std.proofs.lemmas.Option.{slice_get_within, get_or_from_slice_get}
use Rattle.std.proofs.lemmas.List.Elements.{Contains-append_cases}
use Rattle.math_list.proofs.Elements.{cons-cases, head-in, none-in, tail-in}
use Rattle.hw_share.specs.Gathered.{SlotsDiffer}
use Rattle.tests_hardware.specs.inner.GatherTests.{AreRising}

-- the slots are below a bound
pub record RiseTo (slots : List ℕ) (length least : ℕ) : Type 0 where
  pub are : AreRising slots length
  pub below : (slot : ℕ) → Contains slots slot → slot < least

pub none-rise : (length : ℕ) → RiseTo [] length 0
none-rise length = record { are = record { differ = tt; inside = λ slot d. absurd (none-in slot d) }; below = λ slot d. absurd (none-in slot d) }

differ-more : (slots : List ℕ) (last : ℕ) → SlotsDiffer slots → ((slot : ℕ) → Contains slots slot → slot < last) → SlotsDiffer (slots ++ last ∷ [])
differ-more [] last differ below = (λ other d. absurd (none-in other d), tt)
differ-more (first ∷ slots) last differ below = (
  λ other d. elim (Contains-append_cases slots (last ∷ []) other d) [
    | inl front ↦ differ.0 other front
    | inr end ↦ elim (cons-cases last other [] end) [
      | inl same ↦ (λ e. (let less = below first (head-in first slots) in omega (arith, less, e, same)))
      | inr later ↦ absurd (none-in other later)
    ]
  ],
  differ-more slots last differ.1 (λ slot d. below slot (tail-in first slot slots d)),
)

push-cases : (slots : List ℕ) (last bound : ℕ) → ((slot : ℕ) → Contains slots slot → slot < bound) → last < bound → (slot : ℕ) → Contains (slots ++ last ∷ []) slot → slot < bound
push-cases slots last bound below less slot d = elim (Contains-append_cases slots (last ∷ []) slot d) [
  | inl front ↦ below slot front
  | inr end ↦ elim (cons-cases last slot [] end) [
    | inl same ↦ omega (arith, same, less)
    | inr later ↦ absurd (none-in slot later)
  ]
]

pub rise-more : (slots : List ℕ) (length least i slot : ℕ) → RiseTo (take i slots) length least → slice_get slots i ≡ Some slot → least ≤ slot → slot < length → RiseTo (take (i + 1) slots) length (slot + 1)
rise-more slots length least i slot rise at high low = subst (λ (xs : List ℕ). RiseTo xs length (slot + 1)) (sym longer) (record {
  are = record {
    differ = differ-more (take i slots) slot rise.are.differ (λ other d. (let less = rise.below other d in omega (arith, less, high)));
    inside = push-cases (take i slots) slot length rise.are.inside low;
  };
  below = push-cases (take i slots) slot (slot + 1) (λ other d. (let less = rise.below other d in omega (arith, less, high))) (omega arith);
})
  where
    longer : take (i + 1) slots ≡ take i slots ++ slot ∷ []
    longer = take_more slots i slot (slice_get_within slots i slot at) ∙ ap (λ (x : ℕ). take i slots ++ x ∷ []) (get_or_from_slice_get slots i slot slot at)

pub all-rise : (slots : List ℕ) (bound least i : ℕ) → RiseTo (take i slots) bound least → length slots ≤ i → AreRising slots bound
all-rise slots bound least i rise past = subst (λ (xs : List ℕ). AreRising xs bound) (take_all i slots past) rise.are
