-- What an accumulator has gathered behind the clocks of its slots.
use Rattle.std.proofs.Common.{◌≡◌, ◌≢◌, ℕ, zero, suc, ◌+◌, ◌<◌, ◌≤◌, ◌==◌, ◌⊎◌, inl, inr, Bool, true, false, if◌then◌else◌, List, [], ◌∷◌, Contains, ℤ, pos, ◌+ℤ◌, ap, sym, ◌∙◌}
use Rattle.std.proofs.Common.{subst, arith, refl}
use Rattle.std.proofs.lemmas.Int.{ints}
use Rattle.std.proofs.lemmas.Bool.{cases_lt, cases_eq, eqb-true, eqb-false}
use Rattle.math_num.specs.Word.{InWord, IsWrapped}
use Rattle.math_num.proofs.Arithmetic.{int_cases}
use Rattle.math_list.proofs.Elements.{cons-cases, head-in, tail-in, none-in}
use Rattle.hw_net.specs.Registers.{Wave, Span, Takes, IsAcc}
use Rattle.hw_net.specs.Closed.{frame_start}
use Rattle.hw_net.specs.Gathered.{AccIsClosed, IsPart, total, AccShows}
use Rattle.hw_net.proofs.Clocks.{takes-at, place_in}
use Rattle.hw_share.specs.Gathered.{gathered, Gathers, SlotsDiffer}
use Rattle.hw_share.specs.inner.Gates.{Gates}

-- ---- the slots one by one

-- what a slot adds in each clock
abbrev spike : Wave → ℕ → ℕ → Wave
spike from start slot c = if c == start + slot then from c else pos 0

abbrev spikes : Wave → ℕ → List ℕ → Wave
spikes from start [] c = pos 0
spikes from start (slot ∷ slots) c = spike from start slot c +ℤ spikes from start slots c

spike-on : (from : Wave) (start slot c : ℕ) → c ≡ start + slot → spike from start slot c ≡ from c
spike-on from start slot c same = by (c == start + slot) refl
  where
    by : (t : Bool) → (c == start + slot) ≡ t → (if t then from c else pos 0) ≡ from c
    by true e = refl
    by false e = absurd (eqb-false c (start + slot) e same)

spike-off : (from : Wave) (start slot c : ℕ) → c ≢ start + slot → spike from start slot c ≡ pos 0
spike-off from start slot c apart = by (c == start + slot) refl
  where
    by : (t : Bool) → (c == start + slot) ≡ t → (if t then from c else pos 0) ≡ pos 0
    by true e = absurd (apart (eqb-true c (start + slot) e))
    by false e = refl

total-none : (start j : ℕ) → total (λ c. pos 0) start j ≡ pos 0
total-none start zero = refl
total-none start (suc j) = omega (arith, ints, total-none start j)

total-both : (a b : Wave) (start j : ℕ) → total (λ c. a c +ℤ b c) start j ≡ total a start j +ℤ total b start j
total-both a b start zero = refl
total-both a b start (suc j) = omega (arith, ints, total-both a b start j)

total-same : (a b : Wave) (start j : ℕ) → ((i : ℕ) → i < j → a (start + i) ≡ b (start + i)) → total a start j ≡ total b start j
total-same a b start zero same = refl
total-same a b start (suc j) same =
    let before = total-same a b start j (λ i less. same i (omega (arith, less))) in
    let now = same j (omega arith) in
    omega (arith, ints, before, now)

-- before its clock a slot has added nothing, and behind it its number
spike-before : (from : Wave) (start slot j : ℕ) → j ≤ slot → total (spike from start slot) start j ≡ pos 0
spike-before from start slot zero low = refl
spike-before from start slot (suc j) low =
    let before = spike-before from start slot j (omega (arith, low)) in
    let now = spike-off from start slot (start + j) (λ e. omega (arith, e, low)) in
    omega (arith, ints, before, now)

spike-behind : (from : Wave) (start slot j : ℕ) → slot < j → total (spike from start slot) start j ≡ from (start + slot)
spike-behind from start slot zero high = absurd (omega (arith, high))
spike-behind from start slot (suc j) high = elim (cases_lt slot j) [
  | inl less ↦
      let before = spike-behind from start slot j less in
      let now = spike-off from start slot (start + j) (λ e. omega (arith, e, less)) in
      omega (arith, ints, before, now)
  | inr last ↦
      let e : j ≡ slot = omega (arith, high, last) in
      let before = spike-before from start slot j (omega (arith, e)) in
      let now = spike-on from start slot (start + j) (omega (arith, e)) in
      let at : from (start + j) ≡ from (start + slot) = ap (λ (i : ℕ). from (start + i)) e in
      omega (arith, ints, before, now, at)
]

spikes-behind : (from : Wave) (start : ℕ) (slots : List ℕ) (j : ℕ) → ((slot : ℕ) → Contains slots slot → slot < j) → total (spikes from start slots) start j ≡ gathered from start slots
spikes-behind from start [] j past = total-none start j
spikes-behind from start (slot ∷ slots) j past =
    let both = total-both (spike from start slot) (spikes from start slots) start j in
    let one = spike-behind from start slot j (past slot (head-in slot slots)) in
    let rest = spikes-behind from start slots j (λ other c. past other (tail-in slot other slots c)) in
    omega (arith, ints, both, one, rest)

-- ---- what slots add in one clock

spikes-none : (from : Wave) (start i : ℕ) (slots : List ℕ) → ((slot : ℕ) → Contains slots slot → slot ≢ i) → spikes from start slots (start + i) ≡ pos 0
spikes-none from start i [] none = refl
spikes-none from start i (slot ∷ slots) none =
    let own = spike-off from start slot (start + i) (λ e. none slot (head-in slot slots) (omega (arith, e))) in
    let rest = spikes-none from start i slots (λ other c. none other (tail-in slot other slots c)) in
    omega (arith, ints, own, rest)

spikes-some : (from : Wave) (start i : ℕ) (slots : List ℕ) → SlotsDiffer slots → Contains slots i → spikes from start slots (start + i) ≡ from (start + i)
spikes-some from start i [] differ c = absurd (none-in i c)
spikes-some from start i (first ∷ slots) differ c = elim (cons-cases first i slots c) [
  | inl same ↦
      let here = spike-on from start first (start + i) (omega (arith, same)) in
      let rest = spikes-none from start i slots (λ other d e. differ.0 other d (same ∙ sym e)) in
      omega (arith, ints, here, rest)
  | inr later ↦
      let here = spike-off from start first (start + i) (λ e. differ.0 i later (omega (arith, e))) in
      let rest = spikes-some from start i slots differ.1 later in
      omega (arith, ints, here, rest)
]

find-slot : (slots : List ℕ) (i : ℕ) → Contains slots i ⊎ ((slot : ℕ) → Contains slots slot → slot ≢ i)
find-slot [] i = inr (λ slot c. absurd (none-in slot c))
find-slot (first ∷ slots) i = elim (cases_eq first i) [
  | inl same ↦ inl (subst (Contains (first ∷ slots)) same (head-in first slots))
  | inr apart ↦ elim (find-slot slots i) [
    | inl found ↦ inl (tail-in first i slots found)
    | inr none ↦ inr (λ slot c. elim (cons-cases first slot slots c) [
      | inl same ↦ (λ e. apart (same ∙ e))
      | inr later ↦ none slot later
    ])
  ]
]

-- ---- the accumulator

-- what is let in
abbrev side-of : (enable from : ℤ) → (enable ≡ pos 0) ⊎ (enable ≡ pos 0 → ⊥) → ℤ
side-of enable from (inl off) = pos 0
side-of enable from (inr on) = from

part-of : Wave → Wave → Wave
part-of enable from c = side-of (enable c) (from c) (int_cases (enable c) (pos 0))

is-part : (enable from : Wave) → IsPart enable from (part-of enable from)
unfolding part-of
is-part enable from = record { on = λ c on. by-on c on (int_cases (enable c) (pos 0)); off = λ c off. by-off c off (int_cases (enable c) (pos 0)) }
  where
    by-on : (c : ℕ) → enable c ≢ pos 0 → (side : (enable c ≡ pos 0) ⊎ (enable c ≡ pos 0 → ⊥)) → side-of (enable c) (from c) side ≡ from c
    by-on c on (inl off) = absurd (on off)
    by-on c on (inr _) = refl

    by-off : (c : ℕ) → enable c ≡ pos 0 → (side : (enable c ≡ pos 0) ⊎ (enable c ≡ pos 0 → ⊥)) → side-of (enable c) (from c) side ≡ pos 0
    by-off c off (inl _) = refl
    by-off c off (inr on) = absurd (on off)

module _ (accumulates : AccIsClosed) (n : ℕ) (span : Span) (width : ℕ) (signed : Bool) (slots : List ℕ) (from enable wave : Wave) (some : 0 < span.length)
    (words : (c : ℕ) → c < n → InWord width signed (wave c)) (differ : SlotsDiffer slots) (gates : Gates n span slots enable) (acc : IsAcc n span width signed enable from wave)
  where
    abbrev part : Wave
    part = part-of enable from

    parts : IsPart enable from part
    parts = is-part enable from

    takes-place : (k i slot : ℕ) → i < span.length → Takes span slot (frame_start span k + i) → slot ≡ i
    takes-place k i slot less t = (let e = place_in span k i (frame_start span k + i) less refl in omega (arith, e, t.at_slot))

    part-is : (k i : ℕ) → frame_start span k + i < n → i < span.length → part (frame_start span k + i) ≡ spikes from (frame_start span k) slots (frame_start span k + i)
    part-is k i h less = elim (find-slot slots i) [
      | inl found ↦ parts.on (frame_start span k + i) (gates.on (frame_start span k + i) i h found (takes-at span i k less)) ∙ sym (spikes-some from (frame_start span k) i slots differ found)
      | inr none ↦
          parts.off (frame_start span k + i) (gates.off (frame_start span k + i) h (λ slot d t. none slot d (takes-place k i slot less t)))
          ∙ sym (spikes-none from (frame_start span k) i slots none)
    ]

    quiet : (c : ℕ) → c < n → c < span.start → enable c ≡ pos 0
    quiet c h early = gates.off c h (λ slot d t. omega (arith, t.begun, early))

    closed : AccShows n span width signed part wave
    closed = accumulates n span width signed enable from part wave some words quiet parts acc

    pub gathers-of : Gathers n span width signed slots from wave
    gathers-of = record {
      at = λ k j h less past.
          let start : ℕ = frame_start span k in
          let same = total-same part (spikes from start slots) start j (λ i before. part-is k i (omega (arith, h, before)) (omega (arith, less, before))) in
          let sum = spikes-behind from start slots j past in
          subst (λ (v : ℤ). IsWrapped v width signed (wave (start + j))) (same ∙ sum) (closed.within k j h less);
    }
