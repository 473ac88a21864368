-- Numbers stay in their nets' words, and their bits below a place and above.
use Rattle.std.proofs.Common.{◌≡◌, ◌≢◌, ℕ, zero, suc, ◌+◌, ◌-◌, ◌*◌, ◌/◌, ◌%◌, ◌<◌, ◌⊎◌, inl, inr, Bool, true, false, List, length, Some, slice_get, slice_index_or, All, ℤ, pos, negsuc, ◌<ℤ◌, ◌≤ℤ◌}
use Rattle.std.proofs.Common.{arith, refl, ap, sym, ◌^◌, ◌∙◌, pow_pos}
use Rattle.std.proofs.lemmas.Int.{ints}
use Rattle.std.proofs.lemmas.Bool.{cases_lt, cases_eq}
use Rattle.std.proofs.lemmas.Nat.{pow-add, mod_below, mod-pow-add}
use Rattle.math_num.specs.Word.{InWord, word_lowest}
use Rattle.hw_net.specs.declared.netlist.Net.{Net}
use Rattle.hw_net.specs.declared.netlist.NetKind.{NetKind}
use Rattle.hw_net.specs.declared.netlist.NetKind.TheVariants.{Comb, Reg, EnReg, Acc, Bridge, Unit, Counter}
use Rattle.hw_net.specs.Circuit.{Circuit}
use Rattle.hw_net.specs.Registers.{Span, Takes, IsLive}
use Rattle.hw_net.specs.NetRows.{span_of}
use Rattle.hw_net.specs.Netlist.{IsNetlist, IsKind, HasWord, reads_now}
use Rattle.hw_net.specs.Step.{Row, NetStarts, NetSteps, NetGoes, Goes}
use Rattle.math_list.proofs.Places.{held as at-place}
use Rattle.math_num.specs.Bits.{low_bits, shifted_down}
use Rattle.std.proofs.Math.Nat.{add-mul, div-eq_of_lt}
use Rattle.math_num.proofs.Words.{sign_of, size_of}

pub takes-or-not : (span : Span) (slot c : ℕ) → Takes span slot c ⊎ (¬ Takes span slot c)
takes-or-not span slot c =
    elim (cases_lt c span.start) [
      | inl early ↦ inr (λ t. omega (arith, t.begun))
      | inr begun ↦ elim (cases_eq ((c - span.start) % span.length) slot) [
        | inl same ↦ inl (record { begun = begun; at_slot = same })
        | inr apart ↦ inr (λ t. apart t.at_slot)
      ]
    ]

pub lives-or-not : (span : Span) (live c : ℕ) → IsLive span live c ⊎ (¬ IsLive span live c)
lives-or-not span live c =
    elim (cases_lt c span.start) [
      | inl early ↦ inl (record { passes = λ begun. absurd (omega arith) })
      | inr begun ↦ elim (cases_lt ((c - span.start) % span.length) live) [
        | inl less ↦ inl (record { passes = λ _. less })
        | inr held ↦ inr (λ is. omega (arith, is.passes begun))
      ]
    ]

pub zero-or-not : (z : ℤ) → (z ≡ pos 0) ⊎ (z ≢ pos 0)
zero-or-not (pos zero) = inl refl
zero-or-not (pos (suc n)) = inr (λ e. omega (arith, ints, e))
zero-or-not (negsuc n) = inr (λ e. omega (arith, ints, e))

pub some-or-none : (z : ℤ) → (z ≤ℤ pos 0) ⊎ (pos 0 <ℤ z)
some-or-none (pos zero) = inl (omega (arith, ints))
some-or-none (pos (suc n)) = inr (omega (arith, ints))
some-or-none (negsuc n) = inl (omega (arith, ints))

pub lowest-below : (width : ℕ) (signed : Bool) → word_lowest width signed ≤ℤ pos 0
lowest-below width true = omega (arith, ints)
lowest-below width false = omega (arith, ints)

-- what lies between 0 and a number of the word is one
between : (width : ℕ) (signed : Bool) (v most : ℤ) → pos 0 ≤ℤ v → v ≤ℤ most → InWord width signed most → InWord width signed v
between width signed v most low high is = record {
  low = omega (arith, ints, lowest-below width signed, low);
  high = omega (arith, ints, high, is.high);
}

-- the nets of a row that have numbers of their words
abbrev pub InWordAt : List Net → Row → ℕ → Type 0
InWordAt nets row k = (net : Net) → slice_get nets k ≡ Some net → InWord net.width net.signed (row k)

-- the number of a net that has this word
of-word : (nets : List Net) (row : Row) (k width : ℕ) (signed : Bool) → HasWord nets k width signed → InWordAt nets row k → InWord width signed (row k)
of-word nets row k width signed has is = rw (← has.wide, ← has.sign) (is has.net has.is)

module _ (nets : List Net) (cycles many : ℕ) where
  starts-in-word : (inputs row : Row) (width : ℕ) (signed : Bool) (kind : NetKind) (v : ℤ) → IsKind nets cycles many width signed kind → All (InWordAt nets row) (reads_now kind)
      → NetStarts cycles inputs row width signed kind v → InWord width signed v
  starts-in-word inputs row width signed (Comb op args) v has known is = is.in_word
  starts-in-word inputs row width signed (Reg frame slot first from) v has known is = rw is has.2
  starts-in-word inputs row width signed (EnReg frame enable reset first from) v has known is = rw is has.2
  starts-in-word inputs row width signed (Acc frame enable from) v has known is = rw is has.2
  starts-in-word inputs row width signed (Bridge frame live from) v has known is = rw is (of-word nets row from width signed has.2 (known 0 0 (omega arith)))
  starts-in-word inputs row width signed (Unit left right) v has known is = is.in_word
  starts-in-word inputs row width signed (Counter frame) v has known is = rw is has.1

  steps-in-word : (clock : ℕ) (inputs now next : Row) (width : ℕ) (signed : Bool) (kind : NetKind) (old v : ℤ) → IsKind nets cycles many width signed kind
      → ((k : ℕ) → InWordAt nets now k) → InWord width signed old → All (InWordAt nets next) (reads_now kind)
      → NetSteps cycles clock inputs now next width signed kind old v → InWord width signed v
  steps-in-word clock inputs now next width signed (Comb op args) old v has before own known is = is.in_word
  steps-in-word clock inputs now next width signed (Reg frame slot first from) old v has before own known is =
      elim (takes-or-not (span_of cycles frame) slot clock) [
        | inl t ↦ rw (is.takes t) (of-word nets now from width signed has.1 (before from))
        | inr t ↦ rw (is.keeps t) own
      ]
  steps-in-word clock inputs now next width signed (EnReg frame enable true first from) old v has before own known is =
      elim (takes-or-not (span_of cycles frame) ((span_of cycles frame).length - 1) clock) [
        | inl t ↦ elim (zero-or-not (now enable)) [
          | inl off ↦ rw (is.resets t off refl) has.2
          | inr on ↦ rw (is.takes t on) (of-word nets now from width signed has.1 (before from))
        ]
        | inr t ↦ rw (is.keeps t) own
      ]
  steps-in-word clock inputs now next width signed (EnReg frame enable false first from) old v has before own known is =
      elim (takes-or-not (span_of cycles frame) ((span_of cycles frame).length - 1) clock) [
        | inl t ↦ elim (zero-or-not (now enable)) [
          | inl off ↦ rw (is.stays t off refl) own
          | inr on ↦ rw (is.takes t on) (of-word nets now from width signed has.1 (before from))
        ]
        | inr t ↦ rw (is.keeps t) own
      ]
  steps-in-word clock inputs now next width signed (Acc frame enable from) old v has before own known is =
      elim (takes-or-not (span_of cycles frame) ((span_of cycles frame).length - 1) clock) [
        | inl t ↦ rw (is.clears t) has.2
        | inr t ↦ elim (zero-or-not (now enable)) [
          | inl off ↦ rw (is.keeps t off) own
          | inr on ↦ (is.adds t on).in_word
        ]
      ]
  steps-in-word clock inputs now next width signed (Bridge frame live from) old v has before own known is =
      elim (lives-or-not (span_of cycles frame) (live * cycles) (clock + 1)) [
        | inl l ↦ rw (is.passes l) (of-word nets next from width signed has.2 (known 0 0 (omega arith)))
        | inr l ↦ rw (is.holds l) own
      ]
  steps-in-word clock inputs now next width signed (Unit left right) old v has before own known is = is.in_word
  steps-in-word clock inputs now next width signed (Counter frame) old v has before own known is =
      elim (some-or-none old) [
        | inl none ↦
            let e = is.wraps none in
            between width signed v (pos (frame.latency * cycles + frame.period * cycles - 1)) (omega (arith, ints, e)) (omega (arith, ints, e)) has.1
        | inr some ↦
            let e = is.falls some in
            between width signed v old (omega (arith, ints, e, some)) (omega (arith, ints, e)) own
      ]

module _ (netlist : Circuit) (well : IsNetlist netlist) where
  by-kind : (clock : ℕ) (inputs now next : Row) (k : ℕ) (net : Net) → slice_get netlist.nets k ≡ Some net → NetGoes netlist.cycles clock inputs now next net.width net.signed net.kind (now k) (next k)
      → (0 < clock → (k : ℕ) → InWordAt netlist.nets now k) → All (InWordAt netlist.nets next) (reads_now net.kind) → InWord net.width net.signed (next k)
  by-kind zero inputs now next k net there goes before known =
      starts-in-word netlist.nets netlist.cycles (length netlist.inputs) inputs next net.width net.signed net.kind (next k)
      (at-place (λ (one : Net). IsKind netlist.nets netlist.cycles (length netlist.inputs) one.width one.signed one.kind) netlist.nets k net well.kinds there) known goes
  by-kind (suc clock) inputs now next k net there goes before known =
      steps-in-word netlist.nets netlist.cycles (length netlist.inputs) clock inputs now next net.width net.signed net.kind (now k) (next k)
      (at-place (λ (one : Net). IsKind netlist.nets netlist.cycles (length netlist.inputs) one.width one.signed one.kind) netlist.nets k net well.kinds there)
      (before (omega arith)) (before (omega arith) k net there) known goes

  -- in a clock, along the ranks
  in-clock : (clock : ℕ) (inputs now next : Row) → Goes netlist clock inputs now next → (0 < clock → (k : ℕ) → InWordAt netlist.nets now k)
      → (fuel k : ℕ) → well.ranked.0 k < fuel → InWordAt netlist.nets next k
  in-clock clock inputs now next goes before zero k less net there = absurd (omega arith)
  in-clock clock inputs now next goes before (suc fuel) k less net there =
      by-kind clock inputs now next k net there (goes.each k net there) before
      (λ i d within. in-clock clock inputs now next goes before fuel (slice_index_or (reads_now net.kind) i d) (omega (arith, well.ranked.1.falls k net there i d within)))

  pub goes-in-word : (clock : ℕ) (inputs now next : Row) → Goes netlist clock inputs now next → (0 < clock → (k : ℕ) → InWordAt netlist.nets now k) → (k : ℕ) → InWordAt netlist.nets next k
  goes-in-word clock inputs now next goes before k = in-clock clock inputs now next goes before (suc (well.ranked.0 k)) k (omega arith)

pub only-sign : (z : ℤ) (k : ℕ) → size_of z < 2 ^ k → shifted_down z k ≡ sign_of z
only-sign (pos n) k h = ap pos (div-eq_of_lt h)
only-sign (negsuc n) k h = ap negsuc (div-eq_of_lt h)

-- the bits from a place up, and those below it
pub split-low : (k v : ℕ) (z : ℤ) → low_bits (k + v) z ≡ low_bits k (shifted_down z v) * 2 ^ v + low_bits v z
split-low k v (pos n) = mod-pow-add n k v
split-low k v (negsuc n) =
    let high : ℕ = n / 2 ^ v % 2 ^ k in
    let e : 2 ^ (k + v) ≡ 2 ^ k * 2 ^ v = pow-add 2 k v in
    let a : (2 ^ k - 1 - high) * 2 ^ v + high * 2 ^ v ≡ (2 ^ k - 1) * 2 ^ v =
    sym (add-mul (2 ^ k - 1 - high) high (2 ^ v))
    ∙ ap (λ (i : ℕ). i * 2 ^ v)
    (let below : high < 2 ^ k = mod_below (n / 2 ^ v) (2 ^ k) (pow_pos k) in omega arith) in
    let b : (2 ^ k - 1) * 2 ^ v + 1 * 2 ^ v ≡ 2 ^ k * 2 ^ v = sym (add-mul (2 ^ k - 1) 1 (2 ^ v)) ∙ ap (λ (i : ℕ). i * 2 ^ v) (let some : 0 < 2 ^ k = pow_pos k in omega arith) in
    let c : n % 2 ^ (k + v) ≡ high * 2 ^ v + n % 2 ^ v = mod-pow-add n k v in
    let d : n % 2 ^ v < 2 ^ v = mod_below n (2 ^ v) (pow_pos v) in
    omega (arith, a, b, c, d, e)
