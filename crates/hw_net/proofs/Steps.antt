-- Rows that go on from clock to clock are the rows of the netlist.
use Rattle.std.proofs.Common.{◌≡◌, ◌≢◌, ℕ, zero, suc, ◌+◌, ◌-◌, ◌*◌, ◌/◌, ◌%◌, ◌<◌, ◌≤◌, ◌^◌, Bool, List, All, Option, None, Some, slice_get, inl, inr, ℤ, pos, negsuc, ◌<ℤ◌, ◌≤ℤ◌, ◌*ℤ◌, length, ap}
use Rattle.std.proofs.Common.{◌∙◌, subst, arith, refl}
use Rattle.std.proofs.lemmas.Int.{ints}
use Rattle.std.proofs.lemmas.Nat.{mul-lt, div-add-mod', mod-mul-add}
use Rattle.std.proofs.lemmas.Bool.{cases_lt}
use Rattle.math_num.specs.Word.{IsWord, IsWrapped}
use Rattle.hw_net.specs.declared.netlist.Net.{Net}
use Rattle.hw_net.specs.declared.netlist.NetKind.{NetKind}
use Rattle.hw_net.specs.declared.netlist.NetKind.TheVariants.{Comb, Reg, EnReg, Acc, Bridge, Unit, Counter}
use Rattle.hw_net.specs.Operation.{given_by}
use Rattle.hw_net.specs.Registers.{Wave, Span, IsLive, IsBridge, IsCounter}
use Rattle.hw_net.specs.NetRows.{Inputs, Rows, NetShows, span_of, operands_at}
use Rattle.hw_net.specs.Netlist.{IsKind, HoldsProducts, reads}
use Rattle.hw_net.specs.Step.{Row, StepsGiveRows, NetStarts, NetSteps, BridgeSteps, CounterSteps}
use Rattle.math_list.proofs.Places.{held as at-place, slice_get_inside}
use Rattle.math_num.proofs.Arithmetic.{IsCongruent-refl}
use Rattle.math_num.proofs.Residues.{one-wrapped}
use Rattle.hw_net.proofs.Words.{some-or-none, InWordAt, goes-in-word}

-- a remainder above 0 is below the divisor, and so is the one before it
place-below : (a d : ℕ) → 0 < a % d → 0 < d → a % d - 1 < d
place-below a d h some = omega arith

above-none : (z : ℤ) → pos 0 ≤ℤ z → z ≢ pos 0 → pos 0 <ℤ z
above-none (pos zero) h apart = absurd (apart refl)
above-none (pos (suc n)) h apart = omega (arith, ints)
above-none (negsuc n) h apart = absurd (omega (arith, ints, h))

-- a bridge that passes and holds from clock to clock
module _ (n : ℕ) (span : Span) (live : ℕ) (from wave : Wave) (some : 0 < live) (long : 0 < span.length)
    (begins : 0 < n → wave 0 ≡ from 0) (steps : (c : ℕ) → c + 1 < n → BridgeSteps span live (c + 1) (from (c + 1)) (wave c) (wave (c + 1))) where
  passing : (c : ℕ) → c < n → IsLive span live c → wave c ≡ from c
  passing zero h is = begins h
  passing (suc c) h is =
      let e : suc c ≡ c + 1 = omega arith in
      rw e ((steps c (omega arith)).passes (rw e at is))

  -- one clock earlier in the same frame
  earlier : (c place : ℕ) → span.start ≤ c + 1 → place ≡ (c + 1 - span.start) % span.length → 0 < place → (c - span.start) % span.length + 1 ≡ place
  earlier c place begun is apart =
      let split = div-add-mod' (c + 1 - span.start) span.length in
      let turns : ℕ = (c + 1 - span.start) / span.length in
      let less : place - 1 < span.length = omega arith in
      let e : c - span.start ≡ turns * span.length + (place - 1) = omega arith in
      omega (arith, ap (λ (x : ℕ). x % span.length) e ∙ mod-mul-add turns span.length (place - 1) less)

  holding : (c : ℕ) → c < n → span.start ≤ c → live ≤ (c - span.start) % span.length → wave c ≡ from (c - (c - span.start) % span.length + live - 1)
  holding zero h begun held = absurd (omega arith)
  holding (suc c) h begun held =
      let e : suc c ≡ c + 1 = omega arith in
      let place : ℕ = (c + 1 - span.start) % span.length in
      let above : live ≤ place = rw e at held in
      let before : (c - span.start) % span.length + 1 ≡ place = earlier c place (omega arith) refl (omega arith) in
      let same : wave (c + 1) ≡ wave c = (steps c (omega arith)).holds (λ is. omega (arith, is.passes (omega arith))) in
      let started : span.start ≤ c = omega arith in
      rw e (same ∙ elim (cases_lt ((c - span.start) % span.length) live) [
        | inl last ↦ passing c (omega arith) (record { passes = λ _. last }) ∙ ap from (omega arith)
        | inr more ↦ holding c (omega arith) started more ∙ ap from (omega arith)
      ])

  pub bridge-from-steps : IsBridge n span live from wave
  bridge-from-steps = record {
    before = λ c h below. passing c h (record { passes = λ begun. absurd (omega arith) });
    passes = λ c h begun less. passing c h (record { passes = λ _. less });
    holds = holding;
  }

-- a counter that falls to 0 and begins anew is never below 0
module _ (n : ℕ) (span : Span) (wave : Wave) (begins : 0 < n → wave 0 ≡ pos (span.start + span.length - 1)) (steps : (c : ℕ) → c + 1 < n → CounterSteps span (wave c) (wave (c + 1))) where
  not-below : (c : ℕ) → c < n → pos 0 ≤ℤ wave c
  not-below zero h = omega (arith, ints, begins h)
  not-below (suc c) h =
      let e : suc c ≡ c + 1 = omega arith in
      let before : pos 0 ≤ℤ wave c = not-below c (omega arith) in
      let step : CounterSteps span (wave c) (wave (c + 1)) = steps c (omega arith) in
      rw e (elim (some-or-none (wave c)) [
        | inl none ↦ omega (arith, ints, step.wraps none)
        | inr some ↦ omega (arith, ints, step.falls some)
      ])

  pub counter-from-steps : IsCounter n span wave
  counter-from-steps = record {
    begins = begins;
    falls = λ c h apart.
        let before : pos 0 ≤ℤ wave c = not-below c (omega arith) in
        (steps c h).falls (above-none (wave c) before apart);
    wraps = λ c h is. (steps c h).wraps (omega (arith, ints, is));
  }

-- a cut product of numbers of two nets is their product, where the word holds it
exact-product : (nets : List Net) (row : Row) (left right width : ℕ) (signed : Bool) (v : ℤ) → IsWord width signed
    → HoldsProducts nets left right width signed → left < length nets → right < length nets
    → InWordAt nets row left → InWordAt nets row right → IsWrapped (row left *ℤ row right) width signed v → v ≡ row left *ℤ row right
exact-product nets row left right width signed v word holds one other p q is = by (slice_get nets left) refl (slice_get nets right) refl
  where
    by : (found : Option Net) → slice_get nets left ≡ found → (also : Option Net) → slice_get nets right ≡ also → v ≡ row left *ℤ row right
    by None e also f = absurd (slice_get_inside nets left one e)
    by (Some x) e None f = absurd (slice_get_inside nets right other f)
    by (Some x) e (Some y) f =
        one-wrapped (row left *ℤ row right) width signed v (row left *ℤ row right) word is
        (record { in_word = holds.holds x y e f (row left) (row right) (p x e) (q y f); congruent = IsCongruent-refl (row left *ℤ row right) (2 ^ width) })

module _ (nets : List Net) (cycles many n : ℕ) (inputs : Inputs) (rows : Rows) (some : 0 < cycles) (words : (c : ℕ) → c < n → (k : ℕ) → InWordAt nets (λ net. rows net c) k) where
  net-shows : (k width : ℕ) (signed : Bool) (kind : NetKind) → IsWord width signed → All (λ read. read < length nets) (reads kind) → IsKind nets cycles many width signed kind
      → (0 < n → NetStarts cycles (λ number. inputs number 0) (λ net. rows net 0) width signed kind (rows k 0))
      → ((c : ℕ) → c + 1 < n → NetSteps cycles c (λ number. inputs number (c + 1)) (λ net. rows net c) (λ net. rows net (c + 1)) width signed kind (rows k c) (rows k (c + 1)))
      → NetShows cycles n inputs rows width signed kind (rows k)
  net-shows k width signed (Comb op args) word there frame starts steps = λ c. by-clock c
    where
      by-clock : (c : ℕ) → c < n → IsWrapped (given_by op (λ number. inputs number c) (operands_at (λ net. rows net c) args)) width signed (rows k c)
      by-clock zero h = starts h
      by-clock (suc c) h = let e : suc c ≡ c + 1 = omega arith in rw e (steps c (omega arith))
  net-shows k width signed (Reg frame slot first from) word there has starts steps = record {
    begins = starts;
    takes = λ c h. (steps c h).takes;
    keeps = λ c h. (steps c h).keeps;
  }
  net-shows k width signed (EnReg frame enable reset first from) word there has starts steps = record {
    begins = starts;
    takes = λ c h. (steps c h).takes;
    resets = λ c h. (steps c h).resets;
    stays = λ c h. (steps c h).stays;
    keeps = λ c h. (steps c h).keeps;
  }
  net-shows k width signed (Acc frame enable from) word there has starts steps = record {
    begins = starts;
    clears = λ c h. (steps c h).clears;
    adds = λ c h. (steps c h).adds;
    keeps = λ c h. (steps c h).keeps;
  }
  net-shows k width signed (Bridge frame live from) word there has starts steps =
      bridge-from-steps n (span_of cycles frame) (live * cycles) (rows from) (rows k) (mul-lt 0 0 live cycles has.1 some) (mul-lt 0 0 frame.period cycles has.0 some) starts steps
  net-shows k width signed (Unit left right) word there has starts steps = λ c. by-clock c
    where
      exact : (c : ℕ) → c < n → IsWrapped (rows left c *ℤ rows right c) width signed (rows k c) → rows k c ≡ rows left c *ℤ rows right c
      exact c h is = exact-product nets (λ net. rows net c) left right width signed (rows k c) word has (there 0 0 (omega arith)) (there 1 0 (omega arith)) (words c h left) (words c h right) is

      by-clock : (c : ℕ) → c < n → rows k c ≡ rows left c *ℤ rows right c
      by-clock zero h = exact 0 h (starts h)
      by-clock (suc c) h = let e : suc c ≡ c + 1 = omega arith in rw e (exact (c + 1) (omega arith) (steps c (omega arith)))
  net-shows k width signed (Counter frame) word there has starts steps = counter-from-steps n (span_of cycles frame) (rows k) starts steps

pub steps-give-rows : StepsGiveRows
steps-give-rows netlist n inputs rows well goes = record {
  shows = λ k net is. net-shows netlist.nets netlist.cycles (length netlist.inputs) n inputs rows well.cycles words k net.width net.signed net.kind
      (at-place (λ (one : Net). IsWord one.width one.signed) netlist.nets k net well.words is)
      (at-place (λ (one : Net). All (λ read. read < length netlist.nets) (reads one.kind)) netlist.nets k net well.there is)
      (at-place (λ (one : Net). IsKind netlist.nets netlist.cycles (length netlist.inputs) one.width one.signed one.kind) netlist.nets k net well.kinds is)
      (λ h. (goes 0 h).each k net is) (λ c h. step c k net is h);
  in_word = λ k net is c h. words c h k net is;
}
  where
    words : (c : ℕ) → c < n → (k : ℕ) → InWordAt netlist.nets (λ net. rows net c) k
    words zero h k =
        goes-in-word netlist well 0 (λ number. inputs number 0) (λ net. rows net (0 - 1)) (λ net. rows net 0) (goes 0 h) (λ none. absurd (omega arith)) k
    words (suc c) h k =
        let e : c ≡ suc c - 1 = omega arith in
        goes-in-word netlist well (suc c) (λ number. inputs number (suc c)) (λ net. rows net (suc c - 1)) (λ net. rows net (suc c)) (goes (suc c) h)
        (λ some j. subst (λ (x : ℕ). InWordAt netlist.nets (λ net. rows net x) j) e (words c (omega arith) j)) k

    step : (c k : ℕ) (net : Net) → slice_get netlist.nets k ≡ Some net → c + 1 < n
        → NetSteps netlist.cycles c (λ number. inputs number (c + 1)) (λ net. rows net c) (λ net. rows net (c + 1)) net.width net.signed net.kind (rows k c) (rows k (c + 1))
    step c k net is h =
        let e : suc c ≡ c + 1 = omega arith in
        let f : suc c - 1 ≡ c = omega arith in
        let below : suc c < n = omega arith in
        let there : NetSteps netlist.cycles c (λ number. inputs number (suc c)) (λ net. rows net (suc c - 1))
        (λ net. rows net (suc c)) net.width net.signed net.kind (rows k (suc c - 1)) (rows k (suc c)) =
        (goes (suc c) below).each k net is in
        subst (λ (x : ℕ). NetSteps netlist.cycles c (λ number. inputs number x) (λ net. rows net c) (λ net. rows net x) net.width net.signed net.kind (rows k c) (rows k x)) e
        (subst (λ (x : ℕ). NetSteps netlist.cycles c (λ number. inputs number (suc c)) (λ net. rows net x) (λ net. rows net (suc c)) net.width net.signed net.kind (rows k x) (rows k (suc c))) f there)
