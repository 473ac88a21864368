-- In a run a counter counts its frame, and its tests tell slots and the first clocks of the frame.
use Rattle.std.proofs.Common.{◌≡◌, ◌⊎◌, inl, inr, ℕ, zero, suc, ◌+◌, ◌-◌, ◌*◌, ◌^◌, ◌<◌, ◌≤◌, ◌==◌, nat_lt, Bool, true, false, not, if◌then◌else◌, List, [], ℤ, pos, ◌-ℤ◌, ◌≤ℤ◌, None, ap, sym, ◌∙◌}
use Rattle.std.proofs.Common.{subst, refl, arith, pow_pos, pow_mono, mul_comm}
use Rattle.std.proofs.lemmas.Int.{ints}
use Rattle.std.proofs.lemmas.Bool.{cases_lt, ltb-true, ltb-false, eqb-true, eqb-false, ne_eqb, false_from_ne_true}
use Rattle.std.proofs.lemmas.Bool.Decides.{Decides-int_eq}
use Rattle.std.proofs.lemmas.Nat.{mod_below}
use Rattle.std.proofs.Math.Nat.{mod-eq_of_lt, mul-le-mul_right, add-mul, mul-sub}
use Rattle.std.specs.Ordering.{int_eq}
use Rattle.math_num.specs.Word.{InWord}
use Rattle.vl_ast.specs.declared.expressions.BinOp.TheVariants as binary
use Rattle.vl_ast.specs.declared.expressions.Expr.{Expr}
use Rattle.vl_ast.specs.declared.expressions.Expr.TheVariants as expression
use Rattle.vl_ast.specs.declared.modules.ModItem.TheVariants as item
use Rattle.vl_ast.specs.declared.modules.Module.{Module}
use Rattle.vl_ast.specs.Value.{truth}
use Rattle.vl_ast.specs.Nets.{nets_of}
use Rattle.vl_ast.specs.Value.{bits_of}
use Rattle.hw_net.specs.declared.netlist.Frame.{Frame}
use Rattle.hw_net.specs.declared.netlist.NetKind.TheVariants.{Counter}
use Rattle.hw_net.specs.Circuit.{Circuit}
use Rattle.hw_net.specs.Closed.{CounterTells, CounterIsTelling}
use Rattle.hw_net.specs.NetRows.{span_of}
use Rattle.hw_net.specs.Registers.{Takes as TakesAt, IsLive, IsCounter}
use Rattle.vl_emit.specs.Names.{Wire}
use Rattle.vl_emit.specs.inner.Pieces.{zeros}
use Rattle.vl_emit.specs.inner.Operators.{test_of}
use Rattle.vl_emit.specs.inner.AtWidth.{IsWritten, Shows}
use Rattle.vl_emit.specs.inner.NetItems.{plain_number, counts, slot_test, live_test}
use Rattle.vl_emit.specs.inner.Sound.{IsCounted}
use Rattle.vl_emit.proofs.Sections.{Run, run_of}
use Rattle.vl_emit.proofs.CounterNumbers.{count_of, count-most, counts-down}
use Rattle.vl_emit.proofs.ModuleNets.{here}
use Rattle.vl_emit.proofs.AtWidth.{as-name, zeros-written}
use Rattle.vl_emit.proofs.OfOperations.{test-tells, width-at-least}
use Rattle.vl_emit.proofs.Operations.{subtract-written, choose-written}
use Rattle.vl_emit.proofs.Registers.{next-value, number-written, counts-written, at_least-written, both-some}
use Rattle.vl_emit.proofs.NetBits.{Running, known, value-is, first-bits, released, edge, item-of, names-of}

counter-step : (q top : ℕ) → (if int_eq (pos q) (pos 0) then pos top else pos q -ℤ pos 1) ≡ pos (if q == 0 then top else q - 1)
counter-step zero top = refl
counter-step (suc q) top =
    let a : int_eq (pos (suc q)) (pos 0) ≡ false =
    false_from_ne_true (int_eq (pos (suc q)) (pos 0))
    (λ e. let same = (Decides-int_eq (pos (suc q)) (pos 0)).0 e in absurd (omega (arith, ints, same))) in
    let b : (suc q == 0) ≡ false = ne_eqb (suc q) 0 (λ e. omega (arith, e)) in
    (λ i. if a i then pos top else pos (suc q) -ℤ pos 1) ∙ omega (arith, ints) ∙ (let c : (if suc q == 0 then top else suc q - 1) ≡ suc q - 1 = (λ i. if b i then top else suc q - 1) in ap pos (sym c))

-- a slot of a frame, told by its counter
abbrev pub slot_bit : ℕ → Frame → ℕ → ℕ → Bool
slot_bit cycles frame count slot = if nat_lt slot (frame.period * cycles) then count == frame.period * cycles - 1 - slot else false

-- whether a bridge passes, told by its counter
abbrev pub live_bit : ℕ → Frame → ℕ → ℕ → Bool
live_bit cycles frame count live = not (nat_lt count ((frame.period - live) * cycles))

module _ {netlist : Circuit} {rank : ℕ → ℕ} {m : Module} {total last : ℕ} {start : List ℕ → ℕ} {inputs rows : ℕ → List ℕ → ℕ}
    (run : Running netlist rank m total last start inputs rows) where
  abbrev parts : Run
  parts = run_of netlist total last rows

  open parts use {cycles, count, net, naming, wire, clocks, row, value}

  module _ (k : ℕ) (h : k < count) where
    -- a number up to the first of a counter is in its word
    count-in : (frame : Frame) → (net k).kind ≡ Counter frame → (n : ℕ) → n ≤ frame.latency * cycles + (frame.period * cycles - 1) → InWord (net k).width (net k).signed (pos n)
    count-in frame is n few = let names = names-of run k h (Counter frame) is in below-in (net k).signed (net k).width n (frame.latency * cycles + (frame.period * cycles - 1)) few names.2 where
      below-in : (signed : Bool) (w n top : ℕ) → n ≤ top → InWord w signed (pos top) → InWord w signed (pos n)
      below-in true w n top few within = record { low = omega (arith, ints, pow_pos (w - 1)); high = omega (arith, ints, few, within.high) }
      below-in false w n top few within = record { low = omega (arith, ints); high = omega (arith, ints, few, within.high) }

    -- the net that counts a frame
    pub counter-value : (clock : ℕ) (frame : Frame) → clock < clocks → (net k).kind ≡ Counter frame → value k clock ≡ pos (count_of cycles frame clock)
    counter-value zero frame below is =
        let e : Expr = expression.Choose (test_of (wire k)) (expression.Binary binary.Subtract (expression.Name (naming.net k)) (expression.Literal (plain_number (net k).width 1)))
        (expression.Literal (plain_number (net k).width (frame.period * cycles - 1))) in
        let names = names-of run k h (Counter frame) is in
        value-is run 0 k (pos (count_of cycles frame 0)) h (count-in frame is (count_of cycles frame 0) (omega arith))
        (first-bits run (naming.net k) (net k).width (frame.latency * cycles + (frame.period * cycles - 1)) (net k).signed None e (run.has.declared k h) names.1 below
        (item-of run k h (Counter frame) is (item.Always (naming.net k) (plain_number (net k).width (frame.latency * cycles + (frame.period * cycles - 1))) None e) (here _ []))
        ∙ sym (mod-eq_of_lt names.1))
    counter-value (suc clock) frame below is =
        let x : Expr = expression.Binary binary.Subtract (expression.Name (naming.net k)) (expression.Literal (plain_number (net k).width 1)) in
        let y : Expr = expression.Literal (plain_number (net k).width (frame.period * cycles - 1)) in
        let names = names-of run k h (Counter frame) is in
        let earlier : clock < clocks = omega (arith, below) in
        let now = known run clock k earlier h in
        let z : ℤ = value k clock in
        let q : ℕ = count_of cycles frame clock in
        let one : 1 < 2 ^ (net k).width = (let wide = width-at-least (net k).signed (net k).width (run.sound.word k h) in let p : 2 ^ 1 ≤ 2 ^ (net k).width = pow_mono wide in omega (arith, p)) in
        let less = subtract-written (nets_of m) (row clock) (net k).width z (pos 1) (expression.Name (naming.net k)) (expression.Literal (plain_number (net k).width 1))
        (as-name (nets_of m) (row clock) (wire k) z now) (number-written (nets_of m) (row clock) (net k).width 1 one) in
        let top = number-written (nets_of m) (row clock) (net k).width (frame.period * cycles - 1) (omega (arith, names.1)) in
        let both = choose-written (nets_of m) (row clock) (net k).width (z -ℤ pos 1) (pos (frame.period * cycles - 1)) (int_eq z (pos 0)) (test_of (wire k)) x y
        (test-tells (nets_of m) (row clock) (wire k) z now) less top in
        let number : (if int_eq z (pos 0) then pos (frame.period * cycles - 1) else z -ℤ pos 1) ≡ pos (count_of cycles frame (suc clock)) =
        ap (λ (v : ℤ). if int_eq v (pos 0) then pos (frame.period * cycles - 1) else v -ℤ pos 1) (counter-value clock frame earlier is)
        ∙ counter-step q (frame.period * cycles - 1) in
        value-is run (suc clock) k (pos (count_of cycles frame (suc clock))) h (count-in frame is (count_of cycles frame (suc clock)) (count-most cycles frame names.0 (suc clock)))
        (edge run clock (naming.net k) (plain_number (net k).width (frame.latency * cycles + (frame.period * cycles - 1))) None (expression.Choose (test_of (wire k)) x y) below
        (item-of run k h (Counter frame) is (item.Always (naming.net k)
        (plain_number (net k).width (frame.latency * cycles + (frame.period * cycles - 1))) None
        (expression.Choose (test_of (wire k)) x y)) (here _ []))
        ∙ next-value m (row clock) (naming.net k) (net k).width (net k).signed (run.has.declared k h) (plain_number (net k).width (frame.latency * cycles + (frame.period * cycles - 1))) None
        (expression.Choose (test_of (wire k)) x y) true (if int_eq z (pos 0) then pos (frame.period * cycles - 1) else z -ℤ pos 1)
        (released run clock below) refl both
        ∙ ap (bits_of (net k).width) number)

    pub counter-counts : (frame : Frame) → (net k).kind ≡ Counter frame → IsCounter clocks (span_of cycles frame) (value k)
    counter-counts frame is =
        let names = names-of run k h (Counter frame) is in
        counts-down cycles frame names.0 clocks (value k) (λ clock below. counter-value clock frame below is)

  -- what the counter of a frame tells of a clock
  module _ (telling : CounterIsTelling) (clock : ℕ) (below : clock < clocks) (frame : Frame) (c : IsCounted cycles count naming net frame) where
    abbrev q : ℕ
    q = count_of cycles frame clock

    abbrev counter : Wire
    counter = wire (naming.counter frame)

    counter-known : Shows (nets_of m) (row clock) counter (pos q)
    counter-known =
        subst (Shows (nets_of m) (row clock) counter) (counter-value (naming.counter frame) c.there clock frame below c.is)
        (known run clock (naming.counter frame) below c.there)

    room : frame.latency * cycles + (frame.period * cycles - 1) < 2 ^ counter.width
    room = (names-of run (naming.counter frame) c.there (Counter frame) c.is).1

    fits : q < 2 ^ counter.width
    fits = omega (arith, count-most cycles frame c.some clock, room)

    tells : CounterTells clocks (span_of cycles frame) (value (naming.counter frame))
    tells = telling clocks (span_of cycles frame) (value (naming.counter frame)) c.some (counter-counts (naming.counter frame) c.there frame c.is)

    abbrev now : value (naming.counter frame) clock ≡ pos q
    now = counter-value (naming.counter frame) c.there clock frame below c.is

    pub slot-written : (slot : ℕ) → IsWritten (nets_of m) (row clock) 1 (pos (truth (slot_bit cycles frame q slot))) (slot_test cycles frame counter slot)
    slot-written slot = by (nat_lt slot (frame.period * cycles)) where
      by : (t : Bool) → IsWritten (nets_of m) (row clock) 1
          (pos (truth (if t then q == frame.period * cycles - 1 - slot else false)))
          (if t then counts counter (frame.period * cycles - 1 - slot) else zeros 1)
      by true = counts-written (nets_of m) (row clock) counter q counter-known fits (frame.period * cycles - 1 - slot) (omega (arith, room))
      by false = zeros-written (nets_of m) (row clock) 1

    -- at the clocks of the slot, and at no others
    pub slot-decides : (slot : ℕ) → ((slot_bit cycles frame q slot ≡ true)
        × TakesAt (span_of cycles frame) slot clock)
        ⊎ ((slot_bit cycles frame q slot ≡ false) × ¬ TakesAt (span_of cycles frame) slot clock)
    slot-decides slot = by (nat_lt slot (frame.period * cycles)) refl where
      here-by : slot < frame.period * cycles → (t : Bool) → (q == frame.period * cycles - 1 - slot) ≡ t
          → ((t ≡ true) × TakesAt (span_of cycles frame) slot clock)
          ⊎ ((t ≡ false) × ¬ TakesAt (span_of cycles frame) slot clock)
      here-by within true e =
          let same : pos q ≡ pos (frame.period * cycles - 1 - slot) = ap pos (eqb-true q (frame.period * cycles - 1 - slot) e) in
          inl (refl, (tells.takes slot clock within below).1 (now ∙ same))
      here-by within false e =
          inr (
            refl,
            λ taken. (let same = (tells.takes slot clock within below).0 taken in
                let k : q ≡ frame.period * cycles - 1 - slot = (let z = sym now ∙ same in omega (arith, ints, z)) in eqb-false q (frame.period * cycles - 1 - slot) e k),
          )

      by : (t : Bool) → nat_lt slot (frame.period * cycles) ≡ t
          → (((if t then q == frame.period * cycles - 1 - slot else false) ≡ true)
          × TakesAt (span_of cycles frame) slot clock)
          ⊎ (((if t then q == frame.period * cycles - 1 - slot else false) ≡ false)
          × ¬ TakesAt (span_of cycles frame) slot clock)
      by true e = here-by (ltb-true slot (frame.period * cycles) e) (q == frame.period * cycles - 1 - slot) refl
      by false e =
          let past : frame.period * cycles ≤ slot = ltb-false slot (frame.period * cycles) e in
          inr (
            refl,
            λ taken. (let at = taken.at_slot in
                let less = mod_below (clock - frame.latency * cycles) (frame.period * cycles) c.some in omega (arith, at, less, past)),
          )

    bound-fits : (live : ℕ) → 0 < live → (frame.period - live) * cycles < 2 ^ counter.width
    bound-fits live some =
        let parts = both-some frame.period cycles c.some in
        let less : (frame.period - live) * cycles ≤ (frame.period - 1) * cycles = mul-le-mul_right cycles (let e : frame.period - live ≤ frame.period - 1 = omega arith in e) in
        let all : (frame.period - 1) * cycles + 1 * cycles ≡ frame.period * cycles = sym (add-mul (frame.period - 1) 1 cycles) ∙ ap (λ (i : ℕ). i * cycles) (omega (arith, parts.0)) in
        omega (arith, room, less, all, parts.1)

    pub live-written : (live : ℕ) → 0 < live → IsWritten (nets_of m) (row clock) 1 (pos (truth (live_bit cycles frame q live))) (live_test cycles frame counter live)
    live-written live some = at_least-written (nets_of m) (row clock) counter q counter-known fits ((frame.period - live) * cycles) (bound-fits live some)

    -- in the first clocks of the frame, and before the first
    pub live-decides : (live : ℕ) → 0 < live
        → ((live_bit cycles frame q live ≡ true) × IsLive (span_of cycles frame) (live * cycles) clock)
        ⊎ ((live_bit cycles frame q live ≡ false) × ¬ IsLive (span_of cycles frame) (live * cycles) clock)
    live-decides live some = by (nat_lt q ((frame.period - live) * cycles)) refl where
      parts : (0 < frame.period) × (0 < cycles)
      parts = both-some frame.period cycles c.some

      product : 0 < live * cycles
      product = let more : 1 * cycles ≤ live * cycles = mul-le-mul_right cycles (let e : 1 ≤ live = omega (arith, some) in e) in omega (arith, more, parts.1)

      bound : (frame.period - live) * cycles ≡ frame.period * cycles - live * cycles
      bound = mul_comm (frame.period - live) cycles ∙ mul-sub cycles frame.period live ∙ (λ i. mul_comm cycles frame.period i - mul_comm cycles live i)

      -- a bridge that lives for the whole frame always passes
      whole : frame.period * cycles ≤ live * cycles → (t : Bool) → nat_lt q ((frame.period - live) * cycles) ≡ t
          → ((not t ≡ true) × IsLive (span_of cycles frame) (live * cycles) clock) ⊎ ((not t ≡ false) × ¬ IsLive (span_of cycles frame) (live * cycles) clock)
      whole all true e = absurd (let less = ltb-true q ((frame.period - live) * cycles) e in omega (arith, less, bound, all))
      whole all false e = inl (refl, record { passes = λ begun. (let less = mod_below (clock - frame.latency * cycles) (frame.period * cycles) c.some in omega (arith, less, all)) })

      partly : live * cycles ≤ frame.period * cycles → (t : Bool) → nat_lt q ((frame.period - live) * cycles) ≡ t
          → ((not t ≡ true) × IsLive (span_of cycles frame) (live * cycles) clock) ⊎ ((not t ≡ false) × ¬ IsLive (span_of cycles frame) (live * cycles) clock)
      partly few true e =
          let less = ltb-true q ((frame.period - live) * cycles) e in
          inr (
            refl,
            λ lives. (let most = (tells.lives (live * cycles) clock product few below).0 lives in
                let z : pos (frame.period * cycles - live * cycles) ≤ℤ pos q = subst (λ (v : ℤ). pos (frame.period * cycles - live * cycles) ≤ℤ v) now most in
                omega (arith, ints, z, less, bound)),
          )
      partly few false e =
          let more = ltb-false q ((frame.period - live) * cycles) e in
          inl (
            refl,
            (tells.lives (live * cycles) clock product few below).1
                (subst (λ (v : ℤ). pos (frame.period * cycles - live * cycles) ≤ℤ v) (sym now) (omega (arith, ints, more, bound))),
          )

      by : (t : Bool) → nat_lt q ((frame.period - live) * cycles) ≡ t
          → ((not t ≡ true) × IsLive (span_of cycles frame) (live * cycles) clock) ⊎ ((not t ≡ false) × ¬ IsLive (span_of cycles frame) (live * cycles) clock)
      by t e = elim (cases_lt (frame.period * cycles) (live * cycles)) [
        | inl l ↦ whole (omega (arith, l)) t e
        | inr g ↦ partly (omega (arith, g)) t e
      ]
