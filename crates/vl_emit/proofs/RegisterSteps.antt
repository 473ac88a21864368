-- In a run registers, bridges and counters go on as the netlist says.
use Rattle.std.proofs.Common.{◌≡◌, ◌≢◌, ◌⊎◌, inl, inr, ℕ, suc, ◌+◌, ◌-◌, ◌*◌, ◌%◌, ◌<◌, ◌==◌, Bool, true, false, not, ◌&&◌, ◌||◌, if◌then◌else◌, List, [], ◌∷◌, Contains, ℤ, pos, ◌+ℤ◌, ◌≤ℤ◌, Option, Some}
use Rattle.std.proofs.Common.{None, ap, sym, ◌∙◌, subst, refl, arith, add-one, pow_pos}
use Rattle.std.proofs.lemmas.Int.{ints}
use Rattle.std.proofs.lemmas.Bool.Decides.{Decides-int_eq}
use Rattle.std.proofs.Math.Nat.{mod-eq_of_lt}
use Rattle.std.specs.Ordering.{int_eq}
use Rattle.math_num.specs.Word.{InWord}
use Rattle.vl_ast.specs.declared.expressions.BinOp.TheVariants as binary
use Rattle.vl_ast.specs.declared.expressions.Sized.{Sized}
use Rattle.vl_ast.specs.declared.expressions.Expr.{Expr}
use Rattle.vl_ast.specs.declared.expressions.Expr.TheVariants as expression
use Rattle.vl_ast.specs.declared.modules.ModItem.TheVariants as item
use Rattle.vl_ast.specs.declared.modules.Module.{Module}
use Rattle.vl_ast.specs.Value.{truth}
use Rattle.vl_ast.specs.Nets.{nets_of}
use Rattle.vl_ast.specs.Value.{bits_of}
use Rattle.hw_net.specs.declared.netlist.Frame.{Frame}
use Rattle.hw_net.specs.declared.netlist.NetKind.{NetKind}
use Rattle.hw_net.specs.declared.netlist.NetKind.TheVariants.{Reg, EnReg, Acc, Bridge, Counter}
use Rattle.hw_net.specs.Circuit.{Circuit}
use Rattle.hw_net.specs.Closed.{CounterIsTelling}
use Rattle.hw_net.specs.NetRows.{span_of}
use Rattle.hw_net.specs.Registers.{Takes as TakesAt, IsLive}
use Rattle.hw_net.specs.Step.{RegSteps, EnRegSteps, AccSteps, BridgeSteps, CounterSteps}
use Rattle.vl_emit.specs.Names.{Wire}
use Rattle.vl_emit.specs.inner.Operators.{test_of}
use Rattle.vl_emit.specs.inner.AtWidth.{IsWritten}
use Rattle.vl_emit.specs.inner.NetItems.{plain_number, constant, slot_test, live_test, drivers}
use Rattle.vl_emit.specs.inner.Sound.{HasWordOf}
use Rattle.vl_emit.proofs.Sections.{Run, run_of}
use Rattle.vl_emit.proofs.CounterNumbers.{count_of}
use Rattle.vl_emit.proofs.ModuleNets.{here, later}
use Rattle.vl_emit.proofs.AtWidth.{alone-written, as-name, assigned-written}
use Rattle.vl_emit.proofs.OfOperations.{test-tells}
use Rattle.vl_emit.proofs.Operations.{add-written, literal-written, choose-written, choice-bits}
use Rattle.vl_emit.proofs.Registers.{next-value, name-written, condition-told, both-written, either-written, no-bit, both-some}
use Rattle.vl_ast.proofs.SomeInputs.{bits-fit}
use Rattle.vl_emit.proofs.NetBits.{Running, known, bits-of-value, value-is, value-wrapped, assigned-bits, first-bits, released, edge, item-of, names-of}
use Rattle.vl_emit.proofs.Counters.{slot_bit, live_bit, counter-value, counter-counts, slot-written, slot-decides, live-written, live-decides}

module _ {netlist : Circuit} {rank : ℕ → ℕ} {m : Module} {total last : ℕ} {start : List ℕ → ℕ} {inputs rows : ℕ → List ℕ → ℕ}
    (run : Running netlist rank m total last start inputs rows) where
  abbrev parts : Run
  parts = run_of netlist total last rows

  open parts use {cycles, count, net, naming, wire, clocks, row, value}

  module _ (telling : CounterIsTelling) (k : ℕ) (h : k < count) where
    -- the number of a net of the same word
    same-word : (clock from : ℕ) → clock < clocks → HasWordOf count net k from → InWord (net k).width (net k).signed (value from clock)
    same-word clock from below of =
        subst (λ (s : Bool). InWord (net k).width s (value from clock)) of.signed
        (subst (λ (v : ℕ). InWord v (net from).signed (value from clock)) of.width (known run clock from below of.there).in_word)

    from-written : (clock from : ℕ) → clock < clocks → HasWordOf count net k from → IsWritten (nets_of m) (row clock) (net k).width (value from clock) (expression.Name (naming.net from))
    from-written clock from below of =
        subst (λ (v : ℕ). IsWritten (nets_of m) (row clock) v (value from clock) (expression.Name (naming.net from))) of.width
        (as-name (nets_of m) (row clock) (wire from) (value from clock) (known run clock from below of.there))

    pub begun : (kind : NetKind) (is : (net k).kind ≡ kind) (first : ℤ) (condition : Option Expr) (e : Expr) → 0 < clocks → InWord (net k).width (net k).signed first
        → Contains (drivers cycles naming net k kind) (item.Always (naming.net k) (constant (net k).width first) condition e) → value k 0 ≡ first
    begun kind is first condition e below within c =
        value-is run 0 k first h within
        (first-bits run (naming.net k) (net k).width (bits_of (net k).width first) (net k).signed condition e (run.has.declared k h) (bits-fit (net k).width first) below
        (item-of run k h kind is (item.Always (naming.net k) (constant (net k).width first) condition e) c))

    -- a register that takes a number at some clocks, and else keeps its own
    taken : (clock : ℕ) (kind : NetKind) (is : (net k).kind ≡ kind) (first : ℤ) (condition e : Expr) (t : Bool) (z : ℤ) → suc clock < clocks
        → Contains (drivers cycles naming net k kind) (item.Always (naming.net k) (constant (net k).width first) (Some condition) e)
        → InWord (net k).width (net k).signed (if t then z else value k clock)
        → IsWritten (nets_of m) (row clock) 1 (pos (truth t)) condition → IsWritten (nets_of m) (row clock) (net k).width z e
        → value k (suc clock) ≡ (if t then z else value k clock)
    taken clock kind is first condition e t z below c within p q =
        value-is run (suc clock) k (if t then z else value k clock) h within
        (edge run clock (naming.net k) (constant (net k).width first) (Some condition) e below
        (item-of run k h kind is
        (item.Always (naming.net k) (constant (net k).width first) (Some condition) e) c)
        ∙ next-value m (row clock) (naming.net k) (net k).width (net k).signed (run.has.declared k h) (constant (net k).width first) (Some condition) e t z
        (released run clock below) (condition-told (nets_of m) (row clock) t condition p) q
        ∙ ap (λ (b : ℕ). if t then bits_of (net k).width z else b) (bits-of-value run clock k (omega (arith, below)) h)
        ∙ choice-bits t (net k).width (value k clock) z)

    either-in : (t : Bool) (a b : ℤ) → InWord (net k).width (net k).signed a → InWord (net k).width (net k).signed b → InWord (net k).width (net k).signed (if t then a else b)
    either-in true a b p q = p
    either-in false a b p q = q

    own-in : (clock : ℕ) → clock < clocks → InWord (net k).width (net k).signed (value k clock)
    own-in clock below = (known run clock k below h).in_word

    pub reg-goes : (clock : ℕ) (frame : Frame) (slot : ℕ) (first : ℤ) (from : ℕ) → (net k).kind ≡ Reg frame slot first from → suc clock < clocks
        → RegSteps (span_of cycles frame) slot clock (value from clock) (value k clock) (value k (suc clock))
    reg-goes clock frame slot first from is below =
        let names = names-of run k h (Reg frame slot first from) is in
        let earlier : clock < clocks = omega (arith, below) in
        let t : Bool = slot_bit cycles frame (count_of cycles frame clock) slot in
        let is_next = taken clock (Reg frame slot first from) is first
        (slot_test cycles frame (wire (naming.counter frame)) slot) (expression.Name (naming.net from)) t
        (value from clock) below (here _ [])
        (either-in t (value from clock) (value k clock) (same-word clock from earlier names.1.of) (own-in clock earlier))
        (slot-written run telling clock earlier frame names.0 slot) (from-written clock from earlier names.1.of) in
        by t is_next (slot-decides run telling clock earlier frame names.0 slot)
      where
        by : (t : Bool) → value k (suc clock) ≡ (if t then value from clock else value k clock)
            → ((t ≡ true) × TakesAt (span_of cycles frame) slot clock) ⊎ ((t ≡ false) × ¬ TakesAt (span_of cycles frame) slot clock)
            → RegSteps (span_of cycles frame) slot clock (value from clock) (value k clock) (value k (suc clock))
        by true e (inl d) = record { takes = λ _. e; keeps = λ no. absurd (no d.1) }
        by true e (inr d) = absurd (cc (d.0))
        by false e (inl d) = absurd (cc (d.0))
        by false e (inr d) = record { takes = λ yes. absurd (d.1 yes); keeps = λ _. e }

    -- a register with enable, by whether its slot has come and whether `enable` is 0
    en-by : (clock : ℕ) (frame : Frame) (resets : Bool) (first : ℤ) (enable from : ℕ) (t u : Bool)
        → value k (suc clock) ≡ (if t then (if u then (if resets then first else value k clock) else value from clock) else value k clock)
        → ((t ≡ true) × TakesAt (span_of cycles frame) (frame.period * cycles - 1) clock) ⊎ ((t ≡ false) × ¬ TakesAt (span_of cycles frame) (frame.period * cycles - 1) clock)
        → int_eq (value enable clock) (pos 0) ≡ u
        → EnRegSteps (span_of cycles frame) resets first clock (value enable clock) (value from clock) (value k clock) (value k (suc clock))
    en-by clock frame resets first enable from false u e (inl d) f = absurd (cc (d.0))
    en-by clock frame resets first enable from true u e (inr d) f = absurd (cc (d.0))
    en-by clock frame resets first enable from false u e (inr d) f =
        record { takes = λ yes _. absurd (d.1 yes); resets = λ yes _ _. absurd (d.1 yes); stays = λ yes _ _. absurd (d.1 yes); keeps = λ _. e }
    en-by clock frame resets first enable from true false e (inl d) f =
        let other : value enable clock ≢ pos 0 = λ z. (let g = (Decides-int_eq (value enable clock) (pos 0)).1 z in absurd (cc (f, g))) in
        record { takes = λ _ _. e; resets = λ _ z _. absurd (other z); stays = λ _ z _. absurd (other z); keeps = λ no. absurd (no d.1) }
    en-by clock frame resets first enable from true true e (inl d) f =
        let none : value enable clock ≡ pos 0 = (Decides-int_eq (value enable clock) (pos 0)).0 f in
        record {
          takes = λ _ some. absurd (some none);
          resets = λ _ _ r. e ∙ ap (λ (b : Bool). if b then first else value k clock) r;
          stays = λ _ _ r. e ∙ ap (λ (b : Bool). if b then first else value k clock) r;
          keeps = λ no. absurd (no d.1);
        }

    twice : (s u : Bool) (a b : ℤ) → (if s && not u then a else b) ≡ (if s then (if u then b else a) else b)
    twice true true a b = refl
    twice true false a b = refl
    twice false u a b = refl

    -- whether the slot of a register with enable has come, and whether its enable is 0
    abbrev slot-comes : ℕ → Frame → Bool
    slot-comes clock frame = slot_bit cycles frame (count_of cycles frame clock) (frame.period * cycles - 1)

    abbrev is-off : ℕ → ℕ → Bool
    is-off clock enable = int_eq (value enable clock) (pos 0)

    en-next : (clock : ℕ) (frame : Frame) (enable : ℕ) (resets : Bool) (first : ℤ) (from : ℕ) → (net k).kind ≡ EnReg frame enable resets first from → suc clock < clocks
        → value k (suc clock) ≡ (if slot-comes clock frame then (if is-off clock enable then (if resets then first else value k clock) else value from clock) else value k clock)
    en-next clock frame enable true first from is below =
        let names = names-of run k h (EnReg frame enable true first from) is in
        let earlier : clock < clocks = omega (arith, below) in
        let x : Expr = expression.Name (naming.net from) in
        let y : Expr = expression.Literal (constant (net k).width first) in
        let test : Expr = test_of (wire enable) in
        let slot : ℕ = frame.period * cycles - 1 in
        let z : ℤ = (if is-off clock enable then first else value from clock) in
        taken clock (EnReg frame enable true first from) is first (slot_test cycles frame (wire (naming.counter frame)) slot) (expression.Choose test x y) (slot-comes clock frame) z below (here _ [])
        (either-in (slot-comes clock frame) z (value k clock)
        (either-in (is-off clock enable) first (value from clock) names.1.first_in
        (same-word clock from earlier names.1.of)) (own-in clock earlier))
        (slot-written run telling clock earlier frame names.0 slot)
        (choose-written (nets_of m) (row clock) (net k).width (value from clock) first (is-off clock enable) test x y
        (test-tells (nets_of m) (row clock) (wire enable) (value enable clock) (known run clock enable earlier names.2))
        (from-written clock from earlier names.1.of) (literal-written (nets_of m) (row clock) (net k).width first))
    en-next clock frame enable false first from is below =
        let names = names-of run k h (EnReg frame enable false first from) is in
        let earlier : clock < clocks = omega (arith, below) in
        let t : Bool = slot-comes clock frame in
        let u : Bool = is-off clock enable in
        let test : Expr = test_of (wire enable) in
        let tests : Expr = slot_test cycles frame (wire (naming.counter frame)) (frame.period * cycles - 1) in
        taken clock (EnReg frame enable false first from) is first (expression.Binary binary.Both tests test) (expression.Name (naming.net from)) (t && not u) (value from clock) below (here _ [])
        (either-in (t && not u) (value from clock) (value k clock) (same-word clock from earlier names.1.of) (own-in clock earlier))
        (both-written (nets_of m) (row clock) t u tests test (slot-written run telling clock earlier frame names.0 (frame.period * cycles - 1))
        (test-tells (nets_of m) (row clock) (wire enable) (value enable clock) (known run clock enable earlier names.2)))
        (from-written clock from earlier names.1.of)
        ∙ twice t u (value from clock) (value k clock)

    pub en-goes : (clock : ℕ) (frame : Frame) (enable : ℕ) (resets : Bool) (first : ℤ) (from : ℕ) → (net k).kind ≡ EnReg frame enable resets first from → suc clock < clocks
        → EnRegSteps (span_of cycles frame) resets first clock (value enable clock) (value from clock) (value k clock) (value k (suc clock))
    en-goes clock frame enable resets first from is below =
        let names = names-of run k h (EnReg frame enable resets first from) is in
        en-by clock frame resets first enable from (slot-comes clock frame) (is-off clock enable) (en-next clock frame enable resets first from is below)
        (slot-decides run telling clock (omega (arith, below)) frame names.0 (frame.period * cycles - 1)) refl

    -- an accumulator, by whether the frame ends and whether `enable` is 0
    abbrev gathered : ℕ → ℕ → Bool → Bool → ℤ
    gathered clock from t u = (if t || not u then (if not t then value k clock +ℤ value from clock else pos 0) else value k clock)

    acc-by : (clock : ℕ) (frame : Frame) (enable from : ℕ) → suc clock < clocks → InWord (net k).width (net k).signed (pos 0) → (t u : Bool)
        → row (suc clock) (naming.net k) ≡ bits_of (net k).width (gathered clock from t u)
        → ((t ≡ true) × TakesAt (span_of cycles frame) (frame.period * cycles - 1) clock) ⊎ ((t ≡ false) × ¬ TakesAt (span_of cycles frame) (frame.period * cycles - 1) clock)
        → int_eq (value enable clock) (pos 0) ≡ u
        → AccSteps (span_of cycles frame) (net k).width (net k).signed clock (value enable clock) (value from clock) (value k clock) (value k (suc clock))
    acc-by clock frame enable from below none false u e (inl d) f = absurd (cc (d.0))
    acc-by clock frame enable from below none true u e (inr d) f = absurd (cc (d.0))
    acc-by clock frame enable from below none true u e (inl d) f =
        record { clears = λ _. value-is run (suc clock) k (pos 0) h none e; adds = λ no. absurd (no d.1); keeps = λ no. absurd (no d.1) }
    acc-by clock frame enable from below none false false e (inr d) f =
        let other : value enable clock ≢ pos 0 = λ z. (let g = (Decides-int_eq (value enable clock) (pos 0)).1 z in absurd (cc (f, g))) in
        record {
          clears = λ yes. absurd (d.1 yes);
          adds = λ _ _. value-wrapped run (suc clock) k (value k clock +ℤ value from clock) below h e;
          keeps = λ _ z. absurd (other z);
        }
    acc-by clock frame enable from below none false true e (inr d) f =
        let off : value enable clock ≡ pos 0 = (Decides-int_eq (value enable clock) (pos 0)).0 f in
        record {
          clears = λ yes. absurd (d.1 yes);
          adds = λ _ some. absurd (some off);
          keeps = λ _ _. value-is run (suc clock) k (value k clock) h (own-in clock (omega (arith, below))) e;
        }

    acc-bits : (clock : ℕ) (frame : Frame) (enable from : ℕ) → (net k).kind ≡ Acc frame enable from → suc clock < clocks
        → row (suc clock) (naming.net k) ≡ bits_of (net k).width (gathered clock from (slot-comes clock frame) (is-off clock enable))
    acc-bits clock frame enable from is below =
        let names = names-of run k h (Acc frame enable from) is in
        let earlier : clock < clocks = omega (arith, below) in
        let t : Bool = slot-comes clock frame in
        let u : Bool = is-off clock enable in
        let w : ℕ = (net k).width in
        let begins : Sized = constant w (pos 0) in
        let last : Expr = slot_test cycles frame (wire (naming.counter frame)) (frame.period * cycles - 1) in
        let test : Expr = test_of (wire enable) in
        let more : Expr = expression.Binary binary.Add (expression.Name (naming.net k)) (expression.Name (naming.net from)) in
        let either : Expr = expression.Binary binary.Either last test in
        let next : Expr = expression.Choose last (expression.Literal begins) more in
        let z : ℤ = (if not t then value k clock +ℤ value from clock else pos 0) in
        let told = slot-written run telling clock earlier frame names.0 (frame.period * cycles - 1) in
        let sum = add-written (nets_of m) (row clock) w (value k clock) (value from clock) (expression.Name (naming.net k)) (expression.Name (naming.net from))
        (as-name (nets_of m) (row clock) (wire k) (value k clock) (known run clock k earlier h)) (from-written clock from earlier names.1.of) in
        edge run clock (naming.net k) begins (Some either) next below (item-of run k h (Acc frame enable from) is (item.Always (naming.net k) begins (Some either) next) (here _ []))
        ∙ next-value m (row clock) (naming.net k) w (net k).signed (run.has.declared k h) begins (Some either) next (t || not u) z (released run clock below)
        (condition-told (nets_of m) (row clock) (t || not u) either
        (either-written (nets_of m) (row clock) t u last test told
        (test-tells (nets_of m) (row clock) (wire enable) (value enable clock) (known run clock enable earlier names.2))))
        (choose-written (nets_of m) (row clock) w (pos 0) (value k clock +ℤ value from clock) (not t) last (expression.Literal begins) more
        (ap (λ (b : ℕ). b == 0) (alone-written (nets_of m) (row clock) 1 (pos (truth t)) last told) ∙ no-bit t)
        (literal-written (nets_of m) (row clock) w (pos 0)) sum)
        ∙ ap (λ (b : ℕ). if t || not u then bits_of w z else b) (bits-of-value run clock k earlier h)
        ∙ choice-bits (t || not u) w (value k clock) z

    pub acc-goes : (clock : ℕ) (frame : Frame) (enable from : ℕ) → (net k).kind ≡ Acc frame enable from → suc clock < clocks
        → AccSteps (span_of cycles frame) (net k).width (net k).signed clock (value enable clock) (value from clock) (value k clock) (value k (suc clock))
    acc-goes clock frame enable from is below =
        let names = names-of run k h (Acc frame enable from) is in
        acc-by clock frame enable from below names.1.first_in (slot-comes clock frame) (is-off clock enable) (acc-bits clock frame enable from is below)
        (slot-decides run telling clock (omega (arith, below)) frame names.0 (frame.period * cycles - 1)) refl

    module _ (frame : Frame) (live from : ℕ) (is : (net k).kind ≡ Bridge frame live from) where
      has-hold : Contains m.items (item.Always (naming.hold k) (plain_number (net k).width 0) None (expression.Name (naming.net k)))
      has-hold = item-of run k h (Bridge frame live from) is
          (item.Always (naming.hold k) (plain_number (net k).width 0) None (expression.Name (naming.net k)))
          (later _ _ (item.Always (naming.hold k) (plain_number (net k).width 0) None
          (expression.Name (naming.net k)) ∷ []) (here _ []))

      -- the held value is the net's own of the clock before
      held-bits : (clock : ℕ) → suc clock < clocks → row (suc clock) (naming.hold k) ≡ bits_of (net k).width (value k clock)
      held-bits clock below =
          edge run clock (naming.hold k) (plain_number (net k).width 0) None (expression.Name (naming.net k)) below has-hold
          ∙ next-value m (row clock) (naming.hold k) (net k).width (net k).signed
          (run.has.held k h frame live from is) (plain_number (net k).width 0) None
          (expression.Name (naming.net k)) true (value k clock)
          (released run clock below) refl
          (as-name (nets_of m) (row clock) (wire k) (value k clock) (known run clock k (omega (arith, below)) h))

      held-first : 0 < clocks → row 0 (naming.hold k) ≡ bits_of (net k).width (pos 0)
      held-first below =
          first-bits run (naming.hold k) (net k).width 0 (net k).signed None (expression.Name (naming.net k)) (run.has.held k h frame live from is) (pow_pos (net k).width) below has-hold
          ∙ sym (mod-eq_of_lt (pow_pos (net k).width))

      abbrev live_now : ℕ → Bool
      live_now clock = live_bit cycles frame (count_of cycles frame clock) live

      some-live : 0 < live
      some-live = let names = names-of run k h (Bridge frame live from) is in let parts = both-some live cycles names.1 in parts.0

      bridge-bits : (clock : ℕ) (y : ℤ) → clock < clocks → row clock (naming.hold k) ≡ bits_of (net k).width y
          → row clock (naming.net k) ≡ bits_of (net k).width (if not (live_now clock) then y else value from clock)
      bridge-bits clock y below held =
          let names = names-of run k h (Bridge frame live from) is in
          let counter : Wire = wire (naming.counter frame) in
          let l : Bool = live_now clock in
          let test : Expr = live_test cycles frame counter live in
          let told = live-written run telling clock below frame names.0 live some-live in
          let x : Expr = expression.Name (naming.net from) in
          let hold : Expr = expression.Name (naming.hold k) in
          let q = name-written (nets_of m) (row clock) (naming.hold k) (net k).width (net k).signed y (run.has.held k h frame live from is) held in
          assigned-bits run clock k (expression.Choose test x hold) (if not l then y else value from clock) h below
          (item-of run k h (Bridge frame live from) is (item.Assign (naming.net k) (expression.Choose test x hold))
          (here _ (item.Always (naming.hold k) (plain_number (net k).width 0) None
          (expression.Name (naming.net k)) ∷ [])))
          (assigned-written (nets_of m) (row clock) (net k).width (if not l then y else value from clock) (expression.Choose test x hold)
          (choose-written (nets_of m) (row clock) (net k).width (value from clock) y (not l) test x hold
          (ap (λ (b : ℕ). b == 0) (alone-written (nets_of m) (row clock) 1 (pos (truth l)) test told) ∙ no-bit l) (from-written clock from below names.3) q))

      -- at clock 0 it passes
      begins-live : 0 < clocks → IsLive (span_of cycles frame) (live * cycles) 0
      begins-live below =
          let names = names-of run k h (Bridge frame live from) is in
          record {
            passes = λ _. (let e : 0 - frame.latency * cycles ≡ 0 = omega arith in
                let f : (0 - frame.latency * cycles) % (frame.period * cycles) ≡ 0 = ap (λ (i : ℕ). i % (frame.period * cycles)) e ∙ mod-eq_of_lt names.0.some in
                omega (arith, f, names.1));
          }

      pub bridge-begins : 0 < clocks → value k 0 ≡ value from 0
      bridge-begins below =
          let names = names-of run k h (Bridge frame live from) is in
          by (live_now 0) (bridge-bits 0 (pos 0) below (held-first below)) (live-decides run telling 0 below frame names.0 live some-live)
        where
          by : (l : Bool) → row 0 (naming.net k) ≡ bits_of (net k).width (if not l then pos 0 else value from 0)
              → ((l ≡ true) × IsLive (span_of cycles frame) (live * cycles) 0) ⊎ ((l ≡ false) × ¬ IsLive (span_of cycles frame) (live * cycles) 0) → value k 0 ≡ value from 0
          by true e (inl d) = (let names = names-of run k h (Bridge frame live from) is in value-is run 0 k (value from 0) h (same-word 0 from below names.3) e)
          by true e (inr d) = absurd (cc (d.0))
          by false e (inl d) = absurd (cc (d.0))
          by false e (inr d) = absurd (d.1 (begins-live below))

      pub bridge-goes : (clock : ℕ) → suc clock < clocks → BridgeSteps (span_of cycles frame) (live * cycles) (suc clock) (value from (suc clock)) (value k clock) (value k (suc clock))
      bridge-goes clock below =
          let names = names-of run k h (Bridge frame live from) is in
          by (live_now (suc clock)) (bridge-bits (suc clock) (value k clock) below (held-bits clock below)) (live-decides run telling (suc clock) below frame names.0 live some-live)
        where
          by : (l : Bool) → row (suc clock) (naming.net k) ≡ bits_of (net k).width (if not l then value k clock else value from (suc clock))
              → ((l ≡ true) × IsLive (span_of cycles frame) (live * cycles) (suc clock)) ⊎ ((l ≡ false) × ¬ IsLive (span_of cycles frame) (live * cycles) (suc clock))
              → BridgeSteps (span_of cycles frame) (live * cycles) (suc clock) (value from (suc clock)) (value k clock) (value k (suc clock))
          by true e (inl d) =
              let names = names-of run k h (Bridge frame live from) is in
              let passes = value-is run (suc clock) k (value from (suc clock)) h (same-word (suc clock) from below names.3) e in
              record { passes = λ _. passes; holds = λ no. absurd (no d.1) }
          by true e (inr d) = absurd (cc (d.0))
          by false e (inl d) = absurd (cc (d.0))
          by false e (inr d) =
              let holds = value-is run (suc clock) k (value k clock) h (own-in clock (omega (arith, below))) e in
              record { passes = λ yes. absurd (d.1 yes); holds = λ _. holds }

    pub counter-goes : (clock : ℕ) (frame : Frame) → (net k).kind ≡ Counter frame → suc clock < clocks → CounterSteps (span_of cycles frame) (value k clock) (value k (suc clock))
    counter-goes clock frame is below =
        let c = counter-counts run k h frame is in
        let e : clock + 1 ≡ suc clock = add-one clock in
        record {
          falls = λ some. (let other : value k clock ≢ pos 0 = λ z. (let f = some.lt in omega (arith, ints, f, z)) in
              subst (λ (n : ℕ). value k n +ℤ pos 1 ≡ value k clock) e (c.falls clock (omega (arith, below)) other));
          wraps = λ none. (let z : value k clock ≡ pos 0 = (let v = counter-value run k h clock frame (omega (arith, below)) is in zero-number (value k clock) (count_of cycles frame clock) v none) in
              subst (λ (n : ℕ). value k n ≡ pos (frame.period * cycles - 1)) e (c.wraps clock (omega (arith, below)) z));
        } where
          zero-number : (z : ℤ) (n : ℕ) → z ≡ pos n → z ≤ℤ pos 0 → z ≡ pos 0
          zero-number z n e few = omega (arith, ints, e, few)
