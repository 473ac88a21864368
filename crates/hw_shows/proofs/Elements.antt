-- Blocks that give what their inputs are offered in the same sample.
use Rattle.std.proofs.Common.{◌≡◌, ℕ, suc, ◌+◌, ◌-◌, ◌*◌, ◌/◌, ◌<◌, ◌≤◌, ℤ, pos, int_lt, ◌*ℤ◌, List, map, sum, inr, Option, Some, None, slice_get, ap, ap₂, sym, ◌∙◌, subst, refl, arith}
use Rattle.std.specs.List.{list_any}
use Rattle.std.proofs.lemmas.Option.{none-some}
use Rattle.fx_type.specs.declared.kind.FxType.{FxType}
use Rattle.fx_type.specs.declared.decimal.Decimal.{Decimal}
use Rattle.fx_type.specs.Conversion.{Converts}
use Rattle.math_list.specs.Numbers.{numbers_from}
use Rattle.dg_model.specs.declared.diagram.Diagram.{Diagram}
use Rattle.dg_model.specs.declared.diagram.Block.{Block}
use Rattle.dg_model.specs.declared.kind.Kind.{Kind}
use Rattle.dg_model.specs.declared.kind.Kind.TheVariants.{Gain, Product}
use Rattle.dg_model.specs.declared.op.Op.TheVariants.{Gain as OpGain, Product as OpProduct}
use Rattle.dg_model.specs.Signals.{Attributes, Stimulus, Table}
use Rattle.dg_model.specs.Operation.{OpGives, stored_truth, value_of, type_of}
use Rattle.dg_model.specs.Wires.{width_into, type_into, types_into, value_into, values_into}
use Rattle.dg_model.specs.Equation.{StoresEntry, IsOpOf, ElementEquation, MuxEquation, DemuxEquation, EnableEquation}
use Rattle.dg_model.specs.Solves.{shown_ports}
use Rattle.dg_tables.proofs.Lists.{below_repeated}
use Rattle.math_list.proofs.Numbers.{map_same, any_same, get_number, length_mapped}
use Rattle.math_list.proofs.Sums.{sum_before}
use Rattle.dg_tables.proofs.Sources.{IsRead}
use Rattle.hw_net.specs.Registers.{Wave}
use Rattle.hw_net.specs.Closed.{frame_start}
use Rattle.hw_shows.specs.Shows.{IsSeenAt, IsSeen}
use Rattle.hw_shows.specs.Timing.{Timing}
use Rattle.hw_shows.specs.Series.{steady, span_at, IsProductAt}
use Rattle.hw_shows.specs.Waves.{Waves, IsCarriedOut, IsServed, IsJoined, operation_of_block}
use Rattle.hw_lines.proofs.Hits.{hit-number}
use Rattle.hw_shows.proofs.Inputs.{Setting, AreOffered}

module _ {diagram : Diagram} {attributes : Attributes} {rank : ℕ → ℕ} {stimulus : Stimulus} {timing : Timing}
    {clocks n : ℕ} {table : Table} {waves : Waves}
    (s : Setting diagram attributes rank stimulus timing clocks n table waves)
    (block : ℕ) (b : Block) (block_is : slice_get diagram.blocks block ≡ Some b) (showing : 1 ≤ shown_ports b.kind b.outputs) (k : ℕ) (within : k ≤ clocks) (port element : ℕ)
  where
    -- hit t of the block is to be seen at clock c
    abbrev pub IsDue : ℕ → ℕ → Type 0
    IsDue t c = IsSeen timing.cycles (attributes.period_at block) (timing.latency block) (timing.ready block) t c

    pub input_values : (t c : ℕ) → t < n → c < k → IsDue t c → AreOffered s block b block_is showing k (timing.ready block)
        → ((input : ℕ) → 1 ≤ input → input ≤ b.inputs → IsRead diagram attributes block input element)
        → map (λ input. waves.offered block input element c) (numbers_from 1 b.inputs) ≡ values_into diagram attributes table block b.inputs element t
    input_values t c below early seen now reads =
        map_same (λ input. waves.offered block input element c) (λ input. value_into diagram attributes table block input element t) 1 b.inputs
        (λ input from to. let end : input ≤ b.inputs = omega (arith, to) in (now input element from end (reads input from end)).at t c below early seen)

    pub carried_out : (t c : ℕ) → t < n → c < k → IsDue t c → AreOffered s block b block_is showing k (timing.ready block)
        → ((input : ℕ) → 1 ≤ input → input ≤ b.inputs → IsRead diagram attributes block input element)
        → IsCarriedOut diagram attributes timing clocks waves block b port element → ElementEquation diagram attributes stimulus table b block element t (waves.entry block port element c)
    carried_out t c below early due now reads made = (
      made.op,
      made.is,
      subst (λ (values : List ℤ). OpGives (operation_of_block diagram attributes timing clocks waves block b made.op) values (waves.entry block port element c))
          (input_values t c below early due now reads) (made.gives t c (omega arith) due),
    )

    -- ---- shared operations
    module _ (slot : ℕ) (served : timing.slot block element ≡ Some slot) where
      -- an operand in the clock of its slot gives a product from when the block is ready
      pub product_is : (left right : Wave) (x y : ℤ) (p t c : ℕ) → attributes.period_at block ≡ Some p → IsProductAt clocks (span_at timing p block) slot left right (waves.product block element)
          → IsDue t c → c < k
          → ((a : ℕ) → a < k → IsSeenAt timing.cycles p (timing.latency block) slot t a → left a ≡ x) → ((a : ℕ) → a < k → IsSeenAt timing.cycles p (timing.latency block) slot t a → right a ≡ y)
          → waves.product block element c ≡ x *ℤ y
      product_is left right x y p t c own product due early at_left at_right =
          let seen : IsSeenAt timing.cycles p (timing.latency block) (timing.ready block) t c =
          subst (λ (o : Option ℕ). IsSeen timing.cycles o (timing.latency block) (timing.ready block) t c) own
          due in
          let from : (t + timing.latency block) * timing.cycles + timing.ready block ≤ c = seen.from in
          let until : c < (t + timing.latency block + p) * timing.cycles = seen.until in
          let i : ℕ = t / p in
          let e : t ≡ i * p = hit-number t p seen.is_hit in
          let start : t * timing.cycles ≡ i * (p * timing.cycles) = ap (λ (x : ℕ). x * timing.cycles) e ∙ omega arith in
          let sooner : slot < timing.ready block = s.timed.slots block element slot served in
          let a : ℕ = frame_start (span_at timing p block) i + slot in
          let at_slot : IsSeenAt timing.cycles p (timing.latency block) slot t a = record { is_hit = seen.is_hit; from = omega arith; until = omega arith } in
          product.holds i c (omega arith) (omega arith) (omega arith) ∙ ap₂ (λ (x y : ℤ). x *ℤ y) (at_left a (omega arith) at_slot) (at_right a (omega arith) at_slot)

      pub with_period : {A : Type 0} → ((p : ℕ) → attributes.period_at block ≡ Some p → A) → A
      with_period {A} f = go (attributes.period_at block) refl
        where
          go : (o : Option ℕ) → attributes.period_at block ≡ o → A
          go None e = absurd (none-some slot (sym (s.timed.still block element e) ∙ served))
          go (Some p) e = f p e

      offered_at_slot : (now : AreOffered s block b block_is showing k slot) (input : ℕ) → 1 ≤ input → input ≤ b.inputs → IsRead diagram attributes block input element
          → (p t : ℕ) → attributes.period_at block ≡ Some p → t < n → (a : ℕ) → a < k
          → IsSeenAt timing.cycles p (timing.latency block) slot t a
          → waves.offered block input element a ≡ value_into diagram attributes table block input element t
      offered_at_slot now input from to reads p t own below a early seen =
          (now input element from to reads).at t a below early (subst (λ (o : Option ℕ). IsSeen timing.cycles o (timing.latency block) slot t a) (sym own) seen)

      module _ (now : AreOffered s block b block_is showing k slot) (reads : (input : ℕ) → 1 ≤ input → input ≤ b.inputs → IsRead diagram attributes block input element)
          (t c : ℕ) (below : t < n) (early : c < k) (due : IsDue t c)
        where
          pub multiplied : b.kind ≡ Product → b.inputs ≡ 2 → (type other : FxType)
              → (type ≡ type_of (types_into diagram attributes block b.inputs) 0) → (other ≡ type_of (types_into diagram attributes block b.inputs) 1)
              → IsServed diagram attributes timing clocks waves block b port element slot (waves.offered block 1 element) (waves.offered block 2 element) type other
              → ElementEquation diagram attributes stimulus table b block element t (waves.entry block port element c)
          multiplied is two type other e f made =
              let product : waves.product block element c ≡ value_into diagram attributes table block 1 element t *ℤ value_into diagram attributes table block 2 element t =
              with_period (λ p own. product_is (waves.offered block 1 element) (waves.offered block 2 element)
              (value_into diagram attributes table block 1 element t)
              (value_into diagram attributes table block 2 element t)
              p t c own (made.product p own) due early
              (offered_at_slot now 1 (omega arith) (omega arith) (reads 1 (omega arith) (omega arith)) p t own below)
              (offered_at_slot now 2 (omega arith) (omega arith) (reads 2 (omega arith) (omega arith)) p t own below)) in
              let one : value_of (values_into diagram attributes table block b.inputs element t) 0
              ≡ value_into diagram attributes table block 1 element t =
              ap (λ (m : ℕ). value_of (values_into diagram attributes table block m element t) 0) two in
              let more : value_of (values_into diagram attributes table block b.inputs element t) 1
              ≡ value_into diagram attributes table block 2 element t =
              ap (λ (m : ℕ). value_of (values_into diagram attributes table block m element t) 1) two in
              let factors : waves.product block element c
              ≡ value_of (values_into diagram attributes table block b.inputs element t) 0 *ℤ value_of
              (values_into diagram attributes table block b.inputs element t) 1 =
              product ∙ sym (ap₂ (λ (x y : ℤ). x *ℤ y) one more) in (
                OpProduct,
                subst (λ (kind : Kind). IsOpOf kind element (attributes.param_at block) (type_into diagram attributes block 2) OpProduct) (sym is) refl,
                (
                  made.full,
                  rw (← e, ← f) made.is_full,
                  subst (λ (v : ℤ). Converts v made.full (attributes.type_at block 1) b.rounding b.saturate
                      (waves.entry block port element c)) factors (made.converts c (omega arith)),
                ),
              )

          pub scaled : (value : List Decimal) (spec : _) → b.kind ≡ Gain value spec → b.inputs ≡ 1
              → (coefficient : ℤ) → StoresEntry value element (attributes.param_at block) coefficient
              → (type : FxType)
              → (type ≡ type_of (types_into diagram attributes block b.inputs) 0)
              → IsServed diagram attributes timing clocks waves block b port element slot (waves.offered block 1 element) (steady coefficient) type (attributes.param_at block)
              → ElementEquation diagram attributes stimulus table b block element t (waves.entry block port element c)
          scaled value spec is single coefficient stored type e made =
              let product : waves.product block element c ≡ value_into diagram attributes table block 1 element t *ℤ coefficient =
              with_period (λ p own. product_is (waves.offered block 1 element) (steady coefficient) (value_into diagram attributes table block 1 element t) coefficient
              p t c own (made.product p own) due early
              (offered_at_slot now 1 (omega arith) (omega arith) (reads 1 (omega arith) (omega arith)) p t own below)
              (λ a soon seen. refl)) in
              let one : value_of (values_into diagram attributes table block b.inputs element t) 0
              ≡ value_into diagram attributes table block 1 element t =
              ap (λ (m : ℕ). value_of (values_into diagram attributes table block m element t) 0) single in
              let factors : waves.product block element c
              ≡ value_of (values_into diagram attributes table block b.inputs element t) 0 *ℤ coefficient =
              product ∙ sym (ap (λ (x : ℤ). x *ℤ coefficient) one) in (
                OpGain coefficient (attributes.param_at block),
                subst (λ (kind : Kind). IsOpOf kind element (attributes.param_at block)
                    (type_into diagram attributes block 2) (OpGain coefficient (attributes.param_at block)))
                    (sym is) (coefficient, stored, refl),
                (
                  made.full,
                  rw (← e) made.is_full,
                  subst (λ (v : ℤ). Converts v made.full (attributes.type_at block 1) b.rounding b.saturate
                      (waves.entry block port element c)) factors (made.converts c (omega arith)),
                ),
              )

    -- ---- signals
    pub joined : (t c : ℕ) → t < n → c < k → IsDue t c → AreOffered s block b block_is showing k (timing.ready block) → IsJoined diagram attributes timing clocks waves block b port element
        → MuxEquation diagram attributes stimulus table b block element t (waves.entry block port element c)
    joined t c below early seen now made = (
      made.signal,
      made.place,
      made.part,
      made.same.at c (omega arith)
          ∙ (now (suc made.signal) made.place (omega arith) (omega (arith, signal_is))
          (below_repeated (width_into diagram attributes block (suc made.signal)) made.place (inr inside))).at
          t c below early seen,
    )
      where
        signal_is : made.signal < b.inputs
        signal_is = subst (λ (m : ℕ). made.signal < m) (length_mapped (width_into diagram attributes block) 1 b.inputs) made.part.signal_is

        inside : made.place < width_into diagram attributes block (suc made.signal)
        inside =
            let e : 1 + made.signal ≡ suc made.signal = omega arith in
            subst (λ (m : ℕ). made.place < m) (get_number (width_into diagram attributes block) 1 b.inputs made.signal signal_is ∙ ap (width_into diagram attributes block) e) made.part.within

    pub parted : (t c : ℕ) → t < n → c < k → IsDue t c
        → AreOffered s block b block_is showing k (timing.ready block) → 1 ≤ b.inputs → 1 ≤ port → port ≤ b.outputs
        → element < attributes.width_at block port
        → width_into diagram attributes block 1 ≡ sum (map (attributes.width_at block) (numbers_from 1 b.outputs))
        → waves.entry block port element c ≡ waves.offered block 1 (sum (map (attributes.width_at block) (numbers_from 1 (port - 1))) + element) c
        → DemuxEquation diagram attributes stimulus table block port element t (waves.entry block port element c)
    parted t c below early seen now some from to inside width same =
        same ∙ (now 1 (sum (map (attributes.width_at block) (numbers_from 1 (port - 1))) + element)
        (omega arith) some (below_repeated (width_into diagram attributes block 1)
        (sum (map (attributes.width_at block) (numbers_from 1 (port - 1))) + element) (inr there))).at t c
        below early seen
      where
        there : sum (map (attributes.width_at block) (numbers_from 1 (port - 1))) + element < width_into diagram attributes block 1
        there =
            let e : attributes.width_at block (1 + (port - 1)) ≡ attributes.width_at block port = ap (attributes.width_at block) (omega arith) in
            omega (arith, e, width, inside, sum_before (attributes.width_at block) 1 b.outputs (port - 1) (omega arith))

    pub tested : (t c : ℕ) → t < n → c < k → IsDue t c → AreOffered s block b block_is showing k (timing.ready block) → 1 ≤ b.inputs
        → waves.entry block port element c ≡ stored_truth (list_any (λ place. int_lt (pos 0) (waves.offered block 1 place c)) (numbers_from 0 (width_into diagram attributes block 1)))
        → EnableEquation diagram attributes stimulus table block t (waves.entry block port element c)
    tested t c below early seen now some same =
        same ∙ ap stored_truth (any_same (λ place. int_lt (pos 0) (waves.offered block 1 place c))
        (λ place. int_lt (pos 0) (value_into diagram attributes table block 1 place t)) 0
        (width_into diagram attributes block 1)
        (λ place from to. ap (λ (x : ℤ). int_lt (pos 0) x)
        ((now 1 place (omega arith) some (below_repeated (width_into diagram attributes block 1) place
        (inr (omega (arith, to))))).at t c below early seen)))
