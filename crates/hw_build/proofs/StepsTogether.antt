-- The steps of a building one after another leave all that a netlist owes before its ports.
use Rattle.std.proofs.Common.{◌≡◌, ℕ, suc, ◌+◌, ◌-◌, ◌<◌, ◌≤◌, ◌⊎◌, inl, inr, true, false, Bool, cond, List, [], ◌∷◌, ◌++◌, length, Some, ap, sym, ◌∙◌, subst, refl, arith, length-append}
use Rattle.std.specs.Prelude.{slice_get, get_or}
use Rattle.std.specs.List.{flat_map}
use Rattle.std.proofs.lemmas.Bool.{cases_lt, false≢true}
use Rattle.std.proofs.lemmas.Option.{none-some, same_Some, slice_get_within, slice_get-get_or}
use Rattle.dg_model.specs.declared.diagram.Diagram.{Diagram}
use Rattle.dg_model.specs.declared.resolved.Resolved.{Resolved}
use Rattle.dg_model.specs.Attributes.{attributes_of}
use Rattle.dg_model.specs.RootElements.{RootElement, root_element, root_inputs}
use Rattle.hw_net.specs.declared.netlist.Frame.{Frame}
use Rattle.hw_net.specs.declared.netlist.Net.{Net}
use Rattle.hw_net.specs.declared.netlist.NetKind.{NetKind}
use Rattle.hw_net.specs.declared.netlist.NetKind.TheVariants.{Comb, Reg, EnReg, Acc, Bridge, Unit, Counter}
use Rattle.hw_net.specs.declared.netlist.NetOp.TheVariants.{Input, Resize}
use Rattle.hw_net.specs.declared.netlist.NetPort.{NetPort}
use Rattle.hw_net.specs.Circuit.{Circuit}
use Rattle.hw_net.specs.Frames.{counted_frame, is_register, register_count}
use Rattle.hw_net.specs.Growing.{Extends, IsReopened}
use Rattle.hw_sched.specs.Chained.{registers_of_lines, uses_in_all}
use Rattle.hw_sched.specs.Slots.{Timing as Times, shared_operations}
use Rattle.hw_build.specs.declared.operands.Operands.{Operands}
use Rattle.hw_build.specs.declared.products.Products.{Products}
use Rattle.hw_build.specs.Places.{Places}
use Rattle.hw_build.specs.Times.{timing_by}
use Rattle.hw_build.specs.Serving.{Factors, unit_factors, own_factors, others}
use Rattle.hw_build.specs.inner.ElementStep.{ArePlacedInOrder, IsReady}
use Rattle.hw_build.specs.inner.FrameCounts.{HasMoreRegisters}
use Rattle.hw_build.specs.inner.HubPlaces.{hub_of, input_net, hubs_in_all, own_hubs, HasHubs}
use Rattle.hw_build.specs.inner.LineStep.{IsLinedWay, AreLinesPut}
use Rattle.hw_build.specs.inner.MultiplierStep.{HasNoUnits, IsSharedWay, AddsProducts}
use Rattle.hw_build.specs.inner.Operands.{offered_at, AreLinePlaces}
use Rattle.hw_build.specs.inner.Start.{IsReadied}
use Rattle.hw_build.specs.inner.ResultNets.{product_net}
use Rattle.hw_build.specs.inner.Wants.{IsLinePart}
use Rattle.hw_build.proofs.HubsOnly.{find_owner}
use Rattle.hw_build.proofs.FrameCounts.{frame_stands, more_goes, registers_then}
use Rattle.hw_build.proofs.Growth.{goes_appended, still_within}
use Rattle.hw_share.proofs.Counters.{counter-kind}
use Rattle.math_list.proofs.Places.{get_some}

-- ---- lists of nets that go on

-- what is gathered of nets that are the same there, or give nothing, stays
pub same_gathered : (f : NetKind → List Factors) (xs ys : List Net)
    → ((k : ℕ) (x : Net) → slice_get xs k ≡ Some x → (y : Net) × (slice_get ys k ≡ Some y) × (f y.kind ≡ f x.kind))
    → ((k : ℕ) (y : Net) → length xs ≤ k → slice_get ys k ≡ Some y → f y.kind ≡ [])
    → flat_map (λ (net : Net). f net.kind) ys ≡ flat_map (λ (net : Net). f net.kind) xs
same_gathered f [] [] kept plain = refl
same_gathered f [] (y ∷ ys) kept plain =
    ap (λ (front : List Factors). front ++ flat_map (λ (net : Net). f net.kind) ys) (plain 0 y (omega arith) refl)
    ∙ same_gathered f [] ys (λ k x at. absurd (none-some x at)) (λ k z low at. plain (suc k) z (omega arith) at)
same_gathered f (x ∷ xs) [] kept plain = let h = kept 0 x refl in absurd (none-some h.0 h.1)
same_gathered f (x ∷ xs) (y ∷ ys) kept plain =
    let here = kept 0 x refl in
    ap (λ (front : List Factors). front ++ flat_map (λ (net : Net). f net.kind) ys) (ap (λ (n : Net). f n.kind) (same_Some y here.0 here.1) ∙ here.2)
    ∙ ap (λ (back : List Factors). f x.kind ++ back) (same_gathered f xs ys (λ k z at. kept (suc k) z at) (λ k z low at. plain (suc k) z (omega (arith, low)) at))

-- ---- registers of nets that are none

pub no_registers : (nets : List Net) → ((k : ℕ) (net : Net) → slice_get nets k ≡ Some net → is_register net.kind ≡ false) → register_count nets ≡ 0
no_registers [] none = refl
no_registers (net ∷ nets) none = go (is_register net.kind) (none 0 net refl) (no_registers nets (λ k other at. none (suc k) other at))
  where
    go : (b : Bool) → b ≡ false → register_count nets ≡ 0 → cond b 1 0 + register_count nets ≡ 0
    go true is rest = absurd (false≢true (sym is))
    go false is rest = omega (arith, rest)

-- ---- the first nets

module _ (diagram : Diagram) (earlier later : Circuit) (firsts : List (List ℕ)) (has : HasHubs diagram earlier later firsts) where
  -- show an input port, or are to pass on what readers name
  pub plain_kind : (k : ℕ) (net : Net) → slice_get later.nets k ≡ Some net → ((port : ℕ) × (net.kind ≡ Comb (Input port) [])) ⊎ (net.kind ≡ Comb Resize [])
  plain_kind k net at = elim (cases_lt k (length (root_inputs diagram (attributes_of diagram)))) [
    | inl less ↦
        let e : RootElement = get_or (root_inputs diagram (attributes_of diagram)) k (root_element (attributes_of diagram) 0 0 0) in
        let is = has.inputs k e (slice_get-get_or (root_inputs diagram (attributes_of diagram)) k (root_element (attributes_of diagram) 0 0 0) less) in
        inl (k, ap (λ (n : Net). n.kind) (sym (same_Some (input_net e.type k) net (sym is ∙ at))))
    | inr past ↦
        let size = has.size in
        let inside = slice_get_within later.nets k net at in
        let found = find_owner (own_hubs diagram) (length diagram.blocks) (k - length (root_inputs diagram (attributes_of diagram))) (omega (arith, size, inside, past)) in
        let block = get_some diagram.blocks found.0 found.1 in
        let low = found.2 in
        let high = found.3 in
        let is = (has.fresh found.0 block.0 k block.1 (omega (arith, low, past)) (omega (arith, high, past))).0 in
        inr (ap (λ (n : Net). n.kind) (sym (same_Some (hub_of ((attributes_of diagram).type_at found.0 1)) net (sym is ∙ at))))
  ]

  pub none_multiplies : (k : ℕ) (net : Net) → slice_get later.nets k ≡ Some net → (own_factors net.kind ≡ []) × (unit_factors net.kind ≡ []) × (is_register net.kind ≡ false)
  none_multiplies k net at = elim (plain_kind k net at) [
    | inl input ↦ (ap own_factors input.1, ap unit_factors input.1, ap is_register input.1)
    | inr is ↦ (ap own_factors is, ap unit_factors is, ap is_register is)
  ]

  pub none_count : (k : ℕ) (net : Net) (frame : Frame) → slice_get later.nets k ≡ Some net → counted_frame net.kind ≡ Some frame → ⊥
  none_count k net frame at counts = elim (plain_kind k net at) [
    | inl input ↦ none-some frame (sym (ap counted_frame input.1) ∙ counts)
    | inr is ↦ none-some frame (sym (ap counted_frame is) ∙ counts)
  ]

  pub inputs_begin : earlier.inputs ≡ [] → length later.inputs ≤ length (root_inputs diagram (attributes_of diagram))
  inputs_begin none =
      let same : length later.inputs ≡ length earlier.inputs = ap (λ (ports : List NetPort). length ports) has.extends.inputs in
      let empty : length earlier.inputs ≡ 0 = ap (λ (ports : List NetPort). length ports) none in
      omega (arith, same, empty)

-- ---- lines

line_plain : (kind : NetKind) → IsLinePart kind → (own_factors kind ≡ []) × (unit_factors kind ≡ [])
line_plain (Comb op args) is = absurd is
line_plain (Reg frame slot first from) is = (refl, refl)
line_plain (EnReg frame enable reset first from) is = absurd is
line_plain (Acc frame enable from) is = absurd is
line_plain (Bridge frame live from) is = (refl, refl)
line_plain (Unit left right) is = absurd is
line_plain (Counter frame) is = (refl, refl)

-- ---- all steps

module _ (diagram : Diagram) (plan : Resolved) (times : Times) (place_of : ℕ → ℕ)
    (order : ArePlacedInOrder diagram place_of) (firsts : List (List ℕ)) (operands : Operands) (products : Products)
    (start hubbed lined shared : Circuit) (none : start.nets ≡ []) (no_inputs : start.inputs ≡ [])
    (no_outputs : start.outputs ≡ []) (no_labels : start.labels ≡ [])
    (hubs : HasHubs diagram start hubbed firsts)
    (lines : AreLinesPut diagram plan times hubbed lined firsts operands)
    (multiplied : AddsProducts diagram plan times (offered_at diagram operands) lined shared products) where
  abbrev pub roots : ℕ
  roots = length (root_inputs diagram (attributes_of diagram))

  lined_plain : (k : ℕ) (net : Net) → slice_get lined.nets k ≡ Some net → (own_factors net.kind ≡ []) × (unit_factors net.kind ≡ [])
  lined_plain k net at = elim (cases_lt k (length hubbed.nets)) [
    | inl less ↦
        let kept = (goes_appended 0 0 hubbed lined lines.extends).nets k less in
        let plain = none_multiplies diagram start hubbed firsts hubs k net (still kept at) in
        (plain.0, plain.1)
    | inr past ↦ line_plain net.kind (lines.parts.each k net (omega (arith, past)) at)
  ]
    where
      still : (slice_get lined.nets k ≡ slice_get hubbed.nets k) ⊎ ((0 ≤ k) × (k < 0) × IsReopened hubbed.nets lined.nets k) → slice_get lined.nets k ≡ Some net → slice_get hubbed.nets k ≡ Some net
      still (inl same) at = sym same ∙ at
      still (inr changed) at = let low = changed.1 in absurd (omega (arith, low))

  no_units : HasNoUnits lined
  no_units = λ k net at. (lined_plain k net at).1

  pub few_inputs : length lined.inputs ≤ roots
  few_inputs =
      let a : length lined.inputs ≡ length hubbed.inputs = ap (λ (ports : List NetPort). length ports) lines.extends.inputs in
      let b = inputs_begin diagram start hubbed firsts hubs no_inputs in
      omega (arith, a, b)

  -- by all places that are named so
  module _ (places : Places) (placed : AreLinePlaces diagram firsts operands places) (product_is : (block element : ℕ) → places.product block element ≡ product_net products block element) where
    -- what is left of the way up to the elements
    pub ready_way : IsLinedWay diagram (timing_by diagram plan times) places place_of hubbed lined
    ready_way = lines.way places place_of placed

    pub shared_way : IsSharedWay diagram plan times places place_of roots (hubs_in_all diagram) lined shared ready_way.level 0
    shared_way =
        multiplied.way places place_of roots (hubs_in_all diagram) ready_way.level 0 (record { offered_is = placed.offered; product_is = product_is }) order.below few_inputs ready_way.is

    pub ready : IsReady diagram plan times places place_of shared shared_way.next
    ready = record {
      way = shared_way.way;
      same = λ k low.
          let size = hubs.size in
          let grown = inside_lined k (omega (arith, size, low)) in
          shared_way.same k grown ∙ ready_way.same k (omega (arith, size, low));
      late = record {
        each = λ block b port element edge source lag at showing from to drives below moves lags.
            let word = ready_way.is.operands.there block b port element edge at showing from to drives below in
            shared_way.same (places.offered block port element)
            (slice_get_within lined.nets (places.offered block port element) word.net word.is)
            ∙ ready_way.late.each block b port element edge source lag at showing from to drives below moves
            lags;
      };
      products = shared_way.products;
      low = record { each = shared_way.low };
      units = shared_way.units no_units;
    }
      where
        inside_lined : (k : ℕ) → k < length hubbed.nets → k < length lined.nets
        inside_lined k low = still_within 0 0 hubbed lined (goes_appended 0 0 hubbed lined lines.extends) k low

  -- ---- counts

  hubbed_more : HasMoreRegisters diagram plan times start hubbed 0
  hubbed_more = more_goes diagram plan times 0 0 start hubbed 0 (goes_appended 0 0 start hubbed hubs.extends)
      (let count = no_registers hubbed.nets (λ k net at. (none_multiplies diagram start hubbed firsts hubs k net at).2) in omega (arith, count))
      (λ k net frame low at counts. absurd (none_count diagram start hubbed firsts hubs k net frame at counts))

  lined_more : HasMoreRegisters diagram plan times hubbed lined (registers_of_lines (uses_in_all diagram (attributes_of diagram) plan times))
  lined_more = more_goes diagram plan times 0 0 hubbed lined (registers_of_lines (uses_in_all diagram (attributes_of diagram) plan times)) (goes_appended 0 0 hubbed lined lines.extends) lines.few
      (λ k net frame low at counts. lines.counted k net frame low at (counter-kind net.kind frame counts))

  shared_more : HasMoreRegisters diagram plan times lined shared (length (shared_operations diagram (attributes_of diagram) plan))
  shared_more = more_goes diagram plan times 0 0 lined shared (length (shared_operations diagram (attributes_of diagram) plan)) (goes_appended 0 0 lined shared multiplied.extends)
      (let count = multiplied.registers in omega (arith, count))
      (λ k net frame low at counts.
      let is = multiplied.counters k frame low (record { net = net; is = at; counts = counts }) in
      frame_stands diagram plan times is.block frame (record { there = is.there; period_is = is.moves; latency_is = inl is.latency_is }))

  grown_by : (a b : Circuit) → Extends a b → length a.nets ≤ length b.nets
  grown_by a b extends = let e : length b.nets ≡ length (a.nets ++ extends.added) =
      ap (λ (nets : List Net). length nets) extends.nets in let f =
      length-append a.nets extends.added in omega (arith, e, f)

  -- the counts, with no ports and names yet
  pub shared_readied : IsReadied diagram plan times shared
  shared_readied = record {
    inputs = multiplied.extends.inputs ∙ lines.extends.inputs ∙ hubs.extends.inputs ∙ no_inputs;
    outputs = multiplied.extends.outputs ∙ lines.extends.outputs ∙ hubs.extends.outputs ∙ no_outputs;
    labels = multiplied.extends.labels ∙ lines.extends.labels ∙ hubs.extends.labels ∙ no_labels;
    start = start;
    none = none;
    registers =
        let lines_count : ℕ = registers_of_lines (uses_in_all diagram (attributes_of diagram) plan times) in
        let shared_count : ℕ = length (shared_operations diagram (attributes_of diagram) plan) in
        let one = grown_by start hubbed hubs.extends in
        let two = grown_by hubbed lined lines.extends in
        let sum : 0 + lines_count + shared_count ≡ lines_count + shared_count = omega arith in
        subst (HasMoreRegisters diagram plan times start shared) sum
        (registers_then diagram plan times start lined shared (0 + lines_count) shared_count
        (omega (arith, one, two)) (registers_then diagram plan times start hubbed lined 0 lines_count one
        hubbed_more lined_more) shared_more);
    own =
        let theirs = multiplied.own in
        let bare : length (others lined) ≡ 0 =
        ap (λ (ms : List Factors). length ms)
        (same_gathered own_factors [] lined.nets (λ k x at. absurd (none-some x at))
        (λ k net low at. (lined_plain k net at).0)) in
        omega (arith, theirs, bare);
    shared = multiplied.shared no_units;
  }
