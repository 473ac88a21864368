-- Registers in series as the state of an element.
use Rattle.std.proofs.Common.{◌≡◌, ℕ, zero, suc, ◌+◌, ◌-◌, ◌*◌, ◌<◌, ◌≤◌, inl, inr, Bool, true, if◌then◌else◌, ℤ, Option, None, List, [], ◌∷◌, length, All, Contains, Some, ap, sym, ◌∙◌, subst, refl}
use Rattle.std.proofs.Common.{arith}
use Rattle.std.specs.Prelude.{slice_get, slice_index_or, IsSome}
use Rattle.std.proofs.lemmas.Bool.{false≢true}
use Rattle.std.proofs.lemmas.List.Elements.{All-cons, All-nil, Contains-get_or, Contains-push_cases}
use Rattle.std.proofs.lemmas.Option.{same_Some, slice_get_within, slice_get-get_or}
use Rattle.math_list.proofs.Tests.{some_there}
use Rattle.fx_type.specs.declared.decimal.Decimal.{Decimal}
use Rattle.fx_type.specs.declared.kind.FxType.{FxType}
use Rattle.fx_type.specs.FxType.{is_signed, width_of}
use Rattle.dg_model.specs.declared.diagram.Diagram.{Diagram}
use Rattle.dg_model.specs.declared.diagram.Block.{Block}
use Rattle.dg_model.specs.declared.kind.Kind.{Kind}
use Rattle.dg_model.specs.declared.kind.Kind.TheVariants.{Delay}
use Rattle.dg_model.specs.Attributes.{attributes_of}
use Rattle.dg_model.specs.Equation.{StoresEntry}
use Rattle.dg_model.specs.LatencyEdges.{asks_ever}
use Rattle.dg_model.specs.Library.{row_of}
use Rattle.dg_model.specs.Wires.{period_into}
use Rattle.hw_net.specs.declared.netlist.Frame.{Frame}
use Rattle.hw_net.specs.declared.netlist.NetKind.{NetKind}
use Rattle.hw_net.specs.declared.netlist.NetKind.TheVariants.{Comb, Reg, EnReg, Acc, Bridge, Unit, Counter}
use Rattle.hw_net.specs.Circuit.{Circuit}
use Rattle.hw_net.specs.Netlist.{HasWord, reads_now}
use Rattle.hw_net.specs.Registers.{IsReg, IsEnReg}
use Rattle.hw_lower.specs.Lowered.{AreArgs}
use Rattle.hw_sched.specs.Storage.{keeps_own, kept_by_role}
use Rattle.hw_shows.specs.Timing.{Timing}
use Rattle.hw_shows.specs.Series.{span_at, IsSeries, IsEnabledSeries}
use Rattle.hw_build.specs.Places.{Places}
use Rattle.hw_build.specs.declared.entry.Entry.{Entry}
use Rattle.hw_build.specs.declared.parts.Word.{Word}
use Rattle.hw_build.specs.declared.site.Site.{Site}
use Rattle.hw_build.specs.declared.states.Enabled.{Enabled}
use Rattle.hw_build.specs.declared.states.Series.{Series}
use Rattle.hw_build.specs.inner.DesignTimes.{timing_for}
use Rattle.hw_build.specs.inner.Entries.{AreOffered, HasFirst, IsFrameOf, IsHeldAt, IsMadeBy, PutsEntry, enable_types, enables_of, kept_each}
use Rattle.hw_build.specs.inner.Growth.{InLater}
use Rattle.hw_build.specs.inner.Series.{enables_by, taken_by, IsOfFrame, AreSeries}
use Rattle.hw_build.specs.inner.Sites.{HasEnabledOperands, IsKept, Puts, TakesAs}
use Rattle.hw_build.proofs.ElementEntries.{IsQuiet, grows_naming, quiet_entry}
use Rattle.hw_build.proofs.ElementKinds.{made_kind, delay_alone, delay_enabled}
use Rattle.hw_build.proofs.Nets.{registered, enabled, series, enabled_series}
use Rattle.hw_share.proofs.Growth.{grows-wider}

-- registers of the frame of a block
pub quiet_frame : (diagram : Diagram) (timing : Timing) (block : ℕ) (frame : Frame) → IsFrameOf diagram timing block frame → (kind : NetKind) → IsOfFrame frame kind → IsQuiet diagram timing block kind
quiet_frame diagram timing block frame own (Comb op args) is = absurd is
quiet_frame diagram timing block frame own (Reg other slot first from) is = (subst (IsFrameOf diagram timing block) (sym is) own, tt)
quiet_frame diagram timing block frame own (EnReg other enable reset first from) is = (subst (IsFrameOf diagram timing block) (sym is) own, tt)
quiet_frame diagram timing block frame own (Acc other enable from) is = absurd is
quiet_frame diagram timing block frame own (Bridge other live from) is = absurd is
quiet_frame diagram timing block frame own (Unit left right) is = absurd is
quiet_frame diagram timing block frame own (Counter other) is = (subst (IsFrameOf diagram timing block) (sym is) own, tt)

-- its parts are told
frame_is : (diagram : Diagram) (timing : Timing) (block period : ℕ) (frame : Frame)
    → IsFrameOf diagram timing block frame → (attributes_of diagram).period_at block ≡ Some period
    → ◌≡◌ {A = Frame} frame (record { period = period; latency = timing.latency block })
frame_is diagram timing block period frame own is =
    let e : frame.period ≡ period = same_Some frame.period period (sym own.period_is ∙ is) in
    ap (λ (p : ℕ). record { period = p; latency = frame.latency }) e ∙ ap (λ (l : ℕ). record { period = period; latency = l }) own.latency_is

-- the registers that places name
pub state_is : (state : ℕ → ℕ) (from begin : ℕ) → state 0 ≡ from → ((k : ℕ) → state (suc k) ≡ begin + k) → (k : ℕ) → state k ≡ taken_by from begin k
state_is state from begin begins more zero = begins
state_is state from begin begins more (suc k) = more k

module _ (diagram : Diagram) (timing : Timing) (before after : Circuit) (block : ℕ) (frame : Frame) (word : Word)
    (named : List ℕ) (from begin count : ℕ) (own : IsFrameOf diagram timing block frame) where
  -- the last one reads nothing in its clock
  pub last_held : (make : ℕ → NetKind) → ((x : ℕ) → reads_now (make x) ≡ [])
      → AreSeries make before after named frame word from begin count → 1 ≤ count
      → IsHeldAt before after (taken_by from begin count)
  last_held make alone are some = go count some are.each
    where
      go : (n : ℕ) → 1 ≤ n → ((k : ℕ) → k < n
          → slice_get after.nets (begin + k) ≡ Some
          (record { signed = word.signed; width = word.width; kind = make (taken_by from begin k) }))
          → IsHeldAt before after (taken_by from begin n)
      go zero none each = absurd (omega (arith, none))
      go (suc n) some each = record {
        net = record { signed = word.signed; width = word.width; kind = make (taken_by from begin n) };
        is = each n (omega arith);
        alone = alone (taken_by from begin n);
        new = let low = are.new in omega (arith, low);
      }

  module _ (closed hubs : ℕ) (small : hubs ≤ length before.nets) (cycles : before.cycles ≡ timing.cycles)
      (state : ℕ → ℕ) (numbers : (k : ℕ) → state k ≡ taken_by from begin k) (period : ℕ)
      (is_period : (attributes_of diagram).period_at block ≡ Some period) where
    -- registers that take where they are enabled
    pub enabled_shows : (enable : ℕ) (reset : Bool) (first : ℤ) → AreSeries (λ last. EnReg frame enable reset first last) before after named frame word from begin count
        → InLater closed hubs after (λ n rows. IsEnabledSeries n (span_at timing period block) count reset first (rows enable) (rows from) (λ k. rows (state k)))
    enabled_shows enable reset first are =
        enabled_series closed hubs after period block count reset first timing enable from state (numbers 0) (λ k below.
        let number = numbers (suc k) in
        let given = enabled closed hubs after (begin + k) enable
        (taken_by from begin k) period block reset first timing
        (record {
          signed = word.signed;
          width =
              word.width;
          kind = EnReg frame enable reset first (taken_by from begin k);
        })
        (record { at = are.each k below; settled = let low = are.new in inr (omega (arith, small, low)) })
        (are.grows.appends.extends.cycles ∙ cycles)
        (ap (λ (f : Frame). EnReg f enable reset first (taken_by from begin k))
        (frame_is diagram timing block period frame own is_period)) in
        subst (λ (x : ℕ). InLater closed hubs after (λ n rows. IsEnReg n (span_at timing period block) reset first (rows enable) (rows (state k)) (rows x))) (sym number)
        (subst (λ (x : ℕ). InLater closed hubs after (λ n rows. IsEnReg n (span_at timing period block) reset first (rows enable) (rows x) (rows (begin + k)))) (sym (numbers k)) given))

    -- registers that take at the end of each frame
    pub series_shows : (slot : ℕ) (first : ℤ) → slot ≡ frame.period * timing.cycles - 1 → AreSeries (λ last. Reg frame slot first last) before after named frame word from begin count
        → InLater closed hubs after (λ n rows. IsSeries n (span_at timing period block) count first (rows from) (λ k. rows (state k)))
    series_shows slot first last are =
        series closed hubs after period block count first timing from state (numbers 0) (λ k below.
        let number = numbers (suc k) in
        let e : frame.period ≡ period = same_Some frame.period period (sym own.period_is ∙ is_period) in
        let slot_is : slot ≡ period * timing.cycles - 1 = last ∙ ap (λ (p : ℕ). p * timing.cycles - 1) e in
        let given = registered closed hubs after (begin + k) slot (taken_by from begin k) period block first timing
        (record {
          signed = word.signed;
          width =
              word.width;
          kind = Reg frame slot first (taken_by from begin k);
        })
        (record { at = are.each k below; settled = let low = are.new in inr (omega (arith, small, low)) })
        (are.grows.appends.extends.cycles ∙ cycles)
        (ap (λ (f : Frame). Reg f slot first (taken_by from begin k))
        (frame_is diagram timing block period frame own is_period)) in
        subst (λ (x : ℕ). InLater closed hubs after (λ n rows. IsReg n (span_at timing period block) (period * timing.cycles - 1) first (rows (state k)) (rows x))) (sym number)
        (subst (λ (x : ℕ). InLater closed hubs after (λ n rows. IsReg n (span_at timing period block) (period * timing.cycles - 1) first (rows x) (rows (begin + k)))) (sym (numbers k))
        (subst (λ (s : ℕ). InLater closed hubs after (λ n rows. IsReg n (span_at timing period block) s first (rows (taken_by from begin k)) (rows (begin + k)))) slot_is given)))

-- ---- operands

pub first_operand : (net : Circuit) (type : FxType) (rest : List FxType) (operands : List ℕ)
    → AreArgs net (type ∷ rest) operands
    → HasWord net.nets (slice_index_or operands 0 0) (width_of type) (is_signed type)
first_operand net type rest operands are = let count = are.count in are.words 0 (slice_index_or operands 0 0) type (slice_get-get_or operands 0 0 (omega (arith, count))) refl

pub second_operand : (diagram : Diagram) (net : Circuit) (type : FxType) (operands : List ℕ) (enable : Option ℕ)
    → IsSome enable → AreArgs net (type ∷ enable_types (attributes_of diagram) enable) operands
    → (1 < length operands) × (slice_index_or operands 1 0 < length net.nets)
second_operand diagram net type operands None some are = absurd (false≢true some)
second_operand diagram net type operands (Some control) some are =
    let count = are.count in
    let within : 1 < length operands = omega (arith, count) in
    let word = are.words 1 (slice_index_or operands 1 0) ((attributes_of diagram).type_at control 1) (slice_get-get_or operands 1 0 within) refl in
    (within, slice_get_within net.nets (slice_index_or operands 1 0) word.net word.is)

-- those of a register are among these
pub two_named : (operands : List ℕ) → 1 < length operands → (read : ℕ) → Contains (slice_index_or operands 1 0 ∷ slice_index_or operands 0 0 ∷ []) read → Contains operands read
two_named operands within read is = elim (Contains-push_cases (slice_index_or operands 1 0 ∷ []) (slice_index_or operands 0 0) read is) [
  | inl second ↦ elim (Contains-push_cases [] (slice_index_or operands 1 0) read second) [
    | inl none ↦ absurd (omega (arith, none.1))
    | inr same ↦ subst (Contains operands) same (Contains-get_or operands 1 0 within)
  ]
  | inr same ↦ subst (Contains operands) same (Contains-get_or operands 0 0 (omega (arith, within)))
]

pub one_named : (operands : List ℕ) → 0 < length operands → (read : ℕ) → Contains (slice_index_or operands 0 0 ∷ []) read → Contains operands read
one_named operands within read is = elim (Contains-push_cases [] (slice_index_or operands 0 0) read is) [
  | inl none ↦ absurd (omega (arith, none.1))
  | inr same ↦ subst (Contains operands) same (Contains-get_or operands 0 0 within)
]

-- ---- a Delay with registers of its own

module _ (diagram : Diagram) (timing : Timing) (before after : Circuit) (block : ℕ) (b : Block) (port element : ℕ)
    (operands : List ℕ) (entry : Entry) (delay begin : ℕ) (list : List Decimal) (reset : Bool) (value : ℤ)
    (type : FxType) (frame : Frame) (word : Word)
    (is : b.kind ≡ Delay delay list reset) (some : 1 ≤ delay)
    (types : (port : ℕ) → type ≡ (attributes_of diagram).type_at block port)
    (word_is : word ≡ record { signed = is_signed type; width = width_of type })
    (own : IsFrameOf diagram timing block frame)
    (one : (v : ℤ) → StoresEntry list element type v → v ≡ value) (net : entry.net ≡ taken_by (slice_index_or operands 0 0) begin delay) (state : entry.state ≡ begin) (none : entry.multiply ≡ None)
  where
    abbrev From : ℕ
    From = slice_index_or operands 0 0

    abbrev Enable : ℕ
    Enable = slice_index_or operands 1 0

    asks : asks_ever (row_of b.kind).timing.asks ≡ true
    asks = ap (λ (k : Kind). asks_ever (row_of k).timing.asks) is

    kept_is : keeps_own b.enable (period_into diagram (attributes_of diagram) block 1) ≡ true → kept_each diagram block b ≡ delay
    kept_is keeps = let e : delay + 0 ≡ delay = omega arith in
        ap (λ (k : Kind). (if keeps_own b.enable (period_into diagram (attributes_of diagram) block 1) then
        (row_of k).timing.delay else 0) + kept_by_role (row_of k).place.role) is
        ∙ ap (λ (keep : Bool). (if keep then delay else 0) + 0) keeps ∙ e

    first_is : (places : Places) → HasFirst diagram block element b.kind (places.first block element) → places.first block element ≡ value
    first_is places first =
        let given : StoresEntry list element ((attributes_of diagram).type_at block 1)
        (places.first block element) =
        subst (λ (k : Kind). HasFirst diagram block element k (places.first block element)) is first in
        one (places.first block element) (subst (λ (t : FxType). StoresEntry list element t (places.first block element)) (sym (types 1)) given)

    stored_first : (places : Places) → HasFirst diagram block element b.kind (places.first block element)
        → StoresEntry list element ((attributes_of diagram).type_at block 1) (places.first block element)
    stored_first places first = subst (λ (k : Kind). HasFirst diagram block element k (places.first block element)) is first

    kept_entry : (make : ℕ → NetKind) (named : List ℕ) → ((x : ℕ) → reads_now (make x) ≡ [])
        → ((read : ℕ) → Contains named read → Contains operands read)
        → keeps_own b.enable (period_into diagram (attributes_of diagram) block 1) ≡ true
        → AreSeries make before after named frame word From begin delay
        → IsMadeBy diagram timing before after block b port element operands entry
        → PutsEntry diagram timing before after block b port element operands entry
    kept_entry make named alone names keeps are made =
        let last : IsHeldAt before after (taken_by From begin delay) = last_held diagram timing before after block frame word named From begin delay own make alone are some in
        let new = last.new in
        let much = kept_is keeps in
        quiet_entry diagram timing before after block b port element operands entry (Delay delay list reset) delay is
        (grows_naming before after named operands (IsQuiet diagram timing block) delay names
        (grows-wider before after named (IsOfFrame frame) (IsQuiet diagram timing block) delay
        (quiet_frame diagram timing block frame own) are.grows))
        (omega (arith, much)) none refl
        (subst (λ (n : ℕ). HasWord after.nets n (width_of ((attributes_of diagram).type_at block port)) (is_signed ((attributes_of diagram).type_at block port))) (sym net)
        (subst (λ (t : FxType). HasWord after.nets (taken_by From begin delay) (width_of t) (is_signed t))
        (types port) (subst (λ (w : Word). HasWord after.nets (taken_by From begin delay) w.width w.signed)
        word_is are.last)))
        (inr (omega (arith, net, new))) (λ keep. subst (IsHeldAt before after) (sym net) last) made

    -- in an enabled subsystem
    pub delay_enabled_entry : (control : ℕ) → b.enable ≡ Some control → AreArgs before ((attributes_of diagram).type_at block port ∷ enable_types (attributes_of diagram) b.enable) operands
        → AreSeries (λ last. EnReg frame Enable reset value last) before after
        (Enable ∷ From ∷ []) frame word From begin delay
        → PutsEntry diagram timing before after block b port element operands entry
    delay_enabled_entry control inside args are =
        let second = second_operand diagram before ((attributes_of diagram).type_at block port) operands b.enable (rw inside refl) args in
        kept_entry (λ last. EnReg frame Enable reset value last) (Enable ∷ From ∷ []) (λ x. refl)
        (two_named operands second.0) (ap (λ (e : Option ℕ). keeps_own e
        (period_into diagram (attributes_of diagram) block 1)) inside) are
        (λ closed hubs places small cycles offered at first slot.
        let given : operands ≡ places.offered block 1 element ∷ enables_of places block b.enable = subst (λ (k : Kind). AreOffered diagram places block b port element k operands) is offered in
        let offer : From ≡ places.offered block 1 element = ap (λ (l : List ℕ). slice_index_or l 0 0) given in
        let enables : Enable ≡ places.enable block =
        ap (λ (l : List ℕ). slice_index_or l 1 0) given
        ∙ ap (λ (e : Option ℕ). slice_index_or
        (places.offered block 1 element ∷ enables_of places block e) 1 0) inside in
        let numbers = state_is (places.state block element) From begin (at.begins asks ∙ sym offer) (λ k. at.state asks k ∙ ap (λ (n : ℕ). n + k) state) in
        made_kind diagram timing places closed hubs after block b port element (Delay delay list reset) is
        (delay_enabled diagram timing places closed hubs after block b port element delay control list reset inside (at.net ∙ net ∙ sym (numbers delay)) (stored_first places first)
        (λ period is_period.
        let shows = enabled_shows diagram timing before after block frame word
        (Enable ∷ From ∷ []) From begin delay own closed hubs small cycles
        (places.state block element) numbers period is_period Enable reset value are in
        subst (λ (v : ℤ). InLater closed hubs after
        (λ n rows. IsEnabledSeries n (span_at timing period block) delay reset v (rows (places.enable block))
        (rows (places.offered block 1 element)) (λ k. rows (places.state block element k))))
        (sym (first_is places first))
        (subst (λ (e : ℕ). InLater closed hubs after
        (λ n rows. IsEnabledSeries n (span_at timing period block) delay reset value (rows e)
        (rows (places.offered block 1 element)) (λ k. rows (places.state block element k)))) enables
        (subst (λ (f : ℕ). InLater closed hubs after
        (λ n rows. IsEnabledSeries n (span_at timing period block) delay reset value (rows Enable) (rows f)
        (λ k. rows (places.state block element k)))) offer shows)))))

    -- outside, with a source that never changes
    pub delay_still_entry : (slot : ℕ) → slot ≡ frame.period * timing.cycles - 1 → b.enable ≡ None
        → period_into diagram (attributes_of diagram) block 1 ≡ None
        → AreArgs before ((attributes_of diagram).type_at block port
        ∷ enable_types (attributes_of diagram) b.enable) operands
        → AreSeries (λ last. Reg frame slot value last) before after (From ∷ []) frame word From begin delay → PutsEntry diagram timing before after block b port element operands entry
    delay_still_entry slot last free still args are =
        let count = args.count in
        kept_entry (λ last. Reg frame slot value last) (From ∷ []) (λ x. refl)
        (one_named operands (omega (arith, count)))
        (ap (λ (e : Option ℕ). keeps_own e (period_into diagram (attributes_of diagram) block 1)) free
        ∙ ap (keeps_own None) still) are
        (λ closed hubs places small cycles offered at first slot_none.
        let given : operands ≡ places.offered block 1 element ∷ enables_of places block b.enable = subst (λ (k : Kind). AreOffered diagram places block b port element k operands) is offered in
        let offer : From ≡ places.offered block 1 element = ap (λ (l : List ℕ). slice_index_or l 0 0) given in
        let numbers = state_is (places.state block element) From begin (at.begins asks ∙ sym offer) (λ k. at.state asks k ∙ ap (λ (n : ℕ). n + k) state) in
        made_kind diagram timing places closed hubs after block b port element (Delay delay list reset) is
        (delay_alone diagram timing places closed hubs after block b port element delay list reset free still (at.net ∙ net ∙ sym (numbers delay)) (stored_first places first)
        (λ period is_period.
        let shows = series_shows diagram timing before after block frame word
        (From ∷ []) From begin delay own closed hubs small cycles
        (places.state block element) numbers period is_period slot value last are in
        subst (λ (v : ℤ). InLater closed hubs after
        (λ n rows. IsSeries n (span_at timing period block) delay v (rows (places.offered block 1 element))
        (λ k. rows (places.state block element k)))) (sym (first_is places first))
        (subst (λ (f : ℕ). InLater closed hubs after (λ n rows. IsSeries n (span_at timing period block) delay value (rows f) (λ k. rows (places.state block element k)))) offer shows))))

-- with the registers that were put in for it
module _ (site : Site) (count : ℕ) (list : List Decimal) (reset : Bool) (before after : Circuit) (series : Series)
    (is : site.one.now.kind ≡ Delay count list reset) (some : 1 ≤ count)
    (args : HasEnabledOperands before site) where
  pub delay_entry : (enabled : Option Enabled) → TakesAs site reset enabled
      → IsKept site list count enabled before after series
      → Puts site before after (record { net = series.last; state = series.first; multiply = None })
  delay_entry None takes kept =
      delay_still_entry site.design.checked.now.diagram
      (timing_for site.design) before after site.place.block site.one.now site.place.port site.place.element
      site.operands.now (record { net = series.last; state = series.first; multiply = None }) count
      series.first list reset kept.begun.first kept.initial.kind kept.frame kept.begun.word
      is some kept.initial.kind_is kept.initial.word_is kept.own kept.initial.one kept.put.last_is refl refl
      (kept.frame.period * site.design.plan.now.cycles - 1) refl takes.0 takes.1 args kept.put.are
  delay_entry (Some by) takes kept =
      let control = some_there site.one.now.enable takes.0 in
      delay_enabled_entry site.design.checked.now.diagram
      (timing_for site.design) before after site.place.block site.one.now site.place.port site.place.element
      site.operands.now (record { net = series.last; state = series.first; multiply = None }) count
      series.first list reset kept.begun.first kept.initial.kind kept.frame kept.begun.word
      is some kept.initial.kind_is kept.initial.word_is kept.own kept.initial.one kept.put.last_is refl refl control.0 control.1 args
      (subst (λ (by : Enabled). AreSeries (λ last. EnReg kept.frame by.enable by.reset kept.begun.first last) before
      after (by.enable ∷ slice_index_or site.operands.now 0 0 ∷ []) kept.frame kept.begun.word
      (slice_index_or site.operands.now 0 0) series.first count) takes.1 kept.put.are)

-- what enables them is there
pub delay_enables : (site : Site) (reset : Bool) (net : Circuit) (enabled : Option Enabled)
    → TakesAs site reset enabled → HasEnabledOperands net site
    → All (λ read. read < length net.nets) (enables_by enabled)
delay_enables site reset net None takes args = All-nil (λ read. read < length net.nets)
delay_enables site reset net (Some by) takes args =
    let second = second_operand site.design.checked.now.diagram net
    ((attributes_of site.design.checked.now.diagram).type_at site.place.block site.place.port) site.operands.now
    site.one.now.enable takes.0 args in
    All-cons (λ read. read < length net.nets) by.enable [] (subst (λ (by : Enabled). by.enable < length net.nets) (sym takes.1) second.1) (All-nil (λ read. read < length net.nets))
