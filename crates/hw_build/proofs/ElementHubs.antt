-- An element with its pipeline, and the net that its readers name, are put in.
use Rattle.std.proofs.Common.{◌≡◌, ℕ, zero, suc, ◌+◌, ◌-◌, ◌*◌, ◌<◌, ◌≤◌, ◌⊎◌, inl, inr, List, [], ◌∷◌, length, Contains, Option, Some, None, pos, ap, sym, ◌∙◌, subst, refl, arith}
use Rattle.std.specs.Prelude.{slice_get}
use Rattle.std.proofs.lemmas.Option.{none-some, slice_get_within}
use Rattle.math_num.specs.Word.{IsWord}
use Rattle.fx_type.specs.declared.kind.FxType.{FxType}
use Rattle.fx_type.specs.FxType.{is_signed, width_of}
use Rattle.dg_model.specs.declared.diagram.Diagram.{Diagram}
use Rattle.dg_model.specs.declared.diagram.Block.{Block}
use Rattle.dg_model.specs.Attributes.{attributes_of}
use Rattle.dg_model.specs.Solves.{IsShown}
use Rattle.hw_net.specs.declared.netlist.Net.{Net}
use Rattle.hw_net.specs.Circuit.{Circuit}
use Rattle.hw_net.specs.Growing.{Appends, IsConnected}
use Rattle.hw_net.specs.Netlist.{HasWord}
use Rattle.hw_net.specs.Registers.{IsReg}
use Rattle.hw_shows.specs.Timing.{Timing}
use Rattle.hw_shows.specs.Series.{AreSame, span_at}
use Rattle.hw_build.specs.Places.{Places}
use Rattle.hw_build.specs.declared.pipelines.Piped.{Piped}
use Rattle.hw_build.specs.inner.Facts.{IsElementMade, IsElementPiped}
use Rattle.hw_build.specs.inner.Growth.{GoesOn, InLater}
use Rattle.hw_build.specs.inner.Levels.{level_behind}
use Rattle.hw_build.specs.inner.PipelineNets.{wire_of, stage_net, own_frame, AddsPipeline, IsPipedBy}
use Rattle.hw_build.specs.inner.Spots.{IsGoing}
use Rattle.hw_build.specs.inner.UnderWay.{own_level}
use Rattle.hw_build.proofs.GoesOn.{going_by_call, going_same, made_later, connected_goes, connected_same, going_by_connect}
use Rattle.hw_build.proofs.Growth.{goes_appended, goes_then, word_later}
use Rattle.hw_build.proofs.Levels.{connected_elsewhere, level_stays, new_level}
use Rattle.hw_build.proofs.Nets.{IsSettled, resized, registered}
use Rattle.hw_build.proofs.StageWaves.{sole, bare, bare_nets, bare_cycles, bare_size, wire_at, stage_at, bare_appends, begin_new}
use Rattle.hw_build.proofs.Steps.{piped_some, piped_none}

module _ (diagram : Diagram) (timing : Timing) (places : Places) (closed hubs : ℕ) (now : Circuit) (block port element : ℕ) where
  -- a pipeline by its nets: the net that readers name passes the last on, the first one the element, and between them stand registers
  pub piped_by : (period entry begin end : ℕ) → (attributes_of diagram).period_at block ≡ Some period
      → places.entry block port element ≡ entry → ((k : ℕ) → places.stage block port element k ≡ begin + k)
      → end ≡ begin + timing.stages block
      → InLater closed hubs now (λ n rows. AreSame n (rows (places.after block port element)) (rows end)) → InLater closed hubs now (λ n rows. AreSame n (rows begin) (rows entry))
      → ((k : ℕ) → k < timing.stages block → InLater closed hubs now (λ n rows. IsReg n (span_at timing period block) (period * timing.cycles - 1) (pos 0) (rows (begin + k)) (rows (begin + suc k))))
      → IsElementPiped diagram timing places closed hubs now block port element
  piped_by period entry begin end is entry_is stage_is end_is last first takes =
      piped_some diagram timing places closed hubs now block port element period is
      (subst (λ (x : ℕ). InLater closed hubs now (λ n rows. AreSame n (rows (places.after block port element)) (rows x))) (end_is ∙ sym (stage_is (timing.stages block))) last)
      (record {
        holds = λ later goes n inputs rows are. record {
          begins = record {
            at = λ c below.
                let zeroth : places.stage block port element 0 ≡ begin = let e = stage_is 0 in omega (arith, e) in
                ap (λ (x : ℕ). rows x c) zeroth ∙ (first.holds later goes n inputs rows are).at c below ∙ ap (λ (x : ℕ). rows x c) (sym entry_is);
          };
          takes = λ k below.
              subst (λ (x : ℕ). IsReg n (span_at timing period block) (period * timing.cycles - 1) (pos 0) (rows x) (rows (places.stage block port element (suc k)))) (sym (stage_is k))
              (subst (λ (x : ℕ). IsReg n (span_at timing period block) (period * timing.cycles - 1) (pos 0)
              (rows (begin + k)) (rows x)) (sym (stage_is (suc k)))
              ((takes k below).holds later goes n inputs rows are));
        };
      })

  -- where there are none, the net that readers name passes the element on
  pub unpiped_by : (entry : ℕ) → places.entry block port element ≡ entry
      → ((k : ℕ) → places.stage block port element k ≡ entry + k) → (period : Option ℕ)
      → (attributes_of diagram).period_at block ≡ period → (timing.stages block ≡ 0) ⊎ (period ≡ None)
      → InLater closed hubs now (λ n rows. AreSame n (rows (places.after block port element)) (rows entry)) → IsElementPiped diagram timing places closed hubs now block port element
  unpiped_by entry entry_is stage_is None is reason last =
      piped_none diagram timing places closed hubs now block port element is
      (subst (λ (x : ℕ). InLater closed hubs now
      (λ n rows. AreSame n (rows (places.after block port element)) (rows x))) (sym entry_is) last)
  unpiped_by entry entry_is stage_is (Some period) is (inr none) last = absurd (none-some period (sym none))
  unpiped_by entry entry_is stage_is (Some period) is (inl none) last =
      piped_by period entry entry entry is entry_is stage_is (omega (arith, none)) last
      (record { holds = λ later goes n inputs rows are. record { at = λ c below. refl } })
      (λ k below. absurd (omega (arith, none, below)))

-- ---- an element, its pipeline and its net

module _ (diagram : Diagram) (timing : Timing) (places : Places) (place_of : ℕ → ℕ) (begun : ℕ) (start : Circuit)
    (closed hubs : ℕ) (before middle after : Circuit) (level : ℕ → ℕ) (block : ℕ) (b : Block)
    (port element entry : ℕ) (piped : Piped)
    (going : IsGoing diagram timing places place_of begun start closed hubs before level)
    (shown : IsShown diagram (attributes_of diagram) block b port element)
    (here : places.after block port element ≡ closed) (high : closed < hubs)
    (typed : IsWord (width_of ((attributes_of diagram).type_at block 1)) (is_signed ((attributes_of diagram).type_at block 1)))
    (has : HasWord before.nets entry (width_of ((attributes_of diagram).type_at block 1)) (is_signed ((attributes_of diagram).type_at block 1))) (low : level entry ≤ own_level (place_of block))
    (made : IsElementMade diagram timing places closed hubs before block b port element)
    (entry_is : places.entry block port element ≡ entry)
    (stage_is : (k : ℕ) → places.stage block port element k ≡ piped.begin + k)
    (alone : (other : ℕ) (q : Block) (outer member : ℕ)
    → IsShown diagram (attributes_of diagram) other q outer member → places.after other outer member ≡ closed
    → (block ≡ other) × (port ≡ outer) × (element ≡ member))
    (is : IsConnected middle after closed piped.end) where
  abbrev type : FxType
  type = (attributes_of diagram).type_at block 1

  -- the netlist behind, with its levels
  abbrev Closes : Type 0
  Closes = (next : ℕ → ℕ) × IsGoing diagram timing places place_of begun start (suc closed) hubs after next × ((k : ℕ) → k < length before.nets → next k ≡ level k)

  inside : entry < length before.nets
  inside = slice_get_within before.nets entry has.net has.is

  -- the element is what the net passes on
  closed_plain : middle ≡ before → piped.begin ≡ entry → piped.end ≡ entry → (timing.stages block ≡ 0) ⊎ ((attributes_of diagram).period_at block ≡ None) → Closes
  closed_plain same begins ends reason =
      let own : IsConnected before after closed entry = subst (λ (x : ℕ). IsConnected before after closed x) ends (subst (λ (c : Circuit). IsConnected c after closed piped.end) same is) in
      let last = connected_same diagram timing places place_of hubs begun start closed entry before after level block b port element going shown here high typed own has in
      let staged = λ (k : ℕ). stage_is k ∙ ap (λ (x : ℕ). x + k) begins in
      let named = subst (λ (x : ℕ). InLater (suc closed) hubs after (λ n rows. AreSame n (rows x) (rows entry))) (sym here) last in
      let pipeline = unpiped_by diagram timing places (suc closed) hubs after block port element entry entry_is staged ((attributes_of diagram).period_at block) refl reason named in (
        level,
        going_by_connect diagram timing places place_of hubs begun start closed entry before after level block b port element going shown here high typed own inside low alone made pipeline,
        λ k within. refl,
      )

  module _ (period : ℕ) (some : 0 < period) (is_period : (attributes_of diagram).period_at block ≡ Some period)
      (adds : AddsPipeline timing before middle type block element period entry piped.begin)
      (ends : piped.end ≡ piped.begin + timing.stages block) (any : 0 < timing.stages block) where
    abbrev own : ℕ
    own = own_level (place_of block)

    abbrev bare_now : Circuit
    bare_now = bare timing before middle type block element period entry piped.begin adds typed some inside

    abbrev next : ℕ → ℕ
    next = level_behind before bare_now level own

    appends : Appends before bare_now (entry ∷ [])
    appends = bare_appends timing before middle type block element period entry piped.begin adds typed some inside

    named_low : (read : ℕ) → Contains (entry ∷ []) read → (read < length before.nets) × (level read ≤ own)
    named_low read contains = let e = sole entry read contains in let h = inside in subst (λ (x : ℕ). (x < length before.nets) × (level x ≤ own)) (sym e) (h, low)

    going_middle : IsGoing diagram timing places place_of begun start closed hubs middle next
    going_middle =
        going_same diagram timing places place_of hubs begun start closed bare_now middle next
        (bare_nets timing before middle type block element period entry piped.begin adds typed some inside)
        (bare_cycles timing before middle type block element period entry piped.begin adds typed some inside)
        (ap (λ (c : Circuit). c.inputs) adds.grown)
        (going_by_call diagram timing places place_of hubs begun start closed own before bare_now level (entry ∷ []) going appends (omega arith) named_low)

    goes_middle : GoesOn closed hubs before middle
    goes_middle =
        let goes = goes_appended closed hubs before bare_now appends.extends in
        let nets = bare_nets timing before middle type block element period entry piped.begin adds typed some inside in
        let count = bare_cycles timing before middle type block element period entry piped.begin adds typed some inside in
        goes_then closed hubs before bare_now middle goes (record { cycles = count; nets = λ k within. inl (ap (λ (all : List Net). slice_get all k) nets) })

    size : length middle.nets ≡ suc (piped.begin + timing.stages block)
    size = ap length (bare_nets timing before middle type block element period entry piped.begin adds typed some
        inside) ∙ bare_size timing before middle type block element period entry piped.begin adds typed some inside

    begin_past : hubs ≤ piped.begin
    begin_past = let small = going.way.hubs_are.there in let h = begin_new timing before middle type block element period entry piped.begin adds typed some inside in omega (arith, small, h)

    -- a net of the pipeline, in the end
    at_end : (k : ℕ) (net : Net) → hubs ≤ k → slice_get bare_now.nets k ≡ Some net → IsSettled (suc closed) hubs after k net
    at_end k net past at = record {
      at = connected_elsewhere middle after closed piped.end k is (λ e. absurd (omega (arith, e, past, high)))
          ∙ ap (λ (all : List Net). slice_get all k)
          (bare_nets timing before middle type block element period entry piped.begin adds typed some inside)
          ∙ at;
      settled = inr past;
    }

    end_at : piped.end ≡ piped.begin + suc (timing.stages block - 1)
    end_at = omega (arith, ends, any)

    middle_word : HasWord middle.nets piped.end (width_of type) (is_signed type)
    middle_word = record {
      net = stage_net type (own_frame timing period block) (period * timing.cycles - 1) (piped.begin + (timing.stages block - 1));
      is =
          ap (λ (all : List Net). slice_get all piped.end) (bare_nets timing before middle type block element period entry piped.begin adds typed some inside)
          ∙ ap (slice_get bare_now.nets) end_at ∙ stage_at timing before middle type block element period entry piped.begin adds typed some inside (timing.stages block - 1) (omega (arith, any));
      wide = refl;
      sign = refl;
    }

    goes_on : GoesOn closed hubs middle after
    goes_on = connected_goes diagram timing places place_of hubs begun start closed piped.end middle after next block b port element going_middle shown here high typed is

    after_cycles : after.cycles ≡ timing.cycles
    after_cycles = ap (λ (c : Circuit). c.cycles) is.is ∙ going_middle.way.facts.cycles

    last : InLater (suc closed) hubs after (λ n rows. AreSame n (rows closed) (rows piped.end))
    last = connected_same diagram timing places place_of hubs begun start closed piped.end middle after next block b port element going_middle shown here high typed is middle_word

    first : InLater (suc closed) hubs after (λ n rows. AreSame n (rows piped.begin) (rows entry))
    first =
        resized (suc closed) hubs after piped.begin entry (width_of type) (is_signed type) (wire_of type entry)
        (at_end piped.begin (wire_of type entry) begin_past (wire_at timing before middle type block element period entry piped.begin adds typed some inside)) refl refl refl typed
        (word_later closed hubs middle after entry _ _ goes_on (word_later closed hubs before middle entry _ _ goes_middle has))

    takes : (k : ℕ) → k < timing.stages block
        → InLater (suc closed) hubs after (λ n rows. IsReg n (span_at timing period block)
        (period * timing.cycles - 1) (pos 0) (rows (piped.begin + k)) (rows (piped.begin + suc k)))
    takes k below =
        let past = begin_past in
        registered (suc closed) hubs after (piped.begin + suc k) (period * timing.cycles - 1)
        (piped.begin + k) period block (pos 0) timing
        (stage_net type (own_frame timing period block) (period * timing.cycles - 1) (piped.begin + k))
        (at_end (piped.begin + suc k) (stage_net type (own_frame timing period block) (period * timing.cycles - 1)
        (piped.begin + k)) (omega (arith, past))
        (stage_at timing before middle type block element period entry piped.begin adds typed some inside k
        below)) after_cycles refl

    pipeline : IsElementPiped diagram timing places (suc closed) hubs after block port element
    pipeline =
        piped_by diagram timing places (suc closed) hubs after block port element period entry piped.begin piped.end is_period entry_is stage_is ends
        (subst (λ (x : ℕ). InLater (suc closed) hubs after (λ n rows. AreSame n (rows x) (rows piped.end))) (sym here) last) first takes

    closed_staged : Closes
    closed_staged =
        let past = begin_new timing before middle type block element period entry piped.begin adds typed some inside in (
          next,
          going_by_connect diagram timing places place_of hubs begun start closed piped.end middle after next block
              b port element going_middle shown here high typed is
              (slice_get_within middle.nets piped.end middle_word.net middle_word.is)
              (new_level before bare_now level own piped.end (omega (arith, past, ends))) alone
              (made_later diagram timing places place_of hubs begun start closed closed before middle block b
              port element (omega arith) goes_middle made) pipeline,
          λ k within. level_stays before bare_now level own k within,
        )

  -- in both ways
  closed_by : (period : Option ℕ) → (attributes_of diagram).period_at block ≡ period
      → ((p : ℕ) → period ≡ Some p → 0 < p) → (stages : ℕ) → timing.stages block ≡ stages
      → IsPipedBy diagram timing before middle block element entry piped → Closes
  closed_by None is_period some stages are put = let plain = put.none (inr is_period) in closed_plain plain.0 plain.1 plain.2 (inr is_period)
  closed_by (Some p) is_period some zero are put = let plain = put.none (inl are) in closed_plain plain.0 plain.1 plain.2 (inl are)
  closed_by (Some p) is_period some (suc stages) are put =
      let any : 0 < timing.stages block = omega (arith, are) in
      let staged = put.some p is_period any in
      closed_staged p (some p refl) is_period staged.0 staged.1 any

  pub going_closed : ((p : ℕ) → (attributes_of diagram).period_at block ≡ Some p → 0 < p) → IsPipedBy diagram timing before middle block element entry piped → Closes
  going_closed some put = closed_by ((attributes_of diagram).period_at block) refl some (timing.stages block) refl put
