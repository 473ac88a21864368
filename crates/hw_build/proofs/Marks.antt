-- One element more is named for marks of its own, with Counters of its block's frames alone.
use Rattle.std.proofs.Common.{◌≡◌, ℕ, zero, suc, ◌+◌, ◌-◌, ◌*◌, ◌^◌, ◌<◌, ◌≤◌, ◌⊎◌, inl, inr, List, [], ◌∷◌, ◌++◌, length, Option, None, Some, pos, ap, sym, ◌∙◌, subst, refl, arith, length-append}
use Rattle.std.specs.Prelude.{slice_get}
use Rattle.std.proofs.lemmas.Bool.{cases_lt}
use Rattle.std.proofs.lemmas.List.{append-nil}
use Rattle.std.proofs.lemmas.Option.{none-some, same_Some, slice_get_within}
use Rattle.fx_type.specs.declared.kind.FxType.{FxType}
use Rattle.dg_model.specs.declared.diagram.Diagram.{Diagram}
use Rattle.dg_model.specs.declared.resolved.Resolved.{Resolved}
use Rattle.dg_model.specs.Attributes.{attributes_of}
use Rattle.dg_model.specs.PlanOf.{stages_at}
use Rattle.hw_net.specs.declared.netlist.Frame.{Frame}
use Rattle.hw_net.specs.declared.netlist.Net.{Net}
use Rattle.hw_net.specs.declared.netlist.NetKind.TheVariants.{Reg, Counter}
use Rattle.hw_net.specs.declared.netlist.NetLabel.{NetLabel}
use Rattle.hw_net.specs.Circuit.{Circuit}
use Rattle.hw_net.specs.Frames.{counter_of, counted_frame, IsCounterAt}
use Rattle.hw_net.specs.Growing.{Extends, IsCounted, IsConnected, with_net}
use Rattle.hw_net.proofs.Growth.{stood-there}
use Rattle.math_list.proofs.Places.{split-last, get_front, get_right}
use Rattle.hw_sched.specs.Slots.{Timing as Times}
use Rattle.hw_shows.specs.Timing.{Timing}
use Rattle.hw_build.specs.declared.pipelines.Piped.{Piped}
use Rattle.hw_build.specs.Times.{timing_by}
use Rattle.hw_build.specs.inner.FrameCounts.{IsBlockFrame}
use Rattle.hw_build.specs.inner.MarkNames.{AreApart, AreMarked, hub_of_mark}
use Rattle.hw_build.specs.inner.PipelineNets.{own_frame, wire_of, stage_net, stage_nets, stage_labels, AddsPipeline, IsPipedBy}
use Rattle.hw_build.specs.inner.Tally.{product_labels}
use Rattle.hw_build.proofs.Levels.{given, connected_here, connected_elsewhere, connected_length}
use Rattle.hw_build.proofs.LabelMarks.{apart_none, apart_stages, apart_product}
use Rattle.hw_build.proofs.Stages.{with_labels, count_stages}

-- ---- Counters of a pipeline

stage_kind : (type : FxType) (frame : Frame) (slot begin count j : ℕ) (net : Net)
    → slice_get (stage_nets type frame slot begin count) j ≡ Some net
    → (from : ℕ) × (net.kind ≡ Reg frame slot (pos 0) from)
stage_kind type frame slot begin zero j net at = absurd (none-some net at)
stage_kind type frame slot begin (suc count) j net at = elim (split-last (stage_nets type frame slot begin count) (stage_net type frame slot (begin + count)) net j at) [
  | inl front ↦ stage_kind type frame slot begin count j net front.1
  | inr last ↦ (begin + count, ap (λ (n : Net). n.kind) (sym last.1))
]

-- a Counter alone is put in for a frame, at the most
module _ (before counted : Circuit) (frame : Frame) (is : IsCounted before counted frame) where
  counted_by : (counted ≡ before) ⊎ ((net : Net) × (net.kind ≡ Counter frame) × (counted ≡ with_net before net))
  counted_by = go (counter_of before.nets frame) refl
    where
      go : (found : Option ℕ) → counter_of before.nets frame ≡ found → (counted ≡ before) ⊎ ((net : Net) × (net.kind ≡ Counter frame) × (counted ≡ with_net before net))
      go None e = let adds = is.grows e in inr (adds.net, adds.counter.kind, adds.grown)
      go (Some k) e = inl (is.stays (rw e refl))

  counted_kind : (k : ℕ) (net : Net) → length before.nets ≤ k → slice_get counted.nets k ≡ Some net → net.kind ≡ Counter frame
  counted_kind k net low at = elim counted_by [
    | inl same ↦ let inside = slice_get_within before.nets k net (ap (λ (c : Circuit). slice_get c.nets k) (sym same) ∙ at) in absurd (omega (arith, inside, low))
    | inr more ↦ elim (split-last before.nets more.0 net k (ap (λ (c : Circuit). slice_get c.nets k) (sym more.2) ∙ at)) [
      | inl front ↦ let inside = front.0 in absurd (omega (arith, inside, low))
      | inr last ↦ ap (λ (n : Net). n.kind) (sym last.1) ∙ more.1
    ]
  ]

  counted_size : length before.nets ≤ length counted.nets
  counted_size = elim counted_by [
    | inl same ↦ let e : length counted.nets ≡ length before.nets = ap (λ (c : Circuit). length c.nets) same in omega (arith, e)
    | inr more ↦ let e : length counted.nets ≡ length (before.nets ++ more.0 ∷ []) =
        ap (λ (c : Circuit). length c.nets) more.2 in let f =
        length-append before.nets (more.0 ∷ []) in omega (arith, e, f)
  ]

  counted_labels : counted.labels ≡ before.labels
  counted_labels = elim counted_by [ inl same ↦ ap (λ (c : Circuit). c.labels) same | inr more ↦ ap (λ (c : Circuit). c.labels) more.2 ]

  counted_inputs : counted.inputs ≡ before.inputs
  counted_inputs = elim counted_by [ inl same ↦ ap (λ (c : Circuit). c.inputs) same | inr more ↦ ap (λ (c : Circuit). c.inputs) more.2 ]

  counted_outputs : counted.outputs ≡ before.outputs
  counted_outputs = elim counted_by [ inl same ↦ ap (λ (c : Circuit). c.outputs) same | inr more ↦ ap (λ (c : Circuit). c.outputs) more.2 ]

module _ (timing : Timing) (before after : Circuit) (type : FxType) (block element period entry begin : ℕ) (adds : AddsPipeline timing before after type block element period entry begin) where
  abbrev staged : List Net
  staged = stage_nets type (own_frame timing period block) (period * timing.cycles - 1) begin (timing.stages block)

  abbrev wired : List Net
  wired = adds.counted.nets ++ wire_of type entry ∷ []

  all_nets : after.nets ≡ wired ++ staged
  all_nets = ap (λ (c : Circuit). c.nets) adds.grown

  kept_net : (k : ℕ) → k < length before.nets → slice_get after.nets k ≡ slice_get adds.counted.nets k
  kept_net k low =
      let size = counted_size before adds.counted (own_frame timing period block) adds.is_counted in
      let sum = length-append adds.counted.nets (wire_of type entry ∷ []) in
      ap (λ (nets : List Net). slice_get nets k) all_nets ∙ get_front wired staged k (omega (arith, low, size, sum))
      ∙ get_front adds.counted.nets (wire_of type entry ∷ []) k (omega (arith, low, size))

  total_size : length after.nets ≡ begin + suc (timing.stages block)
  total_size =
      let e : length after.nets ≡ length (wired ++ staged) = ap (λ (nets : List Net). length nets) all_nets in
      let f = length-append wired staged in
      let g = length-append adds.counted.nets (wire_of type entry ∷ []) in
      let h = count_stages type (own_frame timing period block) (period * timing.cycles - 1) begin (timing.stages block) in
      let i = adds.begins in
      omega (arith, e, f, g, h, i)

  pipe_frame : (k : ℕ) (frame : Frame) → length before.nets ≤ k → IsCounterAt after.nets k frame → own_frame timing period block ≡ frame
  pipe_frame k frame past at =
      let whole : slice_get (wired ++ staged) k ≡ Some at.net = ap (λ (nets : List Net). slice_get nets k) (sym all_nets) ∙ at.is in
      elim (cases_lt k (length wired)) [
        | inl less ↦ elim (split-last adds.counted.nets (wire_of type entry) at.net k (sym (get_front wired staged k less) ∙ whole)) [
          | inl front ↦ same_Some (own_frame timing period block) frame
              (ap counted_frame (sym (counted_kind before adds.counted
              (own_frame timing period block) adds.is_counted k at.net past front.1)) ∙ at.counts)
          | inr last ↦ absurd (none-some frame (ap (λ (n : Net). counted_frame n.kind) last.1 ∙ at.counts))
        ]
        | inr beyond ↦
            let j : ℕ = k - length wired in
            let place : length wired + j ≡ k = omega (arith, beyond) in
            let there = stage_kind type (own_frame timing period block) (period * timing.cycles - 1) begin
            (timing.stages block) j at.net
            (sym (get_right wired staged j) ∙ ap (slice_get (wired ++ staged)) place ∙ whole) in
            absurd (none-some frame (ap counted_frame (sym there.1) ∙ at.counts))
      ]

-- ---- one element

-- a net that gets another argument is no Counter
counter_kept : (before after : Circuit) (number argument : ℕ) (is : IsConnected before after number argument)
    → (k : ℕ) (frame : Frame) → IsCounterAt after.nets k frame → IsCounterAt before.nets k frame
counter_kept before after number argument is k frame at = elim (cases_lt k number) [
  | inl less ↦ elsewhere (λ e. omega (arith, less, e))
  | inr more ↦ elim (cases_lt number k) [
    | inl past ↦ elsewhere (λ e. omega (arith, past, e))
    | inr equal ↦
        let e : k ≡ number = omega (arith, more, equal) in
        let own : ◌≡◌ {A = Net} (given is.net argument) at.net =
        same_Some (given is.net argument) at.net
        (sym (connected_here before after number argument is) ∙ ap (slice_get after.nets) (sym e)
        ∙ at.is) in
        absurd (none-some frame (ap (λ (n : Net). counted_frame n.kind) own ∙ at.counts))
  ]
]
  where
    elsewhere : (k ≡ number → ⊥) → IsCounterAt before.nets k frame
    elsewhere differs = record { net = at.net; is = sym (connected_elsewhere before after number argument k is differs) ∙ at.is; counts = at.counts }

module _ (diagram : Diagram) (plan : Resolved) (times : Times) (firsts : List (List ℕ))
    (start before middle piped_net after final : Circuit) (hub block element entry end : ℕ) (piped : Piped)
    (multiply : Option ℕ) (marked : AreMarked diagram plan times firsts start before hub)
    (grown : Extends before middle)
    (own_frames : (k : ℕ) (frame : Frame) → length before.nets ≤ k → IsCounterAt middle.nets k frame
    → IsBlockFrame diagram plan times block frame)
    (own_number : (m : ℕ) → multiply ≡ Some m
    → (length before.nets ≤ m) × (m < length middle.nets)
    × (hub_of_mark firsts (record { block = block; element = element; stage = 0 }) ≡ hub))
    (put : IsPipedBy diagram (timing_by diagram plan times) middle piped_net block element entry piped)
    (connected : IsConnected piped_net after hub end)
    (names : final ≡ with_labels after (product_labels block element multiply))
    (inside : hub < length before.nets)
    (block_there : block < length diagram.blocks)
    (here : 0 < stages_at plan block → (stage : ℕ)
    → hub_of_mark firsts (record { block = block; element = element; stage = stage }) ≡ hub)
    (moves : 0 < stages_at plan block → (p : ℕ) × ((attributes_of diagram).period_at block ≡ Some p))
    (block_small : block < 2 ^ 64) (element_small : element < 2 ^ 64) (few_stages : stages_at plan block < 2 ^ 64) where
  abbrev timing : Timing
  timing = timing_by diagram plan times

  larger : length before.nets ≤ length middle.nets
  larger = let e : length middle.nets ≡ length (before.nets ++ grown.added) = ap (λ (nets : List Net). length nets) grown.nets in let f = length-append before.nets grown.added in omega (arith, e, f)

  -- what the pipeline leaves
  record PipeMarks : Type 0 where
    pub begin : ℕ
    pub stages : ℕ
    pub size : begin + stages < length piped_net.nets
    pub new : length middle.nets ≤ begin + 1
    pub inputs : piped_net.inputs ≡ middle.inputs
    pub outputs : piped_net.outputs ≡ middle.outputs
    pub labels : AreApart (hub_of_mark firsts) before.labels (length before.nets) hub 0 0 → AreApart (hub_of_mark firsts) piped_net.labels (length before.nets) hub begin stages
    pub frames : (k : ℕ) (frame : Frame) → length before.nets ≤ k → IsCounterAt piped_net.nets k frame → IsBlockFrame diagram plan times block frame
    pub kept : (k : ℕ) (frame : Frame) → k < length before.nets → IsCounterAt piped_net.nets k frame → IsCounterAt before.nets k frame

  marks_none : stages_at plan block ≡ 0 → PipeMarks
  marks_none none =
      let same : piped_net ≡ middle = (put.none (inl none)).0 in
      let more = larger in
      let size : length piped_net.nets ≡ length middle.nets = ap (λ (c : Circuit). length c.nets) same in
      record {
        begin = length middle.nets - 1;
        stages = 0;
        size = omega (arith, inside, more, size);
        new = omega arith;
        inputs = ap (λ (c : Circuit). c.inputs) same;
        outputs = ap (λ (c : Circuit). c.outputs) same;
        labels = λ are.
            let staged = apart_stages (hub_of_mark firsts) before.labels (length before.nets) hub
            (length middle.nets - 1) block element are (omega (arith, more)) block_small element_small 0
            (omega arith) (λ stage most some. absurd (omega (arith, most, some))) in
            let e : before.labels ++ [] ≡ piped_net.labels = append-nil before.labels ∙ sym grown.labels ∙ ap (λ (c : Circuit). c.labels) (sym same) in
            subst (λ (labels : List NetLabel). AreApart (hub_of_mark firsts) labels (length before.nets) hub (length middle.nets - 1) 0) e staged;
        frames = λ k frame past at. own_frames k frame past (subst (λ (c : Circuit). IsCounterAt c.nets k frame) same at);
        kept = λ k frame low at. let here = subst (λ (c : Circuit). IsCounterAt c.nets k frame) same at in
            record {
              net = here.net;
              is = stood-there before middle k here.net grown low here.is;
              counts =
                  here.counts;
            };
      }

  marks_some : 0 < stages_at plan block → PipeMarks
  marks_some some =
      let period = moves some in
      let adds = (put.some period.0 period.1 some).0 in
      let counted = counted_size middle adds.counted (own_frame timing period.0 block) adds.is_counted in
      let begins = adds.begins in
      let more = larger in
      let total = total_size timing middle piped_net ((attributes_of diagram).type_at block 1) block element period.0 entry piped.begin adds in
      record {
        begin = piped.begin;
        stages = stages_at plan block;
        size = omega (arith, total);
        new = omega (arith, counted, begins);
        inputs = ap (λ (c : Circuit). c.inputs) adds.grown ∙ counted_inputs middle adds.counted (own_frame timing period.0 block) adds.is_counted;
        outputs = ap (λ (c : Circuit). c.outputs) adds.grown ∙ counted_outputs middle adds.counted (own_frame timing period.0 block) adds.is_counted;
        labels = λ are.
            let staged = apart_stages (hub_of_mark firsts) before.labels
            (length before.nets) hub piped.begin block element are
            (omega (arith, more, counted, begins)) block_small element_small
            (stages_at plan block) few_stages (λ stage most positive. here some stage) in
            let e : before.labels ++ stage_labels piped.begin block element (stages_at plan block) ≡ piped_net.labels =
            ap (λ (labels : List NetLabel). labels ++ stage_labels piped.begin block element (stages_at plan block))
            (sym (counted_labels middle adds.counted (own_frame timing period.0 block) adds.is_counted
            ∙ grown.labels)) ∙ sym (ap (λ (c : Circuit). c.labels) adds.grown)
            in
            subst (λ (labels : List NetLabel). AreApart (hub_of_mark firsts) labels (length before.nets) hub piped.begin (stages_at plan block)) e staged;
        frames = λ k frame past at. elim (cases_lt k (length middle.nets)) [
          | inl less ↦ own_frames k frame past (down k frame less at)
          | inr beyond ↦
              subst (IsBlockFrame diagram plan times block)
              (pipe_frame timing middle piped_net
              ((attributes_of diagram).type_at block 1) block element period.0 entry piped.begin adds k
              frame (omega (arith, beyond)) at)
              (record { there = block_there; period_is = period.1; latency_is = inl refl })
        ];
        kept = λ k frame low at. let here = down k frame (omega (arith, low, more)) at in record { net = here.net; is = stood-there before middle k here.net grown low here.is; counts = here.counts };
      }
    where
      down : (k : ℕ) (frame : Frame) → k < length middle.nets → IsCounterAt piped_net.nets k frame → IsCounterAt middle.nets k frame
      down k frame low at =
          let period = moves some in
          let adds = (put.some period.0 period.1 some).0 in
          let here = sym (kept_net timing middle piped_net ((attributes_of diagram).type_at block 1) block element period.0 entry piped.begin adds k low) ∙ at.is in
          record { net = at.net; is = from_counted adds.counted adds.is_counted k at.net low here; counts = at.counts }
        where
          from_counted : (counted : Circuit) {frame : Frame} → IsCounted middle counted frame → (k : ℕ) (net : Net)
              → k < length middle.nets → slice_get counted.nets k ≡ Some net → slice_get middle.nets k ≡ Some net
          from_counted counted {frame = f} is k net low at = elim (counted_by middle counted f is) [
            | inl same ↦ ap (λ (c : Circuit). slice_get c.nets k) (sym same) ∙ at
            | inr more ↦ elim (split-last middle.nets more.0 net k (ap (λ (c : Circuit). slice_get c.nets k) (sym more.2) ∙ at)) [
              | inl front ↦ front.1
              | inr last ↦ let place = last.0 in absurd (omega (arith, place, low))
            ]
          ]

  pipe_marks : PipeMarks
  pipe_marks = elim (cases_lt 0 (stages_at plan block)) [
    | inl some ↦ marks_some some
    | inr none ↦ marks_none (omega (arith, none))
  ]

  pub marked_next : AreMarked diagram plan times firsts start final (suc hub)
  marked_next = record {
    inputs = ap (λ (c : Circuit). c.inputs) names ∙ ap (λ (c : Circuit). c.inputs) connected.is ∙ pipe_marks.inputs ∙ grown.inputs ∙ marked.inputs;
    outputs = ap (λ (c : Circuit). c.outputs) names ∙ ap (λ (c : Circuit). c.outputs) connected.is ∙ pipe_marks.outputs ∙ grown.outputs ∙ marked.outputs;
    labels = λ none.
        let marks = pipe_marks in
        let size : length final.nets ≡ length after.nets = ap (λ (c : Circuit). length c.nets) names in
        let also = connected_length piped_net after hub end connected in
        let inner = marks.size in
        let new = marks.new in
        let more = larger in
        let done = apart_product (hub_of_mark firsts) piped_net.labels
        (length before.nets) hub marks.begin marks.stages (length final.nets) block element
        (marks.labels (marked.labels none)) (omega (arith, size, also, inner, new, more))
        (omega (arith, size, also, inner)) block_small element_small multiply
        (λ m is. let own = own_number m is in let high = own.1 in (own.0, omega (arith, high, new), own.2)) in
        let e : piped_net.labels ++ product_labels block element multiply ≡ final.labels =
        ap (λ (labels : List NetLabel). labels ++ product_labels block element multiply)
        (sym (ap (λ (c : Circuit). c.labels) connected.is)) ∙ sym (ap (λ (c : Circuit). c.labels) names) in
        subst (λ (labels : List NetLabel). AreApart (hub_of_mark firsts) labels (length final.nets) (suc hub) 0 0) e done;
    frames = λ k frame past at.
        let there = counter_kept piped_net after hub end connected k frame (subst (λ (nets : List Net). IsCounterAt nets k frame) (ap (λ (c : Circuit). c.nets) names) at) in
        elim (cases_lt k (length before.nets)) [
          | inl less ↦ marked.frames k frame past (pipe_marks.kept k frame less there)
          | inr beyond ↦ (block, pipe_marks.frames k frame (omega (arith, beyond)) there)
        ];
  }

pub marked_none : (diagram : Diagram) (plan : Resolved) (times : Times) (firsts : List (List ℕ)) (start : Circuit) (hub : ℕ) → AreMarked diagram plan times firsts start start hub
marked_none diagram plan times firsts start hub = record {
  inputs = refl;
  outputs = refl;
  labels = λ none. subst (λ (labels : List NetLabel). AreApart (hub_of_mark firsts) labels (length start.nets) hub 0 0) (sym none) (apart_none (hub_of_mark firsts) (length start.nets) hub 0 0);
  frames = λ k frame past at. let inside = slice_get_within start.nets k at.net at.is in absurd (omega (arith, inside, past));
}
