-- What the registers of a plan behind an element are, one by one.
use Rattle.std.proofs.Common.{◌≡◌, ℕ, zero, suc, ◌+◌, ◌-◌, ◌*◌, ◌<◌, ◌++◌, inl, inr, List, [], ◌∷◌, length, Option, Some, None, IsSome, ap, sym, ◌∙◌, subst, refl, add-one, append_assoc, length-append}
use Rattle.std.proofs.Common.{arith}
use Rattle.std.specs.Prelude.{slice_get}
use Rattle.std.proofs.lemmas.Option.{none-some, same_Some}
use Rattle.fx_type.specs.declared.kind.FxType.{FxType}
use Rattle.dg_model.specs.declared.diagram.Diagram.{Diagram}
use Rattle.dg_model.specs.Attributes.{attributes_of}
use Rattle.hw_net.specs.declared.netlist.Frame.{Frame}
use Rattle.hw_net.specs.declared.netlist.Net.{Net}
use Rattle.hw_net.specs.declared.netlist.NetLabel.{NetLabel}
use Rattle.hw_net.specs.Circuit.{Circuit}
use Rattle.hw_net.specs.Frames.{counter_of}
use Rattle.hw_net.specs.Growing.{with_net, IsCounted, IsResize}
use Rattle.hw_net.proofs.Growth.{appends-counter, still-there}
use Rattle.math_list.proofs.Places.{get_left}
use Rattle.hw_shows.specs.Timing.{Timing}
use Rattle.hw_build.specs.Pipelined.{stage_name}
use Rattle.hw_build.specs.inner.PipelineNets.{own_frame, wire_of, stage_net, stage_nets, stage_labels, AddsPipeline, IsPipedBy}
use Rattle.hw_build.specs.declared.pipelines.Piped.{Piped}

-- ---- as they are put in

abbrev pub with_nets : Circuit → List Net → Circuit
with_nets netlist nets = record netlist { nets = netlist.nets ++ nets }

abbrev pub with_labels : Circuit → List NetLabel → Circuit
with_labels netlist labels = record netlist { labels = netlist.labels ++ labels }

-- one more register
stages_next : (before now after : Circuit) (type : FxType) (frame : Frame) (slot begin count end : ℕ)
    → end ≡ begin + count → now ≡ with_nets before (stage_nets type frame slot begin count)
    → after ≡ with_net now (stage_net type frame slot end)
    → after ≡ with_nets before (stage_nets type frame slot begin (count + 1))
stages_next before now after type frame slot begin count end end_is now_is after_is =
    let one : after ≡ with_net now (stage_net type frame slot (begin + count)) = after_is ∙ ap (λ (k : ℕ). with_net now (stage_net type frame slot k)) end_is in
    let two : after ≡ with_net (with_nets before (stage_nets type frame slot begin count))
    (stage_net type frame slot (begin + count)) =
    one ∙ ap (λ (c : Circuit). with_net c (stage_net type frame slot (begin + count))) now_is in
    let flat : with_net (with_nets before (stage_nets type frame slot begin count)) (stage_net type frame slot (begin + count)) ≡ with_nets before (stage_nets type frame slot begin (suc count)) =
    ap (λ (nets : List Net). record before { nets = nets }) (append_assoc before.nets (stage_nets type frame slot begin count) (stage_net type frame slot (begin + count) ∷ []))
    in
    two ∙ flat ∙ ap (λ (n : ℕ). with_nets before (stage_nets type frame slot begin n)) (sym (add-one count))

-- and one more name
labels_next : (before now after : Circuit) (block element begin count : ℕ)
    → now ≡ with_labels before (stage_labels begin block element count)
    → after ≡ with_labels now (record { net = begin + (count + 1); name = stage_name block element (count + 1) }
    ∷ [])
    → after ≡ with_labels before (stage_labels begin block element (count + 1))
labels_next before now after block element begin count now_is after_is =
    let one : after ≡ with_labels now (record {
      net = begin + suc count;
      name =
          stage_name block element (suc count);
    } ∷ []) =
    after_is ∙ ap (λ (n : ℕ). with_labels now
    (record { net = begin + n; name = stage_name block element n } ∷ [])) (add-one count) in
    let two : after ≡ with_labels (with_labels before (stage_labels begin block element count))
    (record { net = begin + suc count; name = stage_name block element (suc count) } ∷ []) =
    one ∙ ap (λ (c : Circuit). with_labels c
    (record { net = begin + suc count; name = stage_name block element (suc count) } ∷ [])) now_is in
    let flat : with_labels (with_labels before (stage_labels begin block element count))
    (record { net = begin + suc count; name = stage_name block element (suc count) } ∷ [])
    ≡ with_labels before (stage_labels begin block element (suc count)) =
    ap (λ (labels : List NetLabel). record before { labels = labels })
    (append_assoc before.labels (stage_labels begin block element count)
    (record { net = begin + suc count; name = stage_name block element (suc count) } ∷ []))
    in
    two ∙ flat ∙ ap (λ (n : ℕ). with_labels before (stage_labels begin block element n)) (sym (add-one count))

-- one more register with its name
pub stage_next : (before now added after : Circuit) (type : FxType) (frame : Frame) (slot block element begin count end : ℕ) → end ≡ begin + count
    → now ≡ with_labels (with_nets before (stage_nets type frame slot begin count)) (stage_labels begin block element count) → added ≡ with_net now (stage_net type frame slot end)
    → after ≡ with_labels added (record { net = begin + (count + 1); name = stage_name block element (count + 1) } ∷ [])
    → after ≡ with_labels (with_nets before (stage_nets type frame slot begin (count + 1))) (stage_labels begin block element (count + 1))
stage_next before now added after type frame slot block element begin count end end_is now_is added_is after_is =
    let staged : Circuit = with_nets before (stage_nets type frame slot begin count) in
    let next = stages_next before staged (with_net staged (stage_net type frame slot end)) type frame slot begin count end end_is refl refl in
    let named : added ≡ with_labels (with_nets before (stage_nets type frame slot begin (count + 1))) (stage_labels begin block element count) =
    added_is ∙ ap (λ (c : Circuit). with_net c (stage_net type frame slot end)) now_is ∙ ap (λ (c : Circuit). with_labels c (stage_labels begin block element count)) next in
    labels_next (with_nets before (stage_nets type frame slot begin (count + 1))) added after block element begin count named after_is

pub count_stages : (type : FxType) (frame : Frame) (slot begin count : ℕ) → length (stage_nets type frame slot begin count) ≡ count
count_stages type frame slot begin zero = refl
count_stages type frame slot begin (suc count) =
    let before = count_stages type frame slot begin count in
    let sum = length-append (stage_nets type frame slot begin count) (stage_net type frame slot (begin + count) ∷ []) in
    omega (arith, before, sum)

-- the number of the next one
pub stage_number : (now : Circuit) (type : FxType) (frame : Frame) (slot begin count : ℕ)
    → length now.nets ≡ begin + 1 → length (now.nets ++ stage_nets type frame slot begin count)
    ≡ begin + (count + 1)
stage_number now type frame slot begin count last =
    let own = count_stages type frame slot begin count in
    let sum = length-append now.nets (stage_nets type frame slot begin count) in
    omega (arith, own, sum, last)

-- all of it
pub pipeline_put : (timing : Timing) (before counted wired staged after : Circuit) (type kind : FxType)
    (block element period entry begin stages slot number : ℕ) (frame : Frame) (first : Net) → kind ≡ type
    → frame ≡ own_frame timing period block → slot ≡ period * timing.cycles - 1 → stages ≡ timing.stages block
    → IsCounted before counted frame → counter_of counted.nets frame ≡ Some number → begin ≡ length counted.nets
    → first ≡ wire_of kind entry → wired ≡ with_net counted first
    → staged ≡ with_nets wired (stage_nets kind frame slot begin stages)
    → after ≡ with_labels staged (stage_labels begin block element stages)
    → AddsPipeline timing before after type block element period entry begin
pipeline_put timing before counted wired staged after type kind block element period entry begin stages slot number
    frame first kind_is frame_is slot_is stages_is is_counted found begins first_is wired_is staged_is after_is =
    record {
      counted = counted;
      is_counted = subst (IsCounted before counted) frame_is is_counted;
      found = subst (λ (f : Frame). IsSome (counter_of counted.nets f)) frame_is (subst (λ (o : Option ℕ). IsSome o) (sym found) refl);
      begins = begins;
      grown =
          after_is
          ∙ ap (λ (c : Circuit). with_labels c (stage_labels begin block element stages)) staged_is
          ∙ ap (λ (c : Circuit). with_labels (with_nets c (stage_nets kind frame slot begin stages)) (stage_labels begin block element stages)) (wired_is ∙ ap (with_net counted) first_is)
          ∙ ap (λ (k : FxType). with_labels (with_nets (with_net counted (wire_of k entry)) (stage_nets k frame slot begin stages)) (stage_labels begin block element stages)) kind_is
          ∙ ap (λ (f : Frame). with_labels (with_nets (with_net counted (wire_of type entry)) (stage_nets type f slot begin stages)) (stage_labels begin block element stages)) frame_is
          ∙ ap (λ (n : ℕ). with_labels (with_nets (with_net counted (wire_of type entry))
          (stage_nets type (own_frame timing period block) n begin stages))
          (stage_labels begin block element stages)) slot_is
          ∙ ap (λ (n : ℕ). with_labels (with_nets (with_net counted (wire_of type entry))
          (stage_nets type (own_frame timing period block) (period * timing.cycles - 1) begin n))
          (stage_labels begin block element n)) stages_is;
    }

pub piped_put : (diagram : Diagram) (timing : Timing) (before after : Circuit) (block element entry period : ℕ)
    (piped : Piped) → (attributes_of diagram).period_at block ≡ Some period → 0 < timing.stages block
    → AddsPipeline timing before after ((attributes_of diagram).type_at block 1) block element period entry
    piped.begin → piped.end ≡ piped.begin + timing.stages block
    → IsPipedBy diagram timing before after block element entry piped
piped_put diagram timing before after block element entry period piped is some adds ends = record {
  some = λ own own_is positive. (
    subst (λ (p : ℕ). AddsPipeline timing before after
        ((attributes_of diagram).type_at block 1) block element p entry piped.begin)
        (same_Some period own (sym is ∙ own_is)) adds,
    ends,
  );
  none = λ reason. elim reason [
    | inl none ↦ absurd (omega (arith, none, some))
    | inr none ↦ absurd (none-some period (sym none ∙ is))
  ];
}

-- ---- nets that stood

-- a net that waits for its argument still does
pub resize_kept : (diagram : Diagram) (timing : Timing) (before after : Circuit) (block element entry k : ℕ)
    (piped : Piped) → ((p : ℕ) → (attributes_of diagram).period_at block ≡ Some p → 0 < p)
    → IsPipedBy diagram timing before after block element entry piped → IsResize before.nets k
    → IsResize after.nets k
resize_kept diagram timing before after block element entry k piped some put is = by ((attributes_of diagram).period_at block) refl (timing.stages block) refl
  where
    stood : (before ≡ after) → IsResize after.nets k
    stood same = subst (λ (c : Circuit). IsResize c.nets k) same is

    by : (period : Option ℕ) → (attributes_of diagram).period_at block ≡ period → (stages : ℕ) → timing.stages block ≡ stages → IsResize after.nets k
    by None is_period stages are = stood (sym (put.none (inr is_period)).0)
    by (Some p) is_period zero are = stood (sym (put.none (inl are)).0)
    by (Some p) is_period (suc stages) are =
        let adds = (put.some p is_period (omega (arith, are))).0 in
        let grown = (appends-counter before adds.counted [] (own_frame timing p block) (some p is_period) adds.is_counted).extends in
        let wire : Net = wire_of ((attributes_of diagram).type_at block 1) entry in
        let there : slice_get ((adds.counted.nets ++ wire ∷ [])
        ++ stage_nets ((attributes_of diagram).type_at block 1) (own_frame timing p block)
        (p * timing.cycles - 1) piped.begin (timing.stages block)) k ≡ Some is.net =
        get_left (adds.counted.nets ++ wire ∷ []) (stage_nets ((attributes_of diagram).type_at block 1) (own_frame timing p block) (p * timing.cycles - 1) piped.begin (timing.stages block)) k is.net
        (get_left adds.counted.nets (wire ∷ []) k is.net (still-there before adds.counted k is.net grown is.is))
        in
        record { net = is.net; args = is.args; is = ap (λ (c : Circuit). slice_get c.nets k) adds.grown ∙ there; resizes = is.resizes }
