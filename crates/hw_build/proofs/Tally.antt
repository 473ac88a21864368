-- One more element is counted, and its pipeline stands.
use Rattle.std.proofs.Common.{◌≡◌, ℕ, zero, suc, ◌+◌, ◌<◌, ◌≤◌, ◌⊎◌, ◌++◌, inl, inr, List, [], ◌∷◌, length, Contains, Option, slice_index_or, Some, None, ap, sym, ◌∙◌, subst, refl, append_assoc}
use Rattle.std.proofs.Common.{append-nil, length-append, arith}
use Rattle.std.specs.Prelude.{slice_get, slice_set, Bool, if◌then◌else◌}
use Rattle.std.specs.List.{flat_map}
use Rattle.std.proofs.lemmas.Bool.{cases_lt}
use Rattle.std.proofs.lemmas.Option.{none-some, same_Some, get_or_from_slice_get}
use Rattle.math_num.specs.Word.{IsWord}
use Rattle.fx_type.specs.declared.kind.FxType.{FxType}
use Rattle.fx_type.specs.FxType.{is_signed, width_of}
use Rattle.dg_model.specs.declared.diagram.Diagram.{Diagram}
use Rattle.dg_model.specs.Attributes.{attributes_of}
use Rattle.hw_net.specs.declared.netlist.Net.{Net}
use Rattle.hw_net.specs.declared.netlist.NetKind.{NetKind}
use Rattle.hw_net.specs.declared.netlist.NetKind.TheVariants.{Comb}
use Rattle.hw_net.specs.declared.netlist.NetLabel.{NetLabel}
use Rattle.hw_net.specs.declared.netlist.NetOp.TheVariants.{Resize}
use Rattle.hw_net.specs.Circuit.{Circuit}
use Rattle.hw_net.specs.Frames.{is_register, register_count}
use Rattle.hw_net.specs.Growing.{Appends, IsConnected, IsResize}
use Rattle.hw_net.proofs.Growth.{still-there}
use Rattle.math_list.proofs.Places.{last_at}
use Rattle.hw_shows.specs.Timing.{Timing}
use Rattle.hw_build.specs.Pipelined.{stage_name}
use Rattle.hw_build.specs.Serving.{multipliers, others, own_factors, unit_factors}
use Rattle.hw_build.specs.declared.pipelines.Piped.{Piped}
use Rattle.hw_build.specs.inner.PipelineNets.{stage_labels, AddsPipeline, IsPipedBy}
use Rattle.hw_build.specs.inner.Tally.{ReadThere, IsPipelineAt}
use Rattle.hw_build.specs.inner.Unread.{AreReadInTurn}
use Rattle.hw_build.proofs.Levels.{given, connected_elsewhere, connected_length}
use Rattle.hw_build.proofs.MultiplierStep.{same_listed}
use Rattle.hw_build.proofs.StageWaves.{sole, bare, bare_nets, bare_labels, bare_size, wire_at, stage_at, bare_appends, begin_new}
use Rattle.hw_build.proofs.PipeTally.{bare_registers, bare_turn, bare_none}
use Rattle.hw_build.proofs.PipelineTurns.{contains_front, pipeline_by_call, pipeline_by_names, pipeline_by_connect, there_by_call, there_by_connect}

-- ---- lists that grow at their end

pub at_last : (xs : List ℕ) (x k : ℕ) → k ≡ length xs → slice_index_or (xs ++ x ∷ []) k 0 ≡ x
at_last xs x k same = get_or_from_slice_get (xs ++ x ∷ []) k x 0 (ap (slice_get (xs ++ x ∷ [])) same ∙ last_at xs x)

-- the names of registers are among those that were put in
stage_named : (labels : List NetLabel) (begin block element count k : ℕ) → k < count
    → Contains (labels ++ stage_labels begin block element count)
    (record { net = begin + suc k; name = stage_name block element (suc k) })
stage_named labels begin block element zero k below = absurd (omega (arith, below))
stage_named labels begin block element (suc count) k below =
    let own : List NetLabel = stage_labels begin block element count in
    let one : NetLabel = record { net = begin + suc count; name = stage_name block element (suc count) } in
    let split : (labels ++ own) ++ one ∷ [] ≡ labels ++ (own ++ one ∷ []) = append_assoc labels own (one ∷ []) in
    subst (λ (all : List NetLabel). Contains all (record { net = begin + suc k; name = stage_name block element (suc k) })) split
    (elim (cases_lt k count) [
      | inl less ↦ contains_front (labels ++ own) (one ∷ []) (record { net = begin + suc k; name = stage_name block element (suc k) }) (stage_named labels begin block element count k less)
      | inr past ↦
          let e : k ≡ count = omega (arith, past, below) in
          subst (λ (n : ℕ). Contains ((labels ++ own) ++ one ∷ []) (record { net = begin + suc n; name = stage_name block element (suc n) })) (sym e)
          (let sum = length-append (labels ++ own) (one ∷ []) in (
            length (labels ++ own),
            omega (arith, sum),
            get_or_from_slice_get ((labels ++ own) ++ one ∷ []) (length (labels ++ own)) one one
                (last_at (labels ++ own) one),
          ))
    ])

-- ---- a net in place of another

set_same : {B : Type 0} (f : NetKind → List B) (xs : List Net) (k : ℕ) (x y : Net) → slice_get xs k ≡ Some x
    → f y.kind ≡ f x.kind → flat_map (λ (n : Net). f n.kind) (slice_set xs k y)
    ≡ flat_map (λ (n : Net). f n.kind) xs
set_same f [] k x y at same = absurd (none-some x at)
set_same {B} f (z ∷ xs) zero x y at same = ap (λ (bs : List B). bs ++ flat_map (λ (n : Net). f n.kind) xs) (same ∙ ap (λ (n : Net). f n.kind) (sym (same_Some z x at)))
set_same {B} f (z ∷ xs) (suc k) x y at same = ap (λ (bs : List B). f z.kind ++ bs) (set_same f xs k x y at same)

set_registers : (xs : List Net) (k : ℕ) (x y : Net) → slice_get xs k ≡ Some x → is_register y.kind ≡ is_register x.kind → register_count (slice_set xs k y) ≡ register_count xs
set_registers [] k x y at same = absurd (none-some x at)
set_registers (z ∷ xs) zero x y at same = ap (λ (b : Bool). (if b then 1 else 0) + register_count xs) (same ∙ ap (λ (n : Net). is_register n.kind) (sym (same_Some z x at)))
set_registers (z ∷ xs) (suc k) x y at same = ap (λ (n : ℕ). (if is_register z.kind then 1 else 0) + n) (set_registers xs k x y at same)

-- what a pipeline with its net leaves of what was
pub record IsPipedOver (diagram : Diagram) (timing : Timing) (fence : ℕ) (before after : Circuit) (block element entry : ℕ) (piped : Piped) : Type 0 where
  pub more : length before.nets ≤ length after.nets
  pub there : ReadThere after.nets
  -- pipelines that stood go on
  pub kept : (other member period begin : ℕ) → begin + timing.stages other < length before.nets
      → (entry < begin) ⊎ (begin + timing.stages other ≤ entry)
      → IsPipelineAt diagram timing fence before other member period begin
      → IsPipelineAt diagram timing fence after other member period begin
  pub own : (period : ℕ) → (attributes_of diagram).period_at block ≡ Some period → 0 < timing.stages block → IsPipelineAt diagram timing fence after block element period piped.begin
  pub registers : register_count after.nets ≤ register_count before.nets + timing.stages block
  pub others_are : length (others after) ≡ length (others before)
  pub units_are : multipliers after ≡ multipliers before
  pub products_kept : (k : ℕ) (net : Net) → slice_get before.nets k ≡ Some net → length (own_factors net.kind) ≡ 1 → slice_get after.nets k ≡ Some net
  pub stage_count : ℕ
  pub stage_few : stage_count ≤ timing.stages block
  pub stage_new : 0 < stage_count → (length before.nets ≤ piped.begin) × (piped.begin + stage_count < length after.nets)
  pub labels_are : after.labels ≡ before.labels ++ stage_labels piped.begin block element stage_count
  pub labels_kept : (label : NetLabel) → Contains before.labels label → Contains after.labels label

module _ (diagram : Diagram) (timing : Timing) (fence : ℕ) (before middle after : Circuit)
    (closed block element entry : ℕ) (piped : Piped)
    (typed : IsWord (width_of ((attributes_of diagram).type_at block 1))
    (is_signed ((attributes_of diagram).type_at block 1))) (there : entry < length before.nets)
    (read : ReadThere before.nets) (low : closed < fence) (small : fence ≤ length before.nets) (waits : IsResize middle.nets closed) (is : IsConnected middle after closed piped.end) where
  abbrev type : FxType
  type = (attributes_of diagram).type_at block 1

  was : is.net.kind ≡ Comb Resize waits.args
  was = ap (λ (n : Net). n.kind) (same_Some is.net waits.net (sym is.was ∙ waits.is)) ∙ waits.resizes

  connected_registers : register_count after.nets ≡ register_count middle.nets
  connected_registers = ap (λ (c : Circuit). register_count c.nets) is.is ∙ set_registers middle.nets closed is.net (given is.net piped.end) is.was (ap is_register (sym was))

  connected_others : others after ≡ others middle
  connected_others = ap (λ (c : Circuit). others c) is.is ∙ set_same own_factors middle.nets closed is.net (given is.net piped.end) is.was (ap own_factors (sym was))

  connected_units : multipliers after ≡ multipliers middle
  connected_units = ap (λ (c : Circuit). multipliers c) is.is ∙ set_same unit_factors middle.nets closed is.net (given is.net piped.end) is.was (ap unit_factors (sym was))

  -- what multiplies isn't the net that waited
  connected_products : (k : ℕ) (net : Net) → slice_get middle.nets k ≡ Some net → length (own_factors net.kind) ≡ 1 → slice_get after.nets k ≡ Some net
  connected_products k net at one =
      connected_elsewhere middle after closed piped.end k is
      (λ e.
      let same : ◌≡◌ {A = Net} net waits.net = same_Some net waits.net (sym at ∙ ap (slice_get middle.nets) e ∙ waits.is) in
      let none : length (own_factors net.kind) ≡ 0 = ap (λ (n : Net). length (own_factors n.kind)) same ∙ ap (λ (kind : NetKind). length (own_factors kind)) waits.resizes in
      absurd (omega (arith, none, one)))
      ∙ at

  connected_labels : after.labels ≡ middle.labels
  connected_labels = ap (λ (c : Circuit). c.labels) is.is

  size_after : length after.nets ≡ length middle.nets
  size_after = connected_length middle after closed piped.end is

  over_plain : middle ≡ before → piped.end ≡ entry
      → (timing.stages block ≡ 0) ⊎ ((attributes_of diagram).period_at block ≡ None)
      → IsPipedOver diagram timing fence before after block element entry piped
  over_plain same ends reason =
      let count : length middle.nets ≡ length before.nets = ap (λ (c : Circuit). length c.nets) same in
      let size = size_after in
      let registers = connected_registers in
      let counted : register_count middle.nets ≡ register_count before.nets = ap (λ (c : Circuit). register_count c.nets) same in
      record {
        more = omega (arith, count, size);
        there = there_by_connect middle after closed piped.end is (omega (arith, ends, there, count)) (subst (λ (c : Circuit). ReadThere c.nets) (sym same) read);
        kept = λ other member period begin inside apart stands.
            pipeline_by_connect diagram timing fence other member period begin middle after closed piped.end is low
            (elim apart [ inl early ↦ inl (omega (arith, early, ends)) | inr late ↦ inr (omega (arith, late, ends)) ])
            (subst (λ (c : Circuit). IsPipelineAt diagram timing fence c other member period begin) (sym same) stands);
        own = λ period is_period any. elim reason [
          | inl none ↦ absurd (omega (arith, none, any))
          | inr none ↦ absurd (none-some period (sym none ∙ is_period))
        ];
        registers = omega (arith, registers, counted);
        others_are = ap length (connected_others ∙ ap (λ (c : Circuit). others c) same);
        units_are = connected_units ∙ ap (λ (c : Circuit). multipliers c) same;
        products_kept = λ k net at one. connected_products k net (ap (λ (c : Circuit). slice_get c.nets k) same ∙ at) one;
        stage_count = 0;
        stage_few = omega arith;
        stage_new = λ any. absurd (omega (arith, any));
        labels_are = connected_labels ∙ ap (λ (c : Circuit). c.labels) same ∙ sym (append-nil before.labels);
        labels_kept = λ label contained. subst (λ (all : List NetLabel). Contains all label) (sym (connected_labels ∙ ap (λ (c : Circuit). c.labels) same)) contained;
      }

  module _ (period : ℕ) (some : 0 < period) (is_period : (attributes_of diagram).period_at block ≡ Some period)
      (adds : AddsPipeline timing before middle type block element period entry piped.begin)
      (ends : piped.end ≡ piped.begin + timing.stages block) where
    abbrev bare_now : Circuit
    bare_now = bare timing before middle type block element period entry piped.begin adds typed some there

    nets : middle.nets ≡ bare_now.nets
    nets = bare_nets timing before middle type block element period entry piped.begin adds typed some there

    labels : middle.labels ≡ bare_now.labels ++ stage_labels piped.begin block element (timing.stages block)
    labels = bare_labels timing before middle type block element period entry piped.begin adds typed some there

    appends : Appends before bare_now (entry ∷ [])
    appends = bare_appends timing before middle type block element period entry piped.begin adds typed some there

    past : length before.nets ≤ piped.begin
    past = begin_new timing before middle type block element period entry piped.begin adds typed some there

    size_middle : length middle.nets ≡ suc (piped.begin + timing.stages block)
    size_middle = ap length nets ∙ bare_size timing before middle type block element period entry piped.begin adds typed some there

    own_middle : IsPipelineAt diagram timing fence middle block element period piped.begin
    own_middle =
        let new = past in
        let size = size_middle in
        record {
          past = omega (arith, new, small);
          size = omega (arith, size);
          entry = entry;
          wire = ap (λ (all : List Net). slice_get all piped.begin) nets ∙ wire_at timing before middle type block element period entry piped.begin adds typed some there;
          stage = λ k below. ap (λ (all : List Net). slice_get all (piped.begin + suc k)) nets
              ∙ stage_at timing before middle type block element period entry piped.begin adds typed some there k
              below;
          turn = subst (λ (all : List Net). AreReadInTurn all piped.begin (piped.begin + timing.stages block))
              (sym nets) (bare_turn timing before middle type block element period entry piped.begin adds typed some
              there read);
          named = λ k below. subst (λ (all : List NetLabel). Contains all
              (record { net = piped.begin + suc k; name = stage_name block element (suc k) })) (sym labels)
              (stage_named bare_now.labels piped.begin block element (timing.stages block) k below);
        }

    over_staged : IsPipedOver diagram timing fence before after block element entry piped
    over_staged =
        let new = past in
        let size = size_middle in
        let count = size_after in
        let registers = connected_registers in
        let counted : register_count middle.nets ≡ register_count bare_now.nets = ap register_count nets in
        let bare_count = bare_registers timing before middle type block element period entry piped.begin adds typed some there in
        record {
          more = omega (arith, new, size, count);
          there = there_by_connect middle after closed piped.end is (omega (arith, ends, size)) (subst ReadThere (sym nets) (there_by_call before bare_now (entry ∷ []) appends read));
          kept = λ other member wide begin inside apart stands.
              pipeline_by_connect diagram timing fence other member wide begin middle after closed piped.end is low (inr (omega (arith, inside, ends, new)))
              (pipeline_by_names diagram timing fence other member wide begin bare_now middle (stage_labels piped.begin block element (timing.stages block)) nets labels
              (pipeline_by_call diagram timing fence other member wide begin before bare_now (entry ∷ []) appends
              (λ r contained. let e = sole entry r contained in elim apart [ inl early ↦ inl (omega (arith, e, early)) | inr late ↦ inr (omega (arith, e, late)) ])
              stands));
          own = λ wide is_wide any.
              pipeline_by_connect diagram timing fence block element wide piped.begin middle after closed piped.end is low (inr (omega (arith, ends)))
              (subst (λ (p : ℕ). IsPipelineAt diagram timing fence middle block element p piped.begin) (same_Some period wide (sym is_period ∙ is_wide)) own_middle);
          registers = omega (arith, registers, counted, bare_count);
          others_are = ap length (connected_others ∙ ap (flat_map (λ (n : Net). own_factors n.kind)) nets
              ∙ same_listed own_factors before bare_now appends.extends
              (λ k net later at. (bare_none timing before middle type block element period entry piped.begin
              adds typed some there k net later at).0));
          units_are = connected_units ∙ ap (flat_map (λ (n : Net). unit_factors n.kind)) nets
              ∙ same_listed unit_factors before bare_now appends.extends
              (λ k net later at. (bare_none timing before middle type block element period entry piped.begin
              adds typed some there k net later at).1);
          products_kept = λ k net at one. connected_products k net (ap (λ (all : List Net). slice_get all k) nets ∙ still-there before bare_now k net appends.extends at) one;
          stage_count = timing.stages block;
          stage_few = omega arith;
          stage_new = λ any. (new, omega (arith, size, count));
          labels_are = connected_labels ∙ labels ∙ ap (λ (all : List NetLabel). all ++ stage_labels piped.begin block element (timing.stages block)) appends.extends.labels;
          labels_kept = λ label contained.
              subst (λ (all : List NetLabel). Contains all label) (sym (connected_labels ∙ labels))
              (contains_front bare_now.labels (stage_labels piped.begin block element (timing.stages block)) label
              (subst (λ (all : List NetLabel). Contains all label) (sym appends.extends.labels) contained));
        }

  over_by : (period : Option ℕ) → (attributes_of diagram).period_at block ≡ period
      → ((p : ℕ) → period ≡ Some p → 0 < p) → (stages : ℕ) → timing.stages block ≡ stages
      → IsPipedBy diagram timing before middle block element entry piped
      → IsPipedOver diagram timing fence before after block element entry piped
  over_by None is_period some stages are put = let plain = put.none (inr is_period) in over_plain plain.0 plain.2 (inr is_period)
  over_by (Some p) is_period some zero are put = let plain = put.none (inl are) in over_plain plain.0 plain.2 (inl are)
  over_by (Some p) is_period some (suc stages) are put =
      let staged = put.some p is_period (omega (arith, are)) in
      over_staged p (some p refl) is_period staged.0 staged.1

  pub piped_over : ((p : ℕ) → (attributes_of diagram).period_at block ≡ Some p → 0 < p)
      → IsPipedBy diagram timing before middle block element entry piped
      → IsPipedOver diagram timing fence before after block element entry piped
  piped_over some put = over_by ((attributes_of diagram).period_at block) refl some (timing.stages block) refl put
