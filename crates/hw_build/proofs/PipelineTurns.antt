-- A pipeline that stands goes on: by calls that name none of its nets, by names, and by nets of readers that get their arguments.
use Rattle.std.proofs.Common.{◌≡◌, ℕ, zero, suc, ◌+◌, ◌-◌, ◌*◌, ◌<◌, ◌≤◌, ◌⊎◌, ◌++◌, inl, inr, List, [], ◌∷◌, length, Contains, Some, ap, sym, ◌∙◌, subst, length-append, arith}
use Rattle.std.specs.Prelude.{slice_get, ◌≢◌}
use Rattle.std.proofs.lemmas.Bool.{cases_lt}
use Rattle.std.proofs.lemmas.Option.{none-some, same_Some, slice_get-get_or, get_or_from_slice_get}
use Rattle.dg_model.specs.declared.diagram.Diagram.{Diagram}
use Rattle.dg_model.specs.Attributes.{attributes_of}
use Rattle.fx_type.specs.declared.kind.FxType.{FxType}
use Rattle.hw_net.specs.declared.netlist.Net.{Net}
use Rattle.hw_net.specs.declared.netlist.NetLabel.{NetLabel}
use Rattle.hw_net.specs.Circuit.{Circuit}
use Rattle.hw_net.specs.Frames.{IsCounter, counted_frame}
use Rattle.hw_net.specs.Growing.{Appends, IsConnected}
use Rattle.hw_net.specs.Netlist.{reads}
use Rattle.hw_net.proofs.Growth.{longer, still-there, stood-there}
use Rattle.math_list.proofs.Places.{get_front, held}
use Rattle.hw_shows.specs.Timing.{Timing}
use Rattle.hw_build.specs.Pipelined.{stage_name}
use Rattle.hw_build.specs.inner.PipelineNets.{own_frame, stage_net, wire_of}
use Rattle.hw_build.specs.inner.Tally.{ReadThere, IsPipelineAt}
use Rattle.hw_build.specs.inner.Unread.{AreReadInTurn}
use Rattle.hw_build.proofs.Levels.{given, connected_here, connected_elsewhere, connected_length}
use Rattle.hw_build.proofs.Unread.{in_turn_by_call, in_turn_by_connect}

-- what stands in a list stands in a longer one
pub contains_front : (xs ys : List NetLabel) (x : NetLabel) → Contains xs x → Contains (xs ++ ys) x
contains_front xs ys x is =
    let there : slice_get xs is.0 ≡ Some x = slice_get-get_or xs is.0 x is.1 ∙ ap (λ (l : NetLabel). Some l) is.2 in
    let sum = length-append xs ys in
    let low = is.1 in
    (is.0, omega (arith, sum, low), get_or_from_slice_get (xs ++ ys) is.0 x x (get_front xs ys is.0 is.1 ∙ there))

only_one : (i argument read : ℕ) → slice_get (argument ∷ []) i ≡ Some read → read ≡ argument
only_one zero argument read at = sym (same_Some argument read at)
only_one (suc i) argument read at = absurd (none-some read at)

-- ---- reads

pub there_by_call : (before after : Circuit) (named : List ℕ) → Appends before after named → ReadThere before.nets → ReadThere after.nets
there_by_call before after named appends read = record {
  each = λ k net i r at reads_it.
      let more = longer before after appends.extends in
      elim (cases_lt k (length before.nets)) [
        | inl old ↦ let h = read.each k net i r (stood-there before after k net appends.extends old at) reads_it in omega (arith, h, more)
        | inr new ↦ held (λ (x : ℕ). x < length after.nets) (reads net.kind) i r (appends.each k net new at).there reads_it
      ];
}

pub there_by_connect : (before after : Circuit) (hub argument : ℕ) → IsConnected before after hub argument → argument < length before.nets → ReadThere before.nets → ReadThere after.nets
there_by_connect before after hub argument is there read = record {
  each = λ k net i r at reads_it.
      let size = connected_length before after hub argument is in
      let other = λ (differs : k ≢ hub). read.each k net i r (sym (connected_elsewhere before after hub argument k is differs) ∙ at) reads_it in
      elim (cases_lt k hub) [
        | inl less ↦ let h = other (λ e. absurd (omega (arith, less, e))) in omega (arith, h, size)
        | inr more ↦ elim (cases_lt hub k) [
          | inl past ↦ let h = other (λ e. absurd (omega (arith, past, e))) in omega (arith, h, size)
          | inr equal ↦
              let e : k ≡ hub = omega (arith, more, equal) in
              let own : ◌≡◌ {A = Net} (given is.net argument) net =
              same_Some (given is.net argument) net
              (sym (connected_here before after hub argument is) ∙ ap (slice_get after.nets) (sym e)
              ∙ at) in
              let reads_own : slice_get (argument ∷ []) i ≡ Some r = ap (λ (n : Net). slice_get (reads n.kind) i) own ∙ reads_it in
              let same = only_one i argument r reads_own in
              omega (arith, same, there, size)
        ]
      ];
}

-- ---- pipelines

module _ (diagram : Diagram) (timing : Timing) (fence block element period begin : ℕ) where
  abbrev type : FxType
  type = (attributes_of diagram).type_at block 1

  abbrev label_at : ℕ → NetLabel
  label_at k = record { net = begin + suc k; name = stage_name block element (suc k) }

  -- the nets that stand there are no Counters
  no_counter : (now : Circuit) → IsPipelineAt diagram timing fence now block element period begin → (k : ℕ) → begin ≤ k → k < begin + timing.stages block → ¬ IsCounter now.nets k
  no_counter now is k low high counter = elim (cases_lt begin k) [
    | inl past ↦
        let j : ℕ = k - suc begin in
        let place : begin + suc j ≡ k = omega (arith, past) in
        let at = is.stage j (omega (arith, past, high)) in
        let same : ◌≡◌ {A = Net} (stage_net type (own_frame timing period block) (period * timing.cycles - 1) (begin + j)) counter.at.net =
        same_Some (stage_net type (own_frame timing period block) (period * timing.cycles - 1) (begin + j)) counter.at.net (sym at ∙ ap (slice_get now.nets) place ∙ counter.at.is)
        in
        absurd (none-some counter.frame (ap (λ (n : Net). counted_frame n.kind) same ∙ counter.at.counts))
    | inr first ↦
        let place : begin ≡ k = omega (arith, first, low) in
        let same : ◌≡◌ {A = Net} (wire_of type is.entry) counter.at.net = same_Some (wire_of type is.entry) counter.at.net (sym is.wire ∙ ap (slice_get now.nets) place ∙ counter.at.is) in
        absurd (none-some counter.frame (ap (λ (n : Net). counted_frame n.kind) same ∙ counter.at.counts))
  ]

  pub pipeline_by_call : (before after : Circuit) (named : List ℕ) → Appends before after named
      → ((read : ℕ) → Contains named read → (read < begin) ⊎ (begin + timing.stages block ≤ read))
      → IsPipelineAt diagram timing fence before block element period begin
      → IsPipelineAt diagram timing fence after block element period begin
  pipeline_by_call before after named appends other is =
      let more = longer before after appends.extends in
      let size = is.size in
      let counts = λ (k : ℕ) (low : begin ≤ k) (high : k < begin + timing.stages block) (counter : IsCounter after.nets k).
      no_counter before is k low high (record {
        frame = counter.frame;
        at =
            record {
              net = counter.at.net;
              is =
                  stood-there before after k counter.at.net appends.extends (omega (arith, high, size)) counter.at.is;
              counts = counter.at.counts;
            };
      })
      in
      record {
        past = is.past;
        size = omega (arith, size, more);
        entry = is.entry;
        wire = still-there before after begin (wire_of type is.entry) appends.extends is.wire;
        stage = λ k below. still-there before after (begin + suc k) _ appends.extends (is.stage k below);
        turn = in_turn_by_call before after named begin (begin + timing.stages block) appends (omega (arith, size)) other counts is.turn;
        named = λ k below. subst (λ (labels : List NetLabel). Contains labels (label_at k)) (sym appends.extends.labels) (is.named k below);
      }

  pub pipeline_by_names : (before after : Circuit) (names : List NetLabel) → after.nets ≡ before.nets
      → after.labels ≡ before.labels ++ names → IsPipelineAt diagram timing fence before block element period begin
      → IsPipelineAt diagram timing fence after block element period begin
  pipeline_by_names before after names nets labels is =
      let size = is.size in
      let same : length after.nets ≡ length before.nets = ap length nets in
      record {
        past = is.past;
        size = omega (arith, size, same);
        entry = is.entry;
        wire = ap (λ (all : List Net). slice_get all begin) nets ∙ is.wire;
        stage = λ k below. ap (λ (all : List Net). slice_get all (begin + suc k)) nets ∙ is.stage k below;
        turn = subst (λ (all : List Net). AreReadInTurn all begin (begin + timing.stages block)) (sym nets) is.turn;
        named = λ k below. subst (λ (all : List NetLabel). Contains all (label_at k)) (sym labels) (contains_front before.labels names (label_at k) (is.named k below));
      }

  pub pipeline_by_connect : (before after : Circuit) (hub argument : ℕ)
      (connected : IsConnected before after hub argument) → hub < fence
      → (argument < begin) ⊎ (begin + timing.stages block ≤ argument)
      → IsPipelineAt diagram timing fence before block element period begin
      → IsPipelineAt diagram timing fence after block element period begin
  pipeline_by_connect before after hub argument connected low other is =
      let size = is.size in
      let past = is.past in
      let same = connected_length before after hub argument connected in
      record {
        past = is.past;
        size = omega (arith, size, same);
        entry = is.entry;
        wire = connected_elsewhere before after hub argument begin connected (λ e. absurd (omega (arith, e, low, past))) ∙ is.wire;
        stage = λ k below. connected_elsewhere before after hub argument (begin + suc k) connected (λ e. absurd (omega (arith, e, low, past))) ∙ is.stage k below;
        turn = in_turn_by_connect before after hub argument begin (begin + timing.stages block) connected other is.turn;
        named = λ k below. subst (λ (all : List NetLabel). Contains all (label_at k)) (sym (ap (λ (c : Circuit). c.labels) connected.is)) (is.named k below);
      }
