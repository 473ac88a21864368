-- A netlist whose nets are sound and stand on levels can be run.
use Rattle.std.proofs.Common.{◌≡◌, ℕ, ◌<◌, inl, inr, List, length, All, Some, sym, subst, arith}
use Rattle.std.specs.Prelude.{slice_get, get_or}
use Rattle.std.proofs.lemmas.Option.{slice_get_within, slice_get-get_or}
use Rattle.dg_model.specs.declared.diagram.Diagram.{Diagram}
use Rattle.dg_model.specs.declared.resolved.Resolved.{Resolved}
use Rattle.dg_model.specs.Attributes.{attributes_of}
use Rattle.dg_model.specs.RootElements.{RootElement, root_element, root_inputs, root_outputs}
use Rattle.hw_net.specs.declared.netlist.Net.{Net}
use Rattle.hw_net.specs.Circuit.{Circuit}
use Rattle.hw_net.specs.Frames.{HasCounters}
use Rattle.hw_net.specs.Netlist.{IsInput, IsNetlist}
use Rattle.hw_sched.specs.Slots.{Timing as Times}
use Rattle.hw_build.specs.Places.{Places}
use Rattle.hw_build.specs.Ports.{HasPorts}
use Rattle.hw_build.specs.inner.Facts.{HaveInputs}
use Rattle.hw_build.specs.inner.Levels.{IsLevelled}
use Rattle.hw_build.specs.inner.Soundness.{IsSoundNet, AreSound}
use Rattle.hw_build.proofs.Levels.{rank_of, levelled_is_ranked}

all_of : {A : Type 0} (P : A → Type 0) (xs : List A) → ((k : ℕ) (x : A) → slice_get xs k ≡ Some x → P x) → All P xs
all_of P xs each = λ k d within. each k _ (slice_get-get_or xs k d within)

module _ (hubs : ℕ) (now : Circuit) (inputs : ℕ) (sound : AreSound hubs hubs now inputs) where
  -- none waits any longer
  every_sound : (k : ℕ) (net : Net) → slice_get now.nets k ≡ Some net → IsSoundNet now inputs net
  every_sound k net at = elim (sound.each k net at) [
    | inl waits ↦ let low = waits.0 in let high = waits.1 in absurd (omega (arith, low, high))
    | inr is ↦ is
  ]

  pub has_counters : HasCounters now.nets
  has_counters = record { each = λ k net frame at names. (every_sound k net at).counted frame names }

pub netlist_runs : (diagram : Diagram) (plan : Resolved) (times : Times) (places : Places) (hubs : ℕ)
    (now : Circuit) (level : ℕ → ℕ) → 0 < now.cycles → AreSound hubs hubs now (length now.inputs)
    → IsLevelled now.nets level → HaveInputs diagram places now
    → HasPorts diagram plan times now places → IsNetlist now
netlist_runs diagram plan times places hubs now level some sound levelled have ports = record {
  cycles = some;
  words = all_of _ now.nets (λ k net at. (every_sound hubs now (length now.inputs) sound k net at).word);
  kinds = all_of _ now.nets (λ k net at. (every_sound hubs now (length now.inputs) sound k net at).kind);
  there = all_of _ now.nets (λ k net at. (every_sound hubs now (length now.inputs) sound k net at).there);
  ranked = (rank_of now.nets level, levelled_is_ranked now.nets level levelled);
  inputs = λ k port at.
      let count = ports.input_count in
      let inside = slice_get_within now.inputs k port at in
      let e : RootElement = get_or (root_inputs diagram (attributes_of diagram)) k no_element in
      let e_at : slice_get (root_inputs diagram (attributes_of diagram)) k ≡ Some e = slice_get-get_or (root_inputs diagram (attributes_of diagram)) k no_element (omega (arith, inside, count)) in
      let net = have.each k e e_at in
      subst (λ (n : ℕ). IsInput now.nets n k) (sym (ports.inputs k e port e_at at).net) (record { net = net.net; is = net.is; shows = net.kind });
  outputs = all_of _ now.outputs (λ k port at.
      let count = ports.output_count in
      let inside = slice_get_within now.outputs k port at in
      let e : RootElement = get_or (root_outputs diagram (attributes_of diagram)) k no_element in
      let e_at : slice_get (root_outputs diagram (attributes_of diagram)) k ≡ Some e = slice_get-get_or (root_outputs diagram (attributes_of diagram)) k no_element (omega (arith, inside, count)) in
      let word = (ports.outputs k e port e_at at).word in
      slice_get_within now.nets port.net word.net word.is);
}
  where
    no_element : RootElement
    no_element = root_element (attributes_of diagram) 0 0 0
