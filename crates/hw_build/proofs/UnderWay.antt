-- A call, and a hub that gets its argument, keep what is kept while a netlist is built.
use Rattle.std.proofs.Common.{◌≡◌, ℕ, suc, ◌<◌, ◌≤◌, inl, inr, List, length, Contains, ap, sym, ◌∙◌, refl, arith}
use Rattle.std.specs.Prelude.{slice_get}
use Rattle.std.proofs.lemmas.Bool.{cases_lt}
use Rattle.std.proofs.lemmas.Option.{none-some, same_Some, slice_get_within}
use Rattle.math_num.specs.Word.{IsWord}
use Rattle.dg_model.specs.declared.diagram.Diagram.{Diagram}
use Rattle.dg_model.specs.Attributes.{attributes_of}
use Rattle.dg_model.specs.RootElements.{root_inputs}
use Rattle.hw_net.specs.declared.netlist.Frame.{Frame}
use Rattle.hw_net.specs.declared.netlist.Net.{Net}
use Rattle.hw_net.specs.declared.netlist.NetKind.TheVariants.{Comb}
use Rattle.hw_net.specs.declared.netlist.NetOp.TheVariants.{Resize}
use Rattle.hw_net.specs.Circuit.{Circuit}
use Rattle.hw_net.specs.Frames.{counted_frame, IsCounterAt}
use Rattle.hw_net.specs.Growing.{Appends, IsConnected}
use Rattle.hw_net.proofs.Growth.{longer}
use Rattle.hw_shows.specs.Timing.{Timing}
use Rattle.hw_build.specs.Places.{Places}
use Rattle.hw_build.specs.inner.Growth.{GoesOn}
use Rattle.hw_build.specs.inner.Levels.{level_behind}
use Rattle.hw_build.specs.inner.UnderWay.{HaveHubs, HaveOperands, IsUnderWay}
use Rattle.hw_build.proofs.Growth.{goes_appended, word_later}
use Rattle.hw_build.proofs.Levels.{given, connected_here, connected_elsewhere, connected_length, levelled_by_call, levelled_by_connect, goes_connected, level_stays}
use Rattle.hw_build.proofs.Soundness.{sound_by_call, sound_by_connect}
use Rattle.hw_build.proofs.Steps.{facts_later}

module _ (diagram : Diagram) (timing : Timing) (places : Places) (place_of : ℕ → ℕ) (hubs : ℕ) where
  -- hubs and operands of a netlist that goes on, where their levels stay
  pub hubs_later : (closed : ℕ) (now later : Circuit) (level next : ℕ → ℕ) → GoesOn closed hubs now later
      → length now.nets ≤ length later.nets → ((k : ℕ) → k < length now.nets → next k ≡ level k)
      → HaveHubs diagram places place_of hubs now level
      → HaveHubs diagram places place_of hubs later next
  hubs_later closed now later level next goes more same have =
      let there = have.there in
      record {
        there = omega (arith, there, more);
        below = have.below;
        words = λ block b port element shown. word_later closed hubs now later (places.after block port element) _ _ goes (have.words block b port element shown);
        levels = λ block b port element shown.
            let low = have.levels block b port element shown in
            let inside = have.below block b port element shown in
            let e = same (places.after block port element) (omega (arith, inside, there)) in
            omega (arith, low, e);
      }

  pub operands_later : (closed : ℕ) (now later : Circuit) (level next : ℕ → ℕ) → GoesOn closed hubs now later
      → ((k : ℕ) → k < length now.nets → next k ≡ level k) → HaveOperands diagram places place_of hubs now level
      → HaveOperands diagram places place_of hubs later next
  operands_later closed now later level next goes same have = record {
    there = λ block b port element edge at showing from to drives below. word_later closed hubs now later
        (places.offered block port element) _ _ goes
        (have.there block b port element edge at showing from to drives below);
    levels = λ block b port element edge at showing from to drives below.
        let word = have.there block b port element edge at showing from to drives below in
        let low = have.levels block b port element edge at showing from to drives below in
        let e = same (places.offered block port element) (slice_get_within now.nets (places.offered block port element) word.net word.is) in
        omega (arith, low, e);
    enables = λ block b control at feeds. word_later closed hubs now later (places.enable block) _ _ goes (have.enables block b control at feeds);
    enable_levels = λ block b control at feeds.
        let word = have.enables block b control at feeds in
        let low = have.enable_levels block b control at feeds in
        let e = same (places.enable block) (slice_get_within now.nets (places.enable block) word.net word.is) in
        omega (arith, low, e);
  }

  -- a call that names nets of no higher level than its own
  pub by_call : (closed count own : ℕ) (before after : Circuit) (level : ℕ → ℕ) (named : List ℕ)
      → IsUnderWay diagram timing places place_of closed hubs before level count → Appends before after named
      → length after.inputs ≤ length (root_inputs diagram (attributes_of diagram)) → 1 ≤ own
      → ((read : ℕ) → Contains named read → (read < length before.nets) × (level read ≤ own)) → IsUnderWay diagram timing places place_of closed hubs after (level_behind before after level own) count
  by_call closed count own before after level named way appends few some low =
      let goes = goes_appended closed hubs before after appends.extends in
      let same = level_stays before after level own in
      record {
        facts = facts_later diagram timing places closed closed hubs before after count (omega arith) goes way.facts;
        hubs_are = hubs_later closed before after level (level_behind before after level own) goes (longer before after appends.extends) same way.hubs_are;
        operands = operands_later closed before after level (level_behind before after level own) goes same way.operands;
        sound = sound_by_call closed hubs before after named (length (root_inputs diagram (attributes_of diagram))) way.hubs_are.there few appends way.sound;
        levelled = levelled_by_call before after level own named way.levelled appends some low;
        differ = appends.differ way.differ;
      }

  -- the next hub gets an argument of a lower level
  pub by_connect : (closed count argument : ℕ) (before after : Circuit) (level : ℕ → ℕ) (old : List ℕ)
      (is : IsConnected before after closed argument) → is.net.kind ≡ Comb Resize old
      → IsWord is.net.width is.net.signed → closed < hubs → argument < length before.nets
      → level argument < level closed
      → IsUnderWay diagram timing places place_of closed hubs before level count → IsUnderWay diagram timing places place_of (suc closed) hubs after level count
  by_connect closed count argument before after level old is kind word high there lower way =
      let goes = goes_connected closed hubs before after closed argument old is kind (omega arith) high in
      let size = connected_length before after closed argument is in
      record {
        facts = facts_later diagram timing places closed (suc closed) hubs before after count (omega arith) goes way.facts;
        hubs_are = hubs_later closed before after level level goes (omega (arith, size)) (λ k inside. refl) way.hubs_are;
        operands = operands_later closed before after level level goes (λ k inside. refl) way.operands;
        sound = sound_by_connect closed hubs before after argument (length (root_inputs diagram (attributes_of diagram))) old is kind high there word way.sound;
        levelled = levelled_by_connect before after level closed argument is there lower way.levelled;
        differ = record { same = λ i j frame one other. way.differ.same i j frame (counter_before i frame one) (counter_before j frame other) };
      }
    where
      counter_before : (k : ℕ) (frame : Frame) → IsCounterAt after.nets k frame → IsCounterAt before.nets k frame
      counter_before k frame at = elim (cases_lt k closed) [
        | inl less ↦ record { net = at.net; is = sym (connected_elsewhere before after closed argument k is (λ e. absurd (omega (arith, less, e)))) ∙ at.is; counts = at.counts }
        | inr more ↦ elim (cases_lt closed k) [
          | inl past ↦ record { net = at.net; is = sym (connected_elsewhere before after closed argument k is (λ e. absurd (omega (arith, past, e)))) ∙ at.is; counts = at.counts }
          | inr equal ↦
              let e : k ≡ closed = omega (arith, more, equal) in
              let own : ◌≡◌ {A = Net} (given is.net argument) at.net =
              same_Some (given is.net argument) at.net
              (sym (connected_here before after closed argument is) ∙ ap (slice_get after.nets) (sym e)
              ∙ at.is) in
              absurd (none-some frame (ap (λ (n : Net). counted_frame n.kind) own ∙ at.counts))
        ]
      ]
