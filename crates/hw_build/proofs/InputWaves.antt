-- The nets of root inputs show the stimulus.
use Rattle.std.proofs.Common.{◌≡◌, ℕ, Bool, ℤ, [], Option, None, Some, subst}
use Rattle.std.specs.Prelude.{slice_get}
use Rattle.math_num.specs.Word.{IsWrapped}
use Rattle.fx_type.specs.FxType.{IsType, InRange, is_signed, width_of}
use Rattle.dg_model.specs.declared.diagram.Diagram.{Diagram}
use Rattle.dg_model.specs.declared.diagram.Block.{Block}
use Rattle.dg_model.specs.Attributes.{attributes_of}
use Rattle.dg_model.specs.Hits.{Hits}
use Rattle.dg_model.specs.Laws.{InputsAreListed}
use Rattle.dg_model.specs.RootElements.{RootElement, root_element}
use Rattle.dg_model.specs.Signals.{Stimulus, Table}
use Rattle.dg_model.specs.Wired.{IsWired}
use Rattle.hw_net.specs.declared.netlist.NetKind.{NetKind}
use Rattle.hw_net.specs.declared.netlist.NetKind.TheVariants.{Comb}
use Rattle.hw_net.specs.declared.netlist.NetOp.TheVariants.{Input}
use Rattle.hw_net.specs.Circuit.{Circuit}
use Rattle.hw_net.specs.NetRows.{Inputs, Rows, NetShows}
use Rattle.hw_shows.specs.Shows.{IsSeen}
use Rattle.hw_shows.specs.Waves.{AreDriven}
use Rattle.hw_build.specs.Places.{Places, IsRunOf, waves_of}
use Rattle.hw_build.specs.inner.Facts.{HaveInputs}
use Rattle.math_num.proofs.Words.{wrapped-is}
use Rattle.fx_type.proofs.Ranges.{type-word, range-word}

seen_is_hit : (cycles : ℕ) (period : Option ℕ) (t c : ℕ) → IsSeen cycles period 0 0 t c → Hits period t
seen_is_hit cycles None t c seen = seen
seen_is_hit cycles (Some period) t c seen = seen.is_hit

pub inputs_driven : (diagram : Diagram) (places : Places) (netlist : Circuit) (stimulus : Stimulus) (n clocks : ℕ)
    (inputs : Inputs) (rows : Rows) (table : Table) → InputsAreListed → IsWired diagram
    → ((block : ℕ) (b : Block) → slice_get diagram.blocks block ≡ Some b
    → IsType ((attributes_of diagram).type_at block 1))
    → HaveInputs diagram places netlist → IsRunOf diagram netlist stimulus n clocks inputs rows table
    → AreDriven diagram (attributes_of diagram) stimulus n netlist.cycles clocks (waves_of places rows)
inputs_driven diagram places netlist stimulus n clocks inputs rows table listing wired valid have run = record {
  shows = λ block b number element t c at role below less early seen.
      let listed = (listing diagram (attributes_of diagram) wired).has_each block b number element at role below in
      let e : RootElement = root_element (attributes_of diagram) number block element in
      let net = have.each listed.0 e listed.1 in
      let shows : NetShows netlist.cycles clocks inputs rows net.net.width net.net.signed (Comb (Input listed.0) []) (rows (places.input number element)) =
      subst (λ (k : NetKind). NetShows netlist.cycles clocks inputs rows net.net.width net.net.signed k
      (rows (places.input number element))) net.kind
      (run.rows_are.shows (places.input number element) net.net net.is) in
      let value : inputs listed.0 c ≡ stimulus number element t = run.fed.shows listed.0 e t c listed.1 less early seen in
      let range : InRange ((attributes_of diagram).type_at block 1) (stimulus number element t) =
      run.stimulus_is.in_range block b number element t at role below less
      (seen_is_hit netlist.cycles ((attributes_of diagram).period_at block) t c seen) in
      let wrapped = subst (λ (w : ℕ). IsWrapped (inputs listed.0 c) w (is_signed e.type) (rows (places.input number element) c)) net.wide
      (subst (λ (s : Bool). IsWrapped (inputs listed.0 c) net.net.width s (rows (places.input number element) c)) net.sign (shows c early)) in
      wrapped-is (stimulus number element t) (width_of e.type) (is_signed e.type)
      (rows (places.input number element) c) (type-word e.type (valid block b at))
      (range-word e.type (stimulus number element t) range)
      (subst (λ (v : ℤ). IsWrapped v (width_of e.type) (is_signed e.type) (rows (places.input number element) c)) value wrapped);
}
