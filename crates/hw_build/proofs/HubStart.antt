-- The nets that readers name are all in, and stand where their elements say.
use Rattle.std.proofs.Common.{◌≡◌, ℕ, ◌+◌, ◌-◌, ◌<◌, inl, inr, true, List, length, Option, Some, ap, sym, ◌∙◌, arith}
use Rattle.std.specs.Prelude.{is_some, All, slice_get, slice_index_or}
use Rattle.std.proofs.lemmas.Bool.{false≢true, cases_Bool}
use Rattle.std.proofs.lemmas.Option.{slice_get_within}
use Rattle.fx_type.specs.declared.kind.FxType.{FxType}
use Rattle.dg_model.specs.declared.diagram.Diagram.{Diagram}
use Rattle.dg_model.specs.declared.kind.Kind.{Kind}
use Rattle.dg_model.specs.declared.kind.Kind.TheVariants.{Inport}
use Rattle.dg_model.specs.declared.row.Role.{Role}
use Rattle.dg_model.specs.Library.{row_of}
use Rattle.dg_model.specs.Readable.{HasPorts}
use Rattle.dg_model.specs.Attributes.{attributes_of}
use Rattle.dg_model.specs.Checked.{IsChecked}
use Rattle.dg_model.specs.Laws.{InputsAreListed}
use Rattle.dg_model.specs.RootElements.{RootElement, root_inputs}
use Rattle.dg_model.specs.Solves.{shown_ports}
use Rattle.dg_model.specs.Wired.{root_input}
use Rattle.dg_tables.specs.Listing.{AreBlocksOf}
use Rattle.hw_net.specs.Circuit.{Circuit}
use Rattle.hw_net.proofs.Growth.{extends-trans, still-there}
use Rattle.hw_sched.proofs.Periods.{readable_at}
use Rattle.hw_names.specs.Columns.{AreColumnsFrom}
use Rattle.math_list.proofs.Places.{there_map}
use Rattle.hw_names.proofs.Places.{place_is, blocks_there}
use Rattle.hw_build.specs.inner.HubPlaces.{input_net, is_input_role, AddsBlocks, AddsInputs, HasHubs}

pub role_is_input : (role : Role) (number : ℕ) → root_input role ≡ Some number → is_input_role role ≡ true
role_is_input role number is = ap (λ (own : Option ℕ). is_some own) is

pub one_port : (kind : Kind) (inputs outputs : ℕ) → HasPorts kind inputs outputs → is_input_role (row_of kind).place.role ≡ true → shown_ports kind outputs ≡ 1
one_port (Inport number dimension) inputs outputs ports is = ports.1
one_port _ inputs outputs ports is = absurd (false≢true is)

module _ (diagram : Diagram) (checked : IsChecked diagram) (listed : InputsAreListed) where
  abbrev roots : List RootElement
  roots = root_inputs diagram (attributes_of diagram)

  -- the first column of its block, and its place there
  column_is : (inputs columns : List ℕ) (k : ℕ) (e : RootElement) → AreBlocksOf roots inputs
      → AreColumnsFrom inputs columns 0 → slice_get roots k ≡ Some e
      → slice_index_or columns e.block 0 + e.element ≡ k
  column_is inputs columns k e blocks are at =
      place_is root_input (λ block. (attributes_of diagram).width_at block 1) diagram
      (listed diagram (attributes_of diagram) checked.wired) inputs columns k e blocks are at

  pub inputs_there : (inputs : List ℕ) → AreBlocksOf roots inputs → All (λ block. block < length diagram.blocks) inputs
  inputs_there inputs blocks = blocks_there root_input (λ block. (attributes_of diagram).width_at block 1) diagram (listed diagram (attributes_of diagram) checked.wired) inputs blocks

  pub hubs_are : (earlier middle later : Circuit) (inputs columns : List ℕ) (firsts : List (List ℕ))
      → AreBlocksOf roots inputs → AddsInputs diagram earlier middle inputs (length inputs)
      → AreColumnsFrom inputs columns 0 → AddsBlocks diagram middle later columns firsts (length diagram.blocks)
      → HasHubs diagram earlier later firsts
  hubs_are earlier middle later inputs columns firsts blocks ins are adds = record {
    extends = extends-trans earlier middle later ins.extends adds.extends;
    size = adds.size;
    inputs = λ k e at.
        let of = (listed diagram (attributes_of diagram) checked.wired).elements_of k e at in
        let typed : e.type ≡ (attributes_of diagram).type_at e.block 1 = ap (λ (x : RootElement). x.type) of.4 in
        let block_at : slice_get inputs k ≡ Some e.block = ap (λ (xs : List ℕ). slice_get xs k) blocks ∙ there_map (λ (x : RootElement). x.block) roots k e at in
        still-there middle later k (input_net e.type k) adds.extends (ins.each k e.block (slice_get_within inputs k e.block block_at) block_at ∙ ap (λ (t : FxType). Some (input_net t k)) (sym typed));
    fresh = λ block b k at low high. adds.fresh block b k (slice_get_within diagram.blocks block b at) at low high;
    there = λ block b port at from to.
        let firsts_are = adds.are block b (slice_get_within diagram.blocks block b at) at in
        elim (cases_Bool (is_input_role (row_of b.kind).place.role)) [
          | inl input ↦
              let one = one_port b.kind b.inputs b.outputs (readable_at diagram checked.wired block b at).ports input in
              let size = ap (λ (xs : List ℕ). length xs) (firsts_are.input input) in
              omega (arith, one, size, to)
          | inr other ↦ let size = firsts_are.size other in omega (arith, size, from, to)
        ];
    of_inputs = λ k e at.
        let of = (listed diagram (attributes_of diagram) checked.wired).elements_of k e at in
        let firsts_are = adds.are e.block of.0 (slice_get_within diagram.blocks e.block of.0 of.1) of.1 in
        ap (λ (xs : List ℕ). slice_index_or xs 0 0 + e.element) (firsts_are.input (role_is_input (row_of of.0.kind).place.role e.number of.2)) ∙ column_is inputs columns k e blocks are at;
    of_others = λ block b port element shown other.
        let firsts_are = adds.are block b (slice_get_within diagram.blocks block b shown.block_is) shown.block_is in
        let from = shown.port_from in
        let to = shown.port_to in
        ap (λ (x : ℕ). x + element) (firsts_are.other other (port - 1) (omega (arith, from, to)));
  }
