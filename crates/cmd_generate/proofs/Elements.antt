-- Signals have few elements, so that what each root element wants is the name of a plain one.
use Rattle.std.proofs.Common.{◌≡◌, ℕ, zero, suc, ◌-◌, ◌≤◌, List, [], ◌∷◌, map, All, Contains, Option, Some, None, MatchOption, slice_get, refl, arith}
use Rattle.std.specs.Prelude.{slice_index_or}
use Rattle.std.proofs.lemmas.List.Elements.{All-append, All-contains_itself, All-head, All-map, All-tail}
use Rattle.dg_model.specs.declared.diagram.Block.{Block}
use Rattle.dg_model.specs.declared.diagram.Diagram.{Diagram}
use Rattle.dg_model.specs.declared.diagram.Edge.{Edge}
use Rattle.dg_model.specs.declared.kind.Kind.{Kind}
use Rattle.dg_model.specs.declared.kind.Kind.TheVariants as kind
use Rattle.dg_model.specs.Attributes.{attributes_of}
use Rattle.dg_model.specs.Checked.{IsChecked}
use Rattle.dg_model.specs.declared.row.Role.{Role}
use Rattle.dg_model.specs.Laws.{InputsAreListed, IsElementOfPort, OutputsAreListed}
use Rattle.dg_model.specs.Library.{row_of}
use Rattle.dg_model.specs.Readable.{IsReadable}
use Rattle.dg_model.specs.RootElements.{RootElement, number_in, root_inputs, root_outputs}
use Rattle.dg_model.specs.Signals.{Attributes}
use Rattle.dg_model.specs.Widths.{widths_of}
use Rattle.dg_model.specs.Wired.{Joins, root_input, root_output}
use Rattle.dg_model.specs.Wires.{at_source, driver_of, enters, width_into}
use Rattle.math_list.proofs.Places.{held}
use Rattle.math_list.proofs.Searches.{find_holds}
use Rattle.cmd_generate.proofs.SteadyPorts.{placed}
use Rattle.hw_build.proofs.PortNames.{want_is}
use Rattle.hw_build.proofs.NameForms.{IsWanted}
use Rattle.hw_names.specs.Names.{wanted_names, wanted_of}

small-at : (widths : List ℕ) (k : ℕ) → All (λ (width : ℕ). width ≤ 1024) widths → slice_index_or widths k 0 ≤ 1024
small-at [] k all = omega arith
small-at (width ∷ widths) zero all = All-head (λ (w : ℕ). w ≤ 1024) width widths all
small-at (width ∷ widths) (suc k) all = small-at widths k (All-tail (λ (w : ℕ). w ≤ 1024) width widths all)

-- a root input has an output port
one-output : (k : Kind) (number outputs : ℕ) → root_input (row_of k).place.role ≡ Some number → (row_of k).ports.outputs outputs → 1 ≤ outputs
one-output (kind.Inport own width) number outputs is one = omega (arith, one)
one-output (kind.Outport own) number outputs is one = absurd (cc is)
one-output (kind.Constant value) number outputs is one = absurd (cc is)
one-output kind.Ground number outputs is one = absurd (cc is)
one-output (kind.Sum negative accum) number outputs is one = absurd (cc is)
one-output (kind.Gain value param) number outputs is one = absurd (cc is)
one-output kind.Product number outputs is one = absurd (cc is)
one-output (kind.Switch criterion threshold) number outputs is one = absurd (cc is)
one-output (kind.Relational operator) number outputs is one = absurd (cc is)
one-output (kind.Logic gate) number outputs is one = absurd (cc is)
one-output (kind.Convert stored) number outputs is one = absurd (cc is)
one-output (kind.Delay length initial reset) number outputs is one = absurd (cc is)
one-output (kind.Mux sizes) number outputs is one = absurd (cc is)
one-output (kind.Demux sizes) number outputs is one = absurd (cc is)
one-output (kind.RateTransition period initial) number outputs is one = absurd (cc is)
one-output (kind.Pass width) number outputs is one = absurd (cc is)
one-output kind.EnableTest number outputs is one = absurd (cc is)
one-output (kind.EnOut reset initial) number outputs is one = absurd (cc is)
one-output kind.Terminator number outputs is one = absurd (cc is)

module _ (diagram : Diagram) (is : IsChecked diagram) where
  abbrev A : Attributes
  A = attributes_of diagram

  width-small : (block port : ℕ) (b : Block) → slice_get diagram.blocks block ≡ Some b → 1 ≤ b.outputs → A.width_at block port ≤ 1024
  width-small block port b at some = small-at (slice_index_or (widths_of diagram) block []) (port - 1) ((is.dimensions.blocks block b at).within some)

  in-small : (block : ℕ) (b : Block) (number : ℕ) → slice_get diagram.blocks block ≡ Some b → number_in root_input b ≡ Some number → A.width_at block 1 ≤ 1024
  in-small block b number at port = width-small block 1 b at (one-output b.kind number b.outputs port (held IsReadable diagram.blocks block b is.wired.blocks at).ports.1)

  into-small : (block port : ℕ) → width_into diagram A block port ≤ 1024
  into-small block port = go (driver_of diagram block port) refl
    where
      at : (edge : Edge) (o : Option Block) → slice_get diagram.blocks edge.from ≡ o
          → MatchOption o ⊥ (λ b. (1 ≤ edge.from_port) × (edge.from_port ≤ b.outputs))
          → A.width_at edge.from edge.from_port ≤ 1024
      at edge None there h = absurd h
      at edge (Some b) there h = width-small edge.from edge.from_port b there (omega (arith, h.0, h.1))

      go : (o : Option Edge) → driver_of diagram block port ≡ o → at_source o 0 A.width_at ≤ 1024
      go None e = omega arith
      go (Some edge) e = at edge (slice_get diagram.blocks edge.from) refl (find_holds (Joins diagram.blocks) (enters block port) diagram.edges edge is.wired.edges e).source

  -- what the elements of such ports want
  wants : (number_of : Role → Option ℕ) (width_of : ℕ → ℕ) (elements : List RootElement)
      → ((block : ℕ) (b : Block) (number : ℕ) → slice_get diagram.blocks block ≡ Some b
      → number_in number_of b ≡ Some number → width_of block ≤ 1024)
      → ((place : ℕ) (e : RootElement) → slice_get elements place ≡ Some e → IsElementOfPort number_of width_of diagram A e) → All IsWanted (map (wanted_of diagram width_of) elements)
  wants number_of width_of elements small of = All-map IsWanted (wanted_of diagram width_of) elements
      (λ k d low. each _ (All-contains_itself elements k d low))
    where
      each : (e : RootElement) → Contains elements e → IsWanted (wanted_of diagram width_of e)
      each e c =
          let own = of c.0 e (placed elements e c) in
          let below = own.3 in
          let few = small e.block own.0 e.number own.1 own.2 in
          want_is diagram width_of e (omega (arith, below, few))

  pub wanted-are : InputsAreListed → OutputsAreListed → All IsWanted (wanted_names diagram)
  wanted-are inputs outputs = All-append IsWanted
      (map (wanted_of diagram (λ block. A.width_at block 1)) (root_inputs diagram A))
      (map (wanted_of diagram (λ block. width_into diagram A block 1)) (root_outputs diagram A))
      (wants root_input (λ block. A.width_at block 1) (root_inputs diagram A) in-small (inputs diagram A is.wired).elements_of)
      (wants root_output (λ block. width_into diagram A block 1) (root_outputs diagram A) (λ block b number at port. into-small block 1) (outputs diagram A is.wired).elements_of)
