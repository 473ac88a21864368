-- What an input reads: a place that the table shows.
use Rattle.std.proofs.Common.{◌≡◌, ℕ, ◌<◌, ◌≤◌, ◌⊎◌, inl, inr, slice_get, Option, Some, None, MatchOption, pos, Bool, true, false, true≢false, ap, sym, subst, refl, arith}
use Rattle.fx_type.specs.declared.kind.FxType.TheVariants.{Logical}
use Rattle.fx_type.specs.FxType.{IsType}
use Rattle.dg_model.specs.declared.diagram.Diagram.{Diagram}
use Rattle.dg_model.specs.declared.diagram.Block.{Block}
use Rattle.dg_model.specs.declared.diagram.Edge.{Edge}
use Rattle.dg_model.specs.declared.kind.Kind.{Kind}
use Rattle.dg_model.specs.declared.kind.Kind.TheVariants.{Outport, EnableTest}
use Rattle.dg_model.specs.Signals.{Attributes, Table}
use Rattle.dg_model.specs.declared.row.Role.{Role}
use Rattle.dg_model.specs.Library.{row_of}
use Rattle.dg_model.specs.Readable.{HasPorts, IsReadable}
use Rattle.dg_model.specs.Solves.{IsShown, shown_ports, shown_width, AgreeAt}
use Rattle.dg_model.specs.Wired.{IsWired, Joins, NamesControl}
use Rattle.dg_model.specs.Wires.{enters, driver_of, at_source, repeated, width_into, type_into, value_into, values_into}
pub use Rattle.dg_tables.specs.Finding.{IsRead}
use Rattle.dg_tables.proofs.Ground.{HasWidths}
use Rattle.math_list.proofs.Places.{held}
use Rattle.dg_tables.proofs.Lists.{below_repeated}
use Rattle.math_list.proofs.Numbers.{map_same}
use Rattle.math_list.proofs.Searches.{find_holds}

-- the role of a control
abbrev pub is_control : Role → Bool
is_control (Role.RootInput number) = false
is_control (Role.RootOutput number) = false
is_control (Role.InnerPort width) = false
is_control Role.EnabledOutput = false
is_control Role.Control = true
is_control Role.Plain = false

-- an output port of a block is one that the table shows
shown_port : (diagram : Diagram) (attributes : Attributes) (kind : Kind) (inputs outputs block port element : ℕ)
    → HasPorts kind inputs outputs → 1 ≤ port → port ≤ outputs → element < attributes.width_at block port
    → (port ≤ shown_ports kind outputs) × (element < shown_width diagram attributes kind block port)
shown_port diagram attributes (Outport number) inputs outputs block port element ports from to below = absurd (omega (arith, ports.1))
shown_port diagram attributes _ inputs outputs block port element ports from to below = (to, below)

port_shown : (kind : Kind) (inputs outputs port : ℕ) → HasPorts kind inputs outputs → 1 ≤ port → port ≤ outputs → port ≤ shown_ports kind outputs
port_shown (Outport number) inputs outputs port ports from to = absurd (omega (arith, ports.1))
port_shown _ inputs outputs port ports from to = to

module _ (diagram : Diagram) (attributes : Attributes) (wired : IsWired diagram) where
  pub is_readable : (block : ℕ) (b : Block) → slice_get diagram.blocks block ≡ Some b → IsReadable b
  is_readable block b e = held IsReadable diagram.blocks block b wired.blocks e

  pub source_shown : (block port : ℕ) (edge : Edge) (element : ℕ) → driver_of diagram block port ≡ Some edge → element < attributes.width_at edge.from edge.from_port
      → (b : Block) × IsShown diagram attributes edge.from b edge.from_port element
  source_shown block port edge element e below = go (slice_get diagram.blocks edge.from) refl (find_holds (Joins diagram.blocks) (enters block port) diagram.edges edge wired.edges e).source
    where
      go : (o : Option Block) → slice_get diagram.blocks edge.from ≡ o
          → MatchOption o ⊥ (λ b. (1 ≤ edge.from_port) × (edge.from_port ≤ b.outputs))
          → (b : Block) × IsShown diagram attributes edge.from b edge.from_port element
      go None q h = absurd h
      go (Some b) q h =
          let k = shown_port diagram attributes b.kind b.inputs b.outputs edge.from edge.from_port element (is_readable edge.from b q).ports h.0 h.1 below in
          (b, record { block_is = q; port_from = h.0; port_to = k.0; element_below = k.1 })

  -- the type of a signal into a block is valid
  pub type_into_valid : (types : (block : ℕ) (b : Block) (port : ℕ) → slice_get diagram.blocks block ≡ Some b → 1 ≤ port → port ≤ shown_ports b.kind b.outputs → IsType (attributes.type_at block port))
      (block port : ℕ) → IsType (type_into diagram attributes block port)
  type_into_valid types block port = go (driver_of diagram block port) refl
    where
      at : (edge : Edge) (o : Option Block) → slice_get diagram.blocks edge.from ≡ o
          → MatchOption o ⊥ (λ b. (1 ≤ edge.from_port) × (edge.from_port ≤ b.outputs))
          → IsType (attributes.type_at edge.from edge.from_port)
      at edge None q h = absurd h
      at edge (Some b) q h = types edge.from b edge.from_port q h.0 (port_shown b.kind b.inputs b.outputs edge.from_port (is_readable edge.from b q).ports h.0 h.1)

      go : (o : Option Edge) → driver_of diagram block port ≡ o → IsType (at_source o Logical attributes.type_at)
      go None e = tt
      go (Some edge) e = at edge (slice_get diagram.blocks edge.from) refl (find_holds (Joins diagram.blocks) (enters block port) diagram.edges edge wired.edges e).source

  -- the control of a subsystem stands at port 1, element 0
  pub control_shown : (widths : (block : ℕ) (b : Block) → slice_get diagram.blocks block ≡ Some b → HasWidths diagram attributes block b.kind b.inputs b.outputs)
      (block : ℕ) (b : Block) (control : ℕ) → slice_get diagram.blocks block ≡ Some b → b.enable ≡ Some control → (c : Block) × IsShown diagram attributes control c 1 0
  control_shown widths block b control e is =
      go (slice_get diagram.blocks control) refl
      (subst (λ (o : Option ℕ). NamesControl diagram.blocks o) is
      (held (λ (x : Block). NamesControl diagram.blocks x.enable) diagram.blocks block b wired.controls e))
    where
      by_kind : (kind : Kind) (inputs outputs : ℕ) → is_control (row_of kind).place.role ≡ true → HasPorts kind inputs outputs → HasWidths diagram attributes control kind inputs outputs
          → (1 ≤ shown_ports kind outputs) × (0 < shown_width diagram attributes kind control 1)
      by_kind EnableTest inputs outputs is ports width = (omega (arith, ports.1), omega (arith, width))
      by_kind _ inputs outputs is ports width = absurd (true≢false (sym is))

      go : (o : Option Block) → slice_get diagram.blocks control ≡ o → MatchOption o ⊥ (λ c. (row_of c.kind).place.role ≡ Role.Control) → (c : Block) × IsShown diagram attributes control c 1 0
      go None q h = absurd h
      go (Some c) q h =
          let k = by_kind c.kind c.inputs c.outputs (ap is_control h) (is_readable control c q).ports (widths control c q) in
          (c, record { block_is = q; port_from = omega arith; port_to = k.0; element_below = k.1 })

  -- ---- two tables
  module _ (table other : Table) where
    -- they agree on the block that drives an input
    abbrev pub SourceAgrees : ℕ → ℕ → ℕ → Type 0
    SourceAgrees block port s = (edge : Edge) → driver_of diagram block port ≡ Some edge → AgreeAt diagram attributes table other edge.from s

    pub same_into : (block port element s : ℕ) → SourceAgrees block port s → IsRead diagram attributes block port element
        → value_into diagram attributes table block port element s ≡ value_into diagram attributes other block port element s
    same_into block port element s agree below = go (driver_of diagram block port) refl below
      where
        go : (o : Option Edge) → driver_of diagram block port ≡ o → repeated (at_source o 0 attributes.width_at) element < at_source o 0 attributes.width_at
            → at_source o (pos 0) (λ from from_port. table from from_port
            (repeated (attributes.width_at from from_port) element) s)
            ≡ at_source o (pos 0) (λ from from_port. other from from_port
            (repeated (attributes.width_at from from_port) element) s)
        go None e h = refl
        go (Some edge) e h =
            let k = source_shown block port edge (repeated (attributes.width_at edge.from edge.from_port) element) e h in
            agree edge e k.0 edge.from_port (repeated (attributes.width_at edge.from edge.from_port) element) k.1

    pub same_values : (block inputs element s : ℕ)
        → ((port : ℕ) → 1 ≤ port → port ≤ inputs → SourceAgrees block port s)
        → ((port : ℕ) → 1 ≤ port → port ≤ inputs → IsRead diagram attributes block port element)
        → values_into diagram attributes table block inputs element s ≡ values_into diagram attributes other block inputs element s
    same_values block inputs element s agree below =
        map_same (λ port. value_into diagram attributes table block port element s) (λ port. value_into diagram attributes other block port element s) 1 inputs
        (λ port from to. let to_end : port ≤ inputs = omega (arith, to) in same_into block port element s (agree port from to_end) (below port from to_end))

-- an elementwise block reads an element of each of its inputs
pub elements_read : (diagram : Diagram) (attributes : Attributes) (block inputs outputs : ℕ) (kind : Kind)
    (port element : ℕ) → 1 ≤ port → port ≤ shown_ports kind outputs
    → element < shown_width diagram attributes kind block port
    → ((input output : ℕ) → 1 ≤ input → input ≤ inputs → 1 ≤ output → output ≤ shown_ports kind outputs
    → (width_into diagram attributes block input ≡ 1)
    ⊎ (width_into diagram attributes block input ≡ shown_width diagram attributes kind block output))
    → (input : ℕ) → 1 ≤ input → input ≤ inputs → IsRead diagram attributes block input element
elements_read diagram attributes block inputs outputs kind port element from to below widths input input_from
    input_to = below_repeated (width_into diagram attributes block input) element
    (go (widths input port input_from input_to from to))
  where
    go : (width_into diagram attributes block input ≡ 1)
        ⊎ (width_into diagram attributes block input ≡ shown_width diagram attributes kind block port)
        → (width_into diagram attributes block input ≡ 1)
        ⊎ (element < width_into diagram attributes block input)
    go (inl e) = inl e
    go (inr e) = inr (subst (λ (n : ℕ). element < n) (sym e) below)
