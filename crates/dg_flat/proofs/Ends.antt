-- The ports that lines join in the flat diagram.
use Rattle.std.proofs.Common.{◌≡◌, ℕ, suc, true, false, List, Option, Some, refl, ap}
use Rattle.std.specs.Prelude.{slice_get, option_map}
use Rattle.dg_model.specs.declared.nested.NestedBlock.{NestedBlock}
use Rattle.dg_flat.specs.declared.edges.FlatPort.{FlatPort}
use Rattle.dg_flat.specs.declared.numbering.Side.{Side}
use Rattle.dg_flat.specs.Flat.{flat_place, first_port, port_at}
use Rattle.dg_flat.specs.Parts.{is_subsystem}
use Rattle.dg_flat.specs.inner.PortNumbers.{number_on, numbered_at}

-- a port of a subsystem is port 1 of the block in it
pub port_inner : (blocks : List NestedBlock) (place port : ℕ) (side : Side) (block : NestedBlock) → slice_get blocks place ≡ Some block → is_subsystem block.part ≡ true →
    port_at blocks place port (number_on side) (slice_get blocks place) ≡ option_map (first_port blocks) (numbered_at blocks side (suc place) port)
port_inner blocks place port side block at is = rw (at, is) refl

-- and one of any other block its own
pub port_own : (blocks : List NestedBlock) (place port : ℕ) (side : Side) (block : NestedBlock) → slice_get blocks place ≡ Some block → is_subsystem block.part ≡ false →
    port_at blocks place port (number_on side) (slice_get blocks place) ≡ Some (record { block = flat_place blocks place; port = port })
port_own blocks place port side block at is = rw (at, is) refl

abbrev port_at_place : ℕ → ℕ → Option FlatPort
port_at_place place port = Some (record { block = place; port = port })

pub port_with : (block other port : ℕ) → block ≡ other → port_at_place block port ≡ port_at_place other port
port_with block other port same = ap (λ (k : ℕ). port_at_place k port) same
