-- The ports at a place, and the lines that meet none (own).
use Rattle.std.specs.Prelude.{ℕ, ◌+◌, nat_lt, ◌==◌, ◌||◌, ◌&&◌, not, Bool, min, List, Option, Some, None, slice_get}
use Rattle.std.specs.List.{list_any}
use Rattle.std.specs.Option.{is_some}
use Rattle.dg_model.specs.declared.nested.NestedBlock.{NestedBlock}
use Rattle.dg_model.specs.declared.nested.NestedLine.{NestedLine}
use Rattle.dg_model.specs.declared.nested.Target.{Target}
use Rattle.dg_model.specs.declared.nested.Target.TheVariants.{Port, Enable as ToEnable}
use Rattle.dg_model.specs.declared.nested.Part.{Part}
use Rattle.dg_flat.specs.declared.numbering.Side.{Side}
use Rattle.dg_flat.specs.declared.numbering.Side.TheVariants.{In, Out}
use Rattle.dg_flat.specs.Parts.{inputs_of, outputs_of, enable_port}
use Rattle.dg_flat.specs.Rules.{drivers, is_port, is_enable_end}

-- how many ports of a side a part at a place has, and how many stand at a place
abbrev pub ports_of : List NestedBlock → Side → ℕ → Part → ℕ
ports_of blocks In place part = inputs_of blocks place part
ports_of blocks Out place part = outputs_of blocks place part

abbrev pub ports_at : List NestedBlock → Side → ℕ → ℕ
ports_at blocks side place = ports_or (slice_get blocks place) where
  ports_or : Option NestedBlock → ℕ
  ports_or None = 0
  ports_or (Some block) = ports_of blocks side place block.part

-- its input ports, and its output ports
abbrev pub inputs_at : List NestedBlock → ℕ → ℕ
inputs_at blocks place = ports_at blocks In place

abbrev pub outputs_at : List NestedBlock → ℕ → ℕ
outputs_at blocks place = ports_at blocks Out place

-- a number is none of those from 1 to a count
abbrev pub is_past : ℕ → ℕ → Bool
is_past number count = (number == 0) || nat_lt count number

-- the line leaves from a port that its block lacks, or ends at one
abbrev pub lacks_output : List NestedBlock → NestedLine → Bool
lacks_output blocks line = is_past line.from_port (outputs_at blocks line.from)

abbrev pub lacks_end : List NestedBlock → ℕ → Target → Bool
lacks_end blocks place (Port port) = is_past port (inputs_at blocks place)
lacks_end blocks place ToEnable = not (is_some (enable_port blocks (Some place)))

abbrev pub lacks_input : List NestedBlock → NestedLine → Bool
lacks_input blocks line = lacks_end blocks line.to line.target

-- the block at a place lacks a port that some line meets
abbrev pub is_lacking : List NestedBlock → List NestedLine → ℕ → Bool
is_lacking blocks lines place =
    list_any (λ line. ((line.from == place) && lacks_output blocks line)
    || ((line.to == place) && lacks_input blocks line)) lines

-- one driver more, where 2 stands for more than one
abbrev pub one_more : ℕ → ℕ
one_more count = min 2 (count + 1)

abbrev pub port_drivers : List NestedLine → ℕ → ℕ → ℕ
port_drivers lines place port = min 2 (drivers lines place (is_port port))

abbrev pub control_drivers : List NestedLine → ℕ → ℕ
control_drivers lines place = min 2 (drivers lines place is_enable_end)
