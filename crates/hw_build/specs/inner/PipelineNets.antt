-- The registers of a plan behind an element, as they are put in (own).
use Rattle.std.specs.Prelude.{◌≡◌, ℕ, zero, suc, ◌+◌, ◌-◌, ◌*◌, ◌<◌, ◌⊎◌, ◌++◌, List, [], ◌∷◌, length, pos, None, Some, IsSome}
use Rattle.fx_type.specs.declared.kind.FxType.{FxType}
use Rattle.fx_type.specs.FxType.{is_signed, width_of}
use Rattle.dg_model.specs.declared.diagram.Diagram.{Diagram}
use Rattle.dg_model.specs.Attributes.{attributes_of}
use Rattle.hw_net.specs.declared.netlist.Frame.{Frame}
use Rattle.hw_net.specs.declared.netlist.Net.{Net}
use Rattle.hw_net.specs.declared.netlist.NetKind.TheVariants.{Comb, Reg}
use Rattle.hw_net.specs.declared.netlist.NetLabel.{NetLabel}
use Rattle.hw_net.specs.declared.netlist.NetOp.TheVariants.{Resize}
use Rattle.hw_net.specs.Circuit.{Circuit}
use Rattle.hw_net.specs.Frames.{counter_of}
use Rattle.hw_net.specs.Growing.{IsCounted}
use Rattle.hw_shows.specs.Timing.{Timing}
use Rattle.hw_build.specs.Pipelined.{stage_name}
use Rattle.hw_build.specs.declared.pipelines.Piped.{Piped}

-- the frames of a block of this period, before its pipeline
abbrev pub own_frame : Timing → ℕ → ℕ → Frame
own_frame timing period block = record { period = period; latency = timing.latency block }

-- the net of this type that only passes another on
abbrev pub wire_of : FxType → ℕ → Net
wire_of type entry =
    record { signed = is_signed type; width = width_of type; kind = Comb Resize (entry ∷ []) }

-- a register that takes a net in a slot of a frame
abbrev pub stage_net : FxType → Frame → ℕ → ℕ → Net
stage_net type frame slot from =
    record { signed = is_signed type; width = width_of type; kind = Reg frame slot (pos 0) from }

-- so many registers, one behind another, behind the net of this number
abbrev pub stage_nets : FxType → Frame → ℕ → ℕ → ℕ → List Net
stage_nets type frame slot begin zero = []
stage_nets type frame slot begin (suc count) =
    stage_nets type frame slot begin count ++ stage_net type frame slot (begin + count) ∷ []

-- their names
abbrev pub stage_labels : ℕ → ℕ → ℕ → ℕ → List NetLabel
stage_labels begin block element zero = []
stage_labels begin block element (suc count) =
    stage_labels begin block element count
    ++ record { net = begin + suc count; name = stage_name block element (suc count) } ∷ []

-- a Counter of the block's frame, where there was none, a wire behind the element, and the
-- registers behind that with their names
pub record AddsPipeline (timing : Timing) (before after : Circuit) (type : FxType)
    (block element period entry begin : ℕ) : Type 0 where
  pub counted : Circuit
  pub is_counted : IsCounted before counted (own_frame timing period block)
  pub found : IsSome (counter_of counted.nets (own_frame timing period block))
  pub begins : begin ≡ length counted.nets
  pub grown : after
      ≡ record counted {
        nets =
            (counted.nets ++ wire_of type entry ∷ [])
            ++ stage_nets type (own_frame timing period block)
            (period * timing.cycles - 1) begin (timing.stages block);
        labels = counted.labels ++ stage_labels begin block element (timing.stages block);
      }

-- where a block has a period and registers, these; else the element itself
pub record IsPipedBy (diagram : Diagram) (timing : Timing) (before after : Circuit)
    (block element entry : ℕ) (piped : Piped) : Type 0 where
  pub some : (period : ℕ) → (attributes_of diagram).period_at block ≡ Some period
      → 0 < timing.stages block
      → AddsPipeline timing before after
      ((attributes_of diagram).type_at block 1) block element period entry piped.begin
      × (piped.end ≡ piped.begin + timing.stages block)
  pub none : (timing.stages block ≡ 0) ⊎ ((attributes_of diagram).period_at block ≡ None)
      → (after ≡ before) × (piped.begin ≡ entry) × (piped.end ≡ entry)
