-- What tests ask of a net before its module is made.
use Rattle.std.specs.Prelude.{◌≡◌, Some, IsSome}
use Rattle.hw_net.specs.declared.netlist.Frame.{Frame}
use Rattle.hw_net.specs.declared.netlist.NetKind.{NetKind}
use Rattle.hw_net.specs.Circuit.{Circuit}
use Rattle.hw_net.specs.Frames.{frame_of, counter_of}

-- the frame that a net of this kind names has a Counter
abbrev pub IsCounted : Circuit → NetKind → Type 0
IsCounted netlist kind =
    (frame : Frame) → frame_of kind ≡ Some frame → IsSome (counter_of netlist.nets frame)
