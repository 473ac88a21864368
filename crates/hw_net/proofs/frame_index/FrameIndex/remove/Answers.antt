use Rattle.std.proofs.Common.{◌∙◌, ap, Bool, None, if◌then◌else◌}
use Rattle.hw_net.specs.ByFrame.{number_at_frame}
use Rattle.hw_net.proofs.Index.{same-frame}
use Rattle.hw_net.proofs.frame_index.FrameIndex.remove.Goals as goal

pub returns : goal.returns
returns c = λ other.
    rw (← c.self.view_is) (c.remove.ensures.updates.0 other ∙ ap (λ (is : Bool). if is then None else number_at_frame c.self.inside.by_frame.entries other) (same-frame c.args.frame other))
