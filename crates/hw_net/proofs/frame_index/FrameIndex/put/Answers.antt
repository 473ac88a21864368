use Rattle.std.proofs.Common.{◌∙◌, ap, Bool, Some, if◌then◌else◌}
use Rattle.hw_net.specs.ByFrame.{number_at_frame}
use Rattle.hw_net.proofs.Index.{same-frame}
use Rattle.hw_net.proofs.frame_index.FrameIndex.put.Goals as goal

pub returns-clause-found : goal.returns-clause-found
returns-clause-found c = λ other.
    rw (← c.self.view_is) (c.in_ok-insert.ensures.updates.0 other
    ∙ ap (λ (is : Bool). if is then Some c.args.number else number_at_frame c.self.inside.by_frame.entries
    other) (same-frame c.args.frame other))
