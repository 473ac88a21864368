use Rattle.std.proofs.Common.{subst}
use Rattle.hw_build.specs.inner.Sites.{PassesOut}
use Rattle.hw_build.proofs.Parameters.{passes_out}
use Rattle.hw_build.proofs.kept.pass_out.Goals as goal

pub pass_reset-requires-clause-out : goal.pass_reset-requires-clause-out
pass_reset-requires-clause-out c =
    subst (λ reset. PassesOut c.args.net.now c.args.site reset c.args.initial.now) c.if-reset.true
    (passes_out c.args.net.now c.args.site c.args.reset c.args.initial.now c.requires.can c.requires.kind
    c.requires.operands)

pub pass_held-requires-clause-out : goal.pass_held-requires-clause-out
pass_held-requires-clause-out c =
    subst (λ reset. PassesOut c.args.net.now c.args.site reset c.args.initial.now) c.if-reset.false
    (passes_out c.args.net.now c.args.site c.args.reset c.args.initial.now c.requires.can c.requires.kind
    c.requires.operands)
