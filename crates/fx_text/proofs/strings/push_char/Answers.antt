use Rattle.std.proofs.Common.{inl, inr, arith}
use Rattle.fx_text.proofs.StringLemmas.{put_plain, put_escaped}
use Rattle.fx_text.proofs.strings.push_char.Goals as goal
use Rattle.fx_text.proofs.strings.push_char.Goals.{else-text-gt1-via-then-text-gt1+else-text-eq92, else-text-gt1-via-else-text-gt1}

pub returns-in_ok-push_escaped-clause-put : goal.returns-in_ok-push_escaped-clause-put
returns-in_ok-push_escaped-clause-put c =
    put_escaped c.args.content.now.items _ c.args.text.now (omega arith) c.if-text-eq92.true c.in_ok-push_escaped.ensures

pub returns-in_ok-push-clause-put : goal.returns-in_ok-push-clause-put
returns-in_ok-push-clause-put c =
    put_plain c.args.content.now.items _ c.args.text.now c.requires.some c.requires.inside
    (elim c.else-text-gt1.branch [
      | else-text-gt1-via-then-text-gt1+else-text-eq92 w ↦ inr w.if-text-eq92.false
      | else-text-gt1-via-else-text-gt1 w ↦ inl (omega arith)
    ])
    c.in_ok-push.ensures.items
