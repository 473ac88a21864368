use Rattle.std.proofs.Common.{◌++◌, ◌∙◌, codes}
use Rattle.math_list.proofs.Places.{five_appended}
use Rattle.vl_hier.proofs.writing.put_link.Goals as goal

pub returns : goal.returns
returns c =
    let old = c.args.out.now.items in
    five_appended old (codes ".") c.bytes.result.now (codes "(") c.bytes-2.result.now (codes ")") _ _ _ _ _
    c.in_ok-push.ensures c.in_ok-push-2.ensures c.in_ok-push-3.ensures c.in_ok-push-4.ensures c.in_ok-push-5.ensures
    ∙ (λ k. old ++ (codes "." ++ c.bytes.ensures k ++ codes "(" ++ c.bytes-2.ensures k ++ codes ")"))
