use Rattle.std.proofs.Common.{ℕ, List, ◌++◌, ap, ◌∙◌}
use Rattle.std.specs.Prelude.{codes}
use Rattle.std.proofs.lemmas.List.{append_assoc}
use Rattle.std.proofs.lemmas.Result.{IfOk-weaker}
use Rattle.cmd_explore.specs.FindingsText.{named}
use Rattle.cmd_explore.proofs.writing.push_worth.Goals as goal

pub returns : goal.returns
returns c =
    IfOk-weaker c.push_named-2.result _ _
    (λ done is.
    is ∙ ap (λ (bytes : List ℕ). bytes ++ named (codes " latency ") c.args.latency) c.in_ok-push_named.ensures
    ∙ append_assoc c.args.text.now.items (named (codes " multiplications ") c.args.owed) (named (codes " latency ") c.args.latency))
    c.push_named-2.ensures
