use Rattle.std.proofs.Common.{◌++◌, ◌∙◌, ℕ, List, ap}
use Rattle.vl_hier.proofs.writing.put_module.Goals as goal

pub returns : goal.returns
returns g c = c.in_ok-push.ensures ∙ ap (λ (bytes : List ℕ). c.args.out.now.items ++ bytes) (c.bytes.ensures ∙ c.in_ok-text.ensures.text)
