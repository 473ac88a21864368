use Rattle.std.proofs.Common.{◌∙◌}
use Rattle.std.proofs.lemmas.Result.{on_ok_weaker}
use Rattle.hw_names.proofs.giving.put_name.Goals as goal

pub returns : goal.returns
returns c =
    let path = c.bytes.ensures ∙ c.in_ok-path.ensures in
    let given = rw path at c.in_ok-name.ensures in
    on_ok_weaker c.push.result (λ added. record { name = c.in_ok-name.name; is = added; given = given }) c.push.ensures.appended
