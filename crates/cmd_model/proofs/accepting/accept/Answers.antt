use Rattle.std.proofs.Common.{◌≡◌, [], sym, ◌∙◌}
use Rattle.cmd_model.specs.declared.accepting.ModelFault.TheVariants.{Broken}
use Rattle.cmd_model.specs.inner.ModelFault.{fault_of}
use Rattle.cmd_model.proofs.TreeFaults.{refused-tree}
use Rattle.cmd_model.proofs.accepting.accept.Goals as goal

pub returns-in-Err-clause-broken : goal.returns-in-Err-clause-broken
returns-in-Err-clause-broken c = λ fault blocks e.
    let same : c.model_fault.result ≡ Broken fault blocks = cc e in
    let is : c.model_fault.result ≡ fault_of [] c.in-Err.fault = rw c.new.ensures at c.model_fault.ensures in
    refused-tree c.args.bytes.now c.in-Ok.tree c.in-Err.fault c.in-Ok.ensures.found c.in-Err.ensures.broken fault blocks (sym is ∙ same)
