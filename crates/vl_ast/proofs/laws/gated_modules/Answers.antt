use Rattle.std.proofs.Common.{◌≡◌, ap, codes, subst, ◌∙◌}
use Rattle.vl_ast.specs.Context.{Net}
use Rattle.vl_ast.proofs.Gates.{gated-keeps, gated-runs}
use Rattle.vl_ast.proofs.GatesSound.{enable-net, gated-breaks-none}
use Rattle.vl_ast.proofs.StallFree.{bit-port}
use Rattle.vl_ast.proofs.laws.gated_modules.Goals as goal

pub returns-clause-keeps : goal.returns-clause-keeps
returns-clause-keeps c m acyclic stallable =
    gated-keeps m (ap (λ (net : Net). net.signed) (enable-net c.meaning_by_layer.ensures.value m acyclic stallable))

pub returns-clause-runs : goal.returns-clause-runs
returns-clause-runs c m count start inputs rows acyclic stallable runs on =
    let p = bit-port (codes "clk_enable") m.ports stallable in
    gated-runs m (ap (λ (net : Net). net.signed) (enable-net c.meaning_by_layer.ensures.value m acyclic stallable)) count start inputs rows runs
    (λ k below. subst (λ n. rows k n ≡ inputs k n) p.2 (runs.driven k below p.0 p.1 p.3) ∙ on k below)

pub returns-clause-conditions : goal.returns-clause-conditions
returns-clause-conditions c = gated-breaks-none c.meaning_by_layer.ensures.value
