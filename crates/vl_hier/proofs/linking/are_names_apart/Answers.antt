use Rattle.std.proofs.Common.{◌&&◌, ◌∙◌, not}
use Rattle.vl_ast.specs.declared.designs.Instance.{Instance}
use Rattle.vl_hier.specs.inner.Index.{found_in}
use Rattle.vl_hier.specs.inner.Names.{names_begun}
use Rattle.vl_hier.proofs.LookUps.{once-found}
use Rattle.vl_hier.proofs.TableTests.{names-begun, neither}
use Rattle.vl_hier.proofs.linking.are_names_apart.Goals as goal

pub returns : goal.returns
returns c = λ below top instances are.
    let name = c.args.name.now in
    let once = c.is_at_once.ensures ∙ once-found (λ (i : Instance). i.name) instances name (found_in c.args.tables.now.instances name) (are.counted name) in
    let begun = c.begin_with.ensures (names_begun instances top) are.names ∙ names-begun instances top c.args.head.now in
    (λ k. once k && not (begun k)) ∙ neither _ _ _
