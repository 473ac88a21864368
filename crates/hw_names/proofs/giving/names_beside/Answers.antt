use Rattle.std.proofs.Common.{length, refl}
use Rattle.hw_names.specs.declared.giving.Side.TheVariants.{Inputs, Outputs}
use Rattle.hw_names.specs.inner.Sides.{elements_on}
use Rattle.hw_names.proofs.RootNames.{all_named}
use Rattle.hw_names.proofs.giving.names_beside.Goals as goal

pub returns : goal.returns
returns c = λ list taken.
    let diagram = c.args.checked.now.diagram in
    all_named diagram list c.args.names.now c.put_side.new.names c.put_side-2.new.names c.new-texts.result
    c.put_side.new.texts c.put_side-2.new.texts (length (elements_on Inputs diagram))
    (length (elements_on Outputs diagram)) taken c.new-texts.ensures
    c.in_ok-put_side.ensures c.in_ok-put_side-2.ensures refl refl
