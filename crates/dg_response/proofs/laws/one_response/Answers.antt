use Rattle.dg_response.proofs.Single.{one-line}
use Rattle.dg_response.proofs.laws.one_response.Goals as goal

pub returns : goal.returns
returns c = λ diagram order rows lines other ordered first second t below. one-line
    c.root_elements_are_listed.ensures.outputs c.tables_are_one.ensures diagram order ordered rows lines other first
    second t below
