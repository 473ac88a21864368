use Rattle.vl_ast.proofs.Listings.{both, has-more}
use Rattle.vl_emit.proofs.operands.beside.Goals as goal

pub returns : goal.returns
returns c one other left right =
    c.concat.ensures _ (has-more c.begin-parts.ensures (both (c.put_expression.ensures one left) (c.put_expression-2.ensures other right)))
