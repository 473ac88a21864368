use Rattle.std.proofs.Common.{◌++◌, codes, decimal, ◌∙◌}
use Rattle.vl_write.proofs.Puts.{both, left3, puts-as}
use Rattle.vl_write.proofs.attributes.AttrPart.spell.Goals as goal

pub returns : goal.returns
returns c =
    puts-as ((λ i. c.bytes.ensures i ++ (codes " = " ++ decimal (c.from.ensures i))) ∙ left3 c.args.self.now.name (codes " = ") (decimal c.args.self.now.value))
    (both c.put.ensures (both c.put-2.ensures c.put_number.ensures))
