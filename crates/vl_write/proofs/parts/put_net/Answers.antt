use Rattle.std.proofs.Common.{◌++◌, ap}
use Rattle.vl_ast.specs.Spelling.{range_text}
use Rattle.vl_write.proofs.Puts.{both, puts-as}
use Rattle.vl_write.proofs.parts.put_net.Goals as goal

pub returns : goal.returns
returns c =
    puts-as (ap (λ sign. c.args.word.now ++ (sign ++ (range_text c.args.width ++ c.args.name.now))) c.signed_word.ensures)
    (both c.put.ensures (both c.put-2.ensures (both c.put_range.ensures c.put-3.ensures)))
