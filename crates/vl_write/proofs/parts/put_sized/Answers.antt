use Rattle.std.proofs.Common.{◌++◌, ap, decimal, ◌∙◌}
use Rattle.vl_write.proofs.Puts.{both, puts-as, sized-is}
use Rattle.vl_write.proofs.parts.put_sized.Goals as goal

pub returns : goal.returns
returns c =
    puts-as (ap (λ n. (decimal c.args.number.now.width ++ c.base_word.result.now) ++ decimal n) c.get.ensures ∙ sized-is c.args.number.now c.base_word.result.now c.base_word.ensures)
    (both c.put_between.ensures c.put_number.ensures)
