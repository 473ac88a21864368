use Rattle.vl_check.proofs.ExpressionNames.{one-put, refused}
use Rattle.vl_check.proofs.mentions.push.Goals as goal

pub returns-in-Err : goal.returns-in-Err
returns-in-Err c = refused c.args.mentions.now c.put.new.items _

pub returns-in_default : goal.returns-in_default
returns-in_default c = one-put c.args.mentions.now c.put.new.items c.args.mention c.in_default.ensures
