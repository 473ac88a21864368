use Rattle.vl_write.proofs.Puts.{one-put, refused}
use Rattle.vl_write.proofs.parts.put.Goals as goal

pub returns-in-Err : goal.returns-in-Err
returns-in-Err c = refused c.args.out.now c.push.new.text c.args.bytes.now

pub returns-in_default : goal.returns-in_default
returns-in_default c = one-put c.args.out.now c.push.new.text c.args.bytes.now c.in_default.ensures
