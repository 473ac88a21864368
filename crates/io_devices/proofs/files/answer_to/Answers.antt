use Rattle.std.proofs.Common.{length, Ok, Err, refl, ap, arith}
use Rattle.fx_io.specs.declared.shelf.FetchFault.TheVariants.{Failed, TooLong, OutOfMemory}
use Rattle.io_devices.proofs.FetchCounts.{owed}
use Rattle.io_devices.proofs.files.answer_to.Goals as goal

pub returns-in-Ok-from_vec-clause-owed : goal.returns-in-Ok-from_vec-clause-owed
returns-in-Ok-from_vec-clause-owed c = owed c.args.limit _ _ _ _ (Ok c.in-Ok-from_vec.text) (omega (arith, ap length c.in-Ok-from_vec.ensures, c.len.ensures, c.if-len-limit.true), refl, refl)

pub returns-in-Err-from_vec-clause-owed : goal.returns-in-Err-from_vec-clause-owed
returns-in-Err-from_vec-clause-owed c = owed c.args.limit _ _ _ _ (Err OutOfMemory) (refl, refl)

pub returns-in-Ok-2-clause-owed : goal.returns-in-Ok-2-clause-owed
returns-in-Ok-2-clause-owed c = owed c.args.limit _ _ _ _ (Err (TooLong _)) (omega arith, refl, omega (arith, c.saturating_add.ensures), search arith)

pub returns-in-Err-clause-owed : goal.returns-in-Err-clause-owed
returns-in-Err-clause-owed c = owed c.args.limit _ _ _ _ (Err OutOfMemory) (refl, refl)

pub returns-in-Err-2-clause-owed : goal.returns-in-Err-2-clause-owed
returns-in-Err-2-clause-owed c = owed c.args.limit _ _ _ _ (Err Failed) (omega (arith, c.saturating_add-in-Err-2.ensures), search arith, refl)
