use Rattle.dg_tables.proofs.Moves.{kept_step, kept_read, steps_stand}
use Rattle.dg_tables.specs.State.{kept_hits, kept_count}
use Rattle.dg_tables.proofs.laws.kept_moves.Goals as goal

pub returns-clause-moves : goal.returns-clause-moves
returns-clause-moves c = λ diagram attributes table block enable kind element t. kept_step diagram attributes table block enable kind element t

pub returns-clause-read : goal.returns-clause-read
returns-clause-read c = λ diagram attributes stimulus table block enable kind initial element t k v below h.
    kept_read diagram attributes table block enable stimulus initial element v
    (kept_hits diagram attributes table block enable kind t) (kept_count kind) k below h

pub returns-clause-stand : goal.returns-clause-stand
returns-clause-stand c = steps_stand
