use Rattle.vl_replay.proofs.OneResponse.{one-table}
use Rattle.vl_replay.proofs.laws.one_response.Goals as goal

pub returns : goal.returns
returns c = λ m stimulus samples one other sound a b t below. one-table c.one_run.ensures.one m sound stimulus samples one other a b t below
