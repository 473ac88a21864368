use Rattle.vl_replay.proofs.SomeResponse.{some-table}
use Rattle.vl_replay.proofs.laws.some_response.Goals as goal

pub returns : goal.returns
returns c = λ m stimulus samples sound. some-table c.one_run.ensures.some m sound stimulus samples
