use Rattle.hw_lines.proofs.Hits.{tap-holds}
use Rattle.hw_lines.proofs.laws.tap_holds.Goals as goal

pub returns : goal.returns
returns c = λ n line k first source wave well same some. tap-holds n line k first source wave well same some
