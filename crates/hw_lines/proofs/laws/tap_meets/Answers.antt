use Rattle.hw_lines.proofs.Hits.{tap-meets}
use Rattle.hw_lines.proofs.laws.tap_meets.Goals as goal

pub returns : goal.returns
returns c = λ n line k first source wave well same. tap-meets n line k first source wave well same
