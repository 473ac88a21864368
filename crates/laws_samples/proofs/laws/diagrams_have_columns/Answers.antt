use Rattle.laws_samples.proofs.Columns.{has_columns}
use Rattle.laws_samples.proofs.laws.diagrams_have_columns.Goals as goal

pub returns : goal.returns
returns c diagram sample checked = has_columns sample checked
