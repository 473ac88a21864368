use Rattle.fx_round.specs.DecimalText.{IsDecimal}
use Rattle.mdl_values.specs.Pieces.{list_elements}
use Rattle.mdl_values.proofs.ListLemmas.{no_size, list_found}
use Rattle.mdl_values.proofs.lists.read_list.Goals as goal

pub returns-in_default : goal.returns-in_default
returns-in_default c = λ list. no_size IsDecimal (list_elements c.args.text.now) list (rw c.in_ok-list_elements.ensures at c.in_default.ensures)

pub returns : goal.returns
returns c = list_found IsDecimal (list_elements c.args.text.now) c.in-Some.elements c.decimals-list.result (rw c.in_ok-list_elements.ensures at c.in-Some.ensures) c.decimals-list.ensures
