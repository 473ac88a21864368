use Rattle.mdl_values.specs.Lists.{IsSizeText}
use Rattle.mdl_values.specs.Pieces.{bracket_elements}
use Rattle.mdl_values.proofs.ListLemmas.{no_size, list_found}
use Rattle.mdl_values.proofs.lists.read_sizes.Goals as goal

pub returns-in_default : goal.returns-in_default
returns-in_default c = λ list. no_size IsSizeText (bracket_elements c.args.text.now) list (rw c.in_ok-bracket_elements.ensures at c.in_default.ensures)

pub returns : goal.returns
returns c = list_found IsSizeText (bracket_elements c.args.text.now) c.in-Some.elements c.sizes-list.result (rw c.in_ok-bracket_elements.ensures at c.in-Some.ensures) c.sizes-list.ensures
