use Rattle.fx_text.proofs.FormLemmas.{form_read, read_form}
use Rattle.fx_text.proofs.strings.strings_are_forms.Goals as goal

pub returns-clause-form : goal.returns-clause-form
returns-clause-form c = read_form

pub returns-clause-read : goal.returns-clause-read
returns-clause-read c = form_read
