use Rattle.mdl_values.proofs.types.word_of.Goals as goal

pub returns-in_default : goal.returns-in_default
returns-in_default c = λ type is. c.in_default.ensures is.signed is.sign_is

pub returns-in_default-width_part : goal.returns-in_default-width_part
returns-in_default-width_part c = λ type is. c.in_default-width_part.ensures is.width is.width_is

pub returns-in_default-frac_part : goal.returns-in_default-frac_part
returns-in_default-frac_part c = λ type is. c.in_default-frac_part.ensures is.frac is.frac_is
