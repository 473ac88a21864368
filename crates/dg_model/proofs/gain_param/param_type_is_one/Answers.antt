use Rattle.dg_model.proofs.ParamTypes.{param_type_one}
use Rattle.dg_model.proofs.gain_param.param_type_is_one.Goals as goal

pub returns : goal.returns
returns c = param_type_one
