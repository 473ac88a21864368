use Rattle.vl_eval.proofs.plan.plan_of.Goals as goal

pub plan_in-requires : goal.plan_in-requires
plan_in-requires c = let checked = c.in_ok-checked.ensures in record { sound = checked.sound; scope = checked.scope; order = checked.order }

pub returns-in-Ok-clause-planned : goal.returns-in-Ok-clause-planned
returns-in-Ok-clause-planned c = record {
  sound = c.in_ok-checked.ensures.sound;
  scope = c.in_ok-checked.checked.scope;
  scope_is = c.in_ok-checked.ensures.scope;
  plan_is = c.in-Ok.ensures;
}
