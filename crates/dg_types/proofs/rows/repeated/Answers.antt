use Rattle.std.proofs.Common.{◌∙◌}
use Rattle.dg_types.proofs.rows.repeated.Goals as goal

pub returns : goal.returns
returns c = c.from_vec.ensures ∙ c.in_ok-vec.ensures.items_if_clones_equal (λ y same. same)
