use Rattle.std.proofs.Common.{ℕ, ◌≤◌}
use Rattle.std.proofs.lemmas.List.Elements.{All-same}
use Rattle.mdl_build.proofs.ExtentLemmas.{extents_small}
use Rattle.mdl_build.proofs.known.Known.keeps_sizes.Goals as goal

pub are_few-requires : goal.are_few-requires
are_few-requires c = All-same (λ (extent : ℕ). extent ≤ 67) _ _ c.deref-then-has_shape.ensures.value (extents_small c.args.self.now.layout.items.now c.args.self.now.extents.items c.requires.extents)
