use Rattle.std.proofs.Common.{refl, ◌∙◌}
use Rattle.mdl_build.proofs.making.Maker.new.Goals as goal

pub defaults-requires : goal.defaults-requires
defaults-requires c = c.deref.ensures.value ∙ c.requires.roles

pub returns-clause-maker : goal.returns-clause-maker
returns-clause-maker c = record {
  known = c.requires;
  enabled = c.note_blocks.ensures.enabled;
  numbers = c.note_blocks.ensures.numbers;
  defaults = c.in_ok-defaults.ensures;
}

pub returns-clause-items : goal.returns-clause-items
returns-clause-items c = refl
