use Rattle.std.proofs.Common.{length, sym, ◌∙◌, arith}
use Rattle.mdl_build.specs.Lookup.{has_defaults}
use Rattle.mdl_build.proofs.FirstDefaults.{find_within, none_without}
use Rattle.mdl_build.proofs.lookup.section_of.Goals as goal

pub returns-in-None-clause-value : goal.returns-in-None-clause-value
returns-in-None-clause-value c = none_without c.args.layout.now.items.now c.args.block_type (sym c.in-None.is ∙ c.requires.all)

pub returns-in-Some-clause-within : goal.returns-in-Some-clause-within
returns-in-Some-clause-within c = λ place found.
    let below = find_within (has_defaults c.args.layout.now.items.now c.args.block_type) 0 (length c.args.layout.now.items.now) place (sym c.defaults_of.ensures ∙ found) in omega (arith, below)
