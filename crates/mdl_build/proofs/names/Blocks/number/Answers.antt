use Rattle.std.proofs.Common.{sym, ap, ◌∙◌}
use Rattle.std.specs.Prelude.{position}
use Rattle.std.specs.Option.{option_copied}
use Rattle.mdl_build.specs.Blocks.{is_named_in}
use Rattle.mdl_build.proofs.names.Blocks.number.Goals as goal

pub returns-in-None : goal.returns-in-None
returns-in-None c = λ items are.
    ap option_copied (sym c.in-None.is) ∙ c.get.ensures.value ∙ are.numbers (c.args.system, c.args.name)
    ∙ ap (position (is_named_in items c.args.system c.args.name.now)) are.places

pub returns-in-Some : goal.returns-in-Some
returns-in-Some c = λ items are.
    ap option_copied (sym c.in-Some.is) ∙ c.get.ensures.value ∙ are.numbers (c.args.system, c.args.name)
    ∙ ap (position (is_named_in items c.args.system c.args.name.now)) are.places
