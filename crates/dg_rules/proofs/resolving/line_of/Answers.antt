use Rattle.std.proofs.Common.{◌∙◌}
use Rattle.std.specs.Option.{option_copied}
use Rattle.dg_rules.proofs.PathEnds.{ends_so, no_number}
use Rattle.dg_rules.proofs.resolving.line_of.Goals as goal

pub returns-then-not-may_end : goal.returns-then-not-may_end
returns-then-not-may_end c = λ lines are have.
    let parts = ends_so (option_copied c.split.result.0) c.split.result.1.now in
    no_number lines c.args.path.now
    (λ number line at same. c.may_end.ensures c.if-not-may_end.true lines have number line at parts.0 (same ∙ c.split.ensures ∙ parts.1))
