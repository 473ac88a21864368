use Rattle.std.proofs.Common.{◌∙◌, ap, sym, subst, refl}
use Rattle.std.specs.Int.{w128}
use Rattle.std.specs.Option.{unwrap_or}
use Rattle.std.proofs.lemmas.Int.{to_z-of_z}
use Rattle.fx_type.specs.FxType.{IsType, lowest_of, highest_of}
use Rattle.math_list.proofs.Places.{get_some}
use Rattle.dg_response.proofs.root_columns.column.Goals as goal
use Rattle.dg_response.proofs.root_columns.column.Goals.{After-result-kind}

-- the type is valid
valid : (c : After-result-kind) → IsType c.result-kind.result
valid c =
    let checked = c.args.checked.now in
    let there = get_some checked.diagram.blocks c.args.block c.requires in
    subst IsType (sym (c.result-kind.ensures 1))
    (c.operations_prepare.ensures.types checked.diagram checked.order c.args.block there.0 (record { checked = c.keeps_rules.ensures.checked; ordered = c.keeps_rules.ensures.ordered }) there.1).0

pub lowest-requires : goal.lowest-requires
lowest-requires c = valid (goal.at.lowest-requires c).After-result-kind

pub returns : goal.returns
returns c =
    let kind = c.result-kind.ensures 1 in
    let low = to_z-of_z w128 c.lowest.result (record { sfits = c.lowest.type_inv }) ∙ c.lowest.ensures ∙ ap lowest_of kind in
    let high = to_z-of_z w128 c.highest.result (record { sfits = c.highest.type_inv }) ∙ c.highest.ensures ∙ ap highest_of kind in
    let period = c.unwrap_or.ensures ∙ ap (λ p. unwrap_or p 1) c.period.ensures in
    rw (low, high, period) refl

pub highest-requires : goal.highest-requires
highest-requires c = valid (goal.at.highest-requires c).After-result-kind
