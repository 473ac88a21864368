use Rattle.std.proofs.Common.{rules, of_calls, ◌≡◌, ap, sym, ◌∙◌, subst}
use Rattle.std.specs.List.Sorted.{IsPartitionedBy}
use Rattle.std.proofs.lemmas.Fn.{always_returns_same}
use Rattle.dg_model.specs.declared.diagram.Diagram.{Diagram}
use Rattle.hw_build.specs.inner.Operands.{is_line_before, first_not}
use Rattle.hw_build.proofs.LineSearch.{number_is, parted}
use Rattle.hw_build.proofs.operands.line_number.Goals as goal

pub returns : goal.returns
returns c =
    let es : c.as_slice-edges.result.now ≡ c.args.checked.now.diagram.edges = c.as_slice-edges.ensures ∙ ap (λ (d : Diagram). d.edges) c.diagram.ensures in
    let ordered : IsPartitionedBy (is_line_before c.args.block c.args.port) c.as_slice-edges.result.now =
    subst (IsPartitionedBy (is_line_before c.args.block c.args.port)) (sym es)
    (parted c.args.checked.now.diagram.edges c.args.block c.args.port
    c.keeps_rules.ensures.checked.wired.ordered) in
    let point = c.partition_point.ensures.partitioned (is_line_before c.args.block c.args.port) (always_returns_same _ _ _ (λ a r f k. search (rules, of_calls))) ordered in
    number_is c.as_slice-edges.result.now c.args.block c.args.port c.partition_point.result c.partition_point.ensures.bound point ∙ ap (first_not (is_line_before c.args.block c.args.port)) es
