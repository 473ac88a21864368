use Rattle.std.proofs.Common.{◌++◌, sym, subst}
use Rattle.vl_ast.specs.Tokens.{Lays}
use Rattle.vl_ast.proofs.LayoutParts.{cut-layout, join-layouts, word-stands}
use Rattle.vl_ast.proofs.laws.layouts_part.Goals as goal

pub returns-clause-parts : goal.returns-clause-parts
returns-clause-parts c = cut-layout

pub returns-clause-joins : goal.returns-clause-joins
returns-clause-joins c after front back bytes cut =
    subst (λ bs. Lays after (front ++ back) bs) (sym cut.whole) (join-layouts after front back cut.before cut.behind cut.front_lies cut.back_lies)

pub returns-clause-stands : goal.returns-clause-stands
returns-clause-stands c = word-stands
