use Rattle.std.proofs.Common.{rules, ◌≡◌, ℕ, ◌<◌, ◌++◌, List, length, Option, None, get_or, sym, ap, ◌∙◌, arith}
use Rattle.std.proofs.lemmas.Result.{IfOk-weaker}
use Rattle.mdl_text.specs.declared.tree.Item.{Item}
use Rattle.mdl_build.specs.declared.lines.Goal.{Goal}
use Rattle.mdl_build.specs.declared.lines.Source.{Source}
use Rattle.mdl_build.specs.declared.roles.Role.{Role}
use Rattle.mdl_build.specs.declared.roles.Role.TheVariants.{Branch}
use Rattle.mdl_build.specs.Lines.{source_of, is_joined, line_from, keeps_line, line_at}
use Rattle.mdl_build.specs.Roles.{role_of}
use Rattle.mdl_build.specs.inner.Lines.{line_list}
use Rattle.mdl_build.proofs.LineLemmas.{branch_is, sources_long, source_found}
use Rattle.mdl_build.proofs.RoleLemmas.{branch_line}
use Rattle.mdl_build.proofs.lines.add_line.Goals as goal
use Rattle.mdl_build.proofs.lines.add_line.Goals.{In-Some}

-- the line of a branch is an item
line_below : (items : List Item) (place line : ℕ) (role : Role) → role_of items place ≡ role → role ≡ Branch line → place < length items → line < length items
line_below items place line role is branch within = let low = branch_line items place line (is ∙ branch) in omega (arith, low.0, within)

-- so it is of the branch at the place
branch : (c : In-Some) → c.args.role ≡ Branch c.in-Some.line
branch c = branch_is c.args.role c.in-Some.line (sym c.branch_of.ensures ∙ c.in-Some.is)

below : (c : In-Some) → c.in-Some.line < length c.args.layout.now.items.now
below c = line_below c.args.layout.now.items.now c.args.place c.in-Some.line c.args.role c.requires.role (branch c) c.requires.within

source : (c : In-Some) → get_or c.args.sources.now c.in-Some.line None ≡ source_of c.args.layout.now.items.now c.in-Some.line
source c =
    ap (λ (list : List (Option Source)). get_or list c.in-Some.line None) c.requires.sources
    ∙ source_found c.args.layout.now.items.now c.in-Some.line None (below c) (branch_line c.args.layout.now.items.now c.args.place c.in-Some.line (c.requires.role ∙ branch c)).1

inside : (c : In-Some) → c.in-Some.line < length c.args.sources.now
inside c = omega (arith, below c, ap length c.requires.sources, sources_long c.args.layout.now.items.now)

pub goal_of-goal-requires-clause-within : goal.goal_of-goal-requires-clause-within
goal_of-goal-requires-clause-within c = below (goal.at.goal_of-goal-requires-clause-within c).In-Some

pub offset_bounds-sources-line : goal.offset_bounds-sources-line
offset_bounds-sources-line c = let low = inside (goal.at.offset_bounds-sources-line c).In-Some in search rules

pub bounds-sources-line : goal.bounds-sources-line
bounds-sources-line c = inside (goal.at.bounds-sources-line c).In-Some

pub returns-clause-joined : goal.returns-clause-joined
returns-clause-joined c =
    let here = (goal.at.returns-clause-joined c).In-Some in
    let items = c.args.layout.now.items.now in
    IfOk-weaker c.push_line.result _ _
    (λ joined is.
    is
    ∙ ap (λ (from : Option Source). is_joined from c.goal_of-goal.result) (source here)
    ∙ ap (is_joined (source_of items c.in-Some.line)) c.goal_of-goal.ensures
    ∙ sym (ap (keeps_line items c.args.place) (branch here)))
    c.push_line.ensures.joined

pub returns-clause-pushed : goal.returns-clause-pushed
returns-clause-pushed c =
    let here = (goal.at.returns-clause-pushed c).In-Some in
    let items = c.args.layout.now.items.now in
    IfOk-weaker c.push_line.result _ _
    (λ joined pushes good.
    pushes good
    ∙ ap (λ (from : Option Source). c.args.lines.now ++ line_list (line_from from c.goal_of-goal.result)) (source here)
    ∙ ap (λ (end : Goal). c.args.lines.now ++ line_list (line_from (source_of items c.in-Some.line) end)) c.goal_of-goal.ensures
    ∙ sym (ap (λ (role : Role). c.args.lines.now ++ line_list (line_at items c.args.place role)) (branch here)))
    c.push_line.ensures.pushed
