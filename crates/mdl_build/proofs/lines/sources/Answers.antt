use Rattle.std.proofs.Common.{◌≡◌, ◌++◌, ◌∷◌, [], List, length, Option, sym, ap, ◌∙◌, arith}
use Rattle.mdl_build.specs.declared.lines.Source.{Source}
use Rattle.mdl_build.specs.declared.roles.Role.TheVariants.{Other}
use Rattle.mdl_build.specs.Lines.{branch_of}
use Rattle.mdl_build.specs.inner.Lines.{source_if, sources_before}
use Rattle.mdl_build.proofs.LineLemmas.{sources_next}
use Rattle.mdl_build.proofs.RoleLemmas.{roles_long, role_listed}
use Rattle.mdl_build.proofs.lines.sources.Goals as goal

pub source_if-requires-clause-within : goal.source_if-requires-clause-within
source_if-requires-clause-within c = omega (arith, c.loop-place-test.true, roles_long c.args.layout.now.items.now c.args.roles.now c.requires.roles)

pub loop-place-preserved : goal.loop-place-preserved
loop-place-preserved c =
    let items = c.args.layout.now.items.now in
    let place = c.loop-place.place in
    let role_is = role_listed items c.args.roles.now place Other c.requires.roles c.loop-place-test.true in
    c.in_ok-push.ensures.items
    ∙ ap (λ (front : List (Option Source)). front ++ c.source_if.result ∷ []) c.loop-place.invariant
    ∙ sources_next items place c.source_if.result (c.source_if.ensures ∙ ap (source_if items place) (c.branch_of.ensures ∙ ap branch_of (sym role_is)))

pub returns : goal.returns
returns c =
    let items = c.args.layout.now.items.now in
    let all : c.loop-place.place ≡ length items = omega (arith, c.loop-place-test.false, c.loop-place.auto.place-end, roles_long items c.args.roles.now c.requires.roles) in
    c.loop-place.invariant ∙ ap (sources_before items) all
