use Rattle.std.proofs.Common.{◌≡◌, ◌<◌, ◌++◌, length, refl, sym, ap, ◌∙◌, true≢false, arith}
use Rattle.mdl_build.specs.declared.roles.Role.{Role}
use Rattle.mdl_build.specs.declared.roles.Role.TheVariants.{Other}
use Rattle.mdl_build.specs.Lines.{keeps_line, line_at}
use Rattle.mdl_build.specs.inner.Lines.{are_joined_before, lines_before, line_list}
use Rattle.mdl_build.proofs.LineLemmas.{lines_next, joined_next, joined_fails}
use Rattle.mdl_build.proofs.RoleLemmas.{roles_long, role_listed}
use Rattle.mdl_build.proofs.lines.put_lines.Goals as goal

pub loop-place-init : goal.loop-place-init
loop-place-init c = record { joined = refl; lines = c.requires.none }

pub add_line-requires-clause-within : goal.add_line-requires-clause-within
add_line-requires-clause-within c = omega (arith, c.loop-place-test.true, roles_long c.args.layout.now.items.now c.args.roles.now c.requires.roles)

pub add_line-requires-clause-role : goal.add_line-requires-clause-role
add_line-requires-clause-role c =
    role_listed c.args.layout.now.items.now c.args.roles.now c.loop-place.place Other c.requires.roles c.loop-place-test.true

pub returns-then-not-branch-clause-joined : goal.returns-then-not-branch-clause-joined
returns-then-not-branch-clause-joined c =
    let items = c.args.layout.now.items.now in
    let place = c.loop-place.place in
    let below : place < length items = omega (arith, c.loop-place-test.true, roles_long items c.args.roles.now c.requires.roles) in
    let role_is = role_listed items c.args.roles.now place Other c.requires.roles c.loop-place-test.true in
    sym (joined_fails items place below (ap (keeps_line items place) role_is ∙ sym c.in_ok-add_line.ensures.joined ∙ c.if-not-branch.true))

pub returns-then-not-branch-clause-lines : goal.returns-then-not-branch-clause-lines
returns-then-not-branch-clause-lines c = λ good. absurd (true≢false (sym good))

pub loop-place-preserved : goal.loop-place-preserved
loop-place-preserved c =
    let items = c.args.layout.now.items.now in
    let place = c.loop-place.place in
    let role_is = role_listed items c.args.roles.now place Other c.requires.roles c.loop-place-test.true in
    record {
      joined = joined_next items place c.loop-place.invariant.joined (ap (keeps_line items place) role_is ∙ sym c.in_ok-add_line.ensures.joined ∙ c.if-not-branch.false);
      lines =
          c.in_ok-add_line.ensures.pushed c.if-not-branch.false
          ∙ ap (λ (role : Role). c.loop-place.lines ++ line_list (line_at items place role)) (sym role_is)
          ∙ lines_next items place c.loop-place.lines c.loop-place.invariant.lines;
    }

pub returns-clause-joined : goal.returns-clause-joined
returns-clause-joined c =
    let items = c.args.layout.now.items.now in
    let all : length items ≡ c.loop-place.place = omega (arith, c.loop-place-test.false, c.loop-place.auto.place-end, roles_long items c.args.roles.now c.requires.roles) in
    sym (ap (are_joined_before items) all ∙ c.loop-place.invariant.joined)

pub returns-clause-lines : goal.returns-clause-lines
returns-clause-lines c =
    let items = c.args.layout.now.items.now in
    let all : c.loop-place.place ≡ length items = omega (arith, c.loop-place-test.false, c.loop-place.auto.place-end, roles_long items c.args.roles.now c.requires.roles) in
    λ good. c.loop-place.invariant.lines ∙ ap (lines_before items) all
