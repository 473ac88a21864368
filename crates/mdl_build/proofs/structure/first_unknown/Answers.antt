use Rattle.std.proofs.Common.{ℕ, not, refl, sym, ap, ◌∙◌, arith}
use Rattle.std.specs.Prelude.{is_none, is_some}
use Rattle.mdl_build.specs.Rules.{type_at}
use Rattle.mdl_build.proofs.FindSteps.{find_next, find_here, find_end}
use Rattle.mdl_build.proofs.structure.first_unknown.Goals as goal

pub loop-place-init : goal.loop-place-init
loop-place-init c = refl

pub type_at-requires : goal.type_at-requires
type_at-requires c = c.requires c.loop-place.place-index 0 c.loop-place-test.true

pub loop-place-preserved : goal.loop-place-preserved
loop-place-preserved c =
    let known = ap not (sym (ap is_some c.type_at.ensures) ∙ c.is_none.ensures ∙ ap not c.if-is_none.false) in
    c.loop-place.invariant ∙ find_next (λ (place : ℕ). is_none (type_at c.args.layout.now.items.now place)) c.args.places.now c.loop-place.place-index c.loop-place-test.true known

pub returns-then-is_none : goal.returns-then-is_none
returns-then-is_none c =
    let unknown = ap not (sym (ap is_some c.type_at.ensures) ∙ c.is_none.ensures ∙ ap not c.if-is_none.true) in
    sym (c.loop-place.invariant ∙ find_here (λ (place : ℕ). is_none (type_at c.args.layout.now.items.now place)) c.args.places.now c.loop-place.place-index c.loop-place-test.true unknown)

pub returns : goal.returns
returns c =
    sym (c.loop-place.invariant ∙ find_end (λ (place : ℕ). is_none (type_at c.args.layout.now.items.now place)) c.args.places.now c.loop-place.place-index (omega (arith, c.loop-place-test.false)))
