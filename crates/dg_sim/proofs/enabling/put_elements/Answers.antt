use Rattle.std.proofs.Common.{ℕ, ◌++◌, List, [], ◌∷◌, ap, ◌∙◌, ◌<◌, subst, arith, append_assoc, append-nil, length-append, sym, refl}
use Rattle.std.proofs.lemmas.Option.{none-some}
use Rattle.fx_type.specs.declared.kind.FxType.{FxType}
use Rattle.fx_type.specs.declared.kind.FxType.TheVariants.{Logical}
use Rattle.dg_model.specs.Attributes.{attributes_of}
use Rattle.dg_sim.proofs.EnableTest.{elements_more}
use Rattle.dg_sim.proofs.Turns.{below_read}
use Rattle.dg_sim.proofs.enabling.put_elements.Goals as goal

pub loop-element-preserved : goal.loop-element-preserved
loop-element-preserved c =
    let inv = c.loop-element.invariant in
    let new = c.in_ok-put_argument.ensures in
    let diagram = c.args.turn.checked.now.diagram in (
      inv.0 ++ new.0 ∷ [],
      length-append inv.0 (new.0 ∷ []) ∙ omega (arith, inv.1),
      new.1 ∙ ap (λ (xs : List ℕ). xs ++ new.0 ∷ []) inv.2 ∙ append_assoc c.args.args.now inv.0 (new.0 ∷ []),
      elements_more diagram (attributes_of diagram) c.args.places.now c.args.turn.place.block c.args.turn.cell inv.0 new.0 c.loop-element.element inv.1 new.2 new.3 inv.3,
      inv.4 ++ Logical ∷ [],
      new.4 ∙ ap (λ (xs : List FxType). xs ++ Logical ∷ []) inv.5 ∙ append_assoc c.args.types.now inv.4 (Logical ∷ []),
      length-append inv.4 (Logical ∷ []) ∙ omega (arith, inv.6),
    )

pub put_argument-requires-clause-read : goal.put_argument-requires-clause-read
put_argument-requires-clause-read c =
    let diagram = c.args.turn.checked.now.diagram in
    below_read diagram (attributes_of diagram) c.args.turn.place.block 1 c.loop-element.element (subst (λ (n : ℕ). c.loop-element.element < n) c.requires.width c.loop-element-test.true)

pub loop-element-init : goal.loop-element-init
loop-element-init c = ([], refl, sym (append-nil c.args.args.now), (λ i j at. absurd (none-some j at)), [], sym (append-nil c.args.types.now), refl)
