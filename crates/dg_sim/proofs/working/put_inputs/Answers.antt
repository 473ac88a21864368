use Rattle.std.proofs.Common.{ℕ, ◌+◌, ◌++◌, List, [], ◌∷◌, ap, ap₂, sym, ◌∙◌, subst, arith, append_assoc, length-append}
use Rattle.fx_type.specs.declared.kind.FxType.{FxType}
use Rattle.dg_model.specs.Attributes.{attributes_of}
use Rattle.dg_model.specs.Wires.{type_into}
use Rattle.dg_tables.specs.Entries.{Reads}
use Rattle.dg_sim.proofs.RuleEquations.{read_more}
use Rattle.math_list.proofs.Numbers.{map_last}
use Rattle.dg_sim.proofs.working.put_inputs.Goals as goal

pub loop-i-preserved : goal.loop-i-preserved
loop-i-preserved c =
    let inv = c.loop-i.invariant in
    let new = c.in_ok-put_argument.ensures in
    let i : ℕ = c.loop-i.i in
    let diagram = c.args.turn.checked.now.diagram in
    let place = c.args.turn.place in (
      inv.0 ++ new.0 ∷ [],
      length-append inv.0 (new.0 ∷ []) ∙ omega (arith, inv.1),
      new.1 ∙ ap (λ (xs : List ℕ). xs ++ new.0 ∷ []) inv.2 ∙ append_assoc c.args.args.now inv.0 (new.0 ∷ []),
      read_more diagram (attributes_of diagram) c.args.places.now place.block place.element c.args.turn.cell inv.0
          new.0 i inv.1 new.2 (subst (λ (port : ℕ). Reads diagram
          (attributes_of diagram) c.args.places.now place.block port place.element new.0) (omega arith) new.3)
          inv.3,
      new.4 ∙ ap₂ (λ (xs : List FxType) (kind : FxType). xs ++ kind ∷ []) inv.4 c.type_of_input-kind.ensures
          ∙ append_assoc c.args.types.now _ (type_into diagram (attributes_of diagram) place.block (i + 1) ∷ [])
          ∙ ap (λ (xs : List FxType). c.args.types.now ++ xs) (sym (map_last (type_into diagram (attributes_of diagram) place.block) i)),
    )

pub put_argument-requires-clause-read : goal.put_argument-requires-clause-read
put_argument-requires-clause-read c = c.requires.read (c.loop-i.i + 1) (omega arith) (omega (arith, c.loop-i-test.true))
