use Rattle.std.proofs.Common.{List, ◌++◌, ◌∷◌, [], ◌∙◌, map, ap, sym, ◌≡◌, arith}
use Rattle.fx_type.specs.declared.kind.FxType.{FxType}
use Rattle.math_list.specs.Numbers.{numbers_from}
use Rattle.dg_model.specs.Attributes.{attributes_of}
use Rattle.dg_model.specs.Wires.{type_into, types_into}
use Rattle.math_list.proofs.Numbers.{map_last}
use Rattle.hw_build.proofs.block_inputs.put_types.Goals as goal

pub loop-input-preserved : goal.loop-input-preserved
loop-input-preserved c =
    let f = type_into c.args.checked.now.diagram (attributes_of c.args.checked.now.diagram) c.args.block in
    rw c.in_ok-push.ensures.items
    (ap (λ (xs : List FxType). xs ++ c.type_into.result ∷ []) c.loop-input.invariant
    ∙ ap (λ (t : FxType). map f (numbers_from 1 c.loop-input.input) ++ t ∷ []) c.type_into.ensures
    ∙ sym (map_last f c.loop-input.input))

pub loop-input-init : goal.loop-input-init
loop-input-init c = c.requires.none

pub returns : goal.returns
returns c =
    let done : c.loop-input.input ≡ c.args.one.now.inputs = omega (arith, c.loop-input.auto.input-end, c.loop-input-test.false) in
    c.loop-input.invariant ∙ ap (types_into c.args.checked.now.diagram (attributes_of c.args.checked.now.diagram) c.args.block) done
