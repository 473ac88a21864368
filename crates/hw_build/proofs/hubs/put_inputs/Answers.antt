use Rattle.std.proofs.Common.{◌≡◌, ℕ, [], ap, ◌∙◌}
use Rattle.std.specs.Prelude.{slice_index_or}
use Rattle.std.proofs.lemmas.Option.{slice_get-get_or}
use Rattle.fx_type.specs.declared.kind.FxType.{FxType}
use Rattle.dg_model.specs.Attributes.{attributes_of}
use Rattle.hw_net.specs.declared.netlist.NetKind.TheVariants.{Comb}
use Rattle.hw_net.specs.declared.netlist.NetOp.TheVariants.{Input}
use Rattle.hw_net.specs.Growing.{with_net}
use Rattle.hw_build.specs.inner.HubPlaces.{input_net}
use Rattle.hw_build.proofs.ElementEntries.{typed_net}
use Rattle.hw_build.proofs.HubSteps.{inputs_more}
use Rattle.hw_build.proofs.hubs.put_inputs.Goals as goal

pub loop-column-preserved : goal.loop-column-preserved
loop-column-preserved c =
    let diagram = c.args.checked.now.diagram in
    let k : ℕ = c.loop-column.column in
    let block : ℕ = slice_index_or c.args.inputs.now k 0 in
    let type : FxType = (attributes_of diagram).type_at block 1 in
    let at = slice_get-get_or c.args.inputs.now k 0 c.loop-column-test.true in
    let made : c.put_comb.new.net ≡ with_net c.loop-column.net (input_net c.result-kind.result c.in-Ok.number) =
    typed_net c.loop-column.net c.put_comb.new.net c.word_of.result c.result-kind.result
    (Comb (Input c.in-Ok.number) []) c.word_of.ensures c.in_ok-place.ensures.grown in
    let typed : c.result-kind.result ≡ type = c.result-kind.ensures 1 in
    let number : c.in-Ok.number ≡ k = c.in-Ok.ensures.1 in
    inputs_more diagram c.args.net.now c.loop-column.net c.put_comb.new.net c.args.inputs.now k block c.loop-column.invariant at
    (made ∙ ap (λ (t : FxType). with_net c.loop-column.net (input_net t c.in-Ok.number)) typed ∙ ap (λ (n : ℕ). with_net c.loop-column.net (input_net type n)) number)
