use Rattle.std.proofs.Common.{◌≡◌, ◌<◌, ℕ, List, All, length, ap, sym, ◌∙◌, subst, arith}
use Rattle.std.proofs.lemmas.List.{length-map}
use Rattle.dg_model.specs.Attributes.{attributes_of}
use Rattle.dg_model.specs.RootElements.{RootElement, root_inputs}
use Rattle.dg_model.specs.declared.diagram.Block.{Block}
use Rattle.dg_model.specs.declared.diagram.Diagram.{Diagram}
use Rattle.hw_names.specs.Columns.{AreColumnsFrom}
use Rattle.hw_build.specs.inner.HubPlaces.{HasHubs}
use Rattle.hw_build.proofs.HubStart.{hubs_are, inputs_there}
use Rattle.std.proofs.lemmas.Result.{IfOk-weaker}
use Rattle.hw_build.proofs.hubs.hubs_of.Goals as goal

pub put_inputs-requires-clause-none : goal.put_inputs-requires-clause-none
put_inputs-requires-clause-none c = c.requires.none

pub put_blocks-requires-clause-size : goal.put_blocks-requires-clause-size
put_blocks-requires-clause-size c =
    let count = ap (λ (xs : List ℕ). length xs) c.requires.are ∙ length-map (root_inputs c.args.checked.now.diagram (attributes_of c.args.checked.now.diagram)) (λ (e : RootElement). e.block) in
    omega (arith, c.in_ok-put_inputs.ensures.size, count)

pub put_inputs-requires-clause-there : goal.put_inputs-requires-clause-there
put_inputs-requires-clause-there c = inputs_there c.args.checked.now.diagram c.keeps_rules.ensures.checked c.root_elements_are_listed.ensures.inputs c.args.inputs.now c.requires.are

pub columns_of-requires : goal.columns_of-requires
columns_of-requires c =
    let blocks : c.as_slice.result.now ≡ c.args.checked.now.diagram.blocks = c.as_slice.ensures ∙ ap (λ (d : Diagram). d.blocks) c.diagram.ensures in
    subst (λ (bs : List Block). All (λ block. block < length bs) c.args.inputs.now) (sym blocks)
    (inputs_there c.args.checked.now.diagram c.keeps_rules.ensures.checked
    c.root_elements_are_listed.ensures.inputs c.args.inputs.now c.requires.are)

pub returns-in-Ok : goal.returns-in-Ok
returns-in-Ok c =
    let columns : List ℕ = c.as_slice-2.result.now in
    let least : AreColumnsFrom c.args.inputs.now columns 0 = subst (λ (cs : List ℕ). AreColumnsFrom c.args.inputs.now cs 0) (sym c.as_slice-2.ensures.value) c.in_ok-columns.ensures.least in
    IfOk-weaker c.of-widths.result _ _
    (λ widths are. subst (λ (fs : List (List ℕ)). HasHubs c.args.checked.now.diagram c.args.net.now c.put_blocks.new.net fs) (sym are)
    (hubs_are c.args.checked.now.diagram c.keeps_rules.ensures.checked c.root_elements_are_listed.ensures.inputs
    c.args.net.now c.put_inputs.new.net c.put_blocks.new.net c.args.inputs.now columns c.put_blocks.new.firsts
    c.requires.are c.in_ok-put_inputs.ensures least c.in-Ok.ensures))
    c.of-widths.ensures

pub put_blocks-requires-clause-columns : goal.put_blocks-requires-clause-columns
put_blocks-requires-clause-columns c =
    let blocks : c.as_slice.result.now ≡ c.args.checked.now.diagram.blocks = c.as_slice.ensures ∙ ap (λ (d : Diagram). d.blocks) c.diagram.ensures in
    ap (λ (columns : List ℕ). length columns) c.as_slice-2.ensures.value ∙ c.in_ok-columns.ensures.size ∙ ap (λ (bs : List Block). length bs) blocks

pub put_blocks-requires-clause-none : goal.put_blocks-requires-clause-none
put_blocks-requires-clause-none c = c.new-firsts.ensures
