use Rattle.std.proofs.Common.{◌<◌, ℕ, List, All, length, sym, subst}
use Rattle.dg_model.specs.Attributes.{attributes_of}
use Rattle.cmd_check.proofs.Whole.{blocks_there}
use Rattle.cmd_check.proofs.gathering.gather.Goals as goal

pub clocks_of_all-requires-clause-there : goal.clocks_of_all-requires-clause-there
clocks_of_all-requires-clause-there c =
    let diagram = c.args.checked.now.diagram in
    subst (λ (blocks : List ℕ). All (λ block. block < length diagram.blocks) blocks) (sym c.as_slice-2.ensures)
    (blocks_there diagram (c.root_elements_are_listed.ensures.outputs diagram (attributes_of diagram) c.keeps_rules.ensures.checked.wired) c.in_ok-outputs.outputs c.in_ok-outputs.ensures)
