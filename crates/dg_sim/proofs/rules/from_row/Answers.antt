use Rattle.std.proofs.Common.{◌∙◌, ℕ, List, slice_get, ap, sym, subst}
use Rattle.dg_model.specs.Attributes.{attributes_of}
use Rattle.dg_model.specs.Wired.{root_input}
use Rattle.dg_tables.specs.declared.roots.Root.{Root}
use Rattle.dg_sim.specs.inner.Columns.{AreSorted}
use Rattle.dg_sim.proofs.Growth.{grows_same}
use Rattle.dg_sim.proofs.RootOrder.{roots_sorted}
use Rattle.dg_sim.proofs.RootInputs.{input_rule, input_there}
use Rattle.dg_sim.proofs.rules.from_row.Goals as goal

pub find_root-column-requires : goal.find_root-column-requires
find_root-column-requires c =
    let diagram = c.args.turn.checked.now.diagram in
    let there = input_there diagram c.args.turn.place c.args.turn.block.now c.requires.turn.rules.checked.wired
    c.root_elements_are_listed.ensures.inputs c.requires.turn.shown c.args.number c.requires.kind.0
    c.requires.kind.1 in
    record {
      sorted = subst AreSorted (sym c.requires.roots) (roots_sorted root_input (λ (block : ℕ). (attributes_of diagram).width_at block 1) diagram (attributes_of diagram));
      there = (there.0, ap (λ (xs : List Root). slice_get xs there.0) c.requires.roots ∙ there.1);
    }

pub returns : goal.returns
returns c =
    let diagram = c.args.turn.checked.now.diagram in
    let there = ap (λ (xs : List Root). slice_get xs c.find_root-column.result) (sym c.requires.roots) ∙ c.find_root-column.ensures in
    record {
      grows = grows_same c.args.program.now;
      memories = λ are. are;
      made = input_rule diagram c.args.program.now c.args.turn.cell c.args.turn.place c.args.turn.block.now
          c.requires.turn.shown.block_is c.requires.turn.rules.checked.wired
          c.root_elements_are_listed.ensures.inputs c.args.number c.requires.kind.0 c.find_root-column.result
          c.requires.kind.1 there;
    }
