use Rattle.dg_model.specs.Attributes.{attributes_of}
use Rattle.dg_sim.proofs.RuleEquations.{same_rule}
use Rattle.dg_sim.proofs.Growth.{grows_same}
use Rattle.dg_sim.proofs.handing.hand_on.Goals as goal

pub returns : goal.returns
returns c =
    let diagram = c.args.turn.checked.now.diagram in
    let from = c.offered_entry-from in
    record {
      grows = grows_same c.args.program.now;
      memories = λ are. are;
      made = same_rule diagram (attributes_of diagram) c.args.program.now c.args.turn.cell c.args.turn.place
          c.args.port c.args.element from.result from.ensures.reads
          (from.ensures.before c.args.turn.cell c.requires.now) c.requires.hands;
    }
