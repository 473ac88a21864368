use Rattle.std.proofs.Common.{◌≡◌, length, ap, sym, subst, arith}
use Rattle.fx_tables.specs.declared.table.Rows.{Rows as Table}
use Rattle.vl_ast.specs.declared.modules.Module.{Module}
use Rattle.vl_ast.specs.Conditions.{BreaksNone}
use Rattle.vl_ast.specs.Driven.{stimulus_ports}
use Rattle.vl_replay.specs.inner.Play.{IsScoreOf}
use Rattle.vl_replay.proofs.replay.Replay.new.Goals as goal

pub score_of-requires : goal.score_of-requires
score_of-requires c = record {
  sound = subst (λ (m : Module). BreaksNone m) (sym c.module.ensures) c.requires.sound;
  columns = subst (λ (m : Module). c.args.stimulus.columns ≡ length (stimulus_ports m)) (sym c.module.ensures) c.requires.columns;
}

pub begin-requires : goal.begin-requires
begin-requires c =
    let lines : c.in-Ok.score.stimulus.lines ≡ c.args.stimulus.lines = ap (λ (table : Table). table.lines) c.in-Ok.ensures.stimulus in
    record {
      ready = c.requires.ready;
      row = c.requires.row;
      outputs = c.requires.outputs;
      score = subst (λ (m : Module). IsScoreOf m c.in-Ok.score) c.module.ensures c.in-Ok.ensures.score;
      few = let few = c.requires.few in omega (arith, few, lines);
    }
