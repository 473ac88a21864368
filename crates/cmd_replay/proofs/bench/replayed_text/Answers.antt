use Rattle.std.proofs.Common.{ℕ, List, sym, subst}
use Rattle.cmd_replay.specs.Replayed.{IsReplayOf}
use Rattle.cmd_replay.specs.Responding.{IsRefusedReplay}
use Rattle.cmd_replay.proofs.NoResponse.{no-module, no-rows, no-sound}
use Rattle.cmd_replay.proofs.bench.replayed_text.Goals as goal

pub returns-in-Err-NotVerilog : goal.returns-in-Err-NotVerilog
returns-in-Err-NotVerilog c =
    no-module c.args.verilog.now c.args.stimulus.now c.in-Err-NotVerilog._line
    (subst (IsRefusedReplay c.args.verilog.now c.args.stimulus.now) c.in-Err-NotVerilog.field-0-is
    c.in-Err-NotVerilog.ensures.refused)

pub returns-in-Err-Broken : goal.returns-in-Err-Broken
returns-in-Err-Broken c =
    no-sound c.args.verilog.now c.args.stimulus.now c.unique.ensures c.in-Err-Broken.fault
    (subst (IsRefusedReplay c.args.verilog.now c.args.stimulus.now) c.in-Err-Broken.field-0-is
    c.in-Err-Broken.ensures.refused)

pub returns-in-Err-BadTable : goal.returns-in-Err-BadTable
returns-in-Err-BadTable c =
    no-rows c.args.verilog.now c.args.stimulus.now c.unique.ensures c.in-Err-BadTable._line c.in-Err-BadTable._cause
    (subst (IsRefusedReplay c.args.verilog.now c.args.stimulus.now) c.in-Err-BadTable.field-0-is
    c.in-Err-BadTable.ensures.refused)

pub returns : goal.returns
returns c =
    let made = c.in-Ok.ensures.made in
    subst (λ (text : List ℕ). IsReplayOf c.args.verilog.now c.args.stimulus.now text) (sym (c.in_ok-lines.ensures made.table made.sampled)) made.replay
