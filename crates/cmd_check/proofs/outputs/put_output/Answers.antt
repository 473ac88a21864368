use Rattle.std.proofs.Common.{◌++◌, ◌<◌, ℕ, List, All, codes, drop, length, ap, sym, subst}
use Rattle.hw_rules.specs.Times.{timing_in}
use Rattle.fx_io.proofs.SinkBytes.{rest-whole}
use Rattle.cmd_check.specs.CheckText.{head_text, steps_text}
use Rattle.cmd_check.proofs.PieceBytes.{adds_as, both}
use Rattle.cmd_check.proofs.OutputLines.{one_output, output_is}
use Rattle.cmd_check.proofs.PieceTexts.{head_is}
use Rattle.cmd_check.proofs.outputs.put_output.Goals as goal

pub returns-clause-puts : goal.returns-clause-puts
returns-clause-puts g c =
    let diagram = c.args.checked.now.diagram in
    let plan = c.args.planned.now.resolved in
    let timing = timing_in c.args.planned.now.times in
    let path : List ℕ = drop c.path_to-start.result c.path_to-start.new.room in
    let bytes : List ℕ = (head_text c.args.name.now c.args.clocks ++ steps_text diagram path) ++ codes "\n" in
    let whole = rest-whole c.path_to-start.new.room c.path_to-start.result in
    record {
      bytes = bytes;
      line = λ earlier.
          one_output diagram plan timing c.args.name.now c.args.block path earlier (earlier ++ bytes) c.path_to-start.ensures.tight
          (ap (λ (line : List ℕ). earlier ++ line) (output_is diagram plan timing c.args.name.now path c.args.block c.args.clocks c.requires.clocks));
      puts = both (both (adds_as (head_is c.args.name.now c.args.clocks)
          (both (both (both c.put.ensures c.put-2.ensures) c.put_named.ensures) c.put-3.ensures))
          (adds_as (ap (λ (blocks : List ℕ). steps_text diagram blocks) whole) c.put_steps.ensures))
          c.put-4.ensures;
    }

pub path_to-start-requires-clause-latencies : goal.path_to-start-requires-clause-latencies
path_to-start-requires-clause-latencies g c = c.requires.times.latencies

pub returns-clause-room : goal.returns-clause-room
returns-clause-room g c = c.path_to-start.ensures.room

pub put_steps-requires : goal.put_steps-requires
put_steps-requires g c =
    subst (λ (blocks : List ℕ). All (λ block. block < length c.args.checked.now.diagram.blocks) blocks) (sym (rest-whole c.path_to-start.new.room c.path_to-start.result)) c.path_to-start.ensures.there
