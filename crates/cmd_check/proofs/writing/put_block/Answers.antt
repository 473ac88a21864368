use Rattle.std.proofs.Common.{ℕ, List, ap}
use Rattle.std.specs.Prelude.{slice_index_or}
use Rattle.hw_rules.specs.Times.{timing_in}
use Rattle.cmd_check.proofs.PieceBytes.{adds_as, both}
use Rattle.cmd_check.proofs.PieceTexts.{begun_is, block_is}
use Rattle.cmd_check.proofs.writing.put_block.Goals as goal

pub returns : goal.returns
returns g c =
    adds_as
    (block_is c.args.checked.now.diagram (timing_in c.args.planned.now.times) c.args.place
    c.block_at-block.result.now c.period.result
    (slice_index_or c.as_slice.result.now c.args.place 0) c.block_at-block.ensures c.period.ensures
    (ap (λ (lat : List ℕ). slice_index_or lat c.args.place 0) c.as_slice.ensures))
    (both (both (adds_as (begun_is c.block_at-block.result.now.path c.period.result
    (slice_index_or c.as_slice.result.now c.args.place 0))
    (both (both (both c.put.ensures c.put_path.ensures) c.put_period.ensures) c.put_named.ensures))
    c.put_ports.ensures) c.put-2.ensures)
