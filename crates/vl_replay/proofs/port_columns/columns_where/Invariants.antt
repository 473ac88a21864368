use Rattle.std.proofs.Common.{◌≡◌, take, filter}
use Rattle.vl_replay.specs.Columns.{columns_of}
use Rattle.vl_replay.specs.inner.Samplers.{carries}
use Rattle.vl_replay.proofs.port_columns.columns_where.Given as goal

abbrev pub invariant-loop-port : goal.invariant-loop-port
invariant-loop-port l = l.columns ≡ columns_of (filter (carries l.inputs l.stalls) (take l.port-index l.ports))
