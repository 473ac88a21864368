use Rattle.std.proofs.Common.{◌≡◌, drop, filter, fold, map, max}
use Rattle.vl_ast.specs.Control.{is_number_output, is_stallable}
use Rattle.vl_ast.specs.Attributes.{clocks_of}
use Rattle.st_wrap.specs.Pace.{latest_in, samples_late}
use Rattle.st_wrap.proofs.pace.latest_in.Given as goal

abbrev pub invariant-loop-port : goal.invariant-loop-port
invariant-loop-port l =
    fold max l.latest (map (samples_late (clocks_of l.core)) (filter (is_number_output (is_stallable l.core)) (drop l.port-index l.core.ports))) ≡ latest_in l.core
