use Rattle.std.proofs.Common.{◌≡◌, ◌-◌, length}
use Rattle.std.specs.List.{find, range_with_len}
use Rattle.mdl_build.specs.Lookup.{defaults_of, has_defaults}
use Rattle.mdl_build.proofs.lookup.defaults_of.Given as goal

abbrev pub invariant-loop-place : goal.invariant-loop-place
invariant-loop-place l =
    defaults_of l.layout.items.now l.block_type
    ≡ find (has_defaults l.layout.items.now l.block_type) (range_with_len l.place (length l.layout.items.now - l.place))
