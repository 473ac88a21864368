use Rattle.std.proofs.Common.{◌≡◌, ◌+◌, ◌*◌, slice_index_or, arith}
use Rattle.hw_build.specs.inner.RootOutputs.{clocks_to}
use Rattle.hw_build.proofs.OutputColumns.{clocks_are}
use Rattle.hw_build.proofs.Within.{entry_read}
use Rattle.hw_build.proofs.outputs.output_of.Goals as goal

pub bounds-as_slice-block : goal.bounds-as_slice-block
bounds-as_slice-block c = entry_read _ c.args.block _ c.as_slice.result.now c.requires.there c.requires.can.designed.scheduled.timed.size c.as_slice.ensures

pub bounds-as_slice-block-2 : goal.bounds-as_slice-block-2
bounds-as_slice-block-2 c = entry_read _ c.args.block _ c.as_slice-2.result.now c.requires.there c.requires.can.slots.ready.size c.as_slice-2.ensures

pub overflow_mul-latency : goal.overflow_mul-latency
overflow_mul-latency c =
    let all = clocks_are c.args.design c.args.block c.from.result c.as_slice.result.now c.as_slice-2.result.now
    c.requires.can.slots c.requires.there c.as_slice.ensures c.as_slice-2.ensures c.from.ensures in
    omega (arith, all, c.requires.small)

pub overflow_add-latency : goal.overflow_add-latency
overflow_add-latency c =
    let all = clocks_are c.args.design c.args.block c.from.result c.as_slice.result.now c.as_slice-2.result.now
    c.requires.can.slots c.requires.there c.as_slice.ensures c.as_slice-2.ensures c.from.ensures in
    omega (arith, all, c.requires.small)

pub returns : goal.returns
returns c =
    let all = clocks_are c.args.design c.args.block c.from.result c.as_slice.result.now c.as_slice-2.result.now
    c.requires.can.slots c.requires.there c.as_slice.ensures c.as_slice-2.ensures c.from.ensures in
    let clock : slice_index_or c.as_slice.result.now c.args.block 0 * c.from.result
    + slice_index_or c.as_slice-2.result.now c.args.block 0 ≡ clocks_to c.args.design c.args.block =
    omega (arith, all) in
    rw (c.width_into-width.ensures, c.hub_at-net.ensures, clock) at c.port_of.ensures

pub offset_bounds-as_slice-block : goal.offset_bounds-as_slice-block
offset_bounds-as_slice-block c =
    let low = entry_read _ c.args.block _ c.as_slice.result.now c.requires.there c.requires.can.designed.scheduled.timed.size c.as_slice.ensures in
    omega (arith, low)

pub offset_bounds-as_slice-block-2 : goal.offset_bounds-as_slice-block-2
offset_bounds-as_slice-block-2 c =
    let low = entry_read _ c.args.block _ c.as_slice-2.result.now c.requires.there c.requires.can.slots.ready.size c.as_slice-2.ensures in
    omega (arith, low)
