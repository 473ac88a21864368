use Rattle.std.proofs.Common.{◌≡◌, ◌<◌, ℕ, List, length, slice_get, slice_index, Some, arith, refl, length-set, rules, FitsSigned}
use Rattle.std.specs.Int.{w128}
use Rattle.std.proofs.lemmas.Int.{to_z-of_z}
use Rattle.std.proofs.lemmas.Option.{slice_get_read}
use Rattle.hw_net.specs.declared.netlist.Net.{Net}
use Rattle.hw_run.specs.State.{row_of}
use Rattle.hw_run.proofs.Sweep.{swept-more, swept-all}
use Rattle.hw_run.proofs.state.sweep.Goals as goal

pub loop-place-preserved : goal.loop-place-preserved
loop-place-preserved c =
    let nets : List Net = c.args.net.now.nets in
    let i : ℕ = c.loop-place.place-index in
    let one : Net = c.index-nets-k.result in
    let inv = c.loop-place.invariant in
    let e = to_z-of_z w128 c.net_value-value.result (record { sfits = c.net_value-value.type_inv }) in
    let place : ℕ = slice_index c.args.order.now i in
    let within : place < length nets = c.requires.order.there i c.loop-place-test.true in
    let here : slice_get nets place ≡ Some one = slice_get_read nets (length nets) place one refl within (rw inv.same at c.index-nets-k.is) in
    let f : FitsSigned w128 (row_of c.args.now.now place) = search rules in
    let old = to_z-of_z w128 (row_of c.args.now.now place) f in
    let goes = rw (old, c.cycles-cycles.ensures) at c.net_value-value.ensures in
    rw e (record {
      same = inv.same;
      size = omega (arith, length-set c.loop-place.next place c.net_value-value.result, inv.size);
      swept = swept-more nets c.args.order.now c.args.net.now.cycles c.args.clock (row_of c.args.inputs.now)
          (row_of c.args.now.now) c.requires.order c.loop-place.next i one c.net_value-value.result inv.size
          c.loop-place-test.true here inv.swept goes;
    })

pub returns : goal.returns
returns c =
    let done : c.loop-place.place-index ≡ length c.args.order.now = omega arith in
    record {
      each = swept-all c.args.net.now.nets c.args.order.now c.args.net.now.cycles c.args.clock
          (row_of c.args.inputs.now) (row_of c.args.now.now) c.requires.order c.loop-place.next
          (rw done at c.loop-place.invariant.swept);
    }
