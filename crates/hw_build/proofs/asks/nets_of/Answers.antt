use Rattle.std.proofs.Common.{◌≡◌, ℕ, Some, None, slice_index_or, slice_get}
use Rattle.std.proofs.lemmas.Option.{slice_get-get_or}
use Rattle.hw_build.specs.declared.asks.Ask.{Ask}
use Rattle.hw_build.specs.inner.Wants.{nets_at}
use Rattle.hw_build.proofs.AskLists.{nets_more}
use Rattle.hw_build.proofs.asks.nets_of.Goals as goal

abbrev no_ask : Ask
no_ask = record { hub = 0; want = None }

pub net_of-requires-clause-number : goal.net_of-requires-clause-number
net_of-requires-clause-number c =
    let i : ℕ = c.loop-ask.ask-index in
    c.requires.numbered.each i (slice_index_or c.args.list.now i no_ask) (slice_get-get_or c.args.list.now i no_ask c.loop-ask-test.true)

pub loop-ask-preserved : goal.loop-ask-preserved
loop-ask-preserved c =
    let i : ℕ = c.loop-ask.ask-index in
    let ask : Ask = slice_index_or c.args.list.now i no_ask in
    let at : slice_get c.args.list.now i ≡ Some ask = slice_get-get_or c.args.list.now i no_ask c.loop-ask-test.true in
    rw c.in_ok-push.ensures.appended (nets_more c.args.list.now (nets_at c.args.answers.now c.args.seats.now) c.loop-ask.nets i c.net_of.result ask c.loop-ask.invariant at c.net_of.ensures)
