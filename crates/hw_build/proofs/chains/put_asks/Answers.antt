use Rattle.std.proofs.lemmas.Result.{IfOk-weaker}
use Rattle.hw_build.specs.inner.Wants.{nets_at}
use Rattle.hw_build.proofs.Classes.{places_are, wants_are_met}
use Rattle.hw_build.proofs.chains.put_asks.Goals as goal

pub put_classes-requires-clause-classes : goal.put_classes-requires-clause-classes
put_classes-requires-clause-classes c =
    let seated = rw c.as_slice.ensures.value at c.in_ok-seats.ensures in
    rw c.as_slice-2.ensures.value (seated.sound c.args.net.now c.requires.wants)

pub nets_of-requires-clause-numbered : goal.nets_of-requires-clause-numbered
nets_of-requires-clause-numbered c =
    let seated = rw c.as_slice.ensures.value at c.in_ok-seats.ensures in
    rw (c.as_slice-3.ensures.value, c.as_slice-4.ensures.value, seated.size) c.requires.numbered

pub nets_of-requires-clause-places : goal.nets_of-requires-clause-places
nets_of-requires-clause-places c =
    let seated = rw c.as_slice.ensures.value at c.in_ok-seats.ensures in
    let answered = rw c.as_slice-2.ensures.value at c.in_ok-answers.ensures in
    rw (c.as_slice-4.ensures.value, c.as_slice-5.ensures.value)
    (places_are c.args.net.now c.put_classes.new.net c.args.asks.now.wants.items
    c.seats_of.new.classes.list.items c.in_ok-seats.seats.items c.in_ok-answers.answers.items seated
    answered)

pub returns : goal.returns
returns c =
    let seated = rw c.as_slice.ensures.value at c.in_ok-seats.ensures in
    let answered = rw c.as_slice-2.ensures.value at c.in_ok-answers.ensures in
    let met = wants_are_met c.args.net.now c.put_classes.new.net c.args.asks.now.wants.items
    c.seats_of.new.classes.list.items c.in_ok-seats.seats.items c.in_ok-answers.answers.items seated answered in
    IfOk-weaker c.nets_of.result _ _ (λ nets are. record { numbers = nets_at c.in_ok-answers.answers.items c.in_ok-seats.seats.items; met = met; are = are })
    (rw (c.as_slice-3.ensures.value, c.as_slice-4.ensures.value, c.as_slice-5.ensures.value) at c.nets_of.ensures)
