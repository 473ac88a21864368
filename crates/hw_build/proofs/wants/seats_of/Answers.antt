use Rattle.std.proofs.Common.{arith, ◌≡◌, ℕ, ◌++◌, ◌∷◌, [], List, length, Some, None, sym, subst, slice_index_or, slice_get}
use Rattle.std.proofs.lemmas.Option.{slice_get-get_or}
use Rattle.hw_build.specs.declared.wants.Class.{Class}
use Rattle.hw_build.specs.declared.wants.Feed.{Feed}
use Rattle.hw_build.specs.declared.wants.Seat.{Seat}
use Rattle.hw_build.specs.declared.wants.Want.{Want}
use Rattle.hw_build.specs.inner.Wants.{AreIndexed, AreSeated}
use Rattle.hw_build.proofs.Seats.{seated_none, indexed_none, seated_more}
use Rattle.hw_build.proofs.wants.seats_of.Goals as goal

abbrev no_want : Want
no_want = record { feed = record { hub = 0; frame = record { period = 0; latency = 0 }; first = None }; to = record { shift = 0; period = 0 } }

pub loop-want-init : goal.loop-want-init
loop-want-init c =
    subst (λ (xs : List Class). AreSeated c.args.wants.now xs c.new-seats.result.items 0 × AreIndexed xs c.args.classes.now.numbers.entries) (sym c.requires.list)
    (subst (λ (index : List (Feed × ℕ)). AreSeated c.args.wants.now [] c.new-seats.result.items 0 × AreIndexed [] index) (sym c.requires.numbers)
    (subst (λ (xs : List Seat). AreSeated c.args.wants.now [] xs 0) (sym c.new-seats.ensures.items) (seated_none c.args.wants.now), indexed_none))

pub seat_for-requires : goal.seat_for-requires
seat_for-requires c = c.loop-want.invariant.1

pub loop-want-preserved : goal.loop-want-preserved
loop-want-preserved c =
    let i : ℕ = c.loop-want.want-index in
    let want : Want = slice_index_or c.args.wants.now i no_want in
    let at : slice_get c.args.wants.now i ≡ Some want = slice_get-get_or c.args.wants.now i no_want c.loop-want-test.true in
    let more : c.push.new.self.items ≡ c.loop-want.seats.items ++ c.in_ok-seat.seat ∷ [] = c.in_ok-push.ensures.items in (
      rw more (seated_more c.args.wants.now c.loop-want.classes.list.items c.seat_for.new.classes.list.items
          c.loop-want.seats.items i want c.in_ok-seat.seat c.loop-want.invariant.0 at c.in_ok-seat.ensures.is),
      c.in_ok-seat.ensures.indexed,
    )

pub returns : goal.returns
returns c =
    let done : c.loop-want.want-index ≡ length c.args.wants.now = omega (arith, c.loop-want-test.false, c.loop-want.auto.want-index-end) in
    subst (λ (n : ℕ). AreSeated c.args.wants.now c.loop-want.classes.list.items c.loop-want.seats.items n) done c.loop-want.invariant.0
