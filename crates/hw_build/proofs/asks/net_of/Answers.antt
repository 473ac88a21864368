use Rattle.std.proofs.Common.{◌≡◌, ◌<◌, [], ◌∙◌, ℕ, List, Some, length, ap, sym, refl, subst, slice_get, slice_index_or, arith}
use Rattle.std.proofs.lemmas.Option.{get_or_from_slice_get, same_Some, slice_get_read, slice_get_within, slice_get-get_or}
use Rattle.std.specs.Prelude.{get_or}
use Rattle.math_list.proofs.Places.{there_map}
use Rattle.hw_build.specs.declared.wants.Seat.{Seat}
use Rattle.hw_build.specs.inner.Wants.{net_at}
use Rattle.hw_build.proofs.asks.net_of.Goals as goal

abbrev no_seat : Seat
no_seat = record { class = 0; place = 0 }

-- what was read at the place of a seat is the list that stands there
same_own : (answers : List (List ℕ)) (class : ℕ) (own read : List ℕ) → slice_get answers class ≡ Some own → read ≡ get_or answers class read → ◌≡◌ {A = List ℕ} own read
same_own answers class own read is at = same_Some own read (sym is ∙ slice_get_read answers (length answers) class read refl (slice_get_within answers class own is) at)

pub bounds-seats-want : goal.bounds-seats-want
bounds-seats-want c = rw c.in-Some.is at c.requires.number

pub bounds-answers-seat : goal.bounds-answers-seat
bounds-answers-seat c =
    let inside = rw c.in-Some.is at c.requires.number in
    let seat : Seat = slice_index_or c.args.seats.now c.in-Some.want no_seat in
    let place = c.requires.places.each c.in-Some.want seat (slice_get-get_or c.args.seats.now c.in-Some.want no_seat inside) in
    slice_get_within c.args.answers.now seat.class place.own place.is

pub bounds-own-seat : goal.bounds-own-seat
bounds-own-seat c =
    let inside = rw c.in-Some.is at c.requires.number in
    let seat : Seat = slice_index_or c.args.seats.now c.in-Some.want no_seat in
    let place = c.requires.places.each c.in-Some.want seat (slice_get-get_or c.args.seats.now c.in-Some.want no_seat inside) in
    let same = same_own c.args.answers.now seat.class place.own c.index-answers-seat.result place.is c.index-answers-seat.is in
    subst (λ (xs : List ℕ). seat.place < length xs) (same ∙ sym c.as_slice-own.ensures) place.below

pub returns-in-Some : goal.returns-in-Some
returns-in-Some c =
    let inside = rw c.in-Some.is at c.requires.number in
    let seat : Seat = slice_index_or c.args.seats.now c.in-Some.want no_seat in
    let at : slice_get c.args.seats.now c.in-Some.want ≡ Some seat = slice_get-get_or c.args.seats.now c.in-Some.want no_seat inside in
    let place = c.requires.places.each c.in-Some.want seat at in
    let same = same_own c.args.answers.now seat.class place.own c.index-answers-seat.result place.is c.index-answers-seat.is ∙ sym c.as_slice-own.ensures in
    let own = get_or_from_slice_get c.args.answers.now seat.class place.own [] place.is ∙ same in
    rw c.in-Some.is (there_map (net_at c.args.answers.now) c.args.seats.now c.in-Some.want seat at ∙ ap (λ (xs : List ℕ). Some (slice_index_or xs seat.place 0)) own)

pub offset_bounds-seats-want : goal.offset_bounds-seats-want
offset_bounds-seats-want c =
    let inside = rw c.in-Some.is at c.requires.number in
    omega (arith, inside)

pub offset_bounds-answers-seat : goal.offset_bounds-answers-seat
offset_bounds-answers-seat c =
    let inside = rw c.in-Some.is at c.requires.number in
    let seat : Seat = slice_index_or c.args.seats.now c.in-Some.want no_seat in
    let place = c.requires.places.each c.in-Some.want seat (slice_get-get_or c.args.seats.now c.in-Some.want no_seat inside) in
    omega (arith, slice_get_within c.args.answers.now seat.class place.own place.is)
