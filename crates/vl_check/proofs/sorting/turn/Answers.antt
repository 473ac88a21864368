use Rattle.std.proofs.Common.{arith, ◌≡◌, ◌<◌, ◌≤◌, ◌+◌, ◌-◌, length, take, slice_index, ap, subst, ◌∙◌}
use Rattle.vl_check.proofs.Turns.{last-is, top-is, step-close, step-open, step-pass, step-cycle}
use Rattle.vl_check.proofs.sorting.turn.Goals as goal

pub returns-then-at-count_of : goal.returns-then-at-count_of
returns-then-at-count_of c =
    let is = last-is c.args.stack.now.items (length c.as_slice.result.now) c.index-v.result.now (ap length c.as_slice.ensures.value) c.requires.some c.index-v.ensures in
    let full = subst (λ n. n < slice_index c.args.stage.now c.index-v.result.now) c.count_of.ensures.is c.if-at-count_of.true in
    step-close c.args.reads.now c.args.stage.now c.args.stack.now.items c.args.order.now.items c.truncate.new.self.items c.put.new.items.items c.index-v.result.now
    c.requires.state c.requires.some is full (c.truncate.ensures.items ∙ ap (λ n. take (n - 1) c.args.stack.now.items) (ap length c.as_slice.ensures.value)) c.in_ok-put.ensures

pub overflow_sub-at : goal.overflow_sub-at
overflow_sub-at c =
    let is = last-is c.args.stack.now.items (length c.as_slice.result.now) c.index-v.result.now (ap length c.as_slice.ensures.value) c.requires.some c.index-v.ensures in
    (top-is c.args.reads.now c.args.stage.now c.args.stack.now.items c.args.order.now.items c.index-v.result.now c.requires.state c.requires.some is).some

pub returns-then-seen-eq0 : goal.returns-then-seen-eq0
returns-then-seen-eq0 c =
    let is = last-is c.args.stack.now.items (length c.as_slice.result.now) c.index-v.result.now (ap length c.as_slice.ensures.value) c.requires.some c.index-v.ensures in
    let room = subst (λ n. slice_index c.args.stage.now c.index-v.result.now ≤ n) c.count_of.ensures.is c.if-at-count_of.false in
    step-open c.args.reads.now c.args.stage.now c.args.stack.now.items c.args.order.now.items c.put-then-seen-eq0.new.items.items c.index-v.result.now c.read_at-x.result
    c.requires.state c.requires.some is room c.read_at-x.ensures.is c.read_at-x.ensures.within c.if-seen-eq0.true c.in_ok-put-2.ensures

pub returns-then-seen-count_of : goal.returns-then-seen-count_of
returns-then-seen-count_of c =
    let is = last-is c.args.stack.now.items (length c.as_slice.result.now) c.index-v.result.now (ap length c.as_slice.ensures.value) c.requires.some c.index-v.ensures in
    let room = subst (λ n. slice_index c.args.stage.now c.index-v.result.now ≤ n) c.count_of.ensures.is c.if-at-count_of.false in
    step-pass c.args.reads.now c.args.stage.now c.args.stack.now.items c.args.order.now.items c.index-v.result.now c.read_at-x.result
    c.requires.state c.requires.some is room c.read_at-x.ensures.is c.read_at-x.ensures.within (c.if-seen-count_of.true ∙ ap (λ n. n + 2) c.count_of-2.ensures.is)

pub returns : goal.returns
returns c =
    let is = last-is c.args.stack.now.items (length c.as_slice.result.now) c.index-v.result.now (ap length c.as_slice.ensures.value) c.requires.some c.index-v.ensures in
    let room = subst (λ n. slice_index c.args.stage.now c.index-v.result.now ≤ n) c.count_of.ensures.is c.if-at-count_of.false in
    step-cycle c.args.reads.now c.args.stage.now c.args.stack.now.items c.args.order.now.items c.index-v.result.now c.read_at-x.result c.place_of.result
    c.requires.state c.requires.some is room c.read_at-x.ensures.is (subst (λ xs. c.place_of.result < length xs) c.as_slice-2.ensures.value c.place_of.ensures.low)
    (subst (λ xs. slice_index xs c.place_of.result ≡ c.read_at-x.result) c.as_slice-2.ensures.value c.place_of.ensures.found)

pub index-v-requires : goal.index-v-requires
index-v-requires c =
    let same = ap length c.as_slice.ensures.value in
    let own = c.args.stack.now.ok.0 in
    let some = c.requires.some in
    omega (arith, same, own, some)

pub overflow_sub-top : goal.overflow_sub-top
overflow_sub-top c =
    let same = ap length c.as_slice.ensures.value in
    let some = c.requires.some in
    omega (arith, same, some)

pub bounds-stage-v : goal.bounds-stage-v
bounds-stage-v c =
    let is = last-is c.args.stack.now.items (length c.as_slice.result.now) c.index-v.result.now (ap length c.as_slice.ensures.value) c.requires.some c.index-v.ensures in
    (top-is c.args.reads.now c.args.stage.now c.args.stack.now.items c.args.order.now.items c.index-v.result.now c.requires.state c.requires.some is).low

pub bounds-stage-v-then-at-count_of : goal.bounds-stage-v-then-at-count_of
bounds-stage-v-then-at-count_of c =
    let is = last-is c.args.stack.now.items (length c.as_slice.result.now) c.index-v.result.now (ap length c.as_slice.ensures.value) c.requires.some c.index-v.ensures in
    (top-is c.args.reads.now c.args.stage.now c.args.stack.now.items c.args.order.now.items c.index-v.result.now c.requires.state c.requires.some is).low

pub bounds-stage-v-then-seen-count_of : goal.bounds-stage-v-then-seen-count_of
bounds-stage-v-then-seen-count_of c =
    let is = last-is c.args.stack.now.items (length c.as_slice.result.now) c.index-v.result.now (ap length c.as_slice.ensures.value) c.requires.some c.index-v.ensures in
    (top-is c.args.reads.now c.args.stage.now c.args.stack.now.items c.args.order.now.items c.index-v.result.now c.requires.state c.requires.some is).low

pub offset_bounds-stage-v : goal.offset_bounds-stage-v
offset_bounds-stage-v c =
    let is = last-is c.args.stack.now.items (length c.as_slice.result.now) c.index-v.result.now (ap length c.as_slice.ensures.value) c.requires.some c.index-v.ensures in
    let low = (top-is c.args.reads.now c.args.stage.now c.args.stack.now.items c.args.order.now.items c.index-v.result.now c.requires.state c.requires.some is).low in
    omega arith

pub offset_bounds-stage-v-then-at-count_of : goal.offset_bounds-stage-v-then-at-count_of
offset_bounds-stage-v-then-at-count_of c =
    let is = last-is c.args.stack.now.items (length c.as_slice.result.now) c.index-v.result.now (ap length c.as_slice.ensures.value) c.requires.some c.index-v.ensures in
    let low = (top-is c.args.reads.now c.args.stage.now c.args.stack.now.items c.args.order.now.items c.index-v.result.now c.requires.state c.requires.some is).low in
    omega arith

pub offset_bounds-stage-v-then-seen-count_of : goal.offset_bounds-stage-v-then-seen-count_of
offset_bounds-stage-v-then-seen-count_of c =
    let is = last-is c.args.stack.now.items (length c.as_slice.result.now) c.index-v.result.now (ap length c.as_slice.ensures.value) c.requires.some c.index-v.ensures in
    let low = (top-is c.args.reads.now c.args.stage.now c.args.stack.now.items c.args.order.now.items c.index-v.result.now c.requires.state c.requires.some is).low in
    omega arith

pub bounds-stage-x : goal.bounds-stage-x
bounds-stage-x c =
    let long = c.requires.state.walk.long in
    let within = c.read_at-x.ensures.within in
    omega (arith, long, within)

pub bounds-stage-x-then-seen-eq0 : goal.bounds-stage-x-then-seen-eq0
bounds-stage-x-then-seen-eq0 c =
    let long = c.requires.state.walk.long in
    let within = c.read_at-x.ensures.within in
    omega (arith, long, within)

pub offset_bounds-stage-x : goal.offset_bounds-stage-x
offset_bounds-stage-x c =
    let long = c.requires.state.walk.long in
    let within = c.read_at-x.ensures.within in
    let low : c.read_at-x.result < length c.args.stage.now = omega (arith, long, within) in
    omega arith

pub offset_bounds-stage-x-then-seen-eq0 : goal.offset_bounds-stage-x-then-seen-eq0
offset_bounds-stage-x-then-seen-eq0 c =
    let long = c.requires.state.walk.long in
    let within = c.read_at-x.ensures.within in
    let low : c.read_at-x.result < length c.args.stage.now = omega (arith, long, within) in
    omega arith

pub overflow_add-count_of : goal.overflow_add-count_of
overflow_add-count_of c = let small = c.count_of-2.ensures.small in record { fits = omega (arith, small) }

pub overflow_add-stage : goal.overflow_add-stage
overflow_add-stage c =
    let is = last-is c.args.stack.now.items (length c.as_slice.result.now) c.index-v.result.now (ap length c.as_slice.ensures.value) c.requires.some c.index-v.ensures in
    let room = (top-is c.args.reads.now c.args.stage.now c.args.stack.now.items c.args.order.now.items c.index-v.result.now c.requires.state c.requires.some is).room in
    let size = c.count_of.ensures.is in
    let small = c.count_of.ensures.small in
    record { fits = omega (arith, room, size, small) }

pub overflow_add-stage-then-seen-count_of : goal.overflow_add-stage-then-seen-count_of
overflow_add-stage-then-seen-count_of c =
    let room = c.if-at-count_of.false in
    let small = c.count_of.ensures.small in
    record { fits = omega (arith, room, small) }

pub overflow_add-stage-then-seen-eq0 : goal.overflow_add-stage-then-seen-eq0
overflow_add-stage-then-seen-eq0 c = let white = c.if-seen-eq0.true in record { fits = omega (arith, white) }

pub read_at-x-requires-clause-known : goal.read_at-x-requires-clause-known
read_at-x-requires-clause-known c = c.requires.known

pub read_at-x-requires-clause-number : goal.read_at-x-requires-clause-number
read_at-x-requires-clause-number c =
    let is = last-is c.args.stack.now.items (length c.as_slice.result.now) c.index-v.result.now (ap length c.as_slice.ensures.value) c.requires.some c.index-v.ensures in
    (top-is c.args.reads.now c.args.stage.now c.args.stack.now.items c.args.order.now.items c.index-v.result.now c.requires.state c.requires.some is).within

pub read_at-x-requires-clause-place : goal.read_at-x-requires-clause-place
read_at-x-requires-clause-place c =
    let is = last-is c.args.stack.now.items (length c.as_slice.result.now) c.index-v.result.now (ap length c.as_slice.ensures.value) c.requires.some c.index-v.ensures in
    let some = (top-is c.args.reads.now c.args.stage.now c.args.stack.now.items c.args.order.now.items c.index-v.result.now c.requires.state c.requires.some is).some in
    let room = c.if-at-count_of.false in
    let size = c.count_of.ensures.is in
    omega (arith, some, room, size)
