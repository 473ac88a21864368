-- The Counters that chains put in count frames of blocks.
use Rattle.std.proofs.Common.{◌≡◌, ℕ, zero, suc, ◌+◌, ◌<◌, inl, inr, ◌==◌, true, false, ◌⊎◌, List, [], ◌∷◌, ◌++◌, map, filter, length, Contains, Option, None, Some, ap, sym, ◌∙◌, subst, refl, arith}
use Rattle.std.specs.Prelude.{⊤, is_some, slice_get}
use Rattle.std.specs.List.{flat_map}
use Rattle.std.proofs.lemmas.Bool.{and_from, and_parts, eq-eqb, eqb-true}
use Rattle.std.proofs.lemmas.Option.{none-some, same_Some, slice_get-get_or, slice_get_within}
use Rattle.math_list.specs.Numbers.{numbers_from}
use Rattle.dg_model.specs.declared.diagram.Diagram.{Diagram}
use Rattle.dg_model.specs.declared.resolved.Resolved.{Resolved}
use Rattle.dg_model.specs.Attributes.{attributes_of}
use Rattle.hw_lines.specs.declared.source.Use.{Use as Asked}
use Rattle.hw_lines.specs.Chain.{reader_of, IsCountedIn}
use Rattle.hw_net.specs.declared.netlist.Frame.{Frame}
use Rattle.hw_sched.specs.Chained.{Use, FramePair, is_same_frame, frames_of, uses_in_all}
use Rattle.hw_sched.specs.Slots.{Timing as Times}
use Rattle.hw_shows.specs.Timing.{latency_after}
use Rattle.hw_build.specs.declared.wants.Class.{Class}
use Rattle.hw_build.specs.declared.wants.Feed.{Feed}
use Rattle.hw_build.specs.declared.wants.Want.{Want}
use Rattle.hw_build.specs.inner.EndAsks.{IsLawful, want_for}
use Rattle.hw_build.specs.inner.Feeds.{is_same_feed}
use Rattle.hw_build.specs.inner.FrameCounts.{IsFramed}
use Rattle.hw_build.specs.inner.Wants.{source_by, AreFolded}
use Rattle.hw_build.proofs.CounterFrames.{Stands}
use Rattle.hw_build.proofs.Fewer.{asked_of}
use Rattle.hw_build.proofs.FewLines.{every_filter}
use Rattle.math_list.proofs.Places.{map_there}
use Rattle.hw_build.proofs.FewChains.{kept, feed_for, uses_are, filter_holds}
use Rattle.hw_build.proofs.LineUses.{IsLineUse, every_use}
use Rattle.hw_build.proofs.FeedOrder.{feed_same}
use Rattle.math_list.proofs.Tests.{none_of}
use Rattle.hw_build.proofs.EndAsks.{timing}

-- ---- where things stand

left_at : {A : Type 0} (xs ys : List A) (k : ℕ) (x : A) → slice_get xs k ≡ Some x → Stands (xs ++ ys) x
left_at [] ys k x at = absurd (none-some x at)
left_at (z ∷ xs) ys zero x at = record { place = 0; at = at }
left_at (z ∷ xs) ys (suc k) x at = let more = left_at xs ys k x at in record { place = suc more.place; at = more.at }

stands_right : {A : Type 0} (xs ys : List A) (x : A) → Stands ys x → Stands (xs ++ ys) x
stands_right [] ys x is = is
stands_right (z ∷ xs) ys x is = let more = stands_right xs ys x is in record { place = suc more.place; at = more.at }

flat_at : {A B : Type 0} (f : A → List B) (xs : List A) (k : ℕ) (x : A) (y : B) → slice_get xs k ≡ Some x → Stands (f x) y → Stands (flat_map f xs) y
flat_at f [] k x y at own = absurd (none-some x at)
flat_at {A} f (z ∷ xs) zero x y at own =
    let here : Stands (f z) y = subst (λ (q : A). Stands (f q) y) (sym (same_Some z x at)) own in
    left_at (f z) (flat_map f xs) here.place y here.at
flat_at f (z ∷ xs) (suc k) x y at own = stands_right (f z) (flat_map f xs) y (flat_at f xs k x y at own)

stands_number : (from n k : ℕ) → k < n → Stands (numbers_from from n) (from + k)
stands_number from zero k below = absurd (omega (arith, below))
stands_number from (suc n) zero below = let here : from ≡ from + 0 = omega arith in record { place = 0; at = ap (λ (m : ℕ). Some m) here }
stands_number from (suc n) (suc k) below =
    let more = stands_number (suc from) n k (omega (arith, below)) in
    let there : suc from + k ≡ from + suc k = omega arith in
    record { place = suc more.place; at = more.at ∙ ap (λ (m : ℕ). Some m) there }

contained : {A : Type 0} (xs : List A) (x : A) → Contains xs x → (k : ℕ) × (slice_get xs k ≡ Some x)
contained xs x (k, below, is) = (k, slice_get-get_or xs k x below ∙ ap (λ y. Some y) is)

-- ---- frames of blocks

pair_self : (frame : FramePair) → is_same_frame frame frame ≡ true
pair_self frame = and_from (frame.period == frame.period) (frame.latency == frame.latency) (eq-eqb frame.period frame.period refl) (eq-eqb frame.latency frame.latency refl)

pair_same : (frame other : FramePair) → is_same_frame frame other ≡ true → ◌≡◌ {A = FramePair} frame other
pair_same frame other e =
    let parts = and_parts (frame.period == other.period) (frame.latency == other.latency) e in
    let period : frame.period ≡ other.period = eqb-true frame.period other.period parts.0 in
    let latency : frame.latency ≡ other.latency = eqb-true frame.latency other.latency parts.1 in
    ap (λ (p : ℕ). record { period = p; latency = frame.latency }) period ∙ ap (λ (n : ℕ). record { period = other.period; latency = n }) latency

module _ {diagram : Diagram} {order : List ℕ} {plan : Resolved} {times : Times} {firsts : List (List ℕ)} (l : IsLawful diagram order plan times firsts) where
  abbrev frames_at : ℕ → List FramePair
  frames_at place = frames_of plan times place ((attributes_of diagram).period_at place)

  -- a frame of a block is among those of all
  block_frame : (block : ℕ) (frame : FramePair) → block < length diagram.blocks → Stands (frames_at block) frame
      → IsFramed diagram plan times (record { period = frame.period; latency = frame.latency })
  block_frame block frame inside own =
      let number = stands_number 0 (length diagram.blocks) block inside in
      let here : 0 + block ≡ block = omega arith in
      let there : Stands (numbers_from 0 (length diagram.blocks)) block = subst (Stands (numbers_from 0 (length diagram.blocks))) here number in
      let among = flat_at frames_at (numbers_from 0 (length diagram.blocks)) there.place block frame there.at own in
      let keep = kept (λ (x : FramePair). ⊤) is_same_frame (λ (x : FramePair). x) (λ x any. pair_self x)
      (λ x y any other e. pair_same x y e) (flat_map frames_at (numbers_from 0 (length diagram.blocks)))
      (record { at = λ k x at. tt }) among.place frame among.at in
      record { place = keep.stands.place; at = keep.stands.at ∙ ap (λ (x : FramePair). Some x) keep.key_is }

  -- the frames before a pipeline, and behind it
  own_frame : (block p : ℕ) → block < length diagram.blocks → (attributes_of diagram).period_at block ≡ Some p → IsFramed diagram plan times (record { period = p; latency = (timing l).latency block })
  own_frame block p inside moves = block_frame block
      (record { period = p; latency = (timing l).latency block }) inside
      (subst (λ (o : Option ℕ). Stands (frames_of plan times block o)
      (record { period = p; latency = (timing l).latency block })) (sym moves)
      (record { place = 0; at = refl }))

  after_frame : (block p : ℕ) → block < length diagram.blocks → (attributes_of diagram).period_at block ≡ Some p
      → IsFramed diagram plan times (record { period = p; latency = latency_after (timing l) p block })
  after_frame block p inside moves = block_frame block
      (record { period = p; latency = latency_after (timing l) p block }) inside
      (subst (λ (o : Option ℕ). Stands (frames_of plan times block o)
      (record { period = p; latency = latency_after (timing l) p block })) (sym moves)
      (record { place = 1; at = refl }))

  abbrev every_one : List Use
  every_one = uses_in_all diagram (attributes_of diagram) plan times

  pub class_frame : (classes : List Class) → AreFolded (map (want_for diagram plan times firsts) every_one) classes
      → (c : ℕ) (one : Class) (frame : Frame) → slice_get classes c ≡ Some one
      → IsCountedIn (source_by one.feed) one.uses.items frame → IsFramed diagram plan times frame
  class_frame classes folded c one frame at is = go is
    where
      -- what is so of the feed of each use is so of the class's
      of_feed : (P : Feed → Type 0) → ((x : Use) → IsLineUse l x → P (feed_for diagram plan times firsts x)) → P one.feed
      of_feed P each =
          let fold = folded.each c one at in
          let from = map_there (want_for diagram plan times firsts) every_one fold.place fold.want fold.at in
          subst P (ap (λ (w : Want). w.feed) from.2 ∙ fold.same) (each from.0 ((every_use l).at fold.place from.0 from.1))

      go : (frame ≡ one.feed.frame) ⊎ ((is_some one.feed.first ≡ false)
          × ((asked : Asked) × (Contains one.uses.items asked × (frame ≡ reader_of (source_by one.feed) asked))))
          → IsFramed diagram plan times frame
      go (inl same) = subst (IsFramed diagram plan times) (sym same)
          (of_feed (λ (f : Feed). IsFramed diagram plan times f.frame)
          (λ x of. after_frame x.from x.source
          (slice_get_within diagram.blocks x.from of.source of.shown.block_is) of.moves))
      go (inr late) =
          let fold = folded.each c one at in
          let feed : Feed = one.feed in
          let own : one.uses.items ≡ map asked_of
          (filter (λ (x : Use). is_same_feed feed (feed_for diagram plan times firsts x)) every_one) =
          fold.uses_are ∙ uses_are diagram plan times firsts feed every_one in
          let asked : Asked = late.1.0 in
          let among = contained one.uses.items asked late.1.1.0 in
          let from = map_there asked_of (filter
          (λ (x : Use). is_same_feed feed (feed_for diagram plan times firsts x)) every_one) among.0 asked
          (sym (ap (λ (xs : List Asked). slice_get xs among.0) own) ∙ among.1) in
          let reader : Use = from.0 in
          let is_use = (every_filter (IsLineUse l) (λ (x : Use). is_same_feed feed (feed_for diagram plan times firsts x)) every_one (every_use l)).at among.0 reader from.1 in
          let same : feed ≡ feed_for diagram plan times firsts reader =
          feed_same feed (feed_for diagram plan times firsts reader)
          ((filter_holds (λ (x : Use). is_same_feed feed (feed_for diagram plan times firsts x))
          every_one).at among.0 reader from.1) in
          let none : reader.first ≡ None = sym (ap (λ (f : Feed). f.first) same) ∙ none_of feed.first late.0 in
          let seen = is_use.seen none in
          let is_frame : ◌≡◌ {A = Frame} frame (record { period = seen.own; latency = (timing l).latency seen.block }) =
          late.1.1.1 ∙ ap (λ (f : Feed). reader_of (source_by f) asked) same ∙ ap (λ (u : Asked). reader_of (source_by (feed_for diagram plan times firsts reader)) u) (sym from.2)
          ∙ ap (λ (p : ℕ). record {
            period = p;
            latency =
                latency_after (timing l) reader.source reader.from + reader.shift;
          }) seen.wide
          ∙ ap (λ (n : ℕ). record { period = seen.own; latency = n }) seen.late
          in
          subst (IsFramed diagram plan times) (sym is_frame) (own_frame seen.block seen.own seen.inside seen.period)
