-- The order of feeds tells them apart as they are.
use Rattle.std.proofs.Common.{◌≡◌, ◌≢◌, inl, inr, ℕ, ℤ, Bool, true, false, ◌==◌, Option, None, Some, ap, sym, ◌∙◌, refl}
use Rattle.std.specs.Prelude.{◌&&◌}
use Rattle.std.specs.Option.{option_cmp}
use Rattle.std.specs.Ordering.{nat_cmp, int_cmp, int_eq, is_eq, ordering_then}
use Rattle.std.specs.Cmp.{tied_then}
use Rattle.std.proofs.lemmas.Bool.{false≢true, and_from, and_parts, cases_Bool, eq-eqb, eqb-true}
use Rattle.std.proofs.lemmas.Bool.Decides.{Decides-int_eq}
use Rattle.hw_net.specs.declared.netlist.Frame.{Frame}
use Rattle.hw_net.specs.ByFrame.{is_same_frame, compare_frames}
use Rattle.hw_net.proofs.Index.{same-frame, same-is, same-self}
use Rattle.hw_sched.specs.Chained.{is_same_first}
use Rattle.hw_build.specs.declared.wants.Feed.{Feed}
use Rattle.hw_build.specs.inner.Feeds.{is_same_feed, compare_feeds}
use Rattle.math_list.proofs.Sums.{tied_number}

-- ---- the order

tied_first : (one other : Option ℤ) → is_eq (option_cmp int_cmp one other) ≡ is_same_first one other
tied_first None None = refl
tied_first None (Some other) = refl
tied_first (Some one) None = refl
tied_first (Some one) (Some other) = refl

pub tied_feed : (one other : Feed) → is_eq (compare_feeds one other) ≡ is_same_feed one other
tied_feed one other =
    let hubs = nat_cmp one.hub other.hub in
    let frames = compare_frames one.frame other.frame in
    let firsts = option_cmp int_cmp one.first other.first in
    sym (tied_then hubs (ordering_then frames firsts)) ∙ ap (λ (b : Bool). is_eq hubs && b) (sym (tied_then frames firsts))
    ∙ ap (λ (b : Bool). b && (is_eq frames && is_eq firsts)) (tied_number one.hub other.hub) ∙ ap (λ (b : Bool). (one.hub == other.hub) && (b && is_eq firsts)) (same-frame one.frame other.frame)
    ∙ ap (λ (b : Bool). (one.hub == other.hub) && (is_same_frame one.frame other.frame && b)) (tied_first one.first other.first)

-- ---- what it tells

pub first_same : (one other : Option ℤ) → is_same_first one other ≡ true → one ≡ other
first_same None None e = refl
first_same None (Some other) e = absurd (false≢true e)
first_same (Some one) None e = absurd (false≢true e)
first_same (Some one) (Some other) e = ap (λ (v : ℤ). Some v) (int_same one other e)
  where
    int_same : (x y : ℤ) → int_eq x y ≡ true → x ≡ y
    int_same x y h = (Decides-int_eq x y).0 h

pub feed_same : (one other : Feed) → is_same_feed one other ≡ true → one ≡ other
feed_same one other e =
    let parts = and_parts (one.hub == other.hub) (is_same_frame one.frame other.frame && is_same_first one.first other.first) e in
    let more = and_parts (is_same_frame one.frame other.frame) (is_same_first one.first other.first) parts.1 in
    let hub : one.hub ≡ other.hub = eqb-true one.hub other.hub parts.0 in
    let frame : ◌≡◌ {A = Frame} one.frame other.frame = same-is one.frame other.frame more.0 in
    let first : one.first ≡ other.first = first_same one.first other.first more.1 in
    ap (λ (h : ℕ). record { hub = h; frame = one.frame; first = one.first }) hub ∙ ap (λ (f : Frame). record { hub = other.hub; frame = f; first = one.first }) frame
    ∙ ap (λ (v : Option ℤ). record { hub = other.hub; frame = other.frame; first = v }) first

pub first_self : (one : Option ℤ) → is_same_first one one ≡ true
first_self None = refl
first_self (Some one) = (Decides-int_eq one one).1 refl

feed_self : (feed : Feed) → is_same_feed feed feed ≡ true
feed_self feed = and_from (feed.hub == feed.hub) (is_same_frame feed.frame feed.frame && is_same_first feed.first feed.first) (eq-eqb feed.hub feed.hub refl)
    (and_from (is_same_frame feed.frame feed.frame) (is_same_first feed.first feed.first) (same-self feed.frame) (first_self feed.first))

pub feed_is : (one other : Feed) → one ≡ other → is_same_feed one other ≡ true
feed_is one other same = ap (is_same_feed one) (sym same) ∙ feed_self one

pub feed_differs : (one other : Feed) → one ≢ other → is_same_feed one other ≡ false
feed_differs one other differs = elim (cases_Bool (is_same_feed one other)) [
  | inl same ↦ absurd (differs (feed_same one other same))
  | inr other_one ↦ other_one
]
