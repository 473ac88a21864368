-- Numbers of classes by feed (own).
use Rattle.std.specs.Prelude.{ℕ, ◌==◌, ◌&&◌, Bool, List, Option}
use Rattle.std.specs.declared.cmp.Ordering.{Ordering}
use Rattle.std.specs.Option.{option_cmp}
use Rattle.std.specs.Ordering.{nat_cmp, int_cmp, then_cmp, on}
use Rattle.std.specs.BTreeMap.{is_at}
use Rattle.std.specs.Map.{lookup}
use Rattle.hw_net.specs.ByFrame.{is_same_frame, compare_frames}
use Rattle.hw_sched.specs.Chained.{is_same_first}
use Rattle.hw_build.specs.declared.wants.Feed.{Feed}

abbrev pub is_same_feed : Feed → Feed → Bool
is_same_feed one other =
    (one.hub == other.hub)
    && (is_same_frame one.frame other.frame && is_same_first one.first other.first)

-- the order in which an index has its feeds
abbrev pub compare_feeds : Feed → Feed → Ordering
compare_feeds =
    then_cmp (on (λ (feed : Feed). feed.hub) nat_cmp)
    (then_cmp (on (λ (feed : Feed). feed.frame) compare_frames)
    (on (λ (feed : Feed). feed.first) (option_cmp int_cmp)))

-- the number of a feed among the entries of an index
abbrev pub number_at_feed : List (Feed × ℕ) → Feed → Option ℕ
number_at_feed entries feed = lookup (is_at (compare_feeds feed)) entries
