-- The classes of all ends are the lines that share registers, so their chains have no more than are counted for these.
use Rattle.std.proofs.Common.{◌≡◌, ℕ, zero, suc, ◌+◌, ◌<◌, ◌≤◌, inl, inr, ℤ, ◌==◌, Bool, true, false, cond, List, [], ◌∷◌, map, filter, length, Option, Some, ap, sym, ◌∙◌, refl, arith}
use Rattle.std.specs.Prelude.{◌&&◌, not, if◌then◌else◌, slice_get}
use Rattle.std.proofs.lemmas.Bool.{false≢true, and_from, and_parts, cases_Bool, eq-eqb, eqb-true}
use Rattle.std.proofs.lemmas.Option.{none-some, same_Some}
use Rattle.dg_model.specs.declared.diagram.Diagram.{Diagram}
use Rattle.dg_model.specs.declared.resolved.Resolved.{Resolved}
use Rattle.dg_model.specs.Attributes.{attributes_of}
use Rattle.dg_model.specs.Laws.{InputsAreListed}
use Rattle.hw_lines.specs.declared.source.Use.{Use as Asked}
use Rattle.hw_lines.specs.Chain.{most_frames, different, parted_frames}
use Rattle.hw_net.specs.Circuit.{Circuit}
use Rattle.hw_sched.specs.Chained.{Use, distinct, is_same_first, is_same_line, registers_of, registers_of_lines, uses_in_all}
use Rattle.hw_sched.specs.Slots.{Timing as Times}
use Rattle.hw_build.specs.declared.wants.Class.{Class}
use Rattle.hw_build.specs.declared.wants.Feed.{Feed}
use Rattle.hw_build.specs.declared.wants.Want.{Want}
use Rattle.hw_build.specs.inner.EndAsks.{IsLawful, want_for}
use Rattle.hw_build.specs.inner.Feeds.{is_same_feed}
use Rattle.hw_build.specs.inner.HubPlaces.{HasHubs}
use Rattle.hw_build.specs.inner.Wants.{source_by, uses_of_feed, AreFolded, class_registers, registers_below}
use Rattle.hw_build.proofs.CounterFrames.{Stands, filter_stands}
use Rattle.hw_build.proofs.FeedOrder.{first_self, first_same, feed_is, feed_differs}
use Rattle.hw_build.proofs.Fewer.{asked_of, chain_registers}
use Rattle.hw_build.proofs.FewLines.{IsRepresented, total, no_more, Every, every_none, every_first, every_more, every_filter, filter_same}
use Rattle.hw_build.proofs.OwnHubs.{hubs_differ}
use Rattle.hw_build.proofs.LineUses.{IsLineUse, every_use}
use Rattle.math_list.proofs.Places.{map_there, get_some}

-- ---- what stands for an element among those that differ

module _ {A B : Type 0} (P : A → Type 0) (same : A → A → Bool) (key : A → B) (same_self : (x : A) → P x → same x x ≡ true) (same_key : (x y : A) → P x → P y → same x y ≡ true → key x ≡ key y) where
  pub record IsKept (xs : List A) (x : A) : Type 0 where
    pub one : A
    pub stands : Stands (distinct same xs) one
    pub holds : P one
    pub key_is : key one ≡ key x

  pub kept : (xs : List A) → Every P xs → (k : ℕ) (x : A) → slice_get xs k ≡ Some x → IsKept xs x
  kept [] all k x at = absurd (none-some x at)
  kept (y ∷ xs) all zero x at = record { one = y; stands = record { place = 0; at = refl }; holds = (every_first P y xs all).0; key_is = ap key (same_Some y x at) }
  kept (y ∷ xs) all (suc k) x at =
      let parts = every_first P y xs all in
      let later = kept xs parts.1 k x at in
      elim (cases_Bool (same y later.one)) [
        | inl equal ↦ record { one = y; stands = record { place = 0; at = refl }; holds = parts.0; key_is = same_key y later.one parts.0 later.holds equal ∙ later.key_is }
        | inr differs ↦
            let stays = filter_stands (λ z. not (same y z)) (distinct same xs) later.stands.place later.one later.stands.at (ap not differs) in
            record { one = later.one; stands = record { place = suc stays.place; at = stays.at }; holds = later.holds; key_is = later.key_is }
      ]

pub filter_holds : {A : Type 0} (p : A → Bool) (xs : List A) → Every (λ x. p x ≡ true) (filter p xs)
filter_holds p [] = every_none (λ x. p x ≡ true)
filter_holds {A} p (x ∷ xs) = go (p x) refl (filter_holds p xs)
  where
    go : (b : Bool) → p x ≡ b → Every (λ y. p y ≡ true) (filter p xs) → Every (λ y. p y ≡ true) (cond b (x ∷ filter p xs) (filter p xs))
    go true is rest = every_more (λ y. p y ≡ true) x (filter p xs) is rest
    go false is rest = rest

below_total : (classes : List Class) (n : ℕ) → registers_below classes n ≡ total (λ c. class_registers (slice_get classes c)) n
below_total classes zero = refl
below_total classes (suc n) = ap (λ (k : ℕ). k + class_registers (slice_get classes n)) (below_total classes n)

-- the feed of a use
abbrev pub feed_for : Diagram → Resolved → Times → List (List ℕ) → Use → Feed
feed_for diagram plan times firsts one = (want_for diagram plan times firsts one).feed

-- the uses of a feed are those that have it
pub uses_are : (diagram : Diagram) (plan : Resolved) (times : Times) (firsts : List (List ℕ)) (feed : Feed)
    (uses : List Use) → uses_of_feed feed (map (want_for diagram plan times firsts) uses)
    ≡ map asked_of (filter (λ (one : Use). is_same_feed feed (feed_for diagram plan times firsts one)) uses)
uses_are diagram plan times firsts feed [] = refl
uses_are diagram plan times firsts feed (one ∷ uses) = go (is_same_feed feed (feed_for diagram plan times firsts one)) (uses_are diagram plan times firsts feed uses)
  where
    go : (b : Bool) → uses_of_feed feed (map (want_for diagram plan times firsts) uses) ≡ map asked_of (filter (λ (x : Use). is_same_feed feed (feed_for diagram plan times firsts x)) uses)
        → (if b then asked_of one ∷ uses_of_feed feed (map (want_for diagram plan times firsts) uses) else uses_of_feed feed (map (want_for diagram plan times firsts) uses))
        ≡ map asked_of (cond b (one ∷ filter
        (λ (x : Use). is_same_feed feed (feed_for diagram plan times firsts x)) uses)
        (filter (λ (x : Use). is_same_feed feed (feed_for diagram plan times firsts x)) uses))
    go true rest = ap (λ (xs : List Asked). asked_of one ∷ xs) rest
    go false rest = rest

module _ {diagram : Diagram} {order : List ℕ} {plan : Resolved} {times : Times} {firsts : List (List ℕ)}
    (l : IsLawful diagram order plan times firsts) (earlier later : Circuit)
    (has : HasHubs diagram earlier later firsts) (listed : InputsAreListed) where
  abbrev feed_of : Use → Feed
  feed_of one = feed_for diagram plan times firsts one

  abbrev all_uses : List Use
  all_uses = uses_in_all diagram (attributes_of diagram) plan times

  -- ---- lines and feeds

  line_parts : (one other : Use) → is_same_line one other ≡ true → (one.from ≡ other.from) × (one.port ≡ other.port) × (one.element ≡ other.element) × (one.first ≡ other.first)
  line_parts one other e =
      let halves = and_parts ((one.from == other.from) && (one.port == other.port)) ((one.element == other.element) && is_same_first one.first other.first) e in
      let front = and_parts (one.from == other.from) (one.port == other.port) halves.0 in
      let back = and_parts (one.element == other.element) (is_same_first one.first other.first) halves.1 in
      (eqb-true one.from other.from front.0, eqb-true one.port other.port front.1, eqb-true one.element other.element back.0, first_same one.first other.first back.1)

  line_from : (one other : Use) → one.from ≡ other.from → one.port ≡ other.port → one.element ≡ other.element → one.first ≡ other.first → is_same_line one other ≡ true
  line_from one other from port element first =
      and_from ((one.from == other.from) && (one.port == other.port)) ((one.element == other.element) && is_same_first one.first other.first)
      (and_from (one.from == other.from) (one.port == other.port) (eq-eqb one.from other.from from) (eq-eqb one.port other.port port))
      (and_from (one.element == other.element) (is_same_first one.first other.first) (eq-eqb one.element other.element element) (ap (is_same_first one.first) (sym first) ∙ first_self one.first))

  line_self : (one : Use) → IsLineUse l one → is_same_line one one ≡ true
  line_self one is = line_from one one refl refl refl refl

  line_feed : (one other : Use) → IsLineUse l one → IsLineUse l other → is_same_line one other ≡ true → feed_of one ≡ feed_of other
  line_feed one other is other_is e =
      let parts = line_parts one other e in
      let source : one.source ≡ other.source = same_Some one.source other.source (sym is.moves ∙ ap (attributes_of diagram).period_at parts.0 ∙ other_is.moves) in
      ap (λ (n : ℕ). feed_of (record one { from = n })) parts.0 ∙ ap (λ (n : ℕ). feed_of (record one { from = other.from; port = n })) parts.1
      ∙ ap (λ (n : ℕ). feed_of (record one { from = other.from; port = other.port; element = n })) parts.2
      ∙ ap (λ (v : Option ℤ). feed_of (record one { from = other.from; port = other.port; element = other.element; first = v })) parts.3
      ∙ ap (λ (p : ℕ). feed_of (record one { from = other.from; port = other.port; element = other.element; first = other.first; source = p })) source

  -- uses of one feed share a line
  feed_line : (one other : Use) → IsLineUse l one → IsLineUse l other → is_same_feed (feed_of one) (feed_of other) ≡ is_same_line one other
  feed_line one other is other_is = elim (cases_Bool (is_same_line one other)) [
    | inl same ↦ feed_is (feed_of one) (feed_of other) (line_feed one other is other_is same) ∙ sym same
    | inr differs ↦
        feed_differs (feed_of one) (feed_of other) (λ e.
        let hub = ap (λ (f : Feed). f.hub) e in
        let equal = hubs_differ diagram order earlier later firsts has listed l.ordered one.from is.source one.port
        one.element other.from other_is.source other.port other.element is.shown other_is.shown hub in
        false≢true (sym differs ∙ line_from one other equal.block_is equal.port_is equal.element_is (ap (λ (f : Feed). f.first) e)))
        ∙ sym differs
  ]

  -- ---- the registers of a class

  abbrev shared : Use → List Use
  shared one = filter (is_same_line one) all_uses

  class_few : (one : Class) (reader : Use) → IsLineUse l reader → feed_of reader ≡ one.feed
      → one.uses.items ≡ uses_of_feed one.feed (map (want_for diagram plan times firsts) all_uses)
      → class_registers (Some one) ≤ registers_of (shared reader)
  class_few one reader is feed are =
      let every = every_use l in
      let flags : filter (λ (x : Use). is_same_feed one.feed (feed_of x)) all_uses ≡ shared reader = filter_same (λ (x : Use). is_same_feed one.feed (feed_of x)) (is_same_line reader) all_uses
      (record { at = λ k x at. ap (λ (f : Feed). is_same_feed f (feed_of x)) (sym feed) ∙ feed_line reader x is (every.at k x at) }) in
      let own : one.uses.items ≡ map asked_of (shared reader) = are ∙ uses_are diagram plan times firsts one.feed all_uses ∙ ap (map asked_of) flags in
      let sources : (k : ℕ) (x : Use) → slice_get (shared reader) k ≡ Some x → x.source ≡ one.feed.frame.period =
      λ k x at.
      let there = (every_filter (IsLineUse l) (is_same_line reader) all_uses every).at k x at in
      let same = (filter_holds (is_same_line reader) all_uses).at k x at in
      sym (ap (λ (f : Feed). f.frame.period) (line_feed reader x is there same)) ∙ ap (λ (f : Feed). f.frame.period) feed
      in
      let few = chain_registers (source_by one.feed) (shared reader) sources in
      let registers : class_registers (Some one) ≡ most_frames one.feed.frame.period (map asked_of (shared reader)) + different (parted_frames (source_by one.feed) (map asked_of (shared reader))) =
      ap (λ (xs : List Asked). most_frames one.feed.frame.period xs + different (parted_frames (source_by one.feed) xs)) own
      in
      omega (arith, few, registers)

  module _ (classes : List Class) (folded : AreFolded (map (want_for diagram plan times firsts) all_uses) classes) where
    record IsReader (one : Class) : Type 0 where
      pub reader : Use
      pub stands : Stands (distinct is_same_line all_uses) reader
      pub holds : IsLineUse l reader
      pub feed : feed_of reader ≡ one.feed

    reader_is : (c : ℕ) (one : Class) → slice_get classes c ≡ Some one → IsReader one
    reader_is c one at =
        let fold = folded.each c one at in
        let from = map_there (want_for diagram plan times firsts) all_uses fold.place fold.want fold.at in
        let keep = kept (IsLineUse l) is_same_line feed_of line_self line_feed all_uses (every_use l) fold.place from.0 from.1 in
        record { reader = keep.one; stands = keep.stands; holds = keep.holds; feed = keep.key_is ∙ ap (λ (w : Want). w.feed) from.2 ∙ fold.same }

    abbrev class_at : (c : ℕ) → c < length classes → (one : Class) × (slice_get classes c ≡ Some one)
    class_at c below = get_some classes c below

    abbrev represented : (c : ℕ) → c < length classes → IsRepresented (distinct is_same_line all_uses) (λ (reader : Use). registers_of (shared reader)) (class_registers (slice_get classes c))
    represented c below = record {
      one = (reader_is c (class_at c below).0 (class_at c below).1).reader;
      stands = (reader_is c (class_at c below).0 (class_at c below).1).stands;
      low =
          let found = class_at c below in
          let reader = reader_is c found.0 found.1 in
          let few = class_few found.0 reader.reader reader.holds reader.feed (folded.each c found.0 found.1).uses_are in
          let own : class_registers (slice_get classes c) ≡ class_registers (Some found.0) = ap class_registers found.1 in
          omega (arith, few, own);
    }

    pub few_chains : registers_below classes (length classes) ≤ registers_of_lines all_uses
    few_chains =
        let few = no_more (λ (reader : Use). registers_of (shared reader)) (λ c. class_registers (slice_get classes c)) (length classes) (distinct is_same_line all_uses) represented
        (λ c d p q less e.
        let one = class_at c p in
        let other = class_at d q in
        folded.differ c d one.0 other.0 less one.1 other.1 (sym (reader_is c one.0 one.1).feed ∙ ap feed_of e ∙ (reader_is d other.0 other.1).feed)) in
        let sums = below_total classes (length classes) in
        omega (arith, few, sums)
