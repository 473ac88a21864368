-- Wants get their places in classes one by one.
use Rattle.std.proofs.Common.{◌≡◌, ◌≢◌, ℕ, suc, ◌+◌, ◌<◌, ◌⊎◌, Bool, true, false, None, if◌then◌else◌, take, inl, inr, ◌++◌, ◌∷◌, List, [], length, length-append, zero, Some, ap, sym, ◌∙◌, subst}
use Rattle.std.proofs.Common.{refl, arith}
use Rattle.std.specs.Prelude.{All, slice_get, slice_set, get_or}
use Rattle.std.proofs.Math.Seq.{take-suc}
use Rattle.std.proofs.lemmas.Bool.{false≢true, cases_lt}
use Rattle.std.proofs.lemmas.List.{append-nil}
use Rattle.std.proofs.lemmas.List.Elements.{All-append, All-nil}
use Rattle.std.proofs.lemmas.Option.{none-some, same_Some, slice_get_within, get_or_from_slice_get}
use Rattle.hw_net.specs.Circuit.{Circuit}
use Rattle.math_list.proofs.Places.{get_left, last_at, split-last}
use Rattle.hw_lines.specs.declared.source.Use.{Use}
use Rattle.hw_lines.specs.Chain.{IsSource, IsUse}
use Rattle.hw_build.specs.declared.wants.Feed.{Feed}
use Rattle.hw_build.specs.declared.wants.Want.{Want}
use Rattle.hw_build.specs.declared.wants.Class.{Class}
use Rattle.hw_build.specs.declared.wants.Seat.{Seat}
use Rattle.hw_build.specs.inner.Feeds.{is_same_feed, number_at_feed}
use Rattle.hw_build.specs.inner.Wants.{source_by, IsWant, IsClass, AreClasses, HasFeed, AreIndexed, uses_of_feed, IsFolded, AreFolded, IsClassFor, IsSeat, KeepsUses, KeepsClass, KeepsClasses}
use Rattle.hw_build.specs.inner.Wants.{IsSeated, AreSeated}
use Rattle.hw_build.proofs.FeedOrder.{feed_same, feed_is, feed_differs}
use Rattle.dg_tables.proofs.EntryLayout.{set_there}
use Rattle.hw_build.proofs.Levels.{set_elsewhere}

cases_order : (c number : ℕ) → (c ≡ number) ⊎ (c ≢ number)
cases_order c number = elim (cases_lt c number) [
  | inl less ↦ inr (λ e. absurd (omega (arith, less, e)))
  | inr more ↦ elim (cases_lt number c) [
    | inl past ↦ inr (λ e. absurd (omega (arith, past, e)))
    | inr equal ↦ inl (omega (arith, more, equal))
  ]
]

-- ---- the class of a feed

pub class_found : (classes : List Class) (feed : Feed) (number : ℕ) (one : Class) → slice_get classes number ≡ Some one → one.feed ≡ feed → IsClassFor classes classes feed number
class_found classes feed number one at same = record { grown = inl refl; has = record { one = one; is = at; same = same } }

pub class_new : (old new : List Class) (feed : Feed) (number : ℕ) (one : Class) → number ≡ length old
    → new ≡ old ++ one ∷ [] → one.feed ≡ feed → one.uses.items ≡ []
    → ((c : ℕ) (other : Class) → slice_get old c ≡ Some other → other.feed ≢ feed)
    → IsClassFor old new feed number
class_new old new feed number one last grown same none fresh = record {
  grown = inr (one, grown, none, last, fresh);
  has = record { one = one; is = ap (slice_get new) last ∙ ap (λ (xs : List Class). slice_get xs (length old)) grown ∙ last_at old one; same = same };
}

-- ---- the index of classes

pub indexed_none : AreIndexed [] []
indexed_none = record { found = λ feed number e. absurd (none-some number e); none = λ feed e c one at. absurd (none-some one at) }

pub indexed_new : (old new : List Class) (index more : List (Feed × ℕ)) (feed : Feed) (number : ℕ) (one : Class) → AreIndexed old index → number ≡ length old → new ≡ old ++ one ∷ [] → one.feed ≡ feed
    → ((other : Feed) → number_at_feed more other ≡ (if is_same_feed feed other then Some number else number_at_feed index other)) → AreIndexed new more
indexed_new old new index more feed number one are last grown same put = record {
  found = λ other n e. found_at other n (is_same_feed feed other) refl (sym (put other) ∙ e);
  none = λ other e c x at. none_at other (is_same_feed feed other) refl (sym (put other) ∙ e) c x at;
}
  where
    here : slice_get new number ≡ Some one
    here = ap (slice_get new) last ∙ ap (λ (xs : List Class). slice_get xs (length old)) grown ∙ last_at old one

    found_at : (other : Feed) (n : ℕ) (flag : Bool) → is_same_feed feed other ≡ flag → (if flag then Some number else number_at_feed index other) ≡ Some n → HasFeed new other n
    found_at other n true is e = record { one = one; is = ap (slice_get new) (sym (same_Some number n e)) ∙ here; same = same ∙ feed_same feed other is }
    found_at other n false is e =
        let has = are.found other n e in
        record { one = has.one; is = ap (λ (xs : List Class). slice_get xs n) grown ∙ get_left old (one ∷ []) n has.one has.is; same = has.same }

    none_at : (other : Feed) (flag : Bool) → is_same_feed feed other ≡ flag
        → (if flag then Some number else number_at_feed index other) ≡ None → (c : ℕ) (x : Class)
        → slice_get new c ≡ Some x → x.feed ≢ other
    none_at other true is e c x at = absurd (none-some number (sym e))
    none_at other false is e c x at = elim (split-last old one x c (sym (ap (λ (xs : List Class). slice_get xs c) grown) ∙ at)) [
      | inl front ↦ are.none other e c x front.1
      | inr end ↦ λ equal. false≢true (sym is ∙ feed_is feed other (sym same ∙ ap (λ (y : Class). y.feed) end.1 ∙ equal))
    ]

pub indexed_set : (mid : List Class) (index : List (Feed × ℕ)) (number : ℕ) (one now : Class) → AreIndexed mid index
    → slice_get mid number ≡ Some one → now.feed ≡ one.feed → AreIndexed (slice_set mid number now) index
indexed_set mid index number one now are at same = record {
  found = λ feed n e. let has = are.found feed n e in found_at feed n has (cases_order n number);
  none = λ feed e c x there. none_at feed e c x there (cases_order c number);
}
  where
    here : slice_get (slice_set mid number now) number ≡ Some now
    here = set_there mid number now (slice_get_within mid number one at)

    found_at : (feed : Feed) (n : ℕ) (has : HasFeed mid feed n) → (n ≡ number) ⊎ (n ≢ number) → HasFeed (slice_set mid number now) feed n
    found_at feed n has (inl equal) = record {
      one = now;
      is =
          ap (slice_get (slice_set mid number now)) equal ∙ here;
      same =
          same ∙ ap (λ (y : Class). y.feed) (same_Some one has.one
          (sym at ∙ ap (slice_get mid) (sym equal) ∙ has.is)) ∙ has.same;
    }
    found_at feed n has (inr differs) = record { one = has.one; is = set_elsewhere mid number n now differs ∙ has.is; same = has.same }

    none_at : (feed : Feed) → number_at_feed index feed ≡ None → (c : ℕ) (x : Class) → slice_get (slice_set mid number now) c ≡ Some x → (c ≡ number) ⊎ (c ≢ number) → x.feed ≢ feed
    none_at feed e c x there (inl equal) =
        let own : ◌≡◌ {A = Class} now x = same_Some now x (sym here ∙ ap (slice_get (slice_set mid number now)) (sym equal) ∙ there) in
        λ e_feed. are.none feed e number one at (sym same ∙ ap (λ (y : Class). y.feed) own ∙ e_feed)
    none_at feed e c x there (inr differs) = are.none feed e c x (sym (set_elsewhere mid number c now differs) ∙ there)

-- ---- the uses of a feed

uses_more : (feed : Feed) (wants : List Want) (want : Want) → uses_of_feed feed (wants ++ want ∷ []) ≡ uses_of_feed feed wants ++ (if is_same_feed feed want.feed then want.to ∷ [] else [])
uses_more feed [] want = refl
uses_more feed (w ∷ wants) want = go (is_same_feed feed w.feed) (uses_more feed wants want)
  where
    tail : List Use
    tail = if is_same_feed feed want.feed then want.to ∷ [] else []

    go : (flag : Bool) → uses_of_feed feed (wants ++ want ∷ []) ≡ uses_of_feed feed wants ++ (if is_same_feed feed want.feed then want.to ∷ [] else [])
        → (if flag then w.to ∷ uses_of_feed feed (wants ++ want ∷ []) else uses_of_feed feed (wants ++ want ∷ []))
        ≡ (if flag then w.to ∷ uses_of_feed feed wants else uses_of_feed feed wants)
        ++ (if is_same_feed feed want.feed then want.to ∷ [] else [])
    go true rest = ap (λ (xs : List Use). w.to ∷ xs) rest
    go false rest = rest

uses_other : (feed : Feed) (wants : List Want) (want : Want) → feed ≢ want.feed → uses_of_feed feed (wants ++ want ∷ []) ≡ uses_of_feed feed wants
uses_other feed wants want differs = uses_more feed wants want
    ∙ ap (λ (flag : Bool). uses_of_feed feed wants ++ (if flag then want.to ∷ [] else []))
    (feed_differs feed want.feed differs) ∙ append-nil (uses_of_feed feed wants)

uses_own : (feed : Feed) (wants : List Want) (want : Want) → feed ≡ want.feed → uses_of_feed feed (wants ++ want ∷ []) ≡ uses_of_feed feed wants ++ want.to ∷ []
uses_own feed wants want same = uses_more feed wants want ∙ ap (λ (flag : Bool). uses_of_feed feed wants ++ (if flag then want.to ∷ [] else [])) (feed_is feed want.feed same)

uses_none : (feed : Feed) (wants : List Want) → ((k : ℕ) (want : Want) → slice_get wants k ≡ Some want → feed ≢ want.feed) → uses_of_feed feed wants ≡ []
uses_none feed [] none = refl
uses_none feed (w ∷ wants) none = ap (λ (flag : Bool). if flag then w.to
    ∷ uses_of_feed feed wants else uses_of_feed feed wants) (feed_differs feed w.feed (none 0 w refl))
    ∙ uses_none feed wants (λ k want at. none (suc k) want at)

pub folded_none : AreFolded [] []
folded_none = record {
  differ = λ c d one other less at there. absurd (none-some one at);
  each = λ c one at. absurd (none-some one at);
  covered = λ k want at. absurd (none-some want at);
}

-- ---- one more use

keeps_self : (one : Class) → KeepsUses one one
keeps_self one = record { same = refl; uses = λ p asked at. at }

-- the old classes stand where they stood
stands_mid : (old mid : List Class) (feed : Feed) (number c : ℕ) (one : Class) → IsClassFor old mid feed number → slice_get old c ≡ Some one → slice_get mid c ≡ Some one
stands_mid old mid feed number c one is at = elim is.grown [
  | inl same ↦ ap (λ (xs : List Class). slice_get xs c) same ∙ at
  | inr more ↦ ap (λ (xs : List Class). slice_get xs c) more.1 ∙ get_left old (more.0 ∷ []) c one at
]

one_use : (P : Use → Type 0) (uses : List Use) (one : Use) → All P uses → P one → All P (uses ++ one ∷ [])
one_use P uses one all is = All-append P uses (one ∷ []) all (λ k d below. go k d below)
  where
    go : (k : ℕ) (d : Use) → k < 1 → P (get_or (one ∷ []) k d)
    go zero d below = is
    go (suc k) d below = absurd (omega (arith, below))

-- all uses of the classes may be asked for, where the new class has none
asked_mid : (net : Circuit) (old mid : List Class) (feed : Feed) (number c : ℕ) (one : Class)
    → IsClassFor old mid feed number → AreClasses net old → slice_get mid c ≡ Some one
    → IsClass net one ⊎ ((c ≡ length old) × (one.uses.items ≡ []))
asked_mid net old mid feed number c one is are at = elim is.grown [
  | inl same ↦ inl (are.each c one (sym (ap (λ (xs : List Class). slice_get xs c) same) ∙ at))
  | inr more ↦ elim (split-last old more.0 one c (sym (ap (λ (xs : List Class). slice_get xs c) more.1) ∙ at)) [
    | inl front ↦ inl (are.each c one front.1)
    | inr last ↦ inr (last.0, sym (ap (λ (x : Class). x.uses.items) last.1) ∙ more.2)
  ]
]

module _ (old mid new : List Class) (want : Want) (number place : ℕ) (one now : Class) (is : IsClassFor old mid want.feed number) (at : slice_get mid number ≡ Some one)
    (set : new ≡ slice_set mid number now) (same : now.feed ≡ one.feed) (grown : now.uses.items ≡ one.uses.items ++ want.to ∷ []) (last : place ≡ length one.uses.items)
  where
    here : slice_get new number ≡ Some now
    here = ap (λ (xs : List Class). slice_get xs number) set ∙ set_there mid number now (slice_get_within mid number one at)

    elsewhere : (c : ℕ) → c ≢ number → slice_get new c ≡ slice_get mid c
    elsewhere c differs = ap (λ (xs : List Class). slice_get xs c) set ∙ set_elsewhere mid number c now differs

    feed_is_want : now.feed ≡ want.feed
    feed_is_want = same ∙ ap (λ (x : Class). x.feed) (same_Some one is.has.one (sym at ∙ is.has.is)) ∙ is.has.same

    keeps_here : (c : ℕ) (x : Class) → c ≡ number → slice_get mid c ≡ Some x → KeepsClass new c x
    keeps_here c x e there =
        let it : ◌≡◌ {A = Class} one x = same_Some one x (sym at ∙ ap (slice_get mid) (sym e) ∙ there) in
        record {
          one = now;
          is = ap (slice_get new) e ∙ here;
          keeps = subst (λ (y : Class). KeepsUses y now) it (record {
            same = same;
            uses = λ p asked stood. ap (λ (uses : List Use). slice_get uses p) grown ∙ get_left one.uses.items (want.to ∷ []) p asked stood;
          });
        }

    keeps_one : (c : ℕ) (x : Class) → slice_get mid c ≡ Some x → KeepsClass new c x
    keeps_one c x there = elim (cases_lt c number) [
      | inl less ↦ record { one = x; is = elsewhere c (λ e. absurd (omega (arith, less, e))) ∙ there; keeps = keeps_self x }
      | inr more ↦ elim (cases_lt number c) [
        | inl past ↦ record { one = x; is = elsewhere c (λ e. absurd (omega (arith, past, e))) ∙ there; keeps = keeps_self x }
        | inr equal ↦ keeps_here c x (omega (arith, more, equal)) there
      ]
    ]

    asked_now : (net : Circuit) → IsWant net want → AreClasses net old → IsClass net now
    asked_now net wanted are =
        let before : All (IsUse (source_by want.feed)) one.uses.items = elim (asked_mid net old mid want.feed number number one is are at) [
          | inl class ↦ subst (λ (f : Feed). All (IsUse (source_by f)) one.uses.items) (sym same ∙ feed_is_want) class.asked
          | inr none ↦ subst (λ (uses : List Use). All (IsUse (source_by want.feed)) uses) (sym none.1) (All-nil (IsUse (source_by want.feed)))
        ] in
        record {
          source = subst (λ (f : Feed). IsSource net (source_by f)) (sym feed_is_want) wanted.source;
          asked = subst (λ (f : Feed). All (IsUse (source_by f)) now.uses.items) (sym feed_is_want)
              (subst (λ (uses : List Use). All (IsUse (source_by want.feed)) uses) (sym grown)
              (one_use (IsUse (source_by want.feed)) one.uses.items want.to before wanted.asked));
        }

    sound_mid : (net : Circuit) → IsWant net want → AreClasses net old → (c : ℕ) (x : Class) → slice_get mid c ≡ Some x → c ≢ number → IsClass net x
    sound_mid net wanted are c x there differs = elim is.grown [
      | inl kept ↦ are.each c x (sym (ap (λ (xs : List Class). slice_get xs c) kept) ∙ there)
      | inr more ↦ elim (split-last old more.0 x c (sym (ap (λ (xs : List Class). slice_get xs c) more.1) ∙ there)) [
        | inl front ↦ are.each c x front.1
        | inr end ↦ absurd (differs (end.0 ∙ sym more.3))
      ]
    ]

    -- ---- classes of the wants so far

    -- the class at a place had its feed before
    was_at : (c : ℕ) (x : Class) → slice_get new c ≡ Some x → (y : Class) × (slice_get mid c ≡ Some y) × (y.feed ≡ x.feed)
    was_at c x there = go (cases_order c number)
      where
        go : (c ≡ number) ⊎ (c ≢ number) → (y : Class) × (slice_get mid c ≡ Some y) × (y.feed ≡ x.feed)
        go (inl equal) = (one, ap (slice_get mid) equal ∙ at, sym same ∙ ap (λ (z : Class). z.feed) (same_Some now x (sym here ∙ ap (slice_get new) (sym equal) ∙ there)))
        go (inr differs) = (x, sym (elsewhere c differs) ∙ there, refl)

    mid_differ : (wants : List Want) → AreFolded wants old → (c d : ℕ) (x y : Class) → c < d → slice_get mid c ≡ Some x → slice_get mid d ≡ Some y → x.feed ≢ y.feed
    mid_differ wants folded c d x y less c_at d_at = elim is.grown [
      | inl kept ↦ folded.differ c d x y less (sym (ap (λ (xs : List Class). slice_get xs c) kept) ∙ c_at) (sym (ap (λ (xs : List Class). slice_get xs d) kept) ∙ d_at)
      | inr more ↦ by more (split-last old more.0 x c
          (sym (ap (λ (xs : List Class). slice_get xs c) more.1) ∙ c_at))
          (split-last old more.0 y d (sym (ap (λ (xs : List Class). slice_get xs d) more.1) ∙ d_at))
    ]
      where
        new_feed : (more : (new_one : Class) × (mid ≡ old ++ new_one ∷ []) × (new_one.uses.items ≡ [])
            × (number ≡ length old) × ((k : ℕ) (other : Class) → slice_get old k ≡ Some other
            → other.feed ≢ want.feed)) (z : Class) (k : ℕ) → k ≡ length old → slice_get mid k ≡ Some z
            → z.feed ≡ want.feed
        new_feed more z k last z_at = ap (λ (q : Class). q.feed) (same_Some z is.has.one (sym z_at ∙ ap (slice_get mid) (last ∙ sym more.3) ∙ is.has.is)) ∙ is.has.same

        by : (more : (new_one : Class) × (mid ≡ old ++ new_one ∷ []) × (new_one.uses.items ≡ [])
            × (number ≡ length old)
            × ((k : ℕ) (other : Class) → slice_get old k ≡ Some other → other.feed ≢ want.feed))
            → ((c < length old) × (slice_get old c ≡ Some x)) ⊎ ((c ≡ length old) × (◌≡◌ {A = Class} more.0 x))
            → ((d < length old) × (slice_get old d ≡ Some y)) ⊎ ((d ≡ length old) × (◌≡◌ {A = Class} more.0 y))
            → x.feed ≢ y.feed
        by more (inl c_front) (inl d_front) = folded.differ c d x y less c_front.1 d_front.1
        by more (inl c_front) (inr d_last) =
            let last_feed : y.feed ≡ want.feed = new_feed more y d d_last.0 d_at in
            λ e. more.4 c x c_front.1 (e ∙ last_feed)
        by more (inr c_last) (inl d_front) = let a = c_last.0 in let b = d_front.0 in absurd (omega (arith, a, b, less))
        by more (inr c_last) (inr d_last) = let a = c_last.0 in let b = d_last.0 in absurd (omega (arith, a, b, less))

    -- what stands elsewhere has another feed, and stood there before
    other_feed : (wants : List Want) → AreFolded wants old → (c : ℕ) (x : Class) → slice_get mid c ≡ Some x → c ≢ number → x.feed ≢ want.feed
    other_feed wants folded c x there differs = elim (cases_lt c number) [
      | inl less ↦ λ e. mid_differ wants folded c number x is.has.one less there is.has.is (e ∙ sym is.has.same)
      | inr more ↦ elim (cases_lt number c) [
        | inl past ↦ λ e. mid_differ wants folded number c is.has.one x past is.has.is there (is.has.same ∙ sym e)
        | inr equal ↦ absurd (differs (omega (arith, more, equal)))
      ]
    ]

    stood_old : (c : ℕ) (x : Class) → slice_get mid c ≡ Some x → c ≢ number → slice_get old c ≡ Some x
    stood_old c x there differs = elim is.grown [
      | inl kept ↦ sym (ap (λ (xs : List Class). slice_get xs c) kept) ∙ there
      | inr more ↦ elim (split-last old more.0 x c (sym (ap (λ (xs : List Class). slice_get xs c) more.1) ∙ there)) [
        | inl front ↦ front.1
        | inr end ↦ absurd (differs (end.0 ∙ sym more.3))
      ]
    ]

    before_uses : (wants : List Want) → AreFolded wants old → one.uses.items ≡ uses_of_feed now.feed wants
    before_uses wants folded = elim is.grown [
      | inl kept ↦ (folded.each number one (sym (ap (λ (xs : List Class). slice_get xs number) kept) ∙ at)).uses_are ∙ ap (λ (f : Feed). uses_of_feed f wants) (sym same)
      | inr more ↦
          let own : ◌≡◌ {A = Class} more.0 one = same_Some more.0 one (sym (ap (slice_get mid) more.3 ∙ ap (λ (xs : List Class). slice_get xs (length old)) more.1 ∙ last_at old more.0) ∙ at) in
          sym (ap (λ (y : Class). y.uses.items) own) ∙ more.2
          ∙ sym (uses_none now.feed wants (λ k w w_at. let has = folded.covered k w w_at in λ e. more.4 has.0 has.1.one has.1.is (has.1.same ∙ sym e ∙ feed_is_own)))
    ]
      where
        feed_is_own : now.feed ≡ want.feed
        feed_is_own = feed_is_want

    folded_more : (wants : List Want) → AreFolded wants old → AreFolded (wants ++ want ∷ []) new
    folded_more wants folded = record {
      differ = λ c d x y less c_at d_at.
          let a = was_at c x c_at in
          let b = was_at d y d_at in
          λ e. mid_differ wants folded c d a.0 b.0 less a.1 b.1 (a.2 ∙ e ∙ sym b.2);
      each = λ c x there. by c x there (cases_order c number);
      covered = λ k w w_at. elim (split-last wants want w k w_at) [
        | inl front ↦
            let has = folded.covered k w front.1 in
            let keep = keeps_one has.0 has.1.one (stands_mid old mid want.feed number has.0 has.1.one is has.1.is) in
            (has.0, record { one = keep.one; is = keep.is; same = keep.keeps.same ∙ has.1.same })
        | inr end ↦ (number, record { one = now; is = here; same = feed_is_want ∙ ap (λ (y : Want). y.feed) end.1 })
      ];
    }
      where
        by : (c : ℕ) (x : Class) → slice_get new c ≡ Some x → (c ≡ number) ⊎ (c ≢ number) → IsFolded (wants ++ want ∷ []) x
        by c x there (inl equal) =
            let own : ◌≡◌ {A = Class} now x = same_Some now x (sym here ∙ ap (slice_get new) (sym equal) ∙ there) in
            subst (λ (y : Class). IsFolded (wants ++ want ∷ []) y) own (record {
              place = length wants;
              want = want;
              at = last_at wants want;
              same = sym feed_is_want;
              uses_are = grown ∙ ap (λ (xs : List Use). xs ++ want.to ∷ []) (before_uses wants folded) ∙ sym (uses_own now.feed wants want feed_is_want);
            })
        by c x there (inr differs) =
            let in_mid = sym (elsewhere c differs) ∙ there in
            let e = folded.each c x (stood_old c x in_mid differs) in
            record {
              place = e.place;
              want = e.want;
              at = get_left wants (want ∷ []) e.place e.want e.at;
              same = e.same;
              uses_are = e.uses_are ∙ sym (uses_other x.feed wants want (other_feed wants folded c x in_mid differs));
            }

    pub seat_more : IsSeated old new want (record { class = number; place = place })
    seat_more = record {
      keeps = record { each = λ c x there. keeps_one c x (stands_mid old mid want.feed number c x is there) };
      seat_is = record {
        one = now;
        is = here;
        same = feed_is_want;
        at = ap (slice_get now.uses.items) last ∙ ap (λ (uses : List Use). slice_get uses (length one.uses.items)) grown ∙ last_at one.uses.items want.to;
      };
      folded = folded_more;
      sound = λ net wanted are. record {
        each = λ c x there. elim (cases_lt c number) [
          | inl less ↦ sound_mid net wanted are c x (sym (elsewhere c (λ e. absurd (omega (arith, less, e)))) ∙ there) (λ e. absurd (omega (arith, less, e)))
          | inr more ↦ elim (cases_lt number c) [
            | inl past ↦ sound_mid net wanted are c x (sym (elsewhere c (λ e. absurd (omega (arith, past, e)))) ∙ there) (λ e. absurd (omega (arith, past, e)))
            | inr equal ↦ subst (λ (y : Class). IsClass net y)
                (same_Some now x (sym here ∙ ap (slice_get new)
                (let e : number ≡ c = omega (arith, more, equal) in e) ∙ there)) (asked_now net wanted are)
          ]
        ];
      };
    }

-- ---- wants one by one

take_one : (wants : List Want) (count : ℕ) (want : Want) → slice_get wants count ≡ Some want → take (count + 1) wants ≡ take count wants ++ want ∷ []
take_one wants count want at =
    let next : count + 1 ≡ suc count = omega arith in
    ap (λ (n : ℕ). take n wants) next ∙ take-suc wants count want (slice_get_within wants count want at)
    ∙ ap (λ (w : Want). take count wants ++ w ∷ []) (get_or_from_slice_get wants count want want at)

pub seated_none : (wants : List Want) → AreSeated wants [] [] 0
seated_none wants = record {
  size = refl;
  each = λ k want seat at there. absurd (none-some seat there);
  sound = λ net are. record { each = λ c one at. absurd (none-some one at) };
  folded = folded_none;
}

seat_later : (old new : List Class) (want : Want) (seat : Seat) → KeepsClasses old new → IsSeat old want seat → IsSeat new want seat
seat_later old new want seat keeps is =
    let more = keeps.each seat.class is.one is.is in
    record { one = more.one; is = more.is; same = more.keeps.same ∙ is.same; at = more.keeps.uses seat.place want.to is.at }

pub seated_more : (wants : List Want) (old new : List Class) (seats : List Seat) (count : ℕ) (want : Want)
    (seat : Seat) → AreSeated wants old seats count → slice_get wants count ≡ Some want → IsSeated old new want seat
    → AreSeated wants new (seats ++ seat ∷ []) (count + 1)
seated_more wants old new seats count want seat are at is = record {
  size = length-append seats (seat ∷ []) ∙ omega (arith, are.size);
  each = λ k w s here there. elim (split-last seats seat s k there) [
    | inl front ↦ seat_later old new w s is.keeps (are.each k w s here front.1)
    | inr last ↦
        let place : k ≡ count = omega (arith, last.0, are.size) in
        let same : ◌≡◌ {A = Want} want w = same_Some want w (sym at ∙ ap (slice_get wants) (sym place) ∙ here) in
        subst (λ (x : Want). IsSeat new x s) same (subst (λ (x : Seat). IsSeat new want x) last.1 is.seat_is)
  ];
  sound = λ net wanted. is.sound net (wanted.each count want at) (are.sound net wanted);
  folded =
      let more : take (count + 1) wants ≡ take count wants ++ want ∷ [] = take_one wants count want at in
      subst (λ (ws : List Want). AreFolded ws new) (sym more) (is.folded (take count wants) are.folded);
}
