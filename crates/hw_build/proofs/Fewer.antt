-- A chain has no more registers than are counted for the uses that share it.
use Rattle.std.proofs.Common.{◌≡◌, ℕ, zero, suc, ◌+◌, ◌/◌, ◌%◌, ◌<◌, ◌≤◌, inl, inr, Bool, true, false, cond, filter, List, [], ◌∷◌, ◌++◌, map, length, Some, ap, sym, ◌∙◌, subst, refl, arith}
use Rattle.std.specs.Prelude.{◌≢◌, ◌||◌, ◌&&◌, ◌==◌, not, nat_le, slice_get}
use Rattle.std.proofs.lemmas.Bool.{false≢true, and_parts, eqb-true, cases_Bool}
use Rattle.std.proofs.lemmas.Option.{none-some, same_Some}
use mathlib.Core.List.{map-map}
use Rattle.hw_net.specs.declared.netlist.Frame.{Frame}
use Rattle.hw_net.specs.ByFrame.{is_same_frame}
use Rattle.hw_lines.specs.declared.source.Source.{Source}
use Rattle.hw_lines.specs.declared.source.Use.{Use as Asked}
use Rattle.hw_lines.specs.Chain.{reader_of, is_among, different_after, different, most_frames, is_whole as is_whole_asked, parted, parted_frames}
use Rattle.math_list.specs.Numbers.{greatest}
use Rattle.hw_sched.specs.Chained.{Use, distinct, is_same_use, is_whole, registers_of}
use Rattle.hw_build.proofs.CounterFrames.{Stands, filter_stands, without, one_less, still_stands}
use Rattle.hw_net.proofs.Index.{same-self}

-- ---- lists in which nothing stands twice

pub record StandOnce {A : Type 0} (xs : List A) : Type 0 where
  pub apart : (j k : ℕ) (x y : A) → j < k → slice_get xs j ≡ Some x → slice_get xs k ≡ Some y → x ≢ y

pub no_longer : {A : Type 0} (xs ys : List A) → ((k : ℕ) (x : A) → slice_get xs k ≡ Some x → Stands ys x) → StandOnce xs → length xs ≤ length ys
no_longer [] ys stand once = omega arith
no_longer (x ∷ xs) ys stand once =
    let here = stand 0 x refl in
    let rest = no_longer xs (without ys here.place)
    (λ k y at. let there = stand (suc k) y at in still_stands ys here.place there.place x y here.at there.at (once.apart 0 (suc k) x y (omega arith) refl at))
    (record { apart = λ j k y z less at there. once.apart (suc j) (suc k) y z (omega (arith, less)) at there }) in
    let less = one_less ys here.place x here.at in
    omega (arith, rest, less)

-- ---- frames that none before is

abbrev news : List Frame → List Frame → List Frame
news before [] = []
news before (x ∷ xs) = cond (is_among x before) (news (before ++ x ∷ []) xs) (x ∷ news (before ++ x ∷ []) xs)

as_many : (before xs : List Frame) → length (news before xs) ≡ different_after before xs
as_many before [] = refl
as_many before (x ∷ xs) = go (is_among x before) (as_many (before ++ x ∷ []) xs)
  where
    go : (b : Bool) → length (news (before ++ x ∷ []) xs) ≡ different_after (before ++ x ∷ []) xs
        → length (cond b (news (before ++ x ∷ []) xs) (x ∷ news (before ++ x ∷ []) xs))
        ≡ cond b 0 1 + different_after (before ++ x ∷ []) xs
    go true e = omega (arith, e)
    go false e = omega (arith, e)

among_more : (frame x : Frame) (before : List Frame) → is_among frame (before ++ x ∷ []) ≡ false → (is_among frame before ≡ false) × (is_same_frame x frame ≡ false)
among_more frame x [] e = (refl, or_left (is_same_frame x frame) false e)
  where
    or_left : (a b : Bool) → (a || b) ≡ false → a ≡ false
    or_left true b e = absurd (false≢true (sym e))
    or_left false b e = refl
among_more frame x (y ∷ before) e = go (is_same_frame y frame) refl e (λ h. among_more frame x before h)
  where
    go : (b : Bool) → is_same_frame y frame ≡ b → (b || is_among frame (before ++ x ∷ [])) ≡ false
        → (is_among frame (before ++ x ∷ []) ≡ false
        → (is_among frame before ≡ false) × (is_same_frame x frame ≡ false))
        → ((b || is_among frame before) ≡ false) × (is_same_frame x frame ≡ false)
    go true is h rest = absurd (false≢true (sym h))
    go false is h rest = rest h

-- a frame that is new stands in the list, and is none before
pub record IsNew (before xs : List Frame) (y : Frame) : Type 0 where
  pub there : Stands xs y
  pub other : is_among y before ≡ false

later_new : (before xs : List Frame) (x y : Frame) → IsNew (before ++ x ∷ []) xs y → IsNew before (x ∷ xs) y
later_new before xs x y is = record { there = record { place = suc is.there.place; at = is.there.at }; other = (among_more y x before is.other).0 }

are_new : (before xs : List Frame) (k : ℕ) (y : Frame) → slice_get (news before xs) k ≡ Some y → IsNew before xs y
are_new before [] k y at = absurd (none-some y at)
are_new before (x ∷ xs) k y at = go (is_among x before) refl k at (λ j there. are_new (before ++ x ∷ []) xs j y there)
  where
    go : (b : Bool) → is_among x before ≡ b → (k : ℕ)
        → slice_get (cond b (news (before ++ x ∷ []) xs) (x ∷ news (before ++ x ∷ []) xs)) k ≡ Some y
        → ((j : ℕ) → slice_get (news (before ++ x ∷ []) xs) j ≡ Some y → IsNew (before ++ x ∷ []) xs y)
        → IsNew before (x ∷ xs) y
    go true e k at rest = later_new before xs x y (rest k at)
    go false e zero at rest = record { there = record { place = 0; at = at }; other = subst (λ (f : Frame). is_among f before ≡ false) (same_Some x y at) e }
    go false e (suc k) at rest = later_new before xs x y (rest k at)

once_new : (before xs : List Frame) → StandOnce (news before xs)
once_new before [] = record { apart = λ j k x y less at there. absurd (none-some x at) }
once_new before (x ∷ xs) = go (is_among x before) (once_new (before ++ x ∷ []) xs)
  where
    go : (b : Bool) → StandOnce (news (before ++ x ∷ []) xs) → StandOnce (cond b (news (before ++ x ∷ []) xs) (x ∷ news (before ++ x ∷ []) xs))
    go true rest = rest
    go false rest = record { apart = λ j k y z less at there. apart_at j k y z less at there rest }
      where
        apart_at : (j k : ℕ) (y z : Frame) → j < k → slice_get (x ∷ news (before ++ x ∷ []) xs) j ≡ Some y
            → slice_get (x ∷ news (before ++ x ∷ []) xs) k ≡ Some z → StandOnce (news (before ++ x ∷ []) xs) → y ≢ z
        apart_at j zero y z less at there rest = absurd (omega (arith, less))
        apart_at zero (suc k) y z less at there rest =
            let differs = (among_more z x before (are_new (before ++ x ∷ []) xs k z there).other).1 in
            λ e. false≢true (sym differs ∙ ap (λ (f : Frame). is_same_frame f z) (same_Some x y at ∙ e) ∙ same-self z)
        apart_at (suc j) (suc k) y z less at there rest = rest.apart j k y z (omega (arith, less)) at there

-- ---- uses

module _ (frame_of : Use → Frame) (same_frame : (one other : Use) → is_same_use one other ≡ true → frame_of one ≡ frame_of other) where
  -- a use's frame is that of one that is counted
  pub record IsCovered (uses : List Use) (frame : Frame) : Type 0 where
    pub one : Use
    pub there : Stands (distinct is_same_use uses) one
    pub is : frame_of one ≡ frame

  covered : (uses : List Use) (k : ℕ) (x : Use) → slice_get uses k ≡ Some x → IsCovered uses (frame_of x)
  covered [] k x at = absurd (none-some x at)
  covered (y ∷ uses) zero x at = record { one = y; there = record { place = 0; at = refl }; is = ap frame_of (same_Some y x at) }
  covered (y ∷ uses) (suc k) x at =
      let later = covered uses k x at in
      elim (cases_Bool (is_same_use y later.one)) [
        | inl same ↦ record { one = y; there = record { place = 0; at = refl }; is = same_frame y later.one same ∙ later.is }
        | inr differs ↦
            let stays = filter_stands (λ (z : Use). not (is_same_use y z)) (distinct is_same_use uses) later.there.place later.one later.there.at (ap not differs) in
            record { one = later.one; there = record { place = suc stays.place; at = stays.at }; is = later.is }
      ]

  mapped_from : (uses : List Use) (k : ℕ) (frame : Frame) → slice_get (map frame_of uses) k ≡ Some frame → (x : Use) × (slice_get uses k ≡ Some x) × (frame_of x ≡ frame)
  mapped_from [] k frame at = absurd (none-some frame at)
  mapped_from (y ∷ uses) zero frame at = (y, refl, same_Some (frame_of y) frame at)
  mapped_from (y ∷ uses) (suc k) frame at = mapped_from uses k frame at

  mapped_at : (uses : List Use) (k : ℕ) (x : Use) → slice_get uses k ≡ Some x → slice_get (map frame_of uses) k ≡ Some (frame_of x)
  mapped_at [] k x at = absurd (none-some x at)
  mapped_at (y ∷ uses) zero x at = ap (λ (u : Use). Some (frame_of u)) (same_Some y x at)
  mapped_at (y ∷ uses) (suc k) x at = mapped_at uses k x at

  length_mapped : (uses : List Use) → length (map frame_of uses) ≡ length uses
  length_mapped [] = refl
  length_mapped (y ∷ uses) = ap suc (length_mapped uses)

  -- there are no more different frames than different uses
  pub few_frames : (uses : List Use) → different (map frame_of uses) ≤ length (distinct is_same_use uses)
  few_frames uses =
      let many = as_many [] (map frame_of uses) in
      let less = no_longer (news [] (map frame_of uses)) (map frame_of (distinct is_same_use uses))
      (λ k frame at.
      let new = (are_new [] (map frame_of uses) k frame at).there in
      let from = mapped_from uses new.place frame new.at in
      let cover = covered uses new.place from.0 from.1 in
      record { place = cover.there.place; at = mapped_at (distinct is_same_use uses) cover.there.place cover.one cover.there.at ∙ ap Some (cover.is ∙ from.2) })
      (once_new [] (map frame_of uses)) in
      let size = length_mapped (distinct is_same_use uses) in
      omega (arith, many, less, size)

-- a use as a chain is asked for it
abbrev pub asked_of : Use → Asked
asked_of one = record { shift = one.shift; period = one.period }

most_is : (period : ℕ) (uses : List Use) → ((k : ℕ) (one : Use) → slice_get uses k ≡ Some one → one.source ≡ period)
    → most_frames period (map asked_of uses) ≡ greatest (map (λ (one : Use). one.shift / one.source) uses)
most_is period [] same = refl
most_is period (one ∷ uses) same =
    let here : one.shift / period ≡ one.shift / one.source = ap (λ (p : ℕ). one.shift / p) (sym (same 0 one refl)) in
    let rest = most_is period uses (λ k other at. same (suc k) other at) in
    omega (arith, here, rest)

-- the uses that aren't later by whole periods
abbrev others : List Use → List Use
others uses = filter (λ (one : Use). not (is_whole one)) uses

parted_are : (source : Source) (uses : List Use)
    → ((k : ℕ) (one : Use) → slice_get uses k ≡ Some one → one.source ≡ source.frame.period)
    → parted source (map asked_of uses) ≡ map asked_of (others uses)
parted_are source [] same = refl
parted_are source (one ∷ uses) same = go (is_whole one) here (parted_are source uses (λ k other at. same (suc k) other at))
  where
    here : is_whole_asked source (asked_of one) ≡ is_whole one
    here = ap (λ (p : ℕ). (one.shift % p == 0) && nat_le one.period p) (sym (same 0 one refl))

    go : (whole : Bool) → is_whole_asked source (asked_of one) ≡ whole → parted source (map asked_of uses) ≡ map asked_of (others uses)
        → parted source (asked_of one ∷ map asked_of uses) ≡ map asked_of (cond (not whole) (one ∷ others uses) (others uses))
    go true e rest = ap (λ (b : Bool). cond (not b) (asked_of one ∷ parted source (map asked_of uses)) (parted source (map asked_of uses))) e ∙ rest
    go false e rest = ap (λ (b : Bool). cond (not b) (asked_of one ∷ parted source (map asked_of uses)) (parted source (map asked_of uses))) e ∙ ap (λ (xs : List Asked). asked_of one ∷ xs) rest

-- the registers of a chain whose uses are these
pub chain_registers : (source : Source) (uses : List Use)
    → ((k : ℕ) (one : Use) → slice_get uses k ≡ Some one → one.source ≡ source.frame.period)
    → most_frames source.frame.period (map asked_of uses) + different (parted_frames source (map asked_of uses))
    ≤ registers_of uses
chain_registers source uses same =
    let most = most_is source.frame.period uses same in
    let frames : parted_frames source (map asked_of uses)
    ≡ map (λ (one : Use). reader_of source (asked_of one)) (others uses) =
    ap (map (reader_of source)) (parted_are source uses same)
    ∙ map-map (reader_of source) asked_of (others uses) in
    let count : different (parted_frames source (map asked_of uses)) ≡ different (map (λ (one : Use). reader_of source (asked_of one)) (others uses)) = ap different frames in
    let less = few_frames (λ (one : Use). reader_of source (asked_of one))
    (λ one other e.
    let parts = and_parts (one.shift == other.shift) (one.period == other.period) e in
    let shift : one.shift ≡ other.shift = eqb-true one.shift other.shift parts.0 in
    let period : one.period ≡ other.period = eqb-true one.period other.period parts.1 in
    ap (λ (s : ℕ). reader_of source (record { shift = s; period = one.period })) shift ∙ ap (λ (p : ℕ). reader_of source (record { shift = other.shift; period = p })) period)
    (others uses) in
    omega (arith, most, count, less)
