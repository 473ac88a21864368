-- One use after another.
use Rattle.std.proofs.Common.{◌≡◌, ℕ, zero, suc, ◌+◌, ◌*◌, ◌/◌, ◌<◌, ◌≤◌, ◌||◌, inl, inr, List, [], ◌∷◌, ◌++◌, take, drop, map, cond, length, All, Contains, Option, None, Some, is_some, slice_get}
use Rattle.std.proofs.Common.{slice_index_or, Bool, true, false, if◌then◌else◌, ap, sym, ◌∙◌, subst, arith, refl, length-append, mul-le-mul_right}
use Rattle.std.proofs.Math.Seq.{take-suc, drop-cons}
use Rattle.std.proofs.lemmas.Option.{none-some, same_Some, slice_get_within, slice_get-get_or, get_or_from_slice_get}
use Rattle.std.specs.Prelude.{not}
use Rattle.std.proofs.lemmas.List.{take-map}
use Rattle.hw_net.specs.declared.netlist.Frame.{Frame}
use Rattle.hw_net.specs.Circuit.{Circuit}
use Rattle.hw_net.specs.ByFrame.{is_same_frame, number_at_frame}
use Rattle.hw_net.specs.Frames.{register_count}
use Rattle.hw_net.proofs.Index.{same-is}
use Rattle.hw_net.proofs.Growth.{extends-self}
use Rattle.math_list.proofs.Places.{split-last, there_map}
use Rattle.hw_lines.specs.declared.source.Source.{Source}
use Rattle.hw_lines.specs.declared.source.Use.{Use}
use Rattle.hw_lines.specs.Chain.{IsSource, IsAnswer, AreAnswers, IsChained, IsCountedIn, reader_of, is_among, different_after, different, most_frames}
use Rattle.hw_lines.specs.Chain.{is_whole, parted, parted_frames}
use Rattle.hw_lines.specs.Register.{CanHold, Grows}
use Rattle.hw_lines.specs.inner.Parts.{AreTaps}
use Rattle.hw_lines.specs.inner.Ends.{IsEnd, Ends, IsEndFor, PutsEnd, IsDone, frames_of}
use Rattle.hw_lines.proofs.Steps.{tap-can-hold, taps-stay, answer-stays, grows-wider}

among-more : (frame : Frame) (frames : List Frame) (one : Frame) → is_among frame (frames ++ one ∷ []) ≡ (is_among frame frames || is_same_frame one frame)
among-more frame [] one = by (is_same_frame one frame)
  where
    by : (is : Bool) → (is || false) ≡ is
    by true = refl
    by false = refl
among-more frame (other ∷ frames) one = by (is_same_frame other frame) (among-more frame frames one)
  where
    by : (is : Bool) → is_among frame (frames ++ one ∷ []) ≡ (is_among frame frames || is_same_frame one frame)
        → (is || is_among frame (frames ++ one ∷ [])) ≡ ((is || is_among frame frames) || is_same_frame one frame)
    by true rest = refl
    by false rest = rest

-- ---- uses that aren't whole

module _ (source : Source) (one : Use) where
  whole-here : (rest : List Use) → is_whole source one ≡ true → parted_frames source (one ∷ rest) ≡ parted_frames source rest
  whole-here rest e = ap (λ (b : Bool). map (reader_of source) (cond (not b) (one ∷ parted source rest) (parted source rest))) e

  parted-here : (rest : List Use) → is_whole source one ≡ false → parted_frames source (one ∷ rest) ≡ reader_of source one ∷ parted_frames source rest
  parted-here rest e = ap (λ (b : Bool). map (reader_of source) (cond (not b) (one ∷ parted source rest) (parted source rest))) e

  whole-last : (uses : List Use) → is_whole source one ≡ true → parted_frames source (uses ++ one ∷ []) ≡ parted_frames source uses
  whole-last [] e = whole-here [] e
  whole-last (x ∷ uses) e = by (is_whole source x) (whole-last uses e)
    where
      by : (whole : Bool) → parted_frames source (uses ++ one ∷ []) ≡ parted_frames source uses
          → map (reader_of source) (cond (not whole) (x ∷ parted source (uses ++ one ∷ []))
          (parted source (uses ++ one ∷ [])))
          ≡ map (reader_of source) (cond (not whole) (x ∷ parted source uses) (parted source uses))
      by true rest = rest
      by false rest = ap (λ (frames : List Frame). reader_of source x ∷ frames) rest

  parted-last : (uses : List Use) → is_whole source one ≡ false → parted_frames source (uses ++ one ∷ []) ≡ parted_frames source uses ++ reader_of source one ∷ []
  parted-last [] e = parted-here [] e
  parted-last (x ∷ uses) e = by (is_whole source x) (parted-last uses e)
    where
      by : (whole : Bool) → parted_frames source (uses ++ one ∷ []) ≡ parted_frames source uses ++ reader_of source one ∷ []
          → map (reader_of source) (cond (not whole) (x ∷ parted source (uses ++ one ∷ []))
          (parted source (uses ++ one ∷ [])))
          ≡ map (reader_of source) (cond (not whole) (x ∷ parted source uses) (parted source uses))
          ++ reader_of source one ∷ []
      by true rest = rest
      by false rest = ap (λ (frames : List Frame). reader_of source x ∷ frames) rest

-- a frame that is among none of the uses is among none that aren't whole
among-parted : (source : Source) (frame : Frame) (uses : List Use) → is_among frame (map (reader_of source) uses) ≡ false → is_among frame (parted_frames source uses) ≡ false
among-parted source frame [] e = refl
among-parted source frame (x ∷ uses) e = by (is_whole source x) (is_same_frame (reader_of source x) frame) refl e (among-parted source frame uses)
  where
    by : (whole same : Bool) → is_same_frame (reader_of source x) frame ≡ same → (same || is_among frame (map (reader_of source) uses)) ≡ false
        → (is_among frame (map (reader_of source) uses) ≡ false → is_among frame (parted_frames source uses) ≡ false)
        → is_among frame (map (reader_of source) (cond (not whole) (x ∷ parted source uses) (parted source uses))) ≡ false
    by whole true s h rest = absurd (let f : true ≡ false = h in cc)
    by true false s h rest = rest h
    by false false s h rest = ap (λ (b : Bool). b || is_among frame (parted_frames source uses)) s ∙ rest h

-- what one use more leaves to be counted
module _ (source : Source) (uses rest : List Use) (one : Use) (now new bound : ℕ) where
  abbrev Left : Type 0
  Left = now + different_after (parted_frames source uses) (parted_frames source (one ∷ rest)) ≤ bound

  abbrev Goal : Type 0
  Goal = new + different_after (parted_frames source (uses ++ one ∷ [])) (parted_frames source rest) ≤ bound

  after-known : Left → new ≡ now → Goal
  after-known left same = by (is_whole source one) refl
    where
      by : (whole : Bool) → is_whole source one ≡ whole → Goal
      by true e = let left : now + different_after (parted_frames source uses) (parted_frames source rest) ≤ bound =
          rw (whole-here source one rest e) at left in rw (whole-last source one uses e, same) left
      by false e =
          let left : now + ((if is_among (reader_of source one) (parted_frames source uses) then 0 else 1)
          + different_after (parted_frames source uses ++ reader_of source one ∷ [])
          (parted_frames source rest)) ≤ bound = rw (parted-here source one rest e) at left in
          rw (parted-last source one uses e, same) (omega (arith, left))

  after-new : Left → is_among (reader_of source one) (map (reader_of source) uses) ≡ false → new ≤ now + (if is_whole source one then 0 else 1) → Goal
  after-new left among few = by (is_whole source one) refl few
    where
      by : (whole : Bool) → is_whole source one ≡ whole → new ≤ now + (if whole then 0 else 1) → Goal
      by true e few = let left : now + different_after (parted_frames source uses) (parted_frames source rest)
          ≤ bound = rw (whole-here source one rest e) at left in
          rw (whole-last source one uses e) (omega (arith, left, few))
      by false e few =
          let left : now + ((if is_among (reader_of source one) (parted_frames source uses) then 0 else 1)
          + different_after (parted_frames source uses ++ reader_of source one ∷ [])
          (parted_frames source rest)) ≤ bound = rw (parted-here source one rest e) at left in
          let left : now + (1 + different_after (parted_frames source uses ++ reader_of source one ∷ [])
          (parted_frames source rest)) ≤ bound =
          rw (among-parted source (reader_of source one) uses among) at left in
          rw (parted-last source one uses e) (omega (arith, left, few))

-- ---- the end of a use

-- a frame that has an end has it however it is asked
known-put : (entries : List (Frame × ℕ)) (reader other : Frame) (number : ℕ) (is : Bool) → is_same_frame reader other ≡ is → number_at_frame entries reader ≡ Some number
    → number_at_frame entries other ≡ (if is then Some number else number_at_frame entries other)
known-put entries reader other number true same known = ap (number_at_frame entries) (sym (same-is reader other same)) ∙ known
known-put entries reader other number false same known = refl

pub known-end : (now : Circuit) (source : Source) (taps : List ℕ) (entries : List (Frame × ℕ))
    (answers answered : List ℕ) (one : Use) (number : ℕ)
    → number_at_frame entries (reader_of source one) ≡ Some number
    → answered ≡ answers ++ number ∷ [] → PutsEnd now now source taps entries entries answers answered one
known-end now source taps entries answers answered one number known put = record {
  number = number;
  end = record {
    extends = extends-self now;
    stood = λ k is. (same_Some number k (sym known ∙ is), refl);
    made = λ none. absurd (none-some number (sym none ∙ known));
  };
  put = λ other. known-put entries (reader_of source one) other number (is_same_frame (reader_of source one) other) refl known;
  answers_are = put;
}

pub new-end : (now new : Circuit) (source : Source) (taps : List ℕ) (known : Option ℕ) (one : Use) (number : ℕ)
    → known ≡ None → IsEnd now new source taps one number → Ends now new source taps one
    → IsEndFor now new source taps known one number
new-end now new source taps known one number none end ends = record {
  extends = ends.extends;
  stood = λ k is. absurd (none-some k (sym none ∙ is));
  made = λ same. (end, ends);
}

pub most-of : (period : ℕ) (uses : List Use) (i : ℕ) (one : Use) → slice_get uses i ≡ Some one → one.shift / period ≤ most_frames period uses
most-of period [] i one e = absurd (let f : None ≡ Some one = e in cc)
most-of period (first ∷ uses) zero one e =
    let same : first ≡ one = (let f : Some first ≡ Some one = e in cc) in
    let is : first.shift / period ≡ one.shift / period = ap (λ (x : Use). x.shift / period) same in
    omega arith
most-of period (first ∷ uses) (suc i) one e = let rest = most-of period uses i one e in omega arith

pub room : (period cycles : ℕ) → period ≤ 4096 → cycles ≤ 1024 → period * cycles < 4294967296
room period cycles p c = let e : period * cycles ≤ 4096 * cycles = mul-le-mul_right cycles p in omega arith

pub taps-can-hold : (before now : Circuit) (source : Source) (taps : List ℕ) → IsSource before source → AreTaps before now source taps → All (λ tap. CanHold now tap source.first) taps
taps-can-hold before now source taps is are k d within = tap-can-hold before now source k (slice_index_or taps k d) is (are.each k (slice_index_or taps k d) (slice_get-get_or taps k d within))

pub done-start : (before now : Circuit) (source : Source) (uses : List Use) (taps : List ℕ) → AreTaps before now source taps → Grows before now source.from ⊥ (λ (other : Frame). other ≡ source.frame)
    → register_count now.nets ≡ register_count before.nets + most_frames source.frame.period uses
    → IsDone before now source uses (register_count before.nets + most_frames source.frame.period uses + different (parted_frames source uses)) taps [] [] 0
done-start before now source uses taps are grown count = record {
  size = refl;
  are = λ k one number there answer. absurd (let e : None ≡ Some number = answer in cc);
  ends = record { each = λ reader number e. absurd (let f : None ≡ Some number = e in cc) };
  among = λ frame. refl;
  grown = grows-wider before now source.from ⊥ (source.registered ≡ false) (λ (other : Frame). other ≡ source.frame) (IsCountedIn source uses) (λ none. absurd none) (λ frame same. inl same) grown;
  few = omega (arith, count);
  taps_are = are;
}

module _ (before now new : Circuit) (source : Source) (uses : List Use) (bound : ℕ) (taps : List ℕ) (entries later : List (Frame × ℕ)) (answers : List ℕ) (i number : ℕ) (one : Use)
    (done : IsDone before now source uses bound taps entries answers i) (at : slice_get uses i ≡ Some one)
    (end : IsEndFor now new source taps (number_at_frame entries (reader_of source one)) one number)
    (put : (other : Frame) → number_at_frame later other ≡ (if is_same_frame (reader_of source one) other then Some number else number_at_frame entries other)) where
  reader : Frame
  reader = reader_of source one

  abbrev frames : List Frame
  frames = frames_of source uses

  frame-at : slice_get frames i ≡ Some (reader_of source one)
  frame-at = there_map (reader_of source) uses i one at

  inside : i < length frames
  inside = slice_get_within frames i (reader_of source one) frame-at

  take-more : take (i + 1) frames ≡ take i frames ++ reader_of source one ∷ []
  take-more =
      let e : i + 1 ≡ suc i = omega arith in
      ap (λ (k : ℕ). take k frames) e ∙ take-suc frames i (reader_of source one) inside
      ∙ ap (λ (f : Frame). take i frames ++ f ∷ [])
      (get_or_from_slice_get frames i (reader_of source one) (reader_of source one) frame-at)

  more-among : (frame : Frame) → is_among frame (take (i + 1) frames) ≡ (is_among frame (take i frames) || is_same_frame (reader_of source one) frame)
  more-among frame = ap (is_among frame) take-more ∙ among-more frame (take i frames) (reader_of source one)

  -- the answer for the use, known or new
  answer-of : (known : Option ℕ) → number_at_frame entries (reader_of source one) ≡ known → IsAnswer before new source (reader_of source one) number
  answer-of None e = (end.made e).0.answer before done.taps_are done.grown.appends.extends
  answer-of (Some k) e =
      let stood = end.stood k e in
      rw (stood.0, stood.1) (done.ends.each (reader_of source one) k e)

  answer : IsAnswer before new source (reader_of source one) number
  answer = answer-of (number_at_frame entries (reader_of source one)) refl

  known-among : (known : Option ℕ) → number_at_frame entries (reader_of source one) ≡ known → is_among (reader_of source one) (take i frames) ≡ is_some known
  known-among known e = sym (done.among (reader_of source one)) ∙ ap is_some e

  inside-uses : i < length uses
  inside-uses = slice_get_within uses i one at

  take-use : take (i + 1) uses ≡ take i uses ++ one ∷ []
  take-use =
      let e : i + 1 ≡ suc i = omega arith in
      ap (λ (k : ℕ). take k uses) e ∙ take-suc uses i one inside-uses ∙ ap (λ (u : Use). take i uses ++ u ∷ []) (get_or_from_slice_get uses i one one at)

  drop-use : drop i uses ≡ one ∷ drop (i + 1) uses
  drop-use =
      let e : suc i ≡ i + 1 = omega arith in
      drop-cons uses i one inside-uses ∙ (λ j. get_or_from_slice_get uses i one one at j ∷ drop (e j) uses)

  few-of : (known : Option ℕ) → number_at_frame entries (reader_of source one) ≡ known
      → register_count new.nets + different_after (parted_frames source (take (i + 1) uses))
      (parted_frames source (drop (i + 1) uses)) ≤ bound
  few-of known e = by known e (known-among known e)
    where
      left : register_count now.nets + different_after (parted_frames source (take i uses)) (parted_frames source (one ∷ drop (i + 1) uses)) ≤ bound
      left = rw drop-use at done.few

      by : (known : Option ℕ) → number_at_frame entries (reader_of source one) ≡ known → is_among (reader_of source one) (take i frames) ≡ is_some known
          → register_count new.nets + different_after (parted_frames source (take (i + 1) uses)) (parted_frames source (drop (i + 1) uses)) ≤ bound
      by None e among =
          let none : is_among (reader_of source one) (map (reader_of source) (take i uses)) ≡ false = rw (take-map (reader_of source) i uses) at among in
          rw take-use (after-new source (take i uses) (drop (i + 1) uses) one (register_count now.nets) (register_count new.nets) bound left none (end.made e).1.few)
      by (Some k) e among =
          rw take-use (after-known source (take i uses) (drop (i + 1) uses) one (register_count now.nets)
          (register_count new.nets) bound left (ap (λ (x : Circuit). register_count x.nets) (end.stood k e).1))

  grown-of : (known : Option ℕ) → number_at_frame entries (reader_of source one) ≡ known → Grows before new source.from (source.registered ≡ false) (IsCountedIn source uses)
  grown-of None e = (end.made e).1.grown before uses (among-uses uses i one at) done.taps_are done.grown
    where
      among-uses : (xs : List Use) (k : ℕ) (x : Use) → slice_get xs k ≡ Some x → Contains xs x
      among-uses xs k x there = (k, slice_get_within xs k x there, get_or_from_slice_get xs k x x there)
  grown-of (Some k) e = rw (end.stood k e).1 done.grown

  among-of : (frame : Frame) (is : Bool) → is_same_frame (reader_of source one) frame ≡ is
      → is_some (if is then Some number else number_at_frame entries frame) ≡ (is_among frame (take i frames) || is)
  among-of frame true e = sym (or-true (is_among frame (take i frames)))
    where
      or-true : (b : Bool) → (b || true) ≡ true
      or-true true = refl
      or-true false = refl
  among-of frame false e = done.among frame ∙ sym (or-false (is_among frame (take i frames)))
    where
      or-false : (b : Bool) → (b || false) ≡ b
      or-false true = refl
      or-false false = refl

  end-of : (frame : Frame) (k : ℕ) (is : Bool) → is_same_frame (reader_of source one) frame ≡ is
      → (if is then Some number else number_at_frame entries frame) ≡ Some k → IsAnswer before new source frame k
  end-of frame k true e f =
      let same : number ≡ k = (let g : Some number ≡ Some k = f in cc) in
      subst (λ (x : Frame). IsAnswer before new source x k) (same-is (reader_of source one) frame e) (subst (IsAnswer before new source (reader_of source one)) same answer)
  end-of frame k false e f = answer-stays before now new source frame k end.extends (done.ends.each frame k f)

  pub done-more : IsDone before new source uses bound taps later (answers ++ number ∷ []) (i + 1)
  done-more = record {
    size = length-append answers (number ∷ []) ∙ omega (arith, done.size);
    are = λ k use_k given there stands.
        elim (split-last answers number given k stands) [
          | inl front ↦ answer-stays before now new source (reader_of source use_k) given end.extends (done.are k use_k given there front.1)
          | inr last ↦
              let place : k ≡ i = last.0 ∙ done.size in
              let same : one ≡ use_k = same-use (sym at ∙ ap (slice_get uses) (sym place) ∙ there) in
              subst (λ (x : Use). IsAnswer before new source (reader_of source x) given) same (subst (IsAnswer before new source (reader_of source one)) last.1 answer)
        ];
    ends = record { each = λ frame k e. end-of frame k (is_same_frame (reader_of source one) frame) refl (sym (put frame) ∙ e) };
    among = λ frame. ap is_some (put frame) ∙ among-of frame (is_same_frame (reader_of source one) frame) refl ∙ sym (more-among frame);
    grown = grown-of (number_at_frame entries (reader_of source one)) refl;
    few = few-of (number_at_frame entries (reader_of source one)) refl;
    taps_are = taps-stay before now new source taps end.extends done.taps_are;
  }
    where
      same-use : {x y : Use} → Some x ≡ Some y → x ≡ y
      same-use e = cc

module _ (before now : Circuit) (source : Source) (uses : List Use) (bound : ℕ) (taps : List ℕ)
    (entries : List (Frame × ℕ)) (answers : List ℕ) (i : ℕ) (all : i ≡ length uses)
    (done : IsDone before now source uses bound taps entries answers i) where
  pub done-answers : AreAnswers before now source uses answers
  done-answers = record { count = done.size ∙ all; each = done.are }

  pub done-chained : bound ≡ register_count before.nets + most_frames source.frame.period uses + different (parted_frames source uses) → IsChained before now source uses
  done-chained is = record {
    appends = done.grown.appends;
    parts = done.grown.parts;
    few = omega (arith, is, done.few);
  }
