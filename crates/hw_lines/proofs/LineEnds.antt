-- The end of a line is an answer for its use.
use Rattle.std.proofs.Common.{◌≡◌, ℕ, zero, suc, Result, Ok, Err, IfOk, OnOk, ◌+◌, ◌-◌, ◌*◌, ◌/◌, ◌%◌, ◌<◌, ◌≤◌, ◌⊎◌, length, inl, inr, List, Contains, Some, slice_get, Bool, true, false, ap, sym}
use Rattle.std.proofs.Common.{◌∙◌, subst, arith, refl}
use Rattle.std.proofs.Math.Nat.{mul-mod_left}
use Rattle.std.proofs.lemmas.Nat.{div-add-mod', mod_below}
use Rattle.std.proofs.lemmas.Option.{slice_get-get_or}
use Rattle.std.proofs.lemmas.Result.{IfOk-weaker}
use Rattle.std.specs.Prelude.{slice_index_or, ⊤, nat_le, ◌==◌, if◌then◌else◌}
use Rattle.std.proofs.lemmas.Bool.{and_parts, and_from, eqb-true, eq-eqb, leb-true, le-leb}
use Rattle.hw_net.specs.declared.netlist.Frame.{Frame}
use Rattle.hw_net.specs.Circuit.{Circuit}
use Rattle.hw_net.specs.Frames.{register_count}
use Rattle.hw_net.specs.NetRows.{Rows, span_of}
use Rattle.hw_net.specs.Registers.{IsReg, IsBridge}
use Rattle.hw_net.specs.Growing.{Extends}
use Rattle.hw_net.proofs.Growth.{extends-self, longer, in-rows-first, in-rows-last, in-rows-map, in-rows-both}
use Rattle.hw_lines.specs.declared.source.Source.{Source}
use Rattle.hw_lines.specs.declared.source.Use.{Use}
use Rattle.hw_lines.specs.Line.{ShowsLater}
use Rattle.hw_lines.specs.Chain.{IsUse, IsAnswer, IsCountedIn, reader_of, line_to, is_whole}
use Rattle.hw_lines.specs.Taps.{IsTap, IsShifted, TapMeets, TapHolds, PhaseRegisterMeets, BridgeMeets}
use Rattle.hw_lines.specs.Register.{Adds, IsHeld}
use Rattle.hw_lines.specs.inner.Parts.{IsBridged, IsTapAt}
use Rattle.hw_lines.specs.inner.Ends.{CanEnd, IsEnd, Ends}
use Rattle.hw_lines.proofs.Steps.{word-of-word, reg-earlier, tap-named, grows-trans}

self-mod : (n : ℕ) → 0 < n → n % n ≡ 0
self-mod n h = let e : n ≡ 1 * n = omega arith in ap (λ (x : ℕ). x % n) e ∙ mul-mod_left 1 n

longest : (part times all : ℕ) → all ≡ times * part → 0 < all → part ≤ all
longest part zero all e k = absurd (omega arith)
longest part (suc times) all e k = omega arith

pub part-below : (all part : ℕ) → all % part ≡ 0 → 0 < all → part ≤ all
part-below all part even some = longest part (all / part) all (omega (arith, div-add-mod' all part, even)) some

true-false : {b : Bool} → b ≡ true → b ≡ false → ⊥
true-false p q = let e : true ≡ false = sym p ∙ q in cc

module _ (source : Source) (one : Use) (some : 0 < source.frame.period) (use_is : IsUse source one) where
  -- a registered use is seen in frames of the source's period, a plain one of its own
  pub registered-period : source.registered ≡ true → (reader_of source one).period ≡ source.frame.period
  registered-period is = let below = part-below source.frame.period one.period (use_is.registered is).0 some in omega arith

  pub plain-period : source.registered ≡ false → (reader_of source one).period ≡ one.period
  plain-period is = let below = part-below one.period source.frame.period (use_is.plain is) use_is.some in omega arith

  divided : (registered : Bool) → source.registered ≡ registered → (reader_of source one).period % source.frame.period ≡ 0
  divided true is = rw (registered-period is) (self-mod source.frame.period some)
  divided false is = rw (plain-period is) (use_is.plain is)

  pub shifted : (cycles k r : ℕ) → 0 < cycles → one.shift ≡ k * source.frame.period + r → IsShifted (line_to cycles source (reader_of source one)) (k * source.frame.period + r)
  shifted cycles k r clocks split = record {
    cycles = clocks;
    own = some;
    reader = omega arith;
    divides = divided source.registered refl;
    behind = ap (λ (x : ℕ). source.frame.latency + x) split;
  }

  module _ (before now : Circuit) (clocks : 0 < now.cycles) (k tap : ℕ) (p : Extends before now) (at : IsTapAt before now source k tap) where
    clocks-before : 0 < before.cycles
    clocks-before = omega (arith, p.cycles)

    whole : one.shift ≡ k * source.frame.period → one.shift ≡ k * source.frame.period + 0
    whole e = e ∙ omega arith

    abbrev TapShows : ℕ → Rows → Type 0
    TapShows n rows = IsTap n (span_of before.cycles source.frame) k source.first (rows source.from) (rows tap)

    abbrev Shown : ℕ → ℕ → Rows → Type 0
    Shown number n rows = ShowsLater source.registered n (line_to before.cycles source (reader_of source one)) source.first (rows source.from) (rows number)

    -- a tap is the source or was put in
    tap-stands : (tap ≡ source.from) ⊎ (length before.nets ≤ tap)
    tap-stands = elim at.stands [
      | inl itself ↦ inl itself.1
      | inr new ↦ inr new.new
    ]

    pub plain-tap : TapMeets → source.registered ≡ false → one.period ≡ source.frame.period → one.shift ≡ k * source.frame.period → IsAnswer before now source (reader_of source one) tap
    plain-tap meets is same e = record {
      shows = in-rows-map before now TapShows (Shown tap) at.shows (λ n rows shown.
          subst (λ (r : Bool). ShowsLater r n (line_to before.cycles source (reader_of source one)) source.first (rows source.from) (rows tap)) (sym is)
          (meets n (line_to before.cycles source (reader_of source one)) k source.first (rows source.from)
          (rows tap) (rw (whole-is) at (shifted before.cycles k 0 clocks-before (whole e)))
          (plain-period is ∙ same) shown));
      word = at.word;
      holds = λ yes. absurd (true-false yes is);
      stands = tap-stands;
    }
      where
        whole-is : k * source.frame.period + 0 ≡ k * source.frame.period
        whole-is = omega arith

    pub registered-tap : TapHolds → source.registered ≡ true → one.shift ≡ k * source.frame.period → IsAnswer before now source (reader_of source one) tap
    registered-tap holds is e =
        let whole-is : k * source.frame.period + 0 ≡ k * source.frame.period = omega arith in
        let behind : 0 < k = some-frames k source.frame.period (omega (arith, e, (use_is.registered is).1)) in
        record {
          shows = in-rows-map before now TapShows (Shown tap) at.shows (λ n rows shown.
              subst (λ (r : Bool). ShowsLater r n (line_to before.cycles source (reader_of source one)) source.first (rows source.from) (rows tap)) (sym is)
              (holds n (line_to before.cycles source (reader_of source one)) k source.first (rows source.from)
              (rows tap) (rw whole-is at (shifted before.cycles k 0 clocks-before (whole e)))
              (registered-period is) behind shown));
          word = at.word;
          holds = λ yes. elim at.stands [
            | inl itself ↦ absurd (omega (arith, itself.0, behind))
            | inr new ↦ new
          ];
          stands = tap-stands;
        }
      where
        some-frames : (k p : ℕ) → 1 ≤ k * p → 0 < k
        some-frames zero p h = absurd (omega arith)
        some-frames (suc k) p h = omega arith

    module _ (new : Circuit) (r number : ℕ) (q : Extends now new) (split : one.shift ≡ k * source.frame.period + r) where
      pub bridge-end : BridgeMeets → source.registered ≡ false → r < source.frame.period
          → IsBridged now new tap (reader_of source one) (source.frame.period - r) number
          → IsAnswer before new source (reader_of source one) number
      bridge-end meets is below bridged = record {
        shows = in-rows-both before new TapShows
            (λ n rows. IsBridge n (span_of now.cycles (reader_of source one)) ((source.frame.period - r) * now.cycles) (rows tap) (rows number))
            (Shown number)
            (in-rows-first before now new TapShows q at.shows)
            (in-rows-last before now new (λ n rows. IsBridge n (span_of now.cycles (reader_of source one)) ((source.frame.period - r) * now.cycles) (rows tap) (rows number)) p bridged.shows)
            (λ n rows shown bridge.
            subst (λ (b : Bool). ShowsLater b n (line_to before.cycles source (reader_of source one)) source.first (rows source.from) (rows number)) (sym is)
            (meets n (line_to before.cycles source (reader_of source one)) k r source.first (rows source.from) (rows tap) (rows number) (shifted before.cycles k r clocks-before split) below shown
            (subst (λ (x : ℕ). IsBridge n (span_of x (reader_of source one)) ((source.frame.period - r) * x) (rows tap) (rows number)) p.cycles bridge)));
        word = word-of-word before now new source.from tap number at.word bridged.word;
        holds = λ yes. absurd (true-false yes is);
        stands = inr (omega (arith, bridged.new, longer before now p));
      }

      pub phase-end : PhaseRegisterMeets → source.registered ≡ true → 1 ≤ r → r ≤ source.frame.period → (slot : ℕ)
          → slot ≡ r * now.cycles - 1 → IsHeld now new tap source.frame slot source.first number
          → IsAnswer before new source (reader_of source one) number
      phase-end meets is low high slot at_slot held = record {
        shows = in-rows-both before new TapShows
            (λ n rows. IsReg n (span_of now.cycles source.frame) slot source.first (rows tap) (rows number))
            (Shown number)
            (in-rows-first before now new TapShows q at.shows)
            (in-rows-last before now new (λ n rows. IsReg n (span_of now.cycles source.frame) slot source.first (rows tap) (rows number)) p held.shows)
            (λ n rows shown reg.
            subst (λ (b : Bool). ShowsLater b n (line_to before.cycles source (reader_of source one)) source.first (rows source.from) (rows number)) (sym is)
            (meets n (line_to before.cycles source (reader_of source one)) k r source.first (rows source.from)
            (rows tap) (rows number) (shifted before.cycles k r clocks-before split)
            (registered-period is) low high shown
            (subst (λ (x : ℕ). IsReg n (span_of x source.frame) (r * x - 1) source.first (rows tap) (rows number)) p.cycles
            (subst (λ (s : ℕ). IsReg n (span_of now.cycles source.frame) s source.first (rows tap) (rows number)) at_slot reg))));
        word = word-of-word before now new source.from tap number at.word held.word;
        holds = λ yes. reg-earlier before now new number p held.new;
        stands = inr (omega (arith, held.new.new, longer before now p));
      }

one-more : (whole : Bool) → whole ≡ false → (new now : ℕ) → new ≡ now + 1 → new ≤ now + (if whole then 0 else 1)
one-more true is new now more = absurd (true-false refl is)
one-more false is new now more = omega (arith, more)

-- what was put in for one end is of the parts of a chain
part-ends : (now new : Circuit) (source : Source) (taps : List ℕ) (one : Use) (k tap : ℕ) (frame : Frame)
    (bridges given : Type 0) → slice_get taps k ≡ Some tap → (bridges → source.registered ≡ false)
    → ((uses : List Use) → Contains uses one → IsCountedIn source uses frame)
    → is_whole source one ≡ false → Adds now new tap frame bridges given → Ends now new source taps one
part-ends now new source taps one k tap frame bridges given there plain counted parted put = record {
  extends = put.grown.appends.extends;
  grown = λ before uses among are grown.
      grows-trans before now new source.from tap bridges (source.registered ≡ false)
      (λ (other : Frame). other ≡ frame) (IsCountedIn source uses) plain
      (λ other same. subst (IsCountedIn source uses) (sym same) (counted uses among))
      (tap-named before now source k tap (are.each k tap there)) grown put.grown;
  few = one-more (is_whole source one) parted (register_count new.nets) (register_count now.nets) put.few;
}

on-if : {A E : Type 0} (P : A → Type 0) (Q : Type 0) (result : Result A E) → IfOk result P → ((x : A) → P x → Q) → OnOk result Q
on-if P Q (Ok x) p f = f x p
on-if P Q (Err e) p f = tt

-- ---- the four ends

module _ (now : Circuit) (source : Source) (taps : List ℕ) (one : Use) (can : CanEnd now source taps one) where
  abbrev tap : ℕ
  tap = slice_index_or taps (one.shift / source.frame.period) 0

  abbrev rest : ℕ
  rest = one.shift % source.frame.period

  there : slice_get taps (one.shift / source.frame.period) ≡ Some tap
  there = slice_get-get_or taps (one.shift / source.frame.period) 0 can.size

  split : one.shift ≡ one.shift / source.frame.period * source.frame.period + rest
  split = sym (div-add-mod' one.shift source.frame.period)

  no-rest : rest ≡ 0 → one.shift ≡ one.shift / source.frame.period * source.frame.period
  no-rest none = omega (arith, split, none)

  pub nothing-ends : Ends now now source taps one
  nothing-ends = record { extends = extends-self now; grown = λ before uses among are grown. grown; few = omega arith }

  pub plain-ends : TapMeets → source.registered ≡ false → rest ≡ 0 → one.period ≡ source.frame.period → IsEnd now now source taps one tap
  plain-ends meets plain none same = record {
    answer = λ before are p. plain-tap source one can.some can.use_is before now can.cycles
        (one.shift / source.frame.period) tap p
        (are.each (one.shift / source.frame.period) tap there) meets plain same (no-rest none);
  }

  -- a whole use has no rest, and a reader of the source's period
  whole-rest : is_whole source one ≡ true → rest ≡ 0
  whole-rest is = eqb-true rest 0 (and_parts (rest == 0) (nat_le one.period source.frame.period) is).0

  whole-period : source.registered ≡ false → is_whole source one ≡ true → one.period ≡ source.frame.period
  whole-period plain is =
      let low = part-below one.period source.frame.period (can.use_is.plain plain) can.use_is.some in
      let high = leb-true one.period source.frame.period (and_parts (rest == 0) (nat_le one.period source.frame.period) is).1 in
      omega (arith, low, high)

  -- a registered use that isn't whole has a rest
  pub parted-rest : source.registered ≡ true → is_whole source one ≡ false → 1 ≤ rest
  parted-rest registered parted =
      let low = part-below source.frame.period one.period (can.use_is.registered registered).0 can.some in
      elim (cases_zero rest) [
        | inl none ↦ absurd (true-false (and_from (rest == 0) (nat_le one.period source.frame.period) (eq-eqb rest 0 none) (le-leb one.period source.frame.period low)) parted)
        | inr some ↦ some
      ]
    where
      cases_zero : (n : ℕ) → (n ≡ 0) ⊎ (1 ≤ n)
      cases_zero zero = inl refl
      cases_zero (suc n) = inr (omega arith)

  pub registered-ends : TapHolds → source.registered ≡ true → rest ≡ 0 → IsEnd now now source taps one tap
  registered-ends holds registered none = record {
    answer = λ before are p. registered-tap source one can.some can.use_is before now can.cycles
        (one.shift / source.frame.period) tap p
        (are.each (one.shift / source.frame.period) tap there) holds registered (no-rest none);
  }

  pub whole-ends : TapMeets → TapHolds → is_whole source one ≡ true → IsEnd now now source taps one tap
  whole-ends meets holds is = by source.registered refl
    where
      by : (registered : Bool) → source.registered ≡ registered → IsEnd now now source taps one tap
      by true e = registered-ends holds e (whole-rest is)
      by false e = plain-ends meets e (whole-rest is) (whole-period e is)

  module _ {E : Type 0} (new : Circuit) (result : Result ℕ E) where
    abbrev IsBridgePut : ℕ → Type 0
    IsBridgePut number = Adds now new tap (reader_of source one) ⊤ (IsBridged now new tap (reader_of source one) (source.frame.period - rest) number)

    pub bridge-ends : BridgeMeets → source.registered ≡ false → is_whole source one ≡ false
        → IfOk result IsBridgePut → IfOk result (λ number. IsEnd now new source taps one number)
        × OnOk result (Ends now new source taps one)
    bridge-ends meets plain parted put =
        let below = mod_below one.shift source.frame.period can.some in (
          IfOk-weaker result IsBridgePut (λ number. IsEnd now new source taps one number) (λ number is. record {
            answer = λ before are p. bridge-end source one can.some can.use_is before now can.cycles
                (one.shift / source.frame.period) tap p
                (are.each (one.shift / source.frame.period) tap there) new rest number is.grown.appends.extends
                split meets plain below is.is;
          }) put,
          on-if IsBridgePut (Ends now new source taps one) result put
              (λ number is. part-ends now new source taps one (one.shift / source.frame.period) tap
              (reader_of source one) ⊤ (IsBridged now new tap (reader_of source one)
              (source.frame.period - rest) number) there (λ _. plain)
              (λ uses among. inr (plain, (one, (among, refl)))) parted is),
        )

    abbrev IsPhasePut : ℕ → ℕ → Type 0
    IsPhasePut slot number = Adds now new tap source.frame ⊥ (IsHeld now new tap source.frame slot source.first number)

    pub phase-ends : PhaseRegisterMeets → source.registered ≡ true → is_whole source one ≡ false → (slot : ℕ)
        → slot ≡ rest * now.cycles - 1 → IfOk result (IsPhasePut slot)
        → IfOk result (λ number. IsEnd now new source taps one number)
        × OnOk result (Ends now new source taps one)
    phase-ends meets registered parted slot at put =
        let below = mod_below one.shift source.frame.period can.some in
        let some = parted-rest registered parted in (
          IfOk-weaker result (IsPhasePut slot) (λ number. IsEnd now new source taps one number) (λ number is. record {
            answer = λ before are p. phase-end source one can.some can.use_is before now can.cycles
                (one.shift / source.frame.period) tap p
                (are.each (one.shift / source.frame.period) tap there) new rest number is.grown.appends.extends
                split meets registered
                some (omega (arith, below)) slot at is.is;
          }) put,
          on-if (IsPhasePut slot) (Ends now new source taps one) result put
              (λ number is. part-ends now new source taps one (one.shift / source.frame.period) tap source.frame ⊥
              (IsHeld now new tap source.frame slot source.first number) there (λ none. absurd none)
              (λ uses among. inl refl) parted is),
        )
