-- The gate of some slots, slot after slot.
use Rattle.std.proofs.Common.{◌≡◌, ◌≢◌, ℕ, ◌+◌, ◌<◌, ◌≤◌, inl, inr, List, [], ◌∷◌, ◌++◌, length, take, Contains, Option, None, Some, IsSome, Result, Ok, Err, IfOk, OnOk, slice_get}
use Rattle.std.proofs.Common.{false, ℤ, pos, ap, sym, ◌∙◌, subst, arith, refl}
use Rattle.std.proofs.lemmas.Int.{ints}
use Rattle.std.proofs.lemmas.List.{take_all, take_more}
use Rattle.std.proofs.lemmas.Option.{slice_get_within, get_or_from_slice_get, none-some, same_Some}
use Rattle.std.proofs.lemmas.List.Elements.{All-nil, Contains-append_left, Contains-append_right, Contains-append_cases}
use Rattle.math_list.proofs.Elements.{cons-cases, head-in, none-in}
use Rattle.math_num.proofs.Arithmetic.{int_cases}
use Rattle.hw_net.specs.declared.netlist.Frame.{Frame}
use Rattle.hw_net.specs.declared.netlist.Net.{Net}
use Rattle.hw_net.specs.declared.netlist.NetKind.{NetKind}
use Rattle.hw_net.specs.Circuit.{Circuit}
use Rattle.hw_net.specs.Growing.{Extends, InRows}
use Rattle.hw_net.specs.Netlist.{HasWord}
use Rattle.hw_net.specs.NetRows.{Rows, span_of}
use Rattle.hw_net.specs.Registers.{Wave, Span, Takes}
use Rattle.hw_net.proofs.Growth.{longer, word-stays, extends-self, extends-trans, in-rows-first, in-rows-last, in-rows-both, in-rows-map}
use Rattle.hw_share.specs.inner.Parts.{IsNamed, Grows, IsChoosing}
use Rattle.hw_share.specs.inner.Choices.{Tests, Chooses, IsSlotOf, IsTestAt, IsChoiceAt, HaveOneWord}
use Rattle.hw_share.specs.inner.Gates.{Gates, IsGateAt, Opens, IsGated}
use Rattle.hw_share.proofs.ClockTests.{test-before}
use Rattle.hw_share.proofs.Growth.{all-three, grows-then, choosing-wider}

-- ---- waves

one-not-none : (v : ℤ) → v ≡ pos 1 → v ≢ pos 0
one-not-none v one none = omega (arith, ints, one, none)

gates-one : (n : ℕ) (span : Span) (slot : ℕ) (test : Wave) → Tests n span slot test → Gates n span (slot ∷ []) test
gates-one n span slot test tests = record {
  on = λ c s h d takes. elim (cons-cases slot s [] d) [
    | inl same ↦ one-not-none (test c) (tests.on c h (subst (λ (x : ℕ). Takes span x c) (sym same) takes))
    | inr later ↦ absurd (none-in s later)
  ];
  off = λ c h none. tests.off c h (none slot (head-in slot []));
}

gates-more : (n : ℕ) (span : Span) (slots : List ℕ) (slot : ℕ) (test any wave : Wave) → Tests n span slot test → Gates n span slots any → Chooses n test test any wave
    → Gates n span (slots ++ slot ∷ []) wave
gates-more n span slots slot test any wave tests gates chooses = record {
  on = λ c s h d takes. elim (int_cases (test c) (pos 0)) [
    | inl none ↦ (λ z. among c s h d takes none (sym (chooses.off c h none) ∙ z))
    | inr some ↦ (λ z. some (sym (chooses.on c h some) ∙ z))
  ];
  off = λ c h none.
      chooses.off c h (tests.off c h (none slot (Contains-append_right slots (slot ∷ []) slot (head-in slot []))))
      ∙ gates.off c h (λ s d. none s (Contains-append_left slots (slot ∷ []) s d));
}
  where
    among : (c s : ℕ) → c < n → Contains (slots ++ slot ∷ []) s → Takes span s c → test c ≡ pos 0 → any c ≢ pos 0
    among c s h d takes none = elim (Contains-append_cases slots (slot ∷ []) s d) [
      | inl front ↦ gates.on c s h front takes
      | inr last ↦ elim (cons-cases slot s [] last) [
        | inl same ↦ absurd (one-not-none (test c) (tests.on c h (subst (λ (x : ℕ). Takes span x c) (sym same) takes)) none)
        | inr later ↦ absurd (none-in s later)
      ]
    ]

-- ---- nets

pub gate-first : (a b : Circuit) (frame : Frame) (slot number : ℕ) → IsTestAt a b frame slot number → Grows a b [] (IsChoosing (λ other. other ≡ frame)) 0 → IsGateAt a b frame (slot ∷ []) number
gate-first a b frame slot number test grown = record {
  shows = in-rows-map a b (λ n rows. Tests n (span_of a.cycles frame) slot (rows number)) (λ n rows. Gates n (span_of a.cycles frame) (slot ∷ []) (rows number)) test.shows
      (λ n rows tests. gates-one n (span_of a.cycles frame) slot (rows number) tests);
  bit = test.bit;
  new = test.new;
  grown = grown;
}

-- the gate and a test have one word
pub gate-word : (a b : Circuit) (gate test : ℕ) (frame : Frame) (slot : ℕ) → IsTestAt a b frame slot test → Extends a b → HasWord a.nets gate 1 false → HaveOneWord b test gate
gate-word a b gate test frame slot tested p has = record {
  there = tested.there;
  same = λ net is.
      let own = tested.bit in
      let e : own.net ≡ net = same_Some own.net net (sym own.is ∙ is) in
      let later = word-stays a b gate 1 false p has in
      record {
        net = later.net;
        is = later.is;
        wide = later.wide ∙ sym own.wide ∙ ap (λ (x : Net). x.width) e;
        sign = later.sign ∙ sym own.sign ∙ ap (λ (x : Net). x.signed) e;
      };
}

module _ (a b c d : Circuit) (frame : Frame) (slots : List ℕ) (slot gate test number : ℕ) (old : IsGateAt a b frame slots gate) (tested : IsTestAt b c frame slot test)
    (begun : Grows b c [] (IsChoosing (λ other. other ≡ frame)) 0) (choice : IsChoiceAt c d test test gate number) (last : Grows c d (test ∷ test ∷ gate ∷ []) (IsChoosing (λ other. ⊥)) 0) where
  ab : Extends a b
  ab = old.grown.appends.extends

  bc : Extends b c
  bc = begun.appends.extends

  cd : Extends c d
  cd = last.appends.extends

  own : IsTestAt a c frame slot test
  own = test-before a b c frame slot test ab tested

  abbrev AllShow : ℕ → Rows → Type 0
  AllShow n rows = Tests n (span_of a.cycles frame) slot (rows test) × Chooses n (rows test) (rows test) (rows gate) (rows number)

  all-show : InRows a d AllShow
  all-show = in-rows-both a d
      (λ n rows. Tests n (span_of a.cycles frame) slot (rows test))
      (λ n rows. Chooses n (rows test) (rows test) (rows gate) (rows number))
      AllShow
      (in-rows-first a c d (λ n rows. Tests n (span_of a.cycles frame) slot (rows test)) cd own.shows)
      (in-rows-last a c d (λ n rows. Chooses n (rows test) (rows test) (rows gate) (rows number)) (extends-trans a b c ab bc) choice.shows)
      (λ n rows p q. (p, q))

  gate-shows : InRows a d (λ n rows. Gates n (span_of a.cycles frame) (slots ++ slot ∷ []) (rows number))
  gate-shows = in-rows-both a d
      (λ n rows. Gates n (span_of a.cycles frame) slots (rows gate))
      AllShow
      (λ n rows. Gates n (span_of a.cycles frame) (slots ++ slot ∷ []) (rows number))
      (in-rows-first a b d (λ n rows. Gates n (span_of a.cycles frame) slots (rows gate)) (extends-trans b c d bc cd) old.shows)
      all-show
      (λ n rows p q. gates-more n (span_of a.cycles frame) slots slot (rows test) (rows gate) (rows number) q.0 p q.1)

  gate-bit : HasWord d.nets number 1 false
  gate-bit =
      let has = tested.bit in
      let word = choice.word has.net has.is in
      record { net = word.net; is = word.is; wide = word.wide ∙ has.wide; sign = word.sign ∙ has.sign }

  abbrev part : NetKind → Type 0
  part = IsChoosing (λ other. other ≡ frame)

  test-named : IsNamed a c [] test
  test-named = inr (omega (arith, tested.new, longer a b ab), slice_get_within c.nets test tested.there.net tested.there.is)

  gate-named : IsNamed a c [] gate
  gate-named = inr (old.new, omega (arith, slice_get_within b.nets gate old.bit.net old.bit.is, longer b c bc))

  gate-grown : Grows a d [] part 0
  gate-grown =
      grows-then a c d [] (test ∷ test ∷ gate ∷ []) part (IsChoosing (λ other. ⊥)) 0 0
      (all-three (IsNamed a c []) test test gate test-named test-named gate-named)
      (choosing-wider (λ other. ⊥) (λ other. other ≡ frame) (λ other none. absurd none))
      (grows-then a b c [] [] part part 0 0 (All-nil (IsNamed a b [])) (λ kind x. x) old.grown begun) last

  pub gate-more : IsGateAt a d frame (slots ++ slot ∷ []) number
  gate-more = record {
    shows = gate-shows;
    bit = gate-bit;
    new = omega (arith, choice.new, longer a b ab, longer b c bc);
    grown = gate-grown;
  }

pub opens-first : (now new : Circuit) (frame : Frame) (known : Option ℕ) (slot number : ℕ) → known ≡ None → IsGateAt now new frame (slot ∷ []) number → Opens now new frame known slot number
opens-first now new frame known slot number none gate = record {
  extends = gate.grown.appends.extends;
  first = λ e. gate;
  more = λ before slots other some old. absurd (none-some other (sym none ∙ some));
}

-- the choice that is put in, or none
pub open-part : {E : Type 0} (result : Result ℕ E) (now mid new : Circuit) (frame : Frame) (known : Option ℕ) (slot gate test : ℕ) → known ≡ Some gate → IsTestAt now mid frame slot test
    → Grows now mid [] (IsChoosing (λ other. other ≡ frame)) 0 → IfOk result (λ number. IsChoiceAt mid new test test gate number)
    → OnOk result (Grows mid new (test ∷ test ∷ gate ∷ []) (IsChoosing (λ other. ⊥)) 0) → IfOk result (λ number. Opens now new frame known slot number)
open-part (Ok number) now mid new frame known slot gate test is tested begun choice last = record {
  extends = extends-trans now mid new begun.appends.extends last.appends.extends;
  first = λ none. absurd (none-some gate (sym none ∙ is));
  more = λ before slots other some old.
      let e : other ≡ gate = same_Some other gate (sym some ∙ is) in
      gate-more before now mid new frame slots slot gate test number (subst (IsGateAt before now frame slots) e old) tested begun choice last;
}
open-part (Err e) now mid new frame known slot gate test is tested begun choice last = tt

-- ---- all slots

pub gated-begun : (a : Circuit) (frame : Frame) (slots : List ℕ) → IsGated a a frame slots 0 None
gated-begun a frame slots = record { extends = extends-self a; begun = λ none. (refl, refl); gates = λ gate some. absurd (none-some gate some) }

pub gated-more : (before now new : Circuit) (frame : Frame) (slots : List ℕ) (i slot number : ℕ) (known : Option ℕ) → IsGated before now frame slots i known → slice_get slots i ≡ Some slot
    → Opens now new frame known slot number → IsGated before new frame slots (i + 1) (Some number)
gated-more before now new frame slots i slot number known gated at opens = record {
  extends = extends-trans before now new gated.extends opens.extends;
  begun = λ none. absurd (none-some number (sym none));
  gates = λ gate some. subst (IsGateAt before new frame (take (i + 1) slots)) (same_Some number gate some) (subst (λ (xs : List ℕ). IsGateAt before new frame xs number) (sym longer) (by known refl));
}
  where
    longer : take (i + 1) slots ≡ take i slots ++ slot ∷ []
    longer = take_more slots i slot (slice_get_within slots i slot at) ∙ ap (λ (x : ℕ). take i slots ++ x ∷ []) (get_or_from_slice_get slots i slot slot at)

    by : (found : Option ℕ) → known ≡ found → IsGateAt before new frame (take i slots ++ slot ∷ []) number
    by None e =
        let none = gated.begun e in
        let first = opens.first e in
        let count : take i slots ≡ [] = ap (λ (k : ℕ). take k slots) none.1 in
        subst (λ (xs : List ℕ). IsGateAt before new frame (xs ++ slot ∷ []) number) (sym count)
        (subst (λ (x : Circuit). IsGateAt x new frame (slot ∷ []) number) none.0 first)
    by (Some gate) e = opens.more before (take i slots) gate e (gated.gates gate e)

pub gated-done : (before now : Circuit) (frame : Frame) (slots : List ℕ) (i number : ℕ) (known : Option ℕ) → IsGated before now frame slots i known → known ≡ Some number → length slots ≤ i
    → IsGateAt before now frame slots number
gated-done before now frame slots i number known gated is past = subst (λ (xs : List ℕ). IsGateAt before now frame xs number) (take_all i slots past) (gated.gates number is)

-- some slot was there
pub gated-some : (before now : Circuit) (frame : Frame) (slots : List ℕ) (i : ℕ) (known : Option ℕ) → IsGated before now frame slots i known → 1 ≤ i → IsSome known
gated-some before now frame slots i None gated some = absurd (omega (arith, (gated.begun refl).1, some))
gated-some before now frame slots i (Some number) gated some = refl

pub slot-later : (a b : Circuit) (frame : Frame) (slot : ℕ) → Extends a b → IsSlotOf a frame slot → IsSlotOf b frame slot
slot-later a b frame slot p is = record { cycles = rw p.cycles is.cycles; period = is.period; inside = rw p.cycles is.inside }
