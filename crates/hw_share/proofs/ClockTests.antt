-- Tests for clocks stay, and one more is known.
use Rattle.std.proofs.Common.{◌≡◌, ℕ, Bool, true, false, ◌==◌, nat_lt, List, [], Some, if◌then◌else◌, sym, ◌∙◌, subst, refl, arith}
use Rattle.std.specs.Cmp.{tied_then}
use Rattle.std.specs.Ordering.{nat_cmp, is_eq}
use Rattle.std.proofs.lemmas.Bool.{and_parts, eqb-true}
use Rattle.std.proofs.lemmas.Option.{none-some, same_Some}
use Rattle.math_list.proofs.Tests.{tied}
use Rattle.hw_net.specs.ByFrame.{compare_frames}
use Rattle.hw_net.specs.declared.netlist.Frame.{Frame}
use Rattle.hw_net.specs.Circuit.{Circuit}
use Rattle.hw_net.specs.NetRows.{span_of}
use Rattle.hw_net.specs.Growing.{Extends, InRows}
use Rattle.hw_net.proofs.Growth.{longer, word-stays, in-rows-first, in-rows-last}
use Rattle.hw_net.proofs.Index.{same-frame, same-is}
use Rattle.hw_share.specs.declared.moments.Moment.{Moment}
use Rattle.hw_share.specs.inner.Choices.{Tests, IsTestAt}
use Rattle.hw_share.specs.inner.ClockTests.{compare_moments, test_of, AreTests, IsTested}
use Rattle.hw_share.proofs.Growth.{there-later}

pub test-later : (before now later : Circuit) (frame : Frame) (slot number : ℕ) → Extends now later → IsTestAt before now frame slot number → IsTestAt before later frame slot number
test-later before now later frame slot number p is = record {
  shows = in-rows-first before now later (λ n rows. Tests n (span_of before.cycles frame) slot (rows number)) p is.shows;
  there = there-later now later number p is.there;
  bit = word-stays now later number 1 false p is.bit;
  new = is.new;
}

-- a test that was put in behind more nets
pub test-before : (before now later : Circuit) (frame : Frame) (slot number : ℕ) → Extends before now → IsTestAt now later frame slot number → IsTestAt before later frame slot number
test-before before now later frame slot number p is = record {
  shows = subst (λ (cycles : ℕ). InRows before later (λ n rows. Tests n (span_of cycles frame) slot (rows number))) p.cycles
      (in-rows-last before now later (λ n rows. Tests n (span_of now.cycles frame) slot (rows number)) p is.shows);
  there = is.there;
  bit = is.bit;
  new = let new = is.new in let more = longer before now p in omega (arith, new, more);
}

pub tests-later : (before now later : Circuit) (tests : List (Moment × ℕ)) → Extends now later → AreTests before now tests → AreTests before later tests
tests-later before now later tests p are = record { each = λ moment number at. test-later before now later moment.frame moment.slot number p (are.each moment number at) }

pub no-tests : (before now : Circuit) → AreTests before now []
no-tests before now = record { each = λ moment number at. absurd (none-some number at) }

-- one that is known
pub known-tested : (before now : Circuit) (tests : List (Moment × ℕ)) (frame : Frame) (slot number : ℕ)
    → test_of tests (record { frame = frame; slot = slot }) ≡ Some number
    → IsTested before now now tests tests frame slot number
known-tested before now tests frame slot number is = record {
  test = λ are. are.each (record { frame = frame; slot = slot }) number is;
  tests = λ are. are;
}

-- clocks are told apart as they are
same-moment : (one other : Moment) → is_eq (compare_moments one other) ≡ true → one ≡ other
same-moment one other e =
    let both = tied_then (compare_frames one.frame other.frame) (nat_cmp one.slot other.slot) ∙ e in
    let parts = and_parts (is_eq (compare_frames one.frame other.frame)) (is_eq (nat_cmp one.slot other.slot)) both in
    let frame = same-is one.frame other.frame (sym (same-frame one.frame other.frame) ∙ parts.0) in
    let order : is_eq (nat_cmp one.slot other.slot) ≡ (one.slot == other.slot) = tied one.slot other.slot (nat_lt one.slot other.slot) (one.slot == other.slot) refl refl in
    let slot = eqb-true one.slot other.slot (sym order ∙ parts.1) in
    λ i. record { frame = frame i; slot = slot i }

-- one that is put in
pub put-tested : (before now new : Circuit) (old more : List (Moment × ℕ)) (frame : Frame) (slot number : ℕ)
    → ((other : Moment) → test_of more other ≡ (if is_eq (compare_moments (record { frame = frame; slot = slot }) other) then Some number else test_of old other))
    → Extends before now → Extends now new → IsTestAt now new frame slot number → IsTested before now new old more frame slot number
put-tested before now new old more frame slot number put p q is = record {
  test = λ are. here;
  tests = λ are. record { each = λ moment k at. by are moment k (is_eq (compare_moments (record { frame = frame; slot = slot }) moment)) refl (sym (put moment) ∙ at) };
}
  where
    here : IsTestAt before new frame slot number
    here = test-before before now new frame slot number p is

    by : AreTests before now old → (moment : Moment) (k : ℕ) (same : Bool) → is_eq (compare_moments (record { frame = frame; slot = slot }) moment) ≡ same
        → (if same then Some number else test_of old moment) ≡ Some k → IsTestAt before new moment.frame moment.slot k
    by are moment k true same at =
        subst (λ (m : Moment). IsTestAt before new m.frame m.slot k) (same-moment (record { frame = frame; slot = slot }) moment same)
        (subst (λ (n : ℕ). IsTestAt before new frame slot n) (same_Some number k at) here)
    by are moment k false same at = test-later before now new moment.frame moment.slot k q (are.each moment k at)
