-- The ends of chains with one operation more.
use Rattle.std.proofs.Common.{◌≡◌, ℕ, inr, [], ◌∷◌, Contains, Option, Some, None, sym, ◌∙◌, subst, arith, refl}
use Rattle.std.proofs.lemmas.Int.{ints}
use Rattle.std.proofs.lemmas.Option.{slice_get_within, none-some, same_Some}
use Rattle.std.proofs.lemmas.List.Elements.{All-nil, All-contains}
use Rattle.hw_net.specs.declared.netlist.NetKind.{NetKind}
use Rattle.hw_net.specs.Circuit.{Circuit}
use Rattle.hw_net.specs.Registers.{Wave, Span}
use Rattle.hw_net.specs.NetRows.{span_of}
use Rattle.hw_net.specs.Growing.{Extends, InRows}
use Rattle.hw_net.proofs.Growth.{longer, still-there, extends-self, extends-trans, in-rows-first, in-rows-last, in-rows-both}
use Rattle.hw_share.specs.declared.operation.Operation.{Operation}
use Rattle.hw_share.specs.declared.joining.Ends.{Ends}
use Rattle.hw_share.specs.Operations.{SameWord}
use Rattle.hw_share.specs.Shared.{IsFrameOf}
use Rattle.hw_lines.specs.Register.{IsThere}
use Rattle.hw_share.specs.inner.Parts.{IsNamed, Grows, IsChoosing}
use Rattle.hw_share.specs.inner.Choices.{Tests, Chooses, IsTestAt, IsChoiceAt, HaveOneWord}
use Rattle.hw_share.specs.inner.ChainEnds.{Selects, GrowsOn, CanJoin, HasJoined, IsJoined, own_ends}
use Rattle.hw_share.proofs.Growth.{all-three, grows-then, choosing-wider, word-from, word-later, there-later, named-later}

-- a choice by a test
selects-of : (n : ℕ) (span : Span) (slot : ℕ) (test operand other wave : Wave) → Tests n span slot test → Chooses n test operand other wave → Selects n span slot operand other wave
selects-of n span slot test operand other wave tests chooses = record {
  on = λ c h takes. chooses.on c h (λ zero. let one = tests.on c h takes in omega (arith, ints, one, zero));
  off = λ c h not. chooses.off c h (tests.off c h not);
}

-- both nets keep their word
pub word-of-both : (a b : Circuit) (one other : ℕ) → Extends a b → HaveOneWord a one other → HaveOneWord b one other
word-of-both a b one other p is = record {
  there = there-later a b one p is.there;
  same = word-from a b b one other is.there.net p is.there.is (word-later a a b one other p is.same);
}

module _ (before a b c d : Circuit) (old : Ends) (one : Operation) (test left right : ℕ) (can : CanJoin a old one) (grew : Extends before a)
    (tested : IsTestAt before b one.frame one.slot test) (begun : Grows a b [] (IsChoosing (λ frame. frame ≡ one.frame)) 0)
    (chosen : IsChoiceAt b c test one.left old.left left) (more : Grows b c (test ∷ one.left ∷ old.left ∷ []) (IsChoosing (λ frame. ⊥)) 0)
    (also : IsChoiceAt c d test one.right old.right right) (last : Grows c d (test ∷ one.right ∷ old.right ∷ []) (IsChoosing (λ frame. ⊥)) 0) where
  ab : Extends a b
  ab = begun.appends.extends

  bc : Extends b c
  bc = more.appends.extends

  cd : Extends c d
  cd = last.appends.extends

  selects-by : (here there number : ℕ) → InRows before d
      (λ n rows. Chooses n (rows test) (rows here) (rows there) (rows number))
      → InRows before d (λ n rows. Selects n (span_of before.cycles one.frame) one.slot (rows here) (rows there)
      (rows number))
  selects-by here there number chooses = in-rows-both before d
      (λ n rows. Tests n (span_of before.cycles one.frame) one.slot (rows test))
      (λ n rows. Chooses n (rows test) (rows here) (rows there) (rows number))
      (λ n rows. Selects n (span_of before.cycles one.frame) one.slot (rows here) (rows there) (rows number))
      (in-rows-first before b d (λ n rows. Tests n (span_of before.cycles one.frame) one.slot (rows test)) (extends-trans b c d bc cd) tested.shows)
      chooses
      (λ n rows p q. selects-of n (span_of before.cycles one.frame) one.slot (rows test) (rows here) (rows there) (rows number) p q)

  left-selects : InRows before d (λ n rows. Selects n (span_of before.cycles one.frame) one.slot (rows one.left) (rows old.left) (rows left))
  left-selects = selects-by one.left old.left left
      (in-rows-last before b d (λ n rows. Chooses n (rows test) (rows one.left) (rows old.left) (rows left)) (extends-trans before a b grew ab)
      (in-rows-first b c d (λ n rows. Chooses n (rows test) (rows one.left) (rows old.left) (rows left)) cd chosen.shows))

  right-selects : InRows before d (λ n rows. Selects n (span_of before.cycles one.frame) one.slot (rows one.right) (rows old.right) (rows right))
  right-selects = selects-by one.right old.right right
      (in-rows-last before c d (λ n rows. Chooses n (rows test) (rows one.right) (rows old.right) (rows right)) (extends-trans before a c grew (extends-trans a b c ab bc)) also.shows)

  grows-on : GrowsOn before a d (one.left ∷ one.right ∷ old.left ∷ old.right ∷ []) one.frame
  grows-on operations named framed names grown =
      grows-then before c d named (test ∷ one.right ∷ old.right ∷ []) part (IsChoosing (λ frame. ⊥)) 0 0
      (all-three (IsNamed before c named) test one.right old.right (test-named c bc)
      (later c (extends-trans a b c ab bc) one.right (1, omega arith, refl))
      (later c (extends-trans a b c ab bc) old.right (3, omega arith, refl))) wider second last
    where
      part : NetKind → Type 0
      part = IsChoosing (IsFrameOf operations)

      wider : (kind : NetKind) → IsChoosing (λ frame. ⊥) kind → IsChoosing (IsFrameOf operations) kind
      wider = choosing-wider (λ frame. ⊥) (IsFrameOf operations) (λ frame none. absurd none)

      test-named : (more : Circuit) → Extends b more → IsNamed before more named test
      test-named more p = inr (tested.new, omega (arith, slice_get_within b.nets test tested.there.net tested.there.is, longer b more p))

      later : (more : Circuit) → Extends a more → (read : ℕ) → Contains (one.left ∷ one.right ∷ old.left ∷ old.right ∷ []) read → IsNamed before more named read
      later more p read among = named-later before a more named read p (All-contains (IsNamed before a named) (one.left ∷ one.right ∷ old.left ∷ old.right ∷ []) read names among)

      first : Grows before b named part 0
      first = grows-then before a b named [] part (IsChoosing (λ frame. frame ≡ one.frame)) 0 0 (All-nil (IsNamed before a named))
          (choosing-wider (λ frame. frame ≡ one.frame) (IsFrameOf operations) (λ frame e. subst (IsFrameOf operations) (sym e) framed)) grown begun

      second : Grows before c named part 0
      second = grows-then before b c named (test ∷ one.left ∷ old.left ∷ []) part (IsChoosing (λ frame. ⊥)) 0 0
          (all-three (IsNamed before b named) test one.left old.left (test-named b (extends-self b))
          (later b ab one.left (0, omega arith, refl)) (later b ab old.left (2, omega arith, refl))) wider first
          more

  pub has-joined : HasJoined before a d old one (record { left = left; right = right })
  has-joined = record {
    left = left-selects;
    right = right-selects;
    left_word = word-later a c d one.left left cd (word-back a b c one.left left can.left.there ab chosen.word);
    right_word = word-back a c d one.right right can.right.there (extends-trans a b c ab bc) also.word;
    left_new = omega (arith, chosen.new, longer a b ab);
    right_new = omega (arith, also.new, longer a b ab, longer b c bc);
    extends = extends-trans a b d ab (extends-trans b c d bc cd);
    grown = grows-on;
  }
    where
      -- the word of a net is the one that it had before
      word-back : (x y z : Circuit) (from number : ℕ) → IsThere x from → Extends x y → SameWord y z from number → SameWord x z from number
      word-back x y z from number is p same = λ net there. same net (still-there x y from net p there)

-- an operation joins ends that are known, or begins them
pub joined-part : (before now new : Circuit) (known : Option Ends) (old : Ends) (one : Operation) (end : Ends)
    → known ≡ Some old → HasJoined before now new old one end → IsJoined before now new known one end
joined-part before now new known old one end is has = record {
  begun = λ none. absurd (none-some old (sym none ∙ is));
  more = λ other also. let same : old ≡ other = same_Some old other (sym is ∙ also) in subst (λ (x : Ends). HasJoined before now new x one end) same has;
}

pub begun-part : (before now : Circuit) (known : Option Ends) (one : Operation) → known ≡ None → IsJoined before now now known one (own_ends one)
begun-part before now known one none = record {
  begun = λ e. (refl, refl);
  more = λ old is. absurd (none-some old (sym none ∙ is));
}
