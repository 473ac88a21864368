-- A test for a clock of a frame, and a choice between two nets.
use Rattle.std.proofs.Common.{◌≡◌, ℕ, ◌-◌, ◌*◌, ◌<◌, inl, inr, Bool, false, not, if◌then◌else◌, [], ◌∷◌, length, Some, slice_get, Result, Ok, Err, IfOk, OnOk, pos, ap, sym, ◌∙◌, subst, arith, refl}
use Rattle.std.specs.Ordering.{int_eq}
use Rattle.std.proofs.lemmas.Option.{slice_get_within, same_Some}
use Rattle.std.proofs.lemmas.Nat.{mul-lt}
use Rattle.std.proofs.lemmas.List.Elements.{All-nil, All-cons}
use Rattle.math_num.specs.Word.{IsWord, InWord, IsWrapped}
use Rattle.hw_net.specs.declared.netlist.Frame.{Frame}
use Rattle.hw_net.specs.declared.netlist.Net.{Net}
use Rattle.hw_net.specs.declared.netlist.NetOp.TheVariants.{Const, Equal, Choose}
use Rattle.hw_net.specs.declared.netlist.NetKind.{NetKind}
use Rattle.hw_net.specs.declared.netlist.NetKind.TheVariants.{Comb}
use Rattle.hw_net.specs.Circuit.{Circuit}
use Rattle.math_num.specs.Bits.{truth}
use Rattle.hw_net.specs.Closed.{CounterIsTelling}
use Rattle.hw_net.specs.Frames.{counter_of, IsCounterAt}
use Rattle.hw_net.specs.Registers.{IsCounter}
use Rattle.hw_net.specs.Netlist.{HasWord}
use Rattle.hw_net.specs.NetRows.{span_of}
use Rattle.hw_net.specs.Growing.{Extends, InRows, IsCounted, MayReadNow, with_net}
use Rattle.hw_net.proofs.Growth.{longer, still-there, extends-trans, is-counter-stays, in-rows-first, in-rows-last, in-rows-both, in-rows-one}
use Rattle.hw_lines.specs.Register.{IsThere}
use Rattle.hw_share.specs.inner.Parts.{IsNamed, Grows, IsChoosing}
use Rattle.hw_share.specs.inner.Choices.{Tests, Chooses, IsTestAt, IsChoiceAt, HaveOneWord}
use Rattle.hw_share.proofs.Numbers.{bit-word, truth-is, chosen-on, chosen-off}
use Rattle.math_num.proofs.Words.{wrapped-is}
use Rattle.hw_share.proofs.Growth.{all-two, all-three, grows-then}
use Rattle.hw_share.proofs.OneNet.{put-extends, put-there, comb-grows}
use Rattle.hw_share.proofs.Counters.{counter-of-at, counter-shows, counter-grows, tests-of}

-- what is left of the frame behind the slot as a literal, and whether the counter shows that
module _ (tells : CounterIsTelling) (a b : Circuit) (frame : Frame) (slot : ℕ) (cycles : 0 < a.cycles) (some : 0 < frame.period) (inside : slot < frame.period * a.cycles)
    (counted : IsCounted a b frame) (counter : ℕ) (found : counter_of b.nets frame ≡ Some counter)
    (c : Circuit) (literal width left : ℕ) (left_is : left ≡ frame.period * a.cycles - 1 - slot) (word : IsWord width false) (has : InWord width false (pos left))
    (at : literal ≡ length b.nets) (grown : c ≡ with_net b (record { signed = false; width = width; kind = Comb (Const (pos left)) [] })) where
  abbrev count : Net
  count = record { signed = false; width = width; kind = Comb (Const (pos left)) [] }

  abbrev part : NetKind → Type 0
  part = IsChoosing (λ other. other ≡ frame)

  begun : Grows a b [] (IsChoosing (λ other. other ≡ frame)) 0
  begun = counter-grows a b frame some counted [] (IsChoosing (λ other. other ≡ frame)) refl

  literal-shows : InRows b c (λ n rows. (x : ℕ) → x < n → rows literal x ≡ pos left)
  literal-shows = in-rows-one b c count literal (λ n rows. (x : ℕ) → x < n → rows literal x ≡ pos left) at grown
      (λ n inputs rows shows x h. wrapped-is (pos left) width false (rows literal x) word has (shows x h))

  counter-there : IsCounterAt b.nets counter frame
  counter-there = counter-of-at b.nets counter frame found

  counter-within : counter < length b.nets
  counter-within = slice_get_within b.nets counter counter-there.net counter-there.is

  long : length b.nets < length c.nets
  long = slice_get_within c.nets (length b.nets) count (put-there b c count grown)

  counting : Grows a c [] (IsChoosing (λ other. other ≡ frame)) 0
  counting = grows-then a b c [] [] (IsChoosing (λ other. other ≡ frame)) (IsChoosing (λ other. other ≡ frame)) 0 0 (All-nil (IsNamed a b [])) (λ kind x. x) begun
      (comb-grows b c (Const (pos left)) [] [] false width (IsChoosing (λ other. other ≡ frame)) grown word
      (refl, tt) (All-nil (λ read. (read < length b.nets) × MayReadNow b c [] (length b.nets) read)) tt)

  module _ (d : Circuit) (number : ℕ) (last : number ≡ length c.nets) (more : d ≡ with_net c (record { signed = false; width = 1; kind = Comb Equal (counter ∷ literal ∷ []) })) where
    abbrev equal : Net
    equal = record { signed = false; width = 1; kind = Comb Equal (counter ∷ literal ∷ []) }

    behind : Extends b d
    behind = extends-trans b c d (put-extends b c count grown) (put-extends c d equal more)

    equal-shows : InRows c d (λ n rows. (x : ℕ) → x < n → rows number x ≡ truth (int_eq (rows counter x) (rows literal x)))
    equal-shows = in-rows-one c d equal number (λ n rows. (x : ℕ) → x < n → rows number x ≡ truth (int_eq (rows counter x) (rows literal x))) last more
        (λ n inputs rows shows x h. truth-is (int_eq (rows counter x) (rows literal x)) (rows number x) (shows x h))

    both-show : InRows b d (λ n rows. ((x : ℕ) → x < n → rows literal x ≡ pos left) × ((x : ℕ) → x < n → rows number x ≡ truth (int_eq (rows counter x) (rows literal x))))
    both-show = in-rows-both b d
        (λ n rows. (x : ℕ) → x < n → rows literal x ≡ pos left)
        (λ n rows. (x : ℕ) → x < n → rows number x ≡ truth (int_eq (rows counter x) (rows literal x)))
        (λ n rows. ((x : ℕ) → x < n → rows literal x ≡ pos left) × ((x : ℕ) → x < n → rows number x ≡ truth (int_eq (rows counter x) (rows literal x))))
        (in-rows-first b c d (λ n rows. (x : ℕ) → x < n → rows literal x ≡ pos left) (put-extends c d equal more) literal-shows)
        (in-rows-last b c d (λ n rows. (x : ℕ) → x < n → rows number x ≡ truth (int_eq (rows counter x) (rows literal x))) (put-extends b c count grown) equal-shows)
        (λ n rows p q. (p, q))

    test-shows : InRows a d (λ n rows. Tests n (span_of a.cycles frame) slot (rows number))
    test-shows = in-rows-both a d
        (λ n rows. IsCounter n (span_of a.cycles frame) (rows counter))
        (λ n rows. ((x : ℕ) → x < n → rows literal x ≡ pos left) × ((x : ℕ) → x < n → rows number x ≡ truth (int_eq (rows counter x) (rows literal x))))
        (λ n rows. Tests n (span_of a.cycles frame) slot (rows number))
        (in-rows-first a b d (λ n rows. IsCounter n (span_of a.cycles frame) (rows counter)) behind (counter-shows a b frame counter begun.appends.extends found))
        (in-rows-last a b d (λ n rows. ((x : ℕ) → x < n → rows literal x ≡ pos left)
        × ((x : ℕ) → x < n → rows number x ≡ truth (int_eq (rows counter x) (rows literal x))))
        begun.appends.extends both-show)
        (λ n rows counts shows. tests-of n (span_of a.cycles frame) slot (rows counter) (rows literal) (rows number) inside
        (tells n (span_of a.cycles frame) (rows counter) (mul-lt 0 0 frame.period a.cycles some cycles) counts)
        (λ x h. shows.0 x h ∙ ap pos left_is) shows.1)

    pub test-is : IsTestAt a d frame slot number
    test-is = record {
      shows = test-shows;
      there = record { net = equal; is = ap (slice_get d.nets) last ∙ put-there c d equal more; word = bit-word };
      bit = record { net = equal; is = ap (slice_get d.nets) last ∙ put-there c d equal more; wide = refl; sign = refl };
      new = omega (arith, last, long, longer a b begun.appends.extends);
    }

    pub test-grows : Grows a d [] (IsChoosing (λ other. other ≡ frame)) 0
    test-grows = grows-then a c d [] (literal ∷ []) (IsChoosing (λ other. other ≡ frame)) (IsChoosing (λ other. other ≡ frame)) 0 0
        (All-cons (IsNamed a c []) literal [] (inr (omega (arith, at, longer a b begun.appends.extends), omega (arith, at, long))) (All-nil (IsNamed a c []))) (λ kind x. x) counting
        (comb-grows c d Equal (counter ∷ literal ∷ []) (literal ∷ []) false 1 (IsChoosing (λ other. other ≡ frame)) more bit-word (refl, tt)
        (all-two (λ read. (read < length c.nets) × MayReadNow c d (literal ∷ []) (length c.nets) read) counter literal
        (omega (arith, counter-within, long), inr (inr (is-counter-stays b d counter behind (record { frame = frame; at = counter-there }))))
        (omega (arith, at, long), inl (0, omega arith, refl))) tt)

  pub test-part : {E : Type 0} (result : Result ℕ E) (d : Circuit) → IfOk result (λ number. number ≡ length c.nets)
      → OnOk result (d ≡ with_net c (record { signed = false; width = 1; kind = Comb Equal (counter ∷ literal ∷ []) }))
      → IfOk result (λ number. IsTestAt a d frame slot number) × OnOk result (Grows a d [] (IsChoosing (λ other. other ≡ frame)) 0)
  test-part (Ok number) d last more = (test-is d number last more, test-grows d number last more)
  test-part (Err e) d last more = (tt, tt)

-- a net has numbers of its word in every later netlist
pub in-word-later : (a b : Circuit) (k : ℕ) (net : Net) → Extends a b → slice_get a.nets k ≡ Some net → InRows a b (λ n rows. (c : ℕ) → c < n → InWord net.width net.signed (rows k c))
in-word-later a b k net p is = record {
  holds = λ later keeps n inputs rows shown c h.
      let there : slice_get b.nets k ≡ Some net = still-there a b k net p is in
      elim (keeps.nets k (slice_get_within b.nets k net there)) [
        | inl kept ↦ shown.in_word k net (kept ∙ there) c h
        | inr changed ↦
            let was = changed.1 in
            let same : was.was ≡ net = same_Some was.was net (sym was.there ∙ is) in
            let wide : was.is.width ≡ net.width = was.wide ∙ ap (λ (x : Net). x.width) same in
            let sign : was.is.signed ≡ net.signed = was.sign ∙ ap (λ (x : Net). x.signed) same in
            let own : InWord was.is.width was.is.signed (rows k c) = shown.in_word k was.is was.later_there c h in
            subst (λ (s : Bool). InWord net.width s (rows k c)) sign (subst (λ (w : ℕ). InWord w was.is.signed (rows k c)) wide own)
      ];
}

-- a choice
module _ (a b : Circuit) (test chosen other number : ℕ) (there : IsThere a test) (one : HaveOneWord a chosen other) (last : number ≡ length a.nets)
    (grown : b ≡ with_net a (record { signed = one.there.net.signed; width = one.there.net.width; kind = Comb Choose (test ∷ chosen ∷ other ∷ []) })) where
  abbrev choice : Net
  choice = record { signed = one.there.net.signed; width = one.there.net.width; kind = Comb Choose (test ∷ chosen ∷ other ∷ []) }

  abbrev own : Net
  own = one.there.net

  also : HasWord a.nets other own.width own.signed
  also = one.same own one.there.is

  other-in : InRows a b (λ n rows. (c : ℕ) → c < n → InWord one.there.net.width one.there.net.signed (rows other c))
  other-in = in-rows-map-words also (in-word-later a b other also.net (put-extends a b choice grown) also.is)
    where
      in-rows-map-words : (has : HasWord a.nets other one.there.net.width one.there.net.signed) → InRows a b (λ n rows. (c : ℕ) → c < n → InWord has.net.width has.net.signed (rows other c))
          → InRows a b (λ n rows. (c : ℕ) → c < n → InWord one.there.net.width one.there.net.signed (rows other c))
      in-rows-map-words has held = record {
        holds = λ later keeps n inputs rows is c h.
            subst (λ (s : Bool). InWord one.there.net.width s (rows other c)) has.sign
            (subst (λ (w : ℕ). InWord w has.net.signed (rows other c)) has.wide (held.holds later keeps n inputs rows is c h));
      }

  chosen-in : InRows a b (λ n rows. (c : ℕ) → c < n → InWord one.there.net.width one.there.net.signed (rows chosen c))
  chosen-in = in-word-later a b chosen one.there.net (put-extends a b choice grown) one.there.is

  choice-cut : InRows a b (λ n rows. (c : ℕ) → c < n → IsWrapped (if not (int_eq (rows test c) (pos 0)) then rows chosen c else rows other c) one.there.net.width one.there.net.signed (rows number c))
  choice-cut = in-rows-one a b choice number
      (λ n rows. (c : ℕ) → c < n → IsWrapped
      (if not (int_eq (rows test c) (pos 0)) then rows chosen c else rows other c) one.there.net.width
      one.there.net.signed (rows number c)) last grown
      (λ n inputs rows shows. shows)

  pub choice-shows : InRows a b (λ n rows. Chooses n (rows test) (rows chosen) (rows other) (rows number))
  choice-shows = record {
    holds = λ later keeps n inputs rows is.
        let shown = choice-cut.holds later keeps n inputs rows is in
        let first = chosen-in.holds later keeps n inputs rows is in
        let second = other-in.holds later keeps n inputs rows is in
        record {
          on = λ c h any. chosen-on own.width own.signed (rows test c) (rows chosen c) (rows other c) (rows number c) one.there.word (first c h) any (shown c h);
          off = λ c h zero. chosen-off own.width own.signed (rows test c) (rows chosen c) (rows other c) (rows number c) one.there.word (second c h) zero (shown c h);
        };
  }

  pub choice-is : IsChoiceAt a b test chosen other number
  choice-is = record {
    shows = choice-shows;
    word = λ net is.
        let same : own ≡ net = same_Some own net (sym one.there.is ∙ is) in
        record {
          net = choice;
          is = ap (slice_get b.nets) last ∙ put-there a b choice grown;
          wide = ap (λ (x : Net). x.width) same;
          sign = ap (λ (x : Net). x.signed) same;
        };
    new = omega (arith, last);
  }

  pub choice-grows : Grows a b (test ∷ chosen ∷ other ∷ []) (IsChoosing (λ frame. ⊥)) 0
  choice-grows = comb-grows a b Choose (test ∷ chosen ∷ other ∷ []) (test ∷ chosen ∷ other ∷ []) own.signed own.width (IsChoosing (λ frame. ⊥)) grown one.there.word (refl, tt)
      (all-three (λ read. (read < length a.nets) × MayReadNow a b (test ∷ chosen ∷ other ∷ []) (length a.nets) read) test chosen other
      (slice_get_within a.nets test there.net there.is, inl (0, omega arith, refl))
      (slice_get_within a.nets chosen own one.there.is, inl (1, omega arith, refl))
      (slice_get_within a.nets other also.net also.is, inl (2, omega arith, refl))) tt

pub choice-part : {E : Type 0} (result : Result ℕ E) (a b : Circuit) (test chosen other : ℕ) → IsThere a test → (one : HaveOneWord a chosen other) → IfOk result (λ number. number ≡ length a.nets)
    → OnOk result (b ≡ with_net a (record { signed = one.there.net.signed; width = one.there.net.width; kind = Comb Choose (test ∷ chosen ∷ other ∷ []) }))
    → IfOk result (λ number. IsChoiceAt a b test chosen other number) × OnOk result (Grows a b (test ∷ chosen ∷ other ∷ []) (IsChoosing (λ frame. ⊥)) 0)
choice-part (Ok number) a b test chosen other there one last grown =
    (choice-is a b test chosen other number there one last grown, choice-grows a b test chosen other number there one last grown)
choice-part (Err e) a b test chosen other there one last grown = (tt, tt)
