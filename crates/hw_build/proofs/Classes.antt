-- The chains of classes are put in one by one.
use Rattle.std.proofs.Common.{◌≡◌, ℕ, zero, suc, ◌+◌, ◌<◌, ◌≤◌, inl, inr, ◌++◌, ◌∷◌, List, [], length, length-append, Contains, Bool, Some, ap, sym, ◌∙◌, subst, refl, arith}
use Rattle.std.specs.Prelude.{false, is_some, slice_get, slice_index_or}
use Rattle.std.proofs.lemmas.Bool.{cases_lt}
use Rattle.std.proofs.Math.Seq.{take-length}
use Rattle.std.proofs.lemmas.List.{length-map}
use Rattle.std.proofs.lemmas.Option.{get_or_from_slice_get, none-some, same_Some, slice_get_within, slice_get-get_or}
use Rattle.hw_net.specs.declared.netlist.Frame.{Frame}
use Rattle.hw_net.specs.declared.netlist.NetKind.{NetKind}
use Rattle.hw_net.specs.declared.netlist.NetKind.TheVariants.{Comb, Reg, EnReg, Acc, Bridge, Unit, Counter}
use Rattle.hw_net.specs.Circuit.{Circuit}
use Rattle.hw_net.specs.Growing.{Extends, Appends}
use Rattle.hw_net.specs.Netlist.{HasWord}
use Rattle.hw_net.proofs.Growth.{extends-self, extends-trans, longer, still-there, stood-there}
use Rattle.math_list.proofs.Places.{split-last, get_some, map_there}
use Rattle.hw_lines.specs.declared.source.Use.{Use}
use Rattle.hw_lines.specs.Chain.{IsAnswer, reader_of, IsPart, IsCountedIn}
use Rattle.hw_build.specs.declared.wants.Feed.{Feed}
use Rattle.hw_build.specs.declared.wants.Want.{Want}
use Rattle.hw_build.specs.declared.wants.Class.{Class}
use Rattle.hw_build.specs.declared.wants.Seat.{Seat}
use Rattle.hw_build.specs.inner.Levels.{level_behind}
use Rattle.hw_build.specs.inner.Wants.{source_by, AreFolded, IsLinePart, class_registers, registers_below, IsClass, AreClasses, IsClassAnswered, IsBegun, IsMetBy, IsClassMet, AreAnswered, IsPlace}
use Rattle.hw_build.specs.inner.Wants.{ArePlaces, AreSeated, IsSeat, AreMet, net_at, nets_at}
use Rattle.hw_build.proofs.Growth.{goes_same, goes_then, goes_appended}
use Rattle.hw_build.proofs.Levels.{level_stays, levelled_by_call, answer_level, register_level}
use Rattle.hw_build.proofs.Soundness.{sound_by_call}
use Rattle.hw_net.proofs.Extends.{word-stays}

-- ---- one call

word_was : (before after : Circuit) (number width : ℕ) (signed : Bool) → Extends before after
    → number < length before.nets → HasWord after.nets number width signed → HasWord before.nets number width signed
word_was before after number width signed grown inside word = record { net = word.net; is = stood-there before after number word.net grown inside word.is; wide = word.wide; sign = word.sign }

named_low : (before : Circuit) (level : ℕ → ℕ) (hub : ℕ) → hub < length before.nets → (read : ℕ) → Contains (hub ∷ []) read → (read < length before.nets) × (level read ≤ level hub + 1)
named_low before level hub inside read among = go read among
  where
    go : (read : ℕ) → Contains (hub ∷ []) read → (read < length before.nets) × (level read ≤ level hub + 1)
    go read (zero, below, is) = let same : hub ≡ read = is in subst (λ (n : ℕ). (n < length before.nets) × (level n ≤ level hub + 1)) same (inside, omega arith)
    go read (suc k, below, is) = absurd (omega (arith, below))

module _ (closed hubs ports : ℕ) (now after : Circuit) (level : ℕ → ℕ) (one : Class) (own : List ℕ)
    (begun : IsBegun closed hubs ports now level) (class : IsClass now one)
    (is : IsClassAnswered now after one own) where
  hub : ℕ
  hub = one.feed.hub

  inside : one.feed.hub < length now.nets
  inside = slice_get_within now.nets one.feed.hub class.source.net class.source.is

  appends : Appends now after (one.feed.hub ∷ [])
  appends = is.chained.appends

  few : length after.inputs ≤ ports
  few = let i = ap length appends.extends.inputs in let less = begun.inputs in omega (arith, i, less)

  abbrev next : ℕ → ℕ
  next = level_behind now after level (level one.feed.hub + 1)

  pub begun_behind : IsBegun closed hubs ports after (level_behind now after level (level one.feed.hub + 1))
  begun_behind = record {
    there = let a = begun.there in let b = longer now after appends.extends in omega (arith, a, b);
    inputs = few;
    sound = sound_by_call closed hubs now after (one.feed.hub ∷ []) ports begun.there few appends begun.sound;
    levelled = levelled_by_call now after level (level one.feed.hub + 1) (one.feed.hub ∷ []) begun.levelled appends (omega arith) (named_low now level one.feed.hub inside);
    differ = appends.differ begun.differ;
  }

  -- what met a want does
  pub met_later : (feed : Feed) (asked : Use) (number : ℕ) → IsMetBy closed hubs now level feed asked number
      → IsMetBy closed hubs after (level_behind now after level (level one.feed.hub + 1)) feed asked number
  met_later feed asked number met =
      let more = longer now after appends.extends in
      let a = met.inside in
      let b = met.source_inside in
      let x = level_stays now after level (level one.feed.hub + 1) number a in
      let y = level_stays now after level (level one.feed.hub + 1) feed.hub b in
      let low = met.low in
      record {
        was = met.was;
        next = met.next;
        small = met.small;
        grown = met.grown;
        cycles = met.cycles ∙ sym appends.extends.cycles;
        goes = goes_then closed hubs met.next now after met.goes (goes_appended closed hubs now after appends.extends);
        answer = met.answer;
        word = λ width signed word. word-stays now after number width signed appends.extends (met.word width signed (word_was now after feed.hub width signed appends.extends b word));
        source_inside = omega (arith, b, more);
        inside = omega (arith, a, more);
        low = omega (arith, x, y, low);
        late = λ registered. x ∙ met.late registered;
      }

  -- its own answers meet theirs
  pub met_here : (p : ℕ) (asked : Use) (number : ℕ) → slice_get one.uses.items p ≡ Some asked
      → slice_get own p ≡ Some number
      → IsMetBy closed hubs after (level_behind now after level (level one.feed.hub + 1)) one.feed asked number
  met_here p asked number at there =
      let answer : IsAnswer now after (source_by one.feed) (reader_of (source_by one.feed) asked) number = is.answers.each p asked number at there in
      let more = longer now after appends.extends in
      let own_word = answer.word class.source.net class.source.is in
      let y = level_stays now after level (level one.feed.hub + 1) one.feed.hub inside in
      let low = answer_level now after level (level one.feed.hub + 1) one.feed.hub number inside (omega arith) answer.stands in
      record {
        was = now;
        next = after;
        small = begun.there;
        grown = appends.extends;
        cycles = sym appends.extends.cycles;
        goes = goes_same closed hubs after;
        answer = answer;
        word = λ width signed word.
            let before = word_was now after one.feed.hub width signed appends.extends inside word in
            let had = answer.word before.net before.is in
            record { net = had.net; is = had.is; wide = had.wide ∙ before.wide; sign = had.sign ∙ before.sign };
        source_inside = let a = inside in omega (arith, a, more);
        inside = slice_get_within after.nets number own_word.net own_word.is;
        low = omega (arith, y, low);
        late = λ registered. register_level now after level (level one.feed.hub + 1) number (answer.holds registered);
      }

-- ---- all classes

-- what a chain puts in is a part of lines
part_is : (kind : NetKind) (bridges : Type 0) (frames : Frame → Type 0) → IsPart bridges frames kind → IsLinePart kind
part_is (Comb op args) bridges frames is = is
part_is (Reg frame slot first from) bridges frames is = tt
part_is (EnReg frame enable reset first from) bridges frames is = is
part_is (Acc frame enable from) bridges frames is = is
part_is (Bridge frame live from) bridges frames is = tt
part_is (Unit left right) bridges frames is = is
part_is (Counter frame) bridges frames is = tt

pub answered_none : (before : Circuit) (classes : List Class) → AreAnswered before before classes [] 0
answered_none before classes = record {
  parts = record { each = λ k net past at. let inside = slice_get_within before.nets k net at in absurd (omega (arith, inside, past)) };
  counted = record { each = λ k net frame past at counts. let inside = slice_get_within before.nets k net at in absurd (omega (arith, inside, past)) };
  few = omega arith;
  size = refl;
  extends = extends-self before;
  counts = λ c one numbers at there. absurd (none-some numbers there);
  met = λ closed hubs ports level begun. record {
    next = level;
    goes = record { begun = begun; same = λ k inside. refl };
    each = λ c one numbers at there. absurd (none-some numbers there);
  };
}

source_later : (before after : Circuit) (one : Class) → Extends before after → IsClass before one → IsClass after one
source_later before after one grown is = record {
  source = record {
    net = is.source.net;
    is =
        still-there before after one.feed.hub is.source.net grown is.source.is;
    word = is.source.word;
    first =
        is.source.first;
    some = is.source.some;
    most = is.source.most;
    early = is.source.early;
  };
  asked = is.asked;
}

-- the class that is next may be asked for still
pub class_next : (before now : Circuit) (classes : List Class) (answers : List (List ℕ)) (count : ℕ) (one : Class)
    → AreClasses before classes → AreAnswered before now classes answers count → slice_get classes count ≡ Some one
    → IsClass now one
class_next before now classes answers count one are answered at = source_later before now one answered.extends (are.each count one at)

pub answered_more : (before now after : Circuit) (classes : List Class) (answers : List (List ℕ)) (count : ℕ)
    (one : Class) (own : List ℕ) → AreClasses before classes → AreAnswered before now classes answers count
    → slice_get classes count ≡ Some one → IsClassAnswered now after one own
    → AreAnswered before after classes (answers ++ own ∷ []) (count + 1)
answered_more before now after classes answers count one own are answered at is = record {
  size = length-append answers (own ∷ []) ∙ omega (arith, answered.size);
  extends = extends-trans before now after answered.extends is.chained.appends.extends;
  parts = record {
    each = λ k net past here. elim (cases_lt k (length now.nets)) [
      | inl inside ↦ answered.parts.each k net past (stood-there now after k net is.chained.appends.extends inside here)
      | inr new ↦ part_is net.kind (is_some one.feed.first ≡ false) (IsCountedIn (source_by one.feed) one.uses.items) (is.chained.parts k net new here)
    ];
  };
  counted = record {
    each = λ k net frame past here counts. elim (cases_lt k (length now.nets)) [
      | inl inside ↦ answered.counted.each k net frame past (stood-there now after k net is.chained.appends.extends inside here) counts
      | inr new ↦ (count, one, at, subst (IsPart (is_some one.feed.first ≡ false) (IsCountedIn (source_by one.feed) one.uses.items)) counts (is.chained.parts k net new here))
    ];
  };
  few =
      let own : class_registers (slice_get classes count) ≡ class_registers (Some one) = ap class_registers at in
      let next : suc count ≡ count + 1 = omega arith in
      let all : registers_below classes (suc count) ≡ registers_below classes (count + 1) = ap (registers_below classes) next in
      let was = answered.few in
      let more = is.chained.few in
      omega (arith, own, all, was, more);
  counts = λ c x numbers here there. elim (split-last answers own numbers c there) [
    | inl front ↦ answered.counts c x numbers here front.1
    | inr last ↦ subst (λ (ns : List ℕ). length ns ≡ length x.uses.items) last.1 (is.answers.count ∙ ap (λ (y : Class). length y.uses.items) (the_one c x here last.0))
  ];
  met = λ closed hubs ports level begun.
      let was = answered.met closed hubs ports level begun in
      record {
        next = level_behind now after was.next (was.next one.feed.hub + 1);
        goes = record {
          begun = begun_behind closed hubs ports now after was.next one own was.goes.begun class is;
          same = λ k inside. let more = longer before now answered.extends in level_stays now after was.next (was.next one.feed.hub + 1) k (omega (arith, inside, more)) ∙ was.goes.same k inside;
        };
        each = λ c x numbers here there. elim (split-last answers own numbers c there) [
          | inl front ↦
              let old = was.each c x numbers here front.1 in
              record {
                each = λ p asked number use_at stands. met_later closed hubs ports now after was.next one own
                    was.goes.begun class is x.feed asked number (old.each p asked number use_at stands);
              }
          | inr last ↦
              subst (λ (y : Class). IsClassMet closed hubs after (level_behind now after was.next (was.next one.feed.hub + 1)) y numbers) (the_one c x here last.0)
              (subst (λ (ns : List ℕ). IsClassMet closed hubs after (level_behind now after was.next (was.next one.feed.hub + 1)) one ns) last.1
              (record { each = λ p asked number use_at stands. met_here closed hubs ports now after was.next one own was.goes.begun class is p asked number use_at stands }))
        ];
      };
}
  where
    class : IsClass now one
    class = class_next before now classes answers count one are answered at

    the_one : (c : ℕ) (x : Class) → slice_get classes c ≡ Some x → c ≡ length answers → ◌≡◌ {A = Class} one x
    the_one c x here last = let place : c ≡ count = omega (arith, last, answered.size) in same_Some one x (sym at ∙ ap (slice_get classes) (sym place) ∙ here)

-- ---- all wants

seat_place : (before now : Circuit) (wants : List Want) (classes : List Class) (answers : List (List ℕ))
    (want : Want) (seat : Seat) → AreAnswered before now classes answers (length classes) → IsSeat classes want seat
    → IsPlace answers seat
seat_place before now wants classes answers want seat answered is =
    let inside = slice_get_within classes seat.class is.one is.is in
    let there : slice_get answers seat.class ≡ Some (slice_index_or answers seat.class []) = slice_get-get_or answers seat.class [] (omega (arith, inside, answered.size)) in
    let count = answered.counts seat.class is.one (slice_index_or answers seat.class []) is.is there in
    let low = slice_get_within is.one.uses.items seat.place want.to is.at in
    record { own = slice_index_or answers seat.class []; is = there; below = omega (arith, count, low) }

pub places_are : (before now : Circuit) (wants : List Want) (classes : List Class) (seats : List Seat)
    (answers : List (List ℕ)) → AreSeated wants classes seats (length wants)
    → AreAnswered before now classes answers (length classes) → ArePlaces answers seats
places_are before now wants classes seats answers seated answered = record {
  each = λ k seat at.
      let below = slice_get_within seats k seat at in
      let inside : k < length wants = omega (arith, below, seated.size) in
      go k seat at (wants_at k inside);
}
  where
    wants_at : (k : ℕ) → k < length wants → (want : Want) × (slice_get wants k ≡ Some want)
    wants_at k inside = get_some wants k inside

    go : (k : ℕ) (seat : Seat) → slice_get seats k ≡ Some seat → ((want : Want) × (slice_get wants k ≡ Some want)) → IsPlace answers seat
    go k seat at (want, here) = seat_place before now wants classes answers want seat answered (seated.each k want seat here at)

-- the net of a seat whose place is there
pub net_stands : (answers : List (List ℕ)) (seat : Seat) → IsPlace answers seat → (own : List ℕ) × (slice_get answers seat.class ≡ Some own) × (slice_get own seat.place ≡ Some (net_at answers seat))
net_stands answers seat place =
    let own : slice_index_or answers seat.class [] ≡ place.own = get_or_from_slice_get answers seat.class place.own [] place.is in (
      place.own,
      place.is,
      slice_get-get_or place.own seat.place 0 place.below ∙ ap (λ (xs : List ℕ). Some (slice_index_or xs seat.place 0)) (sym own),
    )

pub wants_are_met : (before now : Circuit) (wants : List Want) (classes : List Class) (seats : List Seat)
    (answers : List (List ℕ)) → AreSeated wants classes seats (length wants)
    → AreAnswered before now classes answers (length classes)
    → AreMet before now wants (nets_at answers seats)
wants_are_met before now wants classes seats answers seated answered = record {
  size = length-map seats (net_at answers) ∙ seated.size;
  extends = answered.extends;
  parts = answered.parts;
  classes = classes;
  counted = answered.counted;
  folded = subst (λ (ws : List Want). AreFolded ws classes) (take-length wants) seated.folded;
  few = answered.few;
  met = λ closed hubs ports level begun.
      let all = answered.met closed hubs ports level begun in
      record {
        next = all.next;
        goes = all.goes;
        each = λ k want number here there.
            let found = map_there (net_at answers) seats k number there in
            let seat : IsSeat classes want found.0 = seated.each k want found.0 here found.1 in
            let own = net_stands answers found.0 (seat_place before now wants classes answers want found.0 answered seat) in
            let met = (all.each found.0.class seat.one own.0 seat.is own.1).each found.0.place want.to number seat.at (own.2 ∙ ap Some found.2) in
            subst (λ (f : Feed). IsMetBy closed hubs now all.next f want.to number) seat.same met;
      };
}
