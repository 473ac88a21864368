-- Asks are put behind others one by one.
use Rattle.std.proofs.Common.{◌≡◌, ℕ, suc, ◌+◌, ◌<◌, ◌≤◌, inl, inr, ℤ, ◌++◌, ◌∷◌, List, [], length, length-append, Option, None, Some, ap, sym, ◌∙◌, subst, refl, arith}
use Rattle.std.specs.Prelude.{slice_get}
use Rattle.std.proofs.lemmas.Bool.{cases_lt}
use Rattle.std.proofs.lemmas.List.{append-nil, append_assoc}
use Rattle.std.proofs.lemmas.Option.{same_Some}
use Rattle.math_list.proofs.Places.{get_left, last_at, split-last}
use Rattle.dg_model.specs.declared.diagram.Diagram.{Diagram}
use Rattle.dg_model.specs.declared.diagram.Block.{Block}
use Rattle.dg_model.specs.declared.nested.Target.{Target}
use Rattle.dg_model.specs.Attributes.{attributes_of}
use Rattle.dg_model.specs.Wires.{repeated}
use Rattle.hw_lines.specs.declared.source.Use.{Use}
use Rattle.hw_net.specs.declared.netlist.Frame.{Frame}
use Rattle.hw_shows.specs.Timing.{Timing}
use Rattle.hw_build.specs.declared.asks.Ask.{Ask}
use Rattle.hw_build.specs.declared.wants.Want.{Want}
use Rattle.hw_build.specs.inner.Asks.{IsEndWant, IsAsk}
use Rattle.hw_build.specs.inner.Operands.{first_at}
use Rattle.hw_build.specs.inner.Wants.{IsWant}
use Rattle.hw_build.specs.inner.EndSearch.{hub_spread, late_want, want_list, wants_below, IsWanted, IsAskOf, IsNumber, AsksGrow, AsksOne, AsksAll, IsNetFor, AreNets}

-- ---- one

number_more : (count more : ℕ) (number : Option ℕ) → count ≤ more → IsNumber count number → IsNumber more number
number_more count more None less is = tt
number_more count more (Some number) less is = omega (arith, less, is)

pub asks_now : (old new : List Ask) (wants : List Want) (hub : ℕ) → new ≡ old ++ (record { hub = hub; want = None }) ∷ [] → AsksOne old new wants wants hub None
asks_now old new wants hub grown = record {
  grow = record {
    list = λ k ask at. ap (λ (xs : List Ask). slice_get xs k) grown ∙ get_left old ((record { hub = hub; want = None }) ∷ []) k ask at;
    wants_stay = λ k want at. at;
    numbered = λ are. record {
      each = λ k ask at. elim (split-last old (record { hub = hub; want = None }) ask k (sym (ap (λ (xs : List Ask). slice_get xs k) grown) ∙ at)) [
        | inl front ↦ are.each k ask front.1
        | inr last ↦ subst (λ (a : Ask). IsNumber (length wants) a.want) last.1 tt
      ];
    };
  };
  count = ap length grown ∙ length-append old ((record { hub = hub; want = None }) ∷ []);
  is = record { ask = record { hub = hub; want = None }; is = ap (λ (xs : List Ask). slice_get xs (length old)) grown ∙ last_at old (record { hub = hub; want = None }); hub_is = refl; wanted = tt };
  added = sym (append-nil wants);
  allowed = λ net one are. are;
}

pub asks_later : (old new : List Ask) (wants more : List Want) (number : ℕ) (want : Want) → number ≡ length wants
    → new ≡ old ++ (record { hub = want.feed.hub; want = Some number }) ∷ [] → more ≡ wants ++ want ∷ []
    → AsksOne old new wants more want.feed.hub (Some want)
asks_later old new wants more number want place grown added =
    let one : Ask = record { hub = want.feed.hub; want = Some number } in
    let longer : length more ≡ length wants + 1 = ap length added ∙ length-append wants (want ∷ []) in
    let there : slice_get more number ≡ Some want = ap (slice_get more) place ∙ ap (λ (xs : List Want). slice_get xs (length wants)) added ∙ last_at wants want in
    record {
      grow = record {
        list = λ k ask at. ap (λ (xs : List Ask). slice_get xs k) grown ∙ get_left old (one ∷ []) k ask at;
        wants_stay = λ k other at. ap (λ (xs : List Want). slice_get xs k) added ∙ get_left wants (want ∷ []) k other at;
        numbered = λ are. record {
          each = λ k ask at. elim (split-last old one ask k (sym (ap (λ (xs : List Ask). slice_get xs k) grown) ∙ at)) [
            | inl front ↦ number_more (length wants) (length more) ask.want (omega (arith, longer)) (are.each k ask front.1)
            | inr last ↦ subst (λ (a : Ask). IsNumber (length more) a.want) last.1 (let low : number < length more = omega (arith, place, longer) in low)
          ];
        };
      };
      count = ap length grown ∙ length-append old (one ∷ []);
      is = record { ask = one; is = ap (λ (xs : List Ask). slice_get xs (length old)) grown ∙ last_at old one; hub_is = refl; wanted = there };
      added = added;
      allowed = λ net may are. record {
        each = λ k w at. elim (split-last wants want w k (sym (ap (λ (xs : List Want). slice_get xs k) added) ∙ at)) [
          | inl front ↦ are.each k w front.1
          | inr last ↦ subst (λ (x : Want). IsWant net x) last.1 may
        ];
      };
    }

-- ---- all elements of an end

wanted_later : (wants more : List Want) (number : Option ℕ) (want : Option Want)
    → ((k : ℕ) (w : Want) → slice_get wants k ≡ Some w → slice_get more k ≡ Some w) → IsWanted wants number want
    → IsWanted more number want
wanted_later wants more None None stay is = tt
wanted_later wants more None (Some want) stay is = absurd is
wanted_later wants more (Some number) None stay is = absurd is
wanted_later wants more (Some number) (Some want) stay is = stay number want is

pub ask_stays : (old new : List Ask) (wants more : List Want) (place hub : ℕ) (want : Option Want) → AsksGrow old new wants more → IsAskOf old wants place hub want → IsAskOf new more place hub want
ask_stays old new wants more place hub want grow is = record {
  ask = is.ask;
  is = grow.list place is.ask is.is;
  hub_is = is.hub_is;
  wanted = wanted_later wants more is.ask.want want grow.wants_stay is.wanted;
}

pub grow_then : (a b c : List Ask) (u v w : List Want) → AsksGrow a b u v → AsksGrow b c v w → AsksGrow a c u w
grow_then a b c u v w one two = record {
  list = λ k ask at. two.list k ask (one.list k ask at);
  wants_stay = λ k want at. two.wants_stay k want (one.wants_stay k want at);
  numbered = λ are. two.numbered (one.numbered are);
}

pub asks_more : (old mid new : List Ask) (wants some more : List Want) (hubs : ℕ → ℕ) (asked : ℕ → Option Want)
    (count : ℕ) → AsksAll old mid wants some hubs asked count → AsksOne mid new some more (hubs count) (asked count)
    → AsksAll old new wants more hubs asked (count + 1)
asks_more old mid new wants some more hubs asked count all one = record {
  grow = grow_then old mid new wants some more all.grow one.grow;
  count_is = omega (arith, all.count_is, one.count);
  each = λ element below. elim (cases_lt element count) [
    | inl less ↦ ask_stays mid new some more (length old + element) (hubs element) (asked element) one.grow (all.each element less)
    | inr past ↦
        let same : count ≡ element = omega (arith, past, below) in
        subst (λ (e : ℕ). IsAskOf new more (length old + e) (hubs e) (asked e)) same (subst (λ (n : ℕ). IsAskOf new more n (hubs count) (asked count)) all.count_is one.is)
  ];
  added_all =
      let next : suc count ≡ count + 1 = omega arith in
      one.added ∙ ap (λ (xs : List Want). xs ++ want_list (asked count)) all.added_all
      ∙ append_assoc wants (wants_below asked count) (want_list (asked count))
      ∙ ap (λ (n : ℕ). wants ++ wants_below asked n) next;
  allowed = λ net may are. one.allowed net (may count (omega arith)) (all.allowed net (λ element below. may element (omega (arith, below))) are);
}

-- one for an element of a block, by the numbers that the code finds
pub late_one : (old new : List Ask) (wants more : List Want) (diagram : Diagram)
    (block first width element place : ℕ) (v : ℤ) (frame : Frame) (to : Use) → place ≡ repeated width element
    → v ≡ first_at diagram block element
    → AsksOne old new wants more (first + place)
    (Some (record { feed = record { hub = first + place; frame = frame; first = Some v }; to = to }))
    → AsksOne old new wants more (hub_spread first width element)
    (late_want diagram block first width frame to element)
late_one old new wants more diagram block first width element place v frame to at is one =
    subst (λ (n : ℕ). AsksOne old new wants more (first + n) (Some (record { feed = record { hub = first + n; frame = frame; first = Some (first_at diagram block element) }; to = to }))) at
    (subst (λ (x : ℤ). AsksOne old new wants more (first + place) (Some (record { feed = record { hub = first + place; frame = frame; first = Some x }; to = to }))) is one)

-- ---- their nets

-- what holds of what stands at the same places of two lists, with one more in the second
pub each_more : {A B : Type 0} (P : A → B → Type 0) (xs : List A) (ys : List B) (x : A) (y : B)
    → slice_get xs (length ys) ≡ Some x → P x y
    → ((k : ℕ) (a : A) (b : B) → slice_get xs k ≡ Some a → slice_get ys k ≡ Some b → P a b)
    → (k : ℕ) (a : A) (b : B) → slice_get xs k ≡ Some a → slice_get (ys ++ y ∷ []) k ≡ Some b → P a b
each_more {A = A} P xs ys x y at is before k a b here there = elim (split-last ys y b k there) [
  | inl front ↦ before k a b here front.1
  | inr last ↦
      let place : k ≡ length ys = omega (arith, last.0) in
      let same : ◌≡◌ {A = A} x a = same_Some x a (sym at ∙ ap (slice_get xs) (sym place) ∙ here) in
      subst (λ (p : A). P p b) same (subst (P x) last.1 is)
]

pub nets_more : (list : List Ask) (numbers nets : List ℕ) (count net : ℕ) (ask : Ask)
    → AreNets list numbers nets count → slice_get list count ≡ Some ask → IsNetFor numbers net ask.hub ask.want
    → AreNets list numbers (nets ++ net ∷ []) (count + 1)
nets_more list numbers nets count net ask are at is = record {
  size = length-append nets (net ∷ []) ∙ omega (arith, are.size);
  each = each_more (λ (a : Ask) (n : ℕ). IsNetFor numbers n a.hub a.want) list nets ask net (ap (slice_get list) are.size ∙ at) is are.each;
}

-- ---- what an end has

net_still : (wants : List Want) (numbers : List ℕ) (net hub : ℕ) (number : Option ℕ) → IsWanted wants number None → IsNetFor numbers net hub number → net ≡ hub
net_still wants numbers net hub None wanted is = is
net_still wants numbers net hub (Some number) wanted is = absurd wanted

pub record IsWantAt (wants : List Want) (numbers : List ℕ) (want : Want) (net : ℕ) : Type 0 where
  pub place : ℕ
  pub at : slice_get wants place ≡ Some want
  pub answer : slice_get numbers place ≡ Some net

net_late : (wants : List Want) (numbers : List ℕ) (net hub : ℕ) (number : Option ℕ) (want : Want)
    → IsWanted wants number (Some want) → IsNetFor numbers net hub number → IsWantAt wants numbers want net
net_late wants numbers net hub None want wanted is = absurd wanted
net_late wants numbers net hub (Some number) want wanted is = record { place = number; at = wanted; answer = is }

module _ (diagram : Diagram) (timing : Timing) (list : List Ask) (wants : List Want) (numbers nets : List ℕ)
    (are : AreNets list numbers nets (length list)) (block : ℕ) (b : Block) (target : Target) (from : ℕ) (first : ℤ)
    (hub place net : ℕ) (at : slice_get nets place ≡ Some net) where
  -- the end of a line from a source that never changes
  pub still_asked : IsAskOf list wants place hub None → (attributes_of diagram).period_at from ≡ None → IsAsk diagram timing wants numbers block b target from first hub net
  still_asked is still = inl (still, net_still wants numbers net is.ask.hub is.ask.want is.wanted (are.each place is.ask net is.is at) ∙ is.hub_is)

  -- of one that does
  pub late_asked : (p : ℕ) (want : Want) → IsAskOf list wants place hub (Some want)
      → (attributes_of diagram).period_at from ≡ Some p
      → IsEndWant diagram timing block b target from p first hub want
      → IsAsk diagram timing wants numbers block b target from first hub net
  late_asked p want is moves wanted =
      let late = net_late wants numbers net is.ask.hub is.ask.want want is.wanted (are.each place is.ask net is.is at) in
      inr (record { p = p; moves = moves; place = late.place; want = want; at = late.at; answer = late.answer; is = wanted })
