-- The multipliers behind the ends of their chains.
use Rattle.std.proofs.Common.{◌≡◌, ℕ, zero, suc, ◌+◌, ◌<◌, ◌⊎◌, ◌||◌, inl, inr, List, [], ◌∷◌, ◌++◌, length, All, Option, None, Some, slice_get, Result, Ok, Err, IfOk, OnOk, ap, sym, ◌∙◌, subst}
use Rattle.std.proofs.Common.{arith, refl, length-append}
use Rattle.std.proofs.lemmas.Bool.{cases_lt}
use Rattle.std.proofs.lemmas.Option.{slice_get_within, none-some, same_Some}
use Rattle.std.proofs.lemmas.List.Elements.{All-nil, All-cons}
use Rattle.math_num.specs.Word.{InWord}
use Rattle.hw_net.specs.declared.netlist.Net.{Net}
use Rattle.hw_net.specs.declared.netlist.NetKind.TheVariants.{Unit}
use Rattle.hw_net.specs.Circuit.{Circuit}
use Rattle.hw_net.specs.Netlist.{HoldsProducts}
use Rattle.hw_net.specs.Growing.{Extends, MayRead, MayReadNow, with_net}
use Rattle.hw_net.proofs.Growth.{longer, one-longer, still-there, word-stays, in-rows-first, in-rows-last, in-rows-one}
use Rattle.math_list.proofs.Places.{last_at, get_front}
use Rattle.hw_share.specs.declared.joining.Ends.{Ends}
use Rattle.hw_share.specs.inner.Parts.{IsNamed, Grows, IsMultiplying}
use Rattle.hw_share.specs.inner.Steps.{CanMultiply, Multiplies, IsMultiplier, AreMultipliers, reads_of}
use Rattle.hw_share.proofs.Products.{product-in}
use Rattle.hw_share.proofs.Growth.{all-two, grows-self, grows-then}
use Rattle.hw_share.proofs.OneNet.{put-extends, put-there, put-grows}

module _ (a b : Circuit) (ends : Ends) (can : CanMultiply a ends) (number : ℕ) (last : number ≡ length a.nets)
    (grown : b ≡ with_net a (record { signed = can.left.net.signed || can.right.net.signed; width = can.left.net.width + can.right.net.width; kind = Unit ends.left ends.right })) where
  abbrev unit : Net
  unit = record { signed = can.left.net.signed || can.right.net.signed; width = can.left.net.width + can.right.net.width; kind = Unit ends.left ends.right }

  holds : HoldsProducts b.nets ends.left ends.right (can.left.net.width + can.right.net.width) (can.left.net.signed || can.right.net.signed)
  holds = record {
    holds = λ one other there also x y in_one in_other.
        let first : one ≡ can.left.net = same_Some one can.left.net (sym there ∙ still-there a b ends.left can.left.net (put-extends a b unit grown) can.left.is) in
        let second : other ≡ can.right.net = same_Some other can.right.net (sym also ∙ still-there a b ends.right can.right.net (put-extends a b unit grown) can.right.is) in
        product-in can.left.net.width can.right.net.width can.left.net.signed can.right.net.signed x y can.left.word can.right.word
        (subst (λ (net : Net). InWord net.width net.signed x) first in_one) (subst (λ (net : Net). InWord net.width net.signed y) second in_other);
  }

  left-within : ends.left < length a.nets
  left-within = slice_get_within a.nets ends.left can.left.net can.left.is

  right-within : ends.right < length a.nets
  right-within = slice_get_within a.nets ends.right can.right.net can.right.is

  unit-at : slice_get b.nets number ≡ Some unit
  unit-at = ap (slice_get b.nets) last ∙ put-there a b unit grown

  pub multiplier-is : IsMultiplier a b ends number
  multiplier-is = record {
    shows = in-rows-one a b unit number (λ n rows. Multiplies n (rows ends.left) (rows ends.right) (rows number)) last grown (λ n inputs rows shows. record { at = shows });
    unit = record { net = unit; is = unit-at; multiplies = refl };
    word = λ one other there also.
        let first : can.left.net ≡ one = same_Some can.left.net one (sym can.left.is ∙ there) in
        let second : can.right.net ≡ other = same_Some can.right.net other (sym can.right.is ∙ also) in
        record {
          net = unit;
          is = unit-at;
          wide = (λ j. (first j).width + (second j).width);
          sign = (λ j. (first j).signed || (second j).signed);
        };
  }

  pub multiplier-grows : Grows a b (ends.left ∷ ends.right ∷ []) IsMultiplying 0
  multiplier-grows = put-grows a b unit grown (ends.left ∷ ends.right ∷ []) IsMultiplying 0 (record {
    word = can.product;
    kind = holds;
    there = all-two (λ read. read < length b.nets) ends.left ends.right
        (omega (arith, left-within, longer a b (put-extends a b unit grown)))
        (omega (arith, right-within, longer a b (put-extends a b unit grown)));
    allowed = all-two (MayRead a b (ends.left ∷ ends.right ∷ [])) ends.left ends.right (inl (0, omega arith, refl)) (inl (1, omega arith, refl));
    now = all-two (MayReadNow a b (ends.left ∷ ends.right ∷ []) (length a.nets)) ends.left ends.right (inl (0, omega arith, refl)) (inl (1, omega arith, refl));
    counted = λ frame names. absurd (none-some frame names);
  }) refl tt refl

pub multiply-part : {E : Type 0} (result : Result ℕ E) (a b : Circuit) (ends : Ends) → (can : CanMultiply a ends) → IfOk result (λ number. number ≡ length a.nets)
    → OnOk result (b ≡ with_net a (record { signed = can.left.net.signed || can.right.net.signed; width = can.left.net.width + can.right.net.width; kind = Unit ends.left ends.right }))
    → IfOk result (IsMultiplier a b ends) × OnOk result (length b.nets ≡ length a.nets + 1) × OnOk result (Grows a b (ends.left ∷ ends.right ∷ []) IsMultiplying 0)
multiply-part (Ok number) a b ends can last grown =
    (multiplier-is a b ends can number last grown, one-longer a b (unit a b ends can number last grown) grown, multiplier-grows a b ends can number last grown)
multiply-part (Err e) a b ends can last grown = (tt, tt, tt)

-- ---- all multipliers

pub can-later : (a b : Circuit) (ends : Ends) → Extends a b → CanMultiply a ends → CanMultiply b ends
can-later a b ends p can = record {
  left = record { net = can.left.net; is = still-there a b ends.left can.left.net p can.left.is; word = can.left.word };
  right = record { net = can.right.net; is = still-there a b ends.right can.right.net p can.right.is; word = can.right.word };
  product = can.product;
}

-- what holds of the nets of each multiplier holds of all that are read
pub all-reads : (P : ℕ → Type 0) (ends : List (Option Ends)) → ((unit : ℕ) (own : Ends) → slice_get ends unit ≡ Some (Some own) → P own.left × P own.right) → All P (reads_of ends)
all-reads P [] each = All-nil P
all-reads P (None ∷ ends) each = all-reads P ends (λ unit own at. each (suc unit) own at)
all-reads P (Some first ∷ ends) each =
    let own = each 0 first refl in
    All-cons P first.left (first.right ∷ reads_of ends) own.0 (All-cons P first.right (reads_of ends) own.1 (all-reads P ends (λ unit one at. each (suc unit) one at)))

-- the nets of a multiplier are among those that are read
pub reads-named : (a b : Circuit) (ends : List (Option Ends)) (unit : ℕ) (own : Ends)
    → slice_get ends unit ≡ Some (Some own)
    → IsNamed a b (reads_of ends) own.left × IsNamed a b (reads_of ends) own.right
reads-named a b [] unit own at = absurd (none-some (Some own) at)
reads-named a b (None ∷ ends) zero own at = absurd (none-some own (same_Some None (Some own) at))
reads-named a b (None ∷ ends) (suc unit) own at = reads-named a b ends unit own at
reads-named a b (Some first ∷ ends) zero own at =
    let same : first ≡ own = same_Some first own (same_Some (Some first) (Some own) at) in
    (inl (0, omega arith, ap (λ (x : Ends). x.left) same), inl (1, omega arith, ap (λ (x : Ends). x.right) same))
reads-named a b (Some first ∷ ends) (suc unit) own at =
    let rest = reads-named a b ends unit own at in
    (behind own.left rest.0, behind own.right rest.1)
  where
    behind : (read : ℕ) → IsNamed a b (reads_of ends) read → IsNamed a b (first.left ∷ first.right ∷ reads_of ends) read
    behind read is = elim is [
      | inl named ↦ inl (suc (suc named.0), omega (arith, named.1), named.2)
      | inr put ↦ inr put
    ]

pub multipliers-begun : (a : Circuit) (ends : List (Option Ends)) → AreMultipliers a a ends [] 0
multipliers-begun a ends = record {
  size = refl;
  long = omega arith;
  placed = λ unit less. absurd (omega arith);
  each = λ unit own less. absurd (omega arith);
  grown = grows-self a (reads_of ends) IsMultiplying;
}

module _ (a b c : Circuit) (ends : List (Option Ends)) (numbers : List ℕ) (count number : ℕ) (own : Ends) (are : AreMultipliers a b ends numbers count) (at : slice_get ends count ≡ Some (Some own))
    (place : number ≡ length b.nets) (is : IsMultiplier b c own number) (long : length c.nets ≡ length b.nets + 1) (grown : Grows b c (own.left ∷ own.right ∷ []) IsMultiplying 0) where
  first : Extends a b
  first = are.grown.appends.extends

  later : Extends b c
  later = grown.appends.extends

  same-place : number ≡ length a.nets + count
  same-place = omega (arith, place, are.long)

  new-one : IsMultiplier a c own (length a.nets + count)
  new-one = subst (IsMultiplier a c own) same-place (record {
    shows = in-rows-last a b c (λ n rows. Multiplies n (rows own.left) (rows own.right) (rows number)) first is.shows;
    unit = is.unit;
    word = λ one other there also. is.word one other (still-there a b own.left one first there) (still-there a b own.right other first also);
  })

  old-one : (unit : ℕ) (one : Ends) → unit < count → slice_get ends unit ≡ Some (Some one) → IsMultiplier a c one (length a.nets + unit)
  old-one unit one less there =
      let was : IsMultiplier a b one (length a.nets + unit) = are.each unit one less there in
      record {
        shows = in-rows-first a b c (λ n rows. Multiplies n (rows one.left) (rows one.right) (rows (length a.nets + unit))) later was.shows;
        unit = record { net = was.unit.net; is = still-there b c (length a.nets + unit) was.unit.net later was.unit.is; multiplies = was.unit.multiplies };
        word = λ net other p q. let has = was.word net other p q in word-stays b c (length a.nets + unit) (net.width + other.width) (net.signed || other.signed) later has;
      }

  pub multipliers-more : AreMultipliers a c ends (numbers ++ number ∷ []) (count + 1)
  multipliers-more = record {
    size = length-append numbers (number ∷ []) ∙ omega (arith, are.size);
    long = omega (arith, long, are.long);
    placed = λ unit less. placed-of unit less (cases unit less);
    each = λ unit one less there.
        elim (cases unit less) [
          | inl before ↦ old-one unit one before there
          | inr e ↦
              let same : own ≡ one = same_Some own one (same_Some (Some own) (Some one) (sym at ∙ ap (slice_get ends) (sym e) ∙ there)) in
              subst (λ (x : Ends). IsMultiplier a c x (length a.nets + unit)) same (subst (λ (u : ℕ). IsMultiplier a c own (length a.nets + u)) (sym e) new-one)
        ];
    grown = grows-then a b c (reads_of ends) (own.left ∷ own.right ∷ []) IsMultiplying IsMultiplying 0 0
        (let names = reads-named a b ends count own at in all-two (IsNamed a b (reads_of ends)) own.left own.right names.0 names.1) (λ kind x. x) are.grown grown;
  }
    where
      cases : (unit : ℕ) → unit < count + 1 → (unit < count) ⊎ (unit ≡ count)
      cases unit less = elim (cases_lt unit count) [
        | inl before ↦ inl before
        | inr not ↦ inr (omega arith)
      ]

      placed-of : (unit : ℕ) → unit < count + 1 → (unit < count) ⊎ (unit ≡ count) → slice_get (numbers ++ number ∷ []) unit ≡ Some (length a.nets + unit)
      placed-of unit less (inl before) = get_front numbers (number ∷ []) unit (omega (arith, are.size)) ∙ are.placed unit before
      placed-of unit less (inr e) =
          let at_end : unit ≡ length numbers = e ∙ sym are.size in
          ap (slice_get (numbers ++ number ∷ [])) at_end ∙ last_at numbers number ∙ ap Some (same-place ∙ ap (λ (u : ℕ). length a.nets + u) (sym e))
