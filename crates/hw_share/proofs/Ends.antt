-- Operation after operation joins the chains of its multiplier.
use Rattle.std.proofs.Common.{◌≡◌, ℕ, ◌+◌, ◌<◌, inl, inr, List, [], ◌∷◌, length, All, Option, None, Some, IsSome, slice_get, set, replicate, ap, sym, ◌∙◌, subst, arith, refl, length-set, true≢false}
use Rattle.std.proofs.Common.{get_or-set_same, get_or-set_other}
use Rattle.std.proofs.lemmas.Bool.{cases_eq}
use Rattle.std.proofs.lemmas.Option.{slice_get_within, none-some, same_Some}
use Rattle.std.proofs.lemmas.List.Elements.{All-nil, All-cons}
use Rattle.hw_net.specs.Circuit.{Circuit}
use Rattle.hw_net.specs.Registers.{Span, Takes}
use Rattle.hw_net.specs.Netlist.{HasWord}
use Rattle.hw_net.specs.NetRows.{span_of}
use Rattle.hw_net.specs.Growing.{Extends, InRows}
use Rattle.hw_net.proofs.Growth.{longer, still-there, extends-self, in-rows-first, in-rows-both, in-rows-map, in-rows-all}
use Rattle.hw_share.specs.declared.operation.Operation.{Operation}
use Rattle.hw_share.specs.declared.joining.Ends.{Ends}
use Rattle.hw_share.specs.Operations.{IsOperation, AreApart, CanShare, SameWord, operands_of, unit_count}
use Rattle.hw_share.specs.Shared.{IsFrameOf}
use Rattle.hw_share.specs.inner.Parts.{IsNamed, Grows, IsChoosing}
use Rattle.hw_share.specs.inner.ChainEnds.{Selects, Offers, AreOffered, CanJoin, HasJoined, IsJoined, AreEnds, own_ends, ends_at}
use Rattle.hw_share.proofs.Growth.{grows-self, word-then, word-later, word-itself, word-from, named-later}
use Rattle.hw_share.proofs.OperationLists.{left-named, right-named, among, unit-below, none-at}

-- ---- before the first operation

pub ends-begun : (a : Circuit) (operations : List Operation) (ends : List (Option Ends)) (n : ℕ) → ends ≡ replicate n None → n ≡ unit_count operations → length ends ≡ n → AreEnds a a operations ends 0
ends-begun a operations ends n are count size = record {
  size = size ∙ count;
  taken = λ k one before. absurd (omega arith);
  offered = λ k one own before. absurd (omega arith);
  left_word = λ k one own at some. absurd (none-some own (sym (none one.unit) ∙ some));
  right_word = λ k one own at some. absurd (none-some own (sym (none one.unit) ∙ some));
  named = λ unit own some. absurd (none-some own (sym (none unit) ∙ some));
  grown = grows-self a (operands_of operations) (IsChoosing (IsFrameOf operations));
}
  where
    none : (unit : ℕ) → ends_at ends unit ≡ None
    none unit = ap (λ (xs : List (Option Ends)). ends_at xs unit) are ∙ none-at n unit

-- ---- one operation more

-- a clock stands at one slot of a frame
slots-same : (span : Span) (slot other c : ℕ) → Takes span slot c → Takes span other c → slot ≡ other
slots-same span slot other c p q = sym p.at_slot ∙ q.at_slot

pub operation-later : (a b : Circuit) (one : Operation) → Extends a b → IsOperation a one → IsOperation b one
operation-later a b one p is = record {
  left = is.left;
  right = is.right;
  left_is = still-there a b one.left is.left p is.left_is;
  right_is = still-there a b one.right is.right p is.right_is;
  left_word = is.left_word;
  right_word = is.right_word;
  product = is.product;
  some = is.some;
  most = is.most;
  inside = rw p.cycles is.inside;
}

module _ (before now : Circuit) (operations : List Operation) (ends : List (Option Ends)) (i : ℕ) (one : Operation) (can : CanShare before operations)
    (inv : AreEnds before now operations ends i) (at : slice_get operations i ≡ Some one) where
  kept : Extends before now
  kept = inv.grown.appends.extends

  pub can-join : 0 < before.cycles → (old : Ends) → ends_at ends one.unit ≡ Some old → CanJoin now old one
  can-join some old known =
      let is : IsOperation before one = can.each i one at in
      record {
        is = operation-later before now one kept is;
        cycles = rw kept.cycles some;
        left = record {
          there = record { net = is.left; is = still-there before now one.left is.left kept is.left_is; word = is.left_word };
          same = word-from before now now one.left old.left is.left kept is.left_is (inv.left_word i one old at known);
        };
        right = record {
          there = record { net = is.right; is = still-there before now one.right is.right kept is.right_is; word = is.right_word };
          same = word-from before now now one.right old.right is.right kept is.right_is (inv.right_word i one old at known);
        };
      }

  pub unit-there : one.unit < length ends
  unit-there = omega (arith, unit-below operations i one at, inv.size)

  -- an operation of the same multiplier has operands of the same words
  left-alike : (k : ℕ) (other : Operation) → slice_get operations k ≡ Some other → other.unit ≡ one.unit → SameWord before before other.left one.left
  left-alike k other there same =
      elim (cases_eq k i) [
        | inl e ↦ subst (λ (x : Operation). SameWord before before other.left x.left)
            (same_Some other one (sym there ∙ ap (slice_get operations) e ∙ at))
            (word-itself before before other.left (extends-self before))
        | inr far ↦ (can.apart k i other one far there at same).left
      ]

  right-alike : (k : ℕ) (other : Operation) → slice_get operations k ≡ Some other → other.unit ≡ one.unit → SameWord before before other.right one.right
  right-alike k other there same =
      elim (cases_eq k i) [
        | inl e ↦ subst (λ (x : Operation). SameWord before before other.right x.right)
            (same_Some other one (sym there ∙ ap (slice_get operations) e ∙ at))
            (word-itself before before other.right (extends-self before))
        | inr far ↦ (can.apart k i other one far there at same).right
      ]

  module _ (new : Circuit) (end : Ends) (joined : IsJoined before now new (ends_at ends one.unit) one end) where
    -- what the new ends have
    record IsStep : Type 0 where
      extends : Extends now new
      own : AreOffered before new one end
      earlier : (k : ℕ) (other : Operation) → k < i → slice_get operations k ≡ Some other → other.unit ≡ one.unit → AreOffered before new other end
      left_word : SameWord before new one.left end.left
      right_word : SameWord before new one.right end.right
      left_named : IsNamed before new (operands_of operations) end.left
      right_named : IsNamed before new (operands_of operations) end.right
      grown : Grows before new (operands_of operations) (IsChoosing (IsFrameOf operations)) 0

    -- the first operation of a multiplier
    begun-step : ends_at ends one.unit ≡ None → IsStep
    begun-step none =
        let same : new ≡ now = (joined.begun none).0 in
        let own : end ≡ own_ends one = (joined.begun none).1 in
        let extends : Extends now new = rw same (extends-self now) in
        record {
          extends = extends;
          own = rw own (in-rows-all before new
              (λ n rows. Offers n (span_of before.cycles one.frame) one.slot (rows one.left) (rows one.right)
              (rows one.left) (rows one.right))
              (λ n rows. record { left_is = λ c h takes. refl; right_is = λ c h takes. refl }));
          earlier = λ k other less there units.
              let taken : IsSome (ends_at ends one.unit) = subst (λ (u : ℕ). IsSome (ends_at ends u)) units (inv.taken k other less there) in
              absurd (none-taken (ends_at ends one.unit) none taken);
          left_word = rw (same, own) (word-itself before now one.left kept);
          right_word = rw (same, own) (word-itself before now one.right kept);
          left_named = rw own (inl (left-named operations i one at));
          right_named = rw own (inl (right-named operations i one at));
          grown = rw same inv.grown;
        }
      where
        none-taken : (known : Option Ends) → known ≡ None → IsSome known → ⊥
        none-taken None e some = true≢false (sym some)
        none-taken (Some own) e some = none-some own (sym e)

    module _ (old : Ends) (known : ends_at ends one.unit ≡ Some old) where
      has : HasJoined before now new old one end
      has = joined.more old known

      further : Extends now new
      further = has.extends

      both-select : InRows before new (λ n rows. Selects n (span_of before.cycles one.frame) one.slot (rows one.left) (rows old.left) (rows end.left)
          × Selects n (span_of before.cycles one.frame) one.slot (rows one.right) (rows old.right) (rows end.right))
      both-select = in-rows-both before new
          (λ n rows. Selects n (span_of before.cycles one.frame) one.slot (rows one.left) (rows old.left) (rows end.left))
          (λ n rows. Selects n (span_of before.cycles one.frame) one.slot (rows one.right) (rows old.right) (rows end.right))
          (λ n rows. Selects n (span_of before.cycles one.frame) one.slot (rows one.left) (rows old.left) (rows end.left)
          × Selects n (span_of before.cycles one.frame) one.slot (rows one.right) (rows old.right) (rows end.right))
          has.left has.right (λ n rows p q. (p, q))

      earlier-offered : (k : ℕ) (other : Operation) → k < i → slice_get operations k ≡ Some other → other.unit ≡ one.unit → AreOffered before new other end
      earlier-offered k other less there units =
          let apart : AreApart before other one = can.apart k i other one (omega arith) there at units in
          let known_too : ends_at ends other.unit ≡ Some old = ap (ends_at ends) units ∙ known in
          let spans : span_of before.cycles one.frame ≡ span_of before.cycles other.frame = ap (span_of before.cycles) apart.frames in
          let apart_at : (c : ℕ) → Takes (span_of before.cycles other.frame) other.slot c → ¬ Takes (span_of before.cycles one.frame) one.slot c =
          (λ c takes also. apart.slots (slots-same (span_of before.cycles other.frame) other.slot one.slot c takes (subst (λ (s : Span). Takes s one.slot c) spans also))) in
          in-rows-both before new
          (λ n rows. Offers n (span_of before.cycles other.frame) other.slot (rows other.left) (rows other.right) (rows old.left) (rows old.right))
          (λ n rows. Selects n (span_of before.cycles one.frame) one.slot (rows one.left) (rows old.left) (rows end.left)
          × Selects n (span_of before.cycles one.frame) one.slot (rows one.right) (rows old.right) (rows end.right))
          (λ n rows. Offers n (span_of before.cycles other.frame) other.slot (rows other.left) (rows other.right) (rows end.left) (rows end.right))
          (in-rows-first before now new (λ n rows. Offers n (span_of before.cycles other.frame) other.slot
          (rows other.left) (rows other.right) (rows old.left) (rows old.right)) further
          (inv.offered k other old less there known_too))
          both-select
          (λ n rows offers selects. record {
            left_is = λ c h takes. selects.0.off c h (apart_at c takes) ∙ offers.left_is c h takes;
            right_is = λ c h takes. selects.1.off c h (apart_at c takes) ∙ offers.right_is c h takes;
          })

      own-offered : AreOffered before new one end
      own-offered = in-rows-map before new
          (λ n rows. Selects n (span_of before.cycles one.frame) one.slot (rows one.left) (rows old.left) (rows end.left)
          × Selects n (span_of before.cycles one.frame) one.slot (rows one.right) (rows old.right) (rows end.right))
          (λ n rows. Offers n (span_of before.cycles one.frame) one.slot (rows one.left) (rows one.right) (rows end.left) (rows end.right))
          both-select
          (λ n rows selects. record { left_is = λ c h takes. selects.0.on c h takes; right_is = λ c h takes. selects.1.on c h takes })

      left-word : SameWord before new one.left end.left
      left-word = λ net is. has.left_word net (still-there before now one.left net kept is)

      right-word : SameWord before new one.right end.right
      right-word = λ net is. has.right_word net (still-there before now one.right net kept is)

      operands-named : All (IsNamed before now (operands_of operations)) (one.left ∷ one.right ∷ old.left ∷ old.right ∷ [])
      operands-named =
          let names = inv.named one.unit old known in
          All-cons (IsNamed before now (operands_of operations)) one.left (one.right ∷ old.left ∷ old.right ∷ []) (inl (left-named operations i one at))
          (All-cons (IsNamed before now (operands_of operations)) one.right (old.left ∷ old.right ∷ []) (inl (right-named operations i one at))
          (All-cons (IsNamed before now (operands_of operations)) old.left (old.right ∷ []) names.0
          (All-cons (IsNamed before now (operands_of operations)) old.right [] names.1 (All-nil (IsNamed before now (operands_of operations))))))

      more-step : IsStep
      more-step =
          let is : IsOperation before one = can.each i one at in
          let left_at : HasWord new.nets end.left is.left.width is.left.signed = left-word is.left is.left_is in
          let right_at : HasWord new.nets end.right is.right.width is.right.signed = right-word is.right is.right_is in
          record {
            extends = further;
            own = own-offered;
            earlier = earlier-offered;
            left_word = left-word;
            right_word = right-word;
            left_named = inr (omega (arith, has.left_new, longer before now kept), slice_get_within new.nets end.left left_at.net left_at.is);
            right_named = inr (omega (arith, has.right_new, longer before now kept), slice_get_within new.nets end.right right_at.net right_at.is);
            grown = has.grown operations (operands_of operations) (one, among operations i one at, refl) operands-named inv.grown;
          }

    step : IsStep
    step = by (ends_at ends one.unit) refl
      where
        by : (known : Option Ends) → ends_at ends one.unit ≡ known → IsStep
        by None e = begun-step e
        by (Some old) e = more-step old e

    at-own : (unit : ℕ) → unit ≡ one.unit → ends_at (set ends one.unit (Some end)) unit ≡ Some end
    at-own unit e = ap (ends_at (set ends one.unit (Some end))) e ∙ get_or-set_same ends one.unit (Some end) None unit-there

    at-other : (unit : ℕ) → (unit ≡ one.unit → ⊥) → ends_at (set ends one.unit (Some end)) unit ≡ ends_at ends unit
    at-other unit far = get_or-set_other ends one.unit unit (Some end) None far

    offered-of : (k : ℕ) (other : Operation) (own : Ends) → k < i + 1 → slice_get operations k ≡ Some other
        → ends_at (set ends one.unit (Some end)) other.unit ≡ Some own → AreOffered before new other own
    offered-of k other own less there known =
        elim (cases_eq other.unit one.unit) [
          | inl units ↦
              let same : end ≡ own = same_Some end own (sym (at-own other.unit units) ∙ known) in
              subst (AreOffered before new other) same (elim (cases_eq k i) [
                | inl e ↦ subst (λ (x : Operation). AreOffered before new x end) (same_Some one other (sym at ∙ ap (slice_get operations) (sym e) ∙ there)) step.own
                | inr far ↦ step.earlier k other (omega arith) there units
              ])
          | inr far ↦
              let less_still : k < i = elim (cases_eq k i) [
                | inl e ↦ absurd (far (ap (λ (x : Operation). x.unit) (same_Some other one (sym there ∙ ap (slice_get operations) e ∙ at))))
                | inr not ↦ omega arith
              ] in
              in-rows-first before now new (λ n rows. Offers n (span_of before.cycles other.frame) other.slot (rows other.left) (rows other.right) (rows own.left) (rows own.right)) step.extends
              (inv.offered k other own less_still there (sym (at-other other.unit far) ∙ known))
        ]

    word-of : (from : Operation → ℕ) (to : Ends → ℕ)
        → ((k : ℕ) (other : Operation) → slice_get operations k ≡ Some other → other.unit ≡ one.unit
        → SameWord before before (from other) (from one)) → SameWord before new (from one) (to end)
        → ((k : ℕ) (other : Operation) (own : Ends) → slice_get operations k ≡ Some other → ends_at ends other.unit ≡ Some own → SameWord before now (from other) (to own))
        → (k : ℕ) (other : Operation) (own : Ends) → slice_get operations k ≡ Some other → ends_at (set ends one.unit (Some end)) other.unit ≡ Some own → SameWord before new (from other) (to own)
    word-of from to alike here before_it k other own there known =
        elim (cases_eq other.unit one.unit) [
          | inl units ↦
              let same : end ≡ own = same_Some end own (sym (at-own other.unit units) ∙ known) in
              subst (λ (x : Ends). SameWord before new (from other) (to x)) same (word-then before before new (from other) (from one) (to end) (alike k other there units) here)
          | inr far ↦ word-later before now new (from other) (to own) step.extends (before_it k other own there (sym (at-other other.unit far) ∙ known))
        ]

    taken-of : (k : ℕ) (other : Operation) → k < i + 1 → slice_get operations k ≡ Some other → IsSome (ends_at (set ends one.unit (Some end)) other.unit)
    taken-of k other less there =
        elim (cases_eq other.unit one.unit) [
          | inl units ↦ rw (at-own other.unit units) refl
          | inr far ↦
              let less_still : k < i = elim (cases_eq k i) [
                | inl e ↦ absurd (far (ap (λ (x : Operation). x.unit) (same_Some other one (sym there ∙ ap (slice_get operations) e ∙ at))))
                | inr not ↦ omega arith
              ] in
              rw (at-other other.unit far) (inv.taken k other less_still there)
        ]

    named-of : (unit : ℕ) (own : Ends) → ends_at (set ends one.unit (Some end)) unit ≡ Some own
        → IsNamed before new (operands_of operations) own.left
        × IsNamed before new (operands_of operations) own.right
    named-of unit own known =
        elim (cases_eq unit one.unit) [
          | inl units ↦
              let same : end ≡ own = same_Some end own (sym (at-own unit units) ∙ known) in
              subst (λ (x : Ends). IsNamed before new (operands_of operations) x.left × IsNamed before new (operands_of operations) x.right) same (step.left_named, step.right_named)
          | inr far ↦
              let names = inv.named unit own (sym (at-other unit far) ∙ known) in
              (named-later before now new (operands_of operations) own.left step.extends names.0, named-later before now new (operands_of operations) own.right step.extends names.1)
        ]

    pub ends-more : AreEnds before new operations (set ends one.unit (Some end)) (i + 1)
    ends-more = record {
      size = length-set ends one.unit (Some end) ∙ inv.size;
      taken = taken-of;
      offered = offered-of;
      left_word = word-of (λ (o : Operation). o.left) (λ (e : Ends). e.left) left-alike step.left_word inv.left_word;
      right_word = word-of (λ (o : Operation). o.right) (λ (e : Ends). e.right) right-alike step.right_word inv.right_word;
      named = named-of;
      grown = step.grown;
    }
