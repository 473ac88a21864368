-- The ends of all chains, when all operations have joined them.
use Rattle.std.proofs.Common.{◌≡◌, ℕ, ◌<◌, List, length, Option, None, Some, IsSome, slice_get, ap, sym, ◌∙◌, arith, refl, true≢false}
use Rattle.std.proofs.lemmas.Option.{slice_get_within, get_or_from_slice_get}
use Rattle.hw_net.specs.Circuit.{Circuit}
use Rattle.hw_net.specs.Netlist.{HasWord}
use Rattle.hw_share.specs.declared.operation.Operation.{Operation}
use Rattle.hw_share.specs.declared.joining.Ends.{Ends}
use Rattle.hw_share.specs.Operations.{IsOperation, CanShare, IsUsed, unit_count}
use Rattle.hw_share.specs.inner.ChainEnds.{AreEnds, ends_at}
use Rattle.hw_share.specs.inner.Steps.{CanMultiply, AreReady}

module _ (before now : Circuit) (operations : List Operation) (ends : List (Option Ends)) (can : CanShare before operations) (are : AreEnds before now operations ends (length operations)) where
  -- the ends of an operation's multiplier
  pub ends-of-unit : (k : ℕ) (one : Operation) → slice_get operations k ≡ Some one → (own : Ends) × (ends_at ends one.unit ≡ Some own)
  ends-of-unit k one at = by (ends_at ends one.unit) refl (are.taken k one (slice_get_within operations k one at) at)
    where
      by : (known : Option Ends) → ends_at ends one.unit ≡ known → IsSome known → (own : Ends) × (ends_at ends one.unit ≡ Some own)
      by None e some = absurd (true≢false (sym some))
      by (Some own) e some = (own, e)

  can-multiply : (k : ℕ) (one : Operation) (own : Ends) → slice_get operations k ≡ Some one → ends_at ends one.unit ≡ Some own → CanMultiply now own
  can-multiply k one own at known =
      let is : IsOperation before one = can.each k one at in
      let left : HasWord now.nets own.left is.left.width is.left.signed = are.left_word k one own at known is.left is.left_is in
      let right : HasWord now.nets own.right is.right.width is.right.signed = are.right_word k one own at known is.right is.right_is in
      record {
        left = record { net = left.net; is = left.is; word = rw (left.wide, left.sign) is.left_word };
        right = record { net = right.net; is = right.is; word = rw (right.wide, right.sign) is.right_word };
        product = rw (left.wide, left.sign, right.wide, right.sign) is.product;
      }

  pub ends-ready : AreReady now ends
  ends-ready = record {
    each = λ unit known at.
        let less : unit < unit_count operations = omega (arith, slice_get_within ends unit known at, are.size) in
        let used : IsUsed operations unit = can.used unit less in
        let of_unit = ends-of-unit used.place used.one used.is in
        let there : ends_at ends unit ≡ known = get_or_from_slice_get ends unit known None at in
        let same : ends_at ends unit ≡ Some of_unit.0 = ap (ends_at ends) (sym used.has) ∙ of_unit.1 in
        (of_unit.0, sym there ∙ same, can-multiply used.place used.one of_unit.0 used.is of_unit.1);
  }
