use Rattle.std.proofs.Common.{◌≡◌, ℕ, ◌+◌, ◌∷◌, List, Contains, inr, sym, subst, refl, ◌∙◌, arith}
use Rattle.hw_names.specs.Names.{numbered}
use Rattle.hw_names.specs.Taken.{AreTaken}
use Rattle.hw_names.proofs.NameSets.{more_tried, tried_more, still_tried}
use Rattle.hw_names.proofs.names.Names.give.Goals as goal

pub returns : goal.returns
returns c list are =
    let name : List ℕ = c.args.name.items in
    let number : ℕ = c.in_ok-other.number in
    let is : c.in_ok-text.text ≡ numbered name number = c.in_ok-text.ensures.text ∙ c.in_ok-other.ensures.name in
    let free : ¬ Contains list c.in_ok-text.text = λ has. c.in_ok-other.ensures.free list are (subst (Contains list) is has) in
    let tried = c.in_ok-other.ensures.tried list are in
    let small = c.in_ok-other.ensures.small in
    let taken : AreTaken c.put-2.new.self (c.in_ok-text.text ∷ list) =
    subst (λ (n : List ℕ). AreTaken c.put-2.new.self (n ∷ list)) (sym c.in_ok-text.ensures.text)
    (c.in_ok-text.ensures.taken list are) in (
      record {
        free = free;
        is = inr (
          (c.is_taken.ensures list are).0 c.if-not-is_taken.false,
          record {
            number = number;
            above = tried.above;
            small =
                omega (arith, small);
            is = is;
            least = tried.taken;
          },
        );
      },
      more_tried _ _ (c.in_ok-text.text ∷ list) c.args.name (number + 1) c.in_ok-insert.ensures.updates refl taken
          (tried_more (c.in_ok-text.text ∷ list) name number (still_tried list c.in_ok-text.text name number tried)
          (0, omega arith, is)),
    )
