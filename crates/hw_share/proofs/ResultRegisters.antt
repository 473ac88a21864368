-- The registers of results.
use Rattle.std.proofs.Common.{◌≡◌, ℕ, ◌+◌, inl, inr, List, [], ◌∷◌, ◌++◌, Contains, Some, slice_get, slice_index_or, pos, ap, sym, ◌∙◌, subst, arith, refl, length-append}
use Rattle.std.proofs.lemmas.Option.{slice_get_within, none-some, same_Some, get_or_from_slice_get}
use Rattle.std.proofs.lemmas.List.Elements.{All-nil, All-cons, Contains-get_or}
use Rattle.hw_net.specs.Circuit.{Circuit}
use Rattle.hw_net.specs.Registers.{IsReg}
use Rattle.hw_net.specs.NetRows.{span_of}
use Rattle.hw_net.specs.Growing.{Extends, InRows}
use Rattle.hw_net.proofs.Growth.{longer, still-there, in-rows-first, in-rows-last}
use Rattle.math_list.proofs.Places.{split-last}
use Rattle.hw_share.specs.declared.operation.Operation.{Operation}
use Rattle.hw_share.specs.Shared.{IsFrameOf}
use Rattle.hw_share.specs.inner.Parts.{IsNamed, Grows, IsKeeping}
use Rattle.hw_lines.specs.Register.{IsHeld}
use Rattle.hw_share.specs.inner.Steps.{CanKeep, AreResults}
use Rattle.hw_share.proofs.Growth.{grows-self, grows-then, keeping-wider, word-later}

pub results-begun : (a : Circuit) (operations : List Operation) (numbers : List ℕ) → AreResults a a operations numbers [] 0
results-begun a operations numbers = record {
  size = refl;
  each = λ k one result at there. absurd (none-some result there);
  grown = grows-self a numbers (IsKeeping (IsFrameOf operations));
}

module _ (a b c : Circuit) (operations : List Operation) (numbers results : List ℕ) (i result : ℕ) (one : Operation)
    (can : CanKeep a operations numbers) (are : AreResults a b operations numbers results i)
    (at : slice_get operations i ≡ Some one) (held : IsHeld b c (slice_index_or numbers one.unit 0) one.frame one.slot (pos 0) result)
    (grown : Grows b c (slice_index_or numbers one.unit 0 ∷ []) (IsKeeping (λ frame. frame ≡ one.frame)) 1) where
  first : Extends a b
  first = are.grown.appends.extends

  later : Extends b c
  later = grown.appends.extends

  new-one : IsHeld a c (slice_index_or numbers one.unit 0) one.frame one.slot (pos 0) result
  new-one = record {
    shows = in-rows-last a b c (λ n rows. IsReg n (span_of a.cycles one.frame) one.slot (pos 0) (rows (slice_index_or numbers one.unit 0)) (rows result)) first
        (subst (λ (x : ℕ). InRows b c (λ n rows. IsReg n (span_of x one.frame) one.slot (pos 0) (rows (slice_index_or numbers one.unit 0)) (rows result))) first.cycles held.shows);
    word = λ net is. held.word net (still-there a b (slice_index_or numbers one.unit 0) net first is);
    new = record {
      frame = held.new.frame;
      slot = held.new.slot;
      first = held.new.first;
      from = held.new.from;
      net =
          held.new.net;
      is = held.new.is;
      holds =
          held.new.holds;
      new = omega (arith, held.new.new, longer a b first);
    };
  }

  old-one : (k : ℕ) (other : Operation) (number : ℕ) → slice_get operations k ≡ Some other
      → slice_get results k ≡ Some number
      → IsHeld a c (slice_index_or numbers other.unit 0) other.frame other.slot (pos 0) number
  old-one k other number p q =
      let was : IsHeld a b (slice_index_or numbers other.unit 0) other.frame other.slot (pos 0) number = are.each k other number p q in
      record {
        shows = in-rows-first a b c (λ n rows. IsReg n (span_of a.cycles other.frame) other.slot (pos 0) (rows (slice_index_or numbers other.unit 0)) (rows number)) later was.shows;
        word = word-later a b c (slice_index_or numbers other.unit 0) number later was.word;
        new = record {
          frame = was.new.frame;
          slot = was.new.slot;
          first = was.new.first;
          from = was.new.from;
          net =
              was.new.net;
          is = still-there b c number was.new.net later was.new.is;
          holds =
              was.new.holds;
          new = was.new.new;
        };
      }

  pub results-more : AreResults a c operations numbers (results ++ result ∷ []) (i + 1)
  results-more = record {
    size = length-append results (result ∷ []) ∙ omega (arith, are.size);
    each = λ k other number p q.
        elim (split-last results result number k q) [
          | inl front ↦ old-one k other number p front.1
          | inr end ↦
              let place : k ≡ i = end.0 ∙ are.size in
              let same : one ≡ other = same_Some one other (sym at ∙ ap (slice_get operations) (sym place) ∙ p) in
              subst (λ (x : Operation). IsHeld a c (slice_index_or numbers x.unit 0) x.frame x.slot (pos 0) number) same
              (subst (IsHeld a c (slice_index_or numbers one.unit 0) one.frame one.slot (pos 0)) end.1 new-one)
        ];
    grown = grows-then a b c numbers (slice_index_or numbers one.unit 0 ∷ []) (IsKeeping (IsFrameOf operations)) (IsKeeping (λ frame. frame ≡ one.frame)) i 1
        (All-cons (IsNamed a b numbers) (slice_index_or numbers one.unit 0) [] (inl (Contains-get_or numbers one.unit 0 (can.inside i one at))) (All-nil (IsNamed a b numbers)))
        (keeping-wider (λ frame. frame ≡ one.frame) (IsFrameOf operations) (λ frame e. (one, among i one at, e))) are.grown grown;
  }
    where
      among : (k : ℕ) (x : Operation) → slice_get operations k ≡ Some x → Contains operations x
      among k x there = (k, slice_get_within operations k x there, get_or_from_slice_get operations k x x there)

abbrev pub no-operation : Operation
no-operation = record { frame = record { period = 0; latency = 0 }; slot = 0; unit = 0; left = 0; right = 0 }
