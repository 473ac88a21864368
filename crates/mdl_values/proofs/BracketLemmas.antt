-- Pieces that are no more than two, and lists that open with no bracket.
use Rattle.std.proofs.Common.{◌≡◌, ℕ, Bool, true, false, cond, List, [], ◌∷◌, refl, sym, ◌∙◌, ap, Option, None, Some, Result, Ok, Err}
use Rattle.std.specs.Prelude.{MatchOption, IfOk}
use Rattle.std.specs.Borrow.{Bor}
use Rattle.mdl_text.specs.Bytes.{on_first}
use Rattle.mdl_values.specs.Pieces.{is_other, pieces_at, words_of, unblanked, two_of, opens, bracketed, inside_and_blanks, alone, list_elements}
use Rattle.mdl_values.proofs.ElementLemmas.{left, cut_left}
use Rattle.mdl_values.proofs.WordLemmas.{words_unblanked}

-- a text has a piece
pub record HasPiece (separator : ℕ) (text : List ℕ) : Type 0 where
  pub first : List ℕ
  pub more : List (List ℕ)
  pub form : pieces_at separator text ≡ first ∷ more

has_piece : (separator : ℕ) (text : List ℕ) → HasPiece separator text
has_piece separator [] = record { first = []; more = []; form = refl }
has_piece separator (byte ∷ bytes) = by_test (is_other separator byte) refl (has_piece separator bytes)
  where
    by_test : (b : Bool) → is_other separator byte ≡ b → HasPiece separator bytes → HasPiece separator (byte ∷ bytes)
    by_test true e inner = record {
      first = byte ∷ inner.first;
      more = inner.more;
      form = ap (λ t. cond t (on_first byte (pieces_at separator bytes)) ([] ∷ pieces_at separator bytes)) e ∙ ap (on_first byte) inner.form;
    }
    by_test false e inner = record {
      first = [];
      more = pieces_at separator bytes;
      form = ap (λ t. cond t (on_first byte (pieces_at separator bytes)) ([] ∷ pieces_at separator bytes)) e;
    }

-- with a third piece there are more than two
pub two_refused : (separator : ℕ) (text first second : List ℕ) (behind more : Option (Bor (List ℕ))) (rest next : Bor (List ℕ))
    → behind ≡ Some rest
    → MatchOption behind (pieces_at separator text ≡ first ∷ []) (λ r. pieces_at separator text ≡ first ∷ pieces_at separator r.now)
    → more ≡ Some next
    → MatchOption more (pieces_at separator rest.now ≡ second ∷ []) (λ r. pieces_at separator rest.now ≡ second ∷ pieces_at separator r.now)
    → two_of (pieces_at separator text) ≡ None
two_refused separator text first second behind more rest next is cut is_more cut_more =
    let third = has_piece separator next.now in
    ap two_of (cut_left separator text first behind cut)
    ∙ ap (λ (o : Option (Bor (List ℕ))). two_of (first ∷ left separator o)) is
    ∙ ap (λ (ps : List (List ℕ)). two_of (first ∷ ps)) (cut_left separator rest.now second more cut_more)
    ∙ ap (λ (o : Option (Bor (List ℕ))). two_of (first ∷ second ∷ left separator o)) is_more
    ∙ ap (λ (ps : List (List ℕ)). two_of (first ∷ second ∷ ps)) third.form

-- a list that opens with no bracket is one word
pub list_alone : {E : Type 0} (text solid : List ℕ) (r : Result (Option (List (List ℕ))) E) → solid ≡ unblanked text → opens solid ≡ false
    → IfOk r (λ found. found ≡ alone (words_of solid)) → IfOk r (λ found. found ≡ list_elements text)
list_alone text solid (Ok found) is shut h =
    h
    ∙ ap (λ (t : List ℕ). alone (words_of t)) is
    ∙ ap alone (words_unblanked text)
    ∙ sym (ap (λ (b : Bool). cond b (inside_and_blanks (bracketed (unblanked text))) (alone (words_of text))) (ap opens (sym is) ∙ shut))
list_alone text solid (Err e) is shut h = h
