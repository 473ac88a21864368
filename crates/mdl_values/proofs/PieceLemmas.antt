-- Where a text is cut at its first separator.
use Rattle.std.proofs.Common.{◌≡◌, ℕ, zero, suc, ◌<◌, ◌≤◌, Bool, true, false, List, [], ◌∷◌, length, take, drop, refl, ap, arith}
use Rattle.std.specs.List.{prefix_len}
use Rattle.mdl_text.specs.Bytes.{on_first}
use Rattle.mdl_values.specs.Pieces.{is_other, pieces_at}

-- without a separator there is one piece
pub one_piece : (separator : ℕ) (text : List ℕ) → length text ≤ prefix_len (is_other separator) text → pieces_at separator text ≡ text ∷ []
one_piece separator [] whole = refl
one_piece separator (byte ∷ bytes) whole = by_test (is_other separator byte) refl (one_piece separator bytes)
  where
    by_test : (b : Bool) → is_other separator byte ≡ b
        → (length bytes ≤ prefix_len (is_other separator) bytes → pieces_at separator bytes ≡ bytes ∷ [])
        → pieces_at separator (byte ∷ bytes) ≡ (byte ∷ bytes) ∷ []
    by_test true e more = rw e (ap (on_first byte) (more (let w = rw e at whole in omega arith)))
    by_test false e more = absurd (let w = rw e at whole in omega arith)

-- else the first ends there, and the others stand behind it
pub first_piece : (separator : ℕ) (text : List ℕ) (n : ℕ) → n ≡ prefix_len (is_other separator) text
    → n < length text → pieces_at separator text ≡ take n text ∷ pieces_at separator (drop (suc n) text)
first_piece separator [] n e short = absurd (omega arith)
first_piece separator (byte ∷ bytes) n e short = by_test (is_other separator byte) refl n e short (first_piece separator bytes)
  where
    by_test : (b : Bool) → is_other separator byte ≡ b → (n : ℕ) → n ≡ prefix_len (is_other separator) (byte ∷ bytes) → n < length (byte ∷ bytes)
        → ((m : ℕ) → m ≡ prefix_len (is_other separator) bytes → m < length bytes → pieces_at separator bytes ≡ take m bytes ∷ pieces_at separator (drop (suc m) bytes))
        → pieces_at separator (byte ∷ bytes) ≡ take n (byte ∷ bytes) ∷ pieces_at separator (drop (suc n) (byte ∷ bytes))
    by_test true t zero e short more = absurd (let w = rw t at e in omega arith)
    by_test true t (suc m) e short more = rw t (ap (on_first byte) (more m (let w = rw t at e in omega arith) (omega arith)))
    by_test false t zero e short more = rw t refl
    by_test false t (suc m) e short more = absurd (let w = rw t at e in omega arith)
