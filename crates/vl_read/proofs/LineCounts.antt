-- The line of a place in the bytes.
use Rattle.std.proofs.Common.{◌≡◌, ℕ, ◌+◌, ◌<◌, Bool, true, false, cond, List, length, take, get_or, refl, arith}
use Rattle.std.specs.Prelude.{◌==◌}
use Rattle.std.proofs.lemmas.List.Sums.{count_by_more_yes, count_by_more_no}
use Rattle.vl_read.specs.inner.Turns.{is_newline, line_at}

-- a newline is counted once
pub line_next : (bytes : List ℕ) (place : ℕ) → place < length bytes → line_at (take (place + 1) bytes) ≡ line_at (take place bytes) + cond (get_or bytes place 0 == 10) 1 0
line_next bytes place within = of (is_newline (get_or bytes place 0)) refl
  where
    of : (t : Bool) → is_newline (get_or bytes place 0) ≡ t → line_at (take (place + 1) bytes) ≡ line_at (take place bytes) + cond t 1 0
    of true is = omega (arith, count_by_more_yes is_newline bytes place 0 within is)
    of false is = omega (arith, count_by_more_no is_newline bytes place 0 within is)
