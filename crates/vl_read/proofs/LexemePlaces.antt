-- The lexeme stands in the bytes from where it begins.
use Rattle.std.proofs.Common.{◌≡◌, ℕ, ◌+◌, ◌-◌, ◌≤◌, ◌<◌, List, [], ◌∷◌, ◌++◌, length, take, drop, get_or, ◌∙◌, ap, arith}
use Rattle.std.proofs.lemmas.List.{get_or-drop, take_more, length-drop}
use Rattle.vl_read.specs.inner.Turns.{between}
use Rattle.vl_read.proofs.Remainder.{drop_next}

-- a byte longer
pub kept_next : (bytes : List ℕ) (start place : ℕ) → start ≤ place → place < length bytes →
    between start (place + 1) bytes ≡ between start place bytes ++ get_or bytes place 0 ∷ []
kept_next bytes start place h within =
    let longer : (place + 1) - start ≡ (place - start) + 1 = omega (arith, h) in
    let inside : place - start < length (drop start bytes) = omega (arith, h, within, length-drop start bytes) in
    let here : start + (place - start) ≡ place = omega (arith, h) in
    ap (λ n. take n (drop start bytes)) longer
    ∙ take_more (drop start bytes) (place - start) 0 inside
    ∙ ap (λ byte. between start place bytes ++ byte ∷ []) (get_or-drop start bytes (place - start) 0 ∙ ap (λ n. get_or bytes n 0) here)

-- its first byte
pub kept_first : (bytes : List ℕ) (start : ℕ) → start < length bytes → between start (start + 1) bytes ≡ get_or bytes start 0 ∷ []
kept_first bytes start within =
    let one : (start + 1) - start ≡ 1 = omega arith in
    ap (λ n. take n (drop start bytes)) one ∙ ap (take 1) (drop_next bytes start within)
