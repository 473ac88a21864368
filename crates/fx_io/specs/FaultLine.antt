-- The line at which bytes stop being the beginning of a text (own). Which bytes are a text, each
-- format says.
use Prim.Native.Char.{code}
use Rattle.std.specs.Prelude.{◌≡◌, ℕ, ◌+◌, ◌==◌, not, IsTrue, List, [], ◌∷◌, ◌++◌, ◌⊎◌, count_by}
use Rattle.std.specs.List.{list_all}

-- what ends a line
abbrev pub newline : ℕ
newline = code "\n"

-- no newline among them
abbrev pub IsOneLine : List ℕ → Type 0
IsOneLine bytes = IsTrue (list_all (λ byte. not (byte == newline)) bytes)

-- some text begins with the bytes
pub record IsPrefix (IsText : List ℕ → Type 0) (bytes : List ℕ) : Type 0 where
  pub rest : List ℕ
  pub is_text : IsText (bytes ++ rest)

-- whole lines, each with its newline
abbrev pub AreWholeLines : List ℕ → Type 0
AreWholeLines bytes = (bytes ≡ []) ⊎ ((front : List ℕ) × (bytes ≡ front ++ newline ∷ []))

-- the last line of the bytes, or one that with the newline after it can't be gone on with to a
-- whole text
abbrev pub Stops : (List ℕ → Type 0) → List ℕ → List ℕ → Type 0
Stops IsText before after =
    IsOneLine after
    ⊎ ((line more : List ℕ) × IsOneLine line × (after ≡ line ++ newline ∷ more)
    × (IsPrefix IsText (before ++ (line ++ newline ∷ [])) → ⊥))

-- The line at which the bytes stop being the beginning of a text, counted from 1: those before it
-- are one, and it is the last line, or those up to it, each with its newline, are none.
pub record IsFaultLine (IsText : List ℕ → Type 0) (bytes : List ℕ) (line : ℕ) : Type 0 where
  pub before : List ℕ
  pub after : List ℕ
  pub whole : bytes ≡ before ++ after
  pub lines : AreWholeLines before
  pub number : line ≡ 1 + count_by (λ byte. byte == newline) before
  pub begins : IsPrefix IsText before
  pub stops : Stops IsText before after
