-- Layouts that end right behind their last token, and how a layout is cut there (own).
use Rattle.std.specs.Prelude.{◌≡◌, ◌≢◌, ◌≤◌, ℕ, Bool, true, ◌&&◌, List, [], ◌∷◌, ◌++◌, length}
use Rattle.vl_ast.specs.Tokens.{Token, Key, is_word, IsGap, IsWritten, IsLongest, Lays}

-- whether a word stands last; the first argument says whether one stands before the tokens
abbrev pub ends_in_word : Bool → List Token → Bool
ends_in_word after_word [] = after_word
ends_in_word after_word (token ∷ tokens) = ends_in_word (is_word token) tokens

-- the bytes are the tokens, with gaps before each, and nothing behind the last; these bytes follow
abbrev pub LaysTo : Bool → List Token → List ℕ → List ℕ → Type 0
LaysTo after_word [] bytes behind = bytes ≡ []
LaysTo after_word (token ∷ tokens) bytes behind =
    (gap : List ℕ) × (written : List ℕ) × (rest : List ℕ) × IsGap gap
    × ((after_word && is_word token) ≡ true → gap ≢ [])
    × IsWritten token written × IsLongest token (rest ++ behind)
    × LaysTo (is_word token) tokens rest behind
    × (bytes ≡ gap ++ written ++ rest)

-- a layout, cut behind these tokens
pub record IsCut (after_word : Bool) (front back : List Token) (bytes : List ℕ) : Type 0 where
  pub before : List ℕ
  pub behind : List ℕ
  pub whole : bytes ≡ before ++ behind
  pub front_lies : LaysTo after_word front before behind
  pub back_lies : Lays (ends_in_word after_word front) back behind

-- every layout can be cut behind each of its tokens
abbrev pub LayoutParts : Type 0
LayoutParts =
    (after_word : Bool) (front back : List Token) (bytes : List ℕ)
    → Lays after_word (front ++ back) bytes → IsCut after_word front back bytes

-- and what is so cut is a layout
abbrev pub LayoutJoins : Type 0
LayoutJoins =
    (after_word : Bool) (front back : List Token) (bytes : List ℕ)
    → IsCut after_word front back bytes → Lays after_word (front ++ back) bytes

-- tokens of which the last is a key word of three bytes or more may be followed by any bytes
abbrev pub LayoutStands : Type 0
LayoutStands =
    (after_word : Bool) (tokens : List Token) (word bytes behind other : List ℕ) → 3 ≤ length word
    → LaysTo after_word (tokens ++ Key word ∷ []) bytes behind
    → LaysTo after_word (tokens ++ Key word ∷ []) bytes other
