-- Tokens that may follow each other with nothing between them.
use Rattle.std.proofs.Common.{ℕ, Bool, true, false, not, List, [], ◌∷◌, ◌++◌}
use Rattle.std.specs.Prelude.{◌&&◌}
use Rattle.std.specs.List.{list_all}
use Rattle.vl_ast.specs.Tokens.{Token, Key, Sign, Identifier, Number, Based}
use Rattle.vl_read.specs.declared.scan.ByteClass.{ByteClass}
use Rattle.vl_read.specs.declared.scan.ByteClass.TheVariants.{OfWord, OfMark}
use Rattle.vl_read.specs.inner.Lexemes.{class_of, extends, is_nonempty}

abbrev pub is_word_class : ByteClass → Bool
is_word_class OfWord = true
is_word_class _ = false

abbrev pub is_mark_class : ByteClass → Bool
is_mark_class OfMark = true
is_mark_class _ = false

-- bytes that go on with a mark, each with what stands before it
abbrev pub chain : List ℕ → List ℕ → Bool
chain mark [] = true
chain mark (byte ∷ bytes) = (is_mark_class (class_of byte) && extends mark byte) && chain (mark ++ byte ∷ []) bytes

abbrev pub is_mark : List ℕ → Bool
is_mark [] = false
is_mark (byte ∷ bytes) = is_mark_class (class_of byte) && chain (byte ∷ []) bytes

abbrev pub is_key : List ℕ → Bool
is_key word = is_nonempty word && list_all (λ byte. is_word_class (class_of byte)) word

-- a token that is read as one lexeme
unfoldable pub is_fine : Token → Bool
is_fine (Key word) = is_key word
is_fine (Sign mark) = is_mark mark
is_fine _ = true

abbrev pub joins : List ℕ → List ℕ → Bool
joins mark [] = true
joins mark (byte ∷ bytes) = not (extends mark byte)

-- whether a token may follow another with nothing between them, where not both are words
unfoldable pub follows : Token → Token → Bool
follows (Key word) next = true
follows (Sign mark) (Key word) = true
follows (Sign mark) (Sign next) = joins mark next
follows (Sign mark) (Identifier name) = true
follows (Sign mark) (Number number) = true
follows (Sign mark) (Based number) = true
follows (Identifier name) next = true
follows (Number number) next = true
follows (Based number) next = true

-- whether each token may follow the one before it, the first after this one
abbrev pub safe : Token → List Token → Bool
safe before [] = true
safe before (token ∷ tokens) = (follows before token && is_fine token) && safe token tokens
