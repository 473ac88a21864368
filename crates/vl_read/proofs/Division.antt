-- Words and marks with a blank after each are divided as they are.
use Rattle.std.proofs.Common.{◌≡◌, ℕ, List, [], ◌∷◌, ◌++◌, Some, true, refl, ◌∙◌, ap, append_assoc, option_map, flat_map}
use Rattle.std.specs.List.{AllByRecursion}
use Rattle.std.proofs.lemmas.List.Elements.{All-from_recursion}
use Rattle.vl_ast.specs.Tokens.{Blank, IsFiller, IsGap}
use Rattle.vl_read.specs.declared.scan.Mode.TheVariants.{Between, Word, Mark}
use Rattle.vl_read.specs.inner.Lexemes.{lexemes_from}
use Rattle.vl_read.proofs.Safe.{is_mark, is_key}
use Rattle.vl_read.proofs.GapScan.{is_word, is_mark as is_in_mark, gap_ends}
use Rattle.vl_read.proofs.Lexemes.{IsWordText, key_text, word_read, mark_read}

-- a word or a mark
pub data IsLexeme : List ℕ → Type 0 where
  a_word : (lexeme : List ℕ) → IsWordText lexeme → IsLexeme lexeme
  a_mark : (lexeme : List ℕ) → is_mark lexeme ≡ true → IsLexeme lexeme

pub a_key : (word : List ℕ) → is_key word ≡ true → IsLexeme word
a_key word is = a_word word (key_text word is)

abbrev pub AllLexemes : List (List ℕ) → Type 0
AllLexemes lexemes = AllByRecursion IsLexeme lexemes

-- the lexemes, and a blank after each
abbrev pub spaced : List (List ℕ) → List ℕ
spaced lexemes = flat_map (λ lexeme. lexeme ++ 32 ∷ []) lexemes

space : IsGap (32 ∷ [])
space = (Blank 32 ∷ [], All-from_recursion IsFiller (Blank 32 ∷ []) (refl, tt), refl)

first_divided : (lexeme rest : List ℕ) → IsLexeme lexeme →
    lexemes_from Between [] ((lexeme ++ 32 ∷ []) ++ rest) ≡ option_map (λ more. lexeme ∷ more) (lexemes_from Between [] rest)
first_divided lexeme rest (a_word _ is) =
    ap (lexemes_from Between []) (append_assoc lexeme (32 ∷ []) rest) ∙ word_read lexeme (32 ∷ rest) is
    ∙ gap_ends (32 ∷ []) rest Word lexeme is_word space (λ e. cc)
first_divided lexeme rest (a_mark _ is) =
    ap (lexemes_from Between []) (append_assoc lexeme (32 ∷ []) rest) ∙ mark_read lexeme (32 ∷ rest) is
    ∙ gap_ends (32 ∷ []) rest Mark lexeme is_in_mark space (λ e. cc)

pub divided : (lexemes : List (List ℕ)) → AllLexemes lexemes → lexemes_from Between [] (spaced lexemes) ≡ Some lexemes
divided [] all = refl
divided (lexeme ∷ lexemes) all =
    first_divided lexeme (spaced lexemes) all.0 ∙ ap (option_map (λ more. lexeme ∷ more)) (divided lexemes all.1)
