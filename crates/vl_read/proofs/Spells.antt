-- Bytes whose lexemes are written for the tokens of a module spell it.
use Rattle.std.proofs.Common.{◌≡◌, ℕ, List, [], Some}
use Rattle.vl_ast.specs.declared.modules.Module.{Module}
use Rattle.vl_ast.specs.Tokens.{Token, Key}
use Rattle.vl_ast.specs.Grammar.{IsModuleText, Spells}
use Rattle.vl_read.specs.declared.scan.Mode.TheVariants.{Between}
use Rattle.vl_read.specs.inner.Lexemes.{lexemes_from}
use Rattle.vl_read.proofs.TokenReader.{Writes}
use Rattle.vl_read.proofs.SafeTokens.{module_safe}
use Rattle.vl_read.proofs.LexemeLayout.{laid}

pub spelled : (bytes : List ℕ) (lexemes : List (List ℕ)) (tokens : List Token) (m : Module)
    → lexemes_from Between [] bytes ≡ Some lexemes → Writes tokens lexemes → IsModuleText m tokens → Spells bytes m
spelled bytes lexemes tokens m read writes grammar =
    record { tokens = tokens; grammar = grammar; layout = laid bytes lexemes tokens (Key []) read writes (module_safe m tokens grammar) }
