-- What the bytes spell is read from them, and so they spell one module alone.
use Rattle.std.proofs.Common.{◌≡◌, ℕ, ◌+◌, ◌≤◌, List, [], length, Some, sym, ◌∙◌, ap, arith, option_and_then}
use Rattle.vl_ast.specs.declared.modules.Module.{Module}
use Rattle.vl_ast.specs.Tokens.{Key}
use Rattle.std.specs.Prelude.{Result, Ok, Err, IfOk}
use Rattle.vl_ast.specs.Grammar.{Spells, most_items}
use Rattle.vl_read.specs.declared.fault.VlSyntax.{VlSyntax}
use Rattle.vl_read.specs.declared.fault.VlSyntax.TheVariants.{Syntax, OutOfMemory}
use Rattle.vl_read.specs.Prefix.{IsRefused, IfSyntax, IsReadBack}
use Rattle.vl_read.specs.declared.scan.Mode.TheVariants.{Between}
use Rattle.vl_read.specs.inner.Plain.{start, parse, reading}
use Rattle.vl_read.proofs.Lexemes.{lays_read, after_none, AreLexemes}
use Rattle.vl_read.proofs.SafeTokens.{module_safe}
use Rattle.vl_read.proofs.Modules.{module_read}

pub complete : (bytes : List ℕ) (m : Module) (most : ℕ) → Spells bytes m → length m.items ≤ most → reading most bytes ≡ Some m
complete bytes m most spells room =
    let lexed : AreLexemes spells.tokens bytes Between [] = lays_read spells.tokens bytes _ Between [] (Key []) after_none spells.layout (module_safe m spells.tokens spells.grammar) in
    ap (option_and_then (parse (start most))) lexed.same ∙ module_read m spells.tokens most lexed.lexemes spells.grammar room (record { each = lexed.writes })

pub one_module : (bytes : List ℕ) (one other : Module) → Spells bytes one → Spells bytes other → one ≡ other
one_module bytes one other first second =
    let most : ℕ = length one.items + length other.items in
    let e : Some one ≡ Some other = sym (complete bytes one most first (omega arith)) ∙ complete bytes other most second (omega arith) in
    cc

-- the two clauses of an answer leave the module that the text spells
pub read_back : (text : List ℕ) (m : Module) (answer : Result Module VlSyntax) → Spells text m → length m.items ≤ most_items →
    IfOk answer (λ n. Spells text n) → IfSyntax answer (λ _. IsRefused text) → IsReadBack answer m
read_back text m (Ok n) spells few found refused = one_module text n m found spells
read_back text m (Err (Syntax line)) spells few found refused = refused m spells few
read_back text m (Err OutOfMemory) spells few found refused = tt
