-- What is written of a module.
use Rattle.std.proofs.Common.{◌≡◌, ℕ, List, Result, Ok, Err, IfOk, refl, sym, subst}
use Rattle.cmd_design.specs.declared.designing.DesignFault.{DesignFault}
use Rattle.cmd_generate.specs.Generated.{IsWritten}
use Rattle.cmd_generate.specs.Generating.{IsModuleFor, IsTextOf}
use Rattle.vl_ast.specs.declared.modules.Module.{Module}
use Rattle.vl_ast.specs.Grammar.{Spells}
use Rattle.vl_ast.specs.Spelling.{spelling}

-- the written text of a module, where it spells it
pub written-of : (made : Module) (text : List ℕ)
    → ((bytes : List ℕ) (one other : Module) → Spells bytes one → Spells bytes other → one ≡ other)
    → Spells (spelling made) made → text ≡ spelling made → IsTextOf made text
written-of made text unique spelled is =
    let spells = subst (λ (bytes : List ℕ). Spells bytes made) (sym is) spelled in
    record { made = made; spelled = is; alone = record { spells = spells; alone = λ other theirs. unique text other made theirs spells }; so = refl }

-- is that of a module that is so
pub written-so : (IsSo : Module → Type 0) (made : Module) (text : List ℕ) → IsSo made → IsTextOf made text → IsWritten IsSo text
written-so IsSo made text so own = record { made = own.made; spelled = own.spelled; alone = own.alone; so = subst IsSo (sym own.so) so }

pub spelled-for : (IsSo : List ℕ → Type 0) (Refused : DesignFault → Type 0) (made : Result Module DesignFault) → IsModuleFor IsSo Refused made → IfOk made (λ own. Spells (spelling own) own)
spelled-for IsSo Refused (Ok made) is = is.0
spelled-for IsSo Refused (Err why) is = tt
