-- What holds of the module of a netlist holds of a result that is it.
use Rattle.std.proofs.Common.{◌≡◌, IfOk, Ok, Err, Result, sym, subst}
use Rattle.vl_ast.specs.declared.modules.Module.{Module}

pub if-made : {E : Type 0} (made : Module) (few : Type 0) (P : Module → Type 0) (r : Result Module E) → IfOk r (λ m. m ≡ made) → IfOk r (λ m. few) → (few → P made) → IfOk r P
if-made made few P (Ok m) e f p = subst P (sym e) (p f)
if-made made few P (Err x) e f p = tt
