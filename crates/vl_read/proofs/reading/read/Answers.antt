use Rattle.std.proofs.Common.{◌≡◌, ◌∙◌, refl, sym}
use Rattle.vl_ast.specs.declared.modules.Module.{Module}
use Rattle.vl_read.specs.declared.designer.Scope.TheVariants.{Alone}
use Rattle.vl_read.specs.declared.reading.Reading.{Reading}
use Rattle.vl_read.specs.Prefix.{IsRefused, IsVerilogFaultLine}
use Rattle.vl_read.specs.inner.Scopes.{IsLineIn, IsNoText}
use Rattle.vl_read.proofs.Scoped.{alone_found, alone_none, none_read, syntax_mapped}
use Rattle.vl_read.proofs.reading.read.Goals as goal

pub returns-in-Err-clause-refused : goal.returns-in-Err-clause-refused
returns-in-Err-clause-refused c = syntax_mapped Reading Module (λ _. IsNoText Alone c.args.bytes.now) (λ _. IsRefused c.args.bytes.now) c.in-Err.fault
    (λ line none m spells few. none (m, spells, few)) c.in-Err.ensures.refused

pub returns-in-Err-clause-line : goal.returns-in-Err-clause-line
returns-in-Err-clause-line c = syntax_mapped Reading Module (IsLineIn Alone c.args.bytes.now) (IsVerilogFaultLine c.args.bytes.now) c.in-Err.fault (λ line is. is) c.in-Err.ensures.line

pub returns-in-None-clause-refused : goal.returns-in-None-clause-refused
returns-in-None-clause-refused c m spells few =
    none_read Alone c.args.bytes.now (c.in-Ok.ensures.ahead ∙ alone_none _ _ _ (c.in-Ok.ensures.alone refl) (sym c.in-None.is ∙ c.last_module.ensures)) (m, spells, few)

pub returns-in-None-clause-line : goal.returns-in-None-clause-line
returns-in-None-clause-line c = rw c.line_at.ensures (c.in-Ok.ensures.stops (alone_none _ _ _ (c.in-Ok.ensures.alone refl) (sym c.in-None.is ∙ c.last_module.ensures)))

pub returns-in-Some-clause-found : goal.returns-in-Some-clause-found
returns-in-Some-clause-found c = (alone_found c.args.bytes.now _ _ _ c.in-Some.module c.in-Ok.ensures.ahead (c.in-Ok.ensures.alone refl) (sym c.in-Some.is ∙ c.last_module.ensures)).0

pub returns-in-Some-clause-few : goal.returns-in-Some-clause-few
returns-in-Some-clause-few c = (alone_found c.args.bytes.now _ _ _ c.in-Some.module c.in-Ok.ensures.ahead (c.in-Ok.ensures.alone refl) (sym c.in-Some.is ∙ c.last_module.ensures)).1
