use Rattle.std.proofs.Common.{◌≡◌, ◌∙◌, refl, sym, ap}
use Rattle.vl_read.specs.declared.design.Design.{Design}
use Rattle.vl_read.specs.declared.designer.Scope.TheVariants.{Together}
use Rattle.vl_read.specs.declared.reading.Reading.{Reading}
use Rattle.vl_read.specs.Designs.{IsDesignFaultLine, IsNoDesign}
use Rattle.vl_read.specs.inner.Scopes.{IsLineIn, IsNoText}
use Rattle.vl_read.proofs.Scoped.{design_found, none_read, syntax_mapped}
use Rattle.vl_read.proofs.reading.read_design.Goals as goal

pub returns-in-Err-clause-refused : goal.returns-in-Err-clause-refused
returns-in-Err-clause-refused c = syntax_mapped Reading Design (λ _. IsNoText Together c.args.bytes.now) (λ _. IsNoDesign c.args.bytes.now) c.in-Err.fault
    (λ line none design spells few. none (design, spells, few)) c.in-Err.ensures.refused

pub returns-in-Err-clause-line : goal.returns-in-Err-clause-line
returns-in-Err-clause-line c = syntax_mapped Reading Design (IsLineIn Together c.args.bytes.now) (IsDesignFaultLine c.args.bytes.now) c.in-Err.fault (λ line is. is) c.in-Err.ensures.line

pub returns-in-Ok-None-clause-refused : goal.returns-in-Ok-None-clause-refused
returns-in-Ok-None-clause-refused c design spells few = none_read Together c.args.bytes.now (c.in-Ok.ensures.ahead ∙ sym c.in-Ok-None.ensures ∙ c.in-Ok-None.field-0-is) (design, spells, few)

pub returns-in-Ok-None-clause-line : goal.returns-in-Ok-None-clause-line
returns-in-Ok-None-clause-line c = rw c.line_at.ensures (c.in-Ok.ensures.stops (sym c.in-Ok-None.ensures ∙ c.in-Ok-None.field-0-is))

pub returns-in-Ok-Some-clause-found : goal.returns-in-Ok-Some-clause-found
returns-in-Ok-Some-clause-found c = (design_found c.args.bytes.now c.in-Ok-Some.design (c.in-Ok.ensures.ahead ∙ sym c.in-Ok-Some.ensures ∙ c.in-Ok-Some.field-0-is)).0

pub returns-in-Ok-Some-clause-few : goal.returns-in-Ok-Some-clause-few
returns-in-Ok-Some-clause-few c = (design_found c.args.bytes.now c.in-Ok-Some.design (c.in-Ok.ensures.ahead ∙ sym c.in-Ok-Some.ensures ∙ c.in-Ok-Some.field-0-is)).1
