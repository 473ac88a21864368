use Rattle.std.proofs.Common.{inl, inr}
use Rattle.std.proofs.lemmas.Result.{err_from_is_err_and}
use Rattle.dg_model.specs.declared.diagram.Diagram.{Diagram}
use Rattle.dg_model.specs.declared.fault.CheckFault.{CheckFault}
use Rattle.dg_model.specs.declared.fault.CheckFault.TheVariants.{Broken, OutOfMemory}
use Rattle.dg_model.specs.declared.fault.RuleFault.{RuleFault}
use Rattle.dg_model.specs.declared.fault.Shown.TheVariants.{Word}
use Rattle.dg_model.specs.declared.rule.Rule.{Rule}
use Rattle.dg_model.specs.Faults.{BreaksAt, IsRefusal}
use Rattle.dg_model.specs.TypeRounds.{types_of}
use Rattle.dg_model.specs.TypeRule.{BreaksType}
use Rattle.dg_types.specs.declared.typed.Part.{Part}
use Rattle.dg_types.specs.declared.typed.Part.TheVariants.{Narrow, Known, Agree}
use Rattle.dg_types.specs.inner.TypeScan.{keeps_part, word_of}
use Rattle.dg_types.proofs.typed.check_all.Goals as goal

abbrev breaks_part : Part → Diagram → RuleFault → Type 0
breaks_part part diagram = BreaksAt diagram Rule.Type (keeps_part part diagram (types_of diagram)) (λ place block. Word (word_of part))

-- what refuses by one part refuses by the rule
refused_by : (part : Part) (diagram : Diagram) (fault : CheckFault)
    → ((f : RuleFault) → breaks_part part diagram f → BreaksType diagram f)
    → IsRefusal (breaks_part part diagram) fault → IsRefusal (BreaksType diagram) fault
refused_by part diagram (Broken fault) all is = all fault is
refused_by part diagram OutOfMemory all is = is

pub returns-in_err-check-clause-refused : goal.returns-in_err-check-clause-refused
returns-in_err-check-clause-refused c =
    let p = err_from_is_err_and c.from_residual.result c.from_residual.ensures.1 in
    rw (p.1, p.2) (refused_by Narrow c.args.typed.diagram.now c.in_err-check.field-0.0 (λ fault broken. inl broken) c.in_err-check.ensures.refused)

pub returns-in_err-check-2-clause-refused : goal.returns-in_err-check-2-clause-refused
returns-in_err-check-2-clause-refused c =
    let p = err_from_is_err_and c.from_residual-in_err-check-2.result c.from_residual-in_err-check-2.ensures.1 in
    rw (p.1, p.2)
    (refused_by Known c.args.typed.diagram.now c.in_err-check-2.field-0.0
    (λ fault broken. inr (inl (record { narrow = c.in_ok-check.ensures.kept; unknown = broken })))
    c.in_err-check-2.ensures.refused)

pub returns-in_err-check-3-clause-refused : goal.returns-in_err-check-3-clause-refused
returns-in_err-check-3-clause-refused c =
    let p = err_from_is_err_and c.from_residual-in_err-check-3.result c.from_residual-in_err-check-3.ensures.1 in
    rw (p.1, p.2)
    (refused_by Agree c.args.typed.diagram.now c.in_err-check-3.field-0.0
    (λ fault broken. inr (inr (record { narrow = c.in_ok-check.ensures.kept; known = c.in_ok-check-2.ensures.kept; differ = broken })))
    c.in_err-check-3.ensures.refused)

pub returns-clause-kept : goal.returns-clause-kept
returns-clause-kept c = record { narrow = c.in_ok-check.ensures.kept; known = c.in_ok-check-2.ensures.kept; agree = c.in_ok-check-3.ensures.kept }
