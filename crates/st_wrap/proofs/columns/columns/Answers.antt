use Rattle.std.proofs.Common.{◌≡◌, ◌∙◌, ◌+◌, ◌-◌, ◌<◌, ◌≤◌, ℕ, Bool, IfOk, List, ap, get_or, length, subst, sym}
use Rattle.vl_ast.specs.declared.modules.Port.{Port}
use Rattle.vl_ast.specs.Control.{is_stallable}
use Rattle.vl_ast.specs.Attributes.{clocks_of}
use Rattle.st_wrap.specs.inner.Columns.{column_of, is_column, output_column}
use Rattle.st_wrap.specs.Pace.{samples_late}
use Rattle.st_wrap.proofs.Filters.{all-gathered, gathered-as, none-gathered, one-gathered, other-gathered, unnamed-gathered}
use Rattle.st_wrap.proofs.columns.columns.Goals.{then-carries+in-Some, then-carries+in_default, else-carries}
use Rattle.st_wrap.proofs.columns.columns.Goals as goal

pub loop-port-init : goal.loop-port-init
loop-port-init c = none-gathered (output_column (clocks_of c.args.core.now) c.args.latest)
    (is_column c.args.input (is_stallable c.args.core.now)) c.args.core.now.ports c.args.names.now
    c.begin-out.ensures

pub loop-port-preserved : goal.loop-port-preserved
loop-port-preserved c =
    let i = c.loop-port.port-index in
    let x = c.port-item.result in
    let core : List Port = c.args.core.now.ports in
    let is : x ≡ get_or core i x = subst (λ (xs : List Port). x ≡ get_or xs i x) c.as_slice-port-items.ensures c.port-item.is in
    let below : i < length core = subst (λ (xs : List Port). i < length xs) c.as_slice-port-items.ensures c.loop-port-test.true in
    let f = output_column (clocks_of c.args.core.now) c.args.latest in
    let test = is_column c.args.input (is_stallable c.args.core.now) in
    let stalls = ap (λ (b : Bool). is_column c.args.input b x) (sym c.is_stallable-stalls.ensures) in
    let was = c.loop-port.invariant in
    elim c.if-carries.branch [
      | then-carries+in-Some w ↦ (
          let late = w.saturating_sub-late.ensures ∙ ap (λ (n : ℕ). c.args.latest - n) (w.samples_late.ensures ∙ ap (λ (cycles : ℕ). samples_late cycles x) c.clocks_of-cycles.ensures.is) in
          let put = w.put.ensures _ (subst (λ (late : ℕ). IfOk w.column_for.result (λ column. column ≡ column_of late (x, w.in-Some.name.now))) late w.column_for.ensures) in
          gathered-as f test core c.args.names.now (i + 1) w.out-is (λ k. (w.left-is k).now)
          (one-gathered f test core c.args.names.now i x below
          (sym is) c.loop-port.left.now was w.in-Some.name.now w.in-Some.others.now w.in-Some.ensures.cases.0
          (stalls ∙ sym w.if-carries.ensures) put))
      | then-carries+in_default w ↦ gathered-as f test core c.args.names.now (i + 1) w.out-is (λ k. (w.left-is k).now)
          (unnamed-gathered f test core c.args.names.now i x below (sym is) c.loop-port.left.now was w.in_default.ensures.cases (stalls ∙ sym w.if-carries.ensures))
      | else-carries w ↦ gathered-as f test core c.args.names.now (i + 1) w.out-is (λ k. (w.left-is k).now)
          (other-gathered f test core c.args.names.now i x below (sym is) c.loop-port.left.now was (stalls ∙ sym w.if-carries.ensures))
    ]

pub returns : goal.returns
returns c =
    let core : List Port = c.args.core.now.ports in
    let outside = subst (λ (xs : List Port). length xs ≤ c.loop-port.port-index) c.as_slice-port-items.ensures c.loop-port-test.false in
    c.finish.ensures _ (all-gathered (output_column (clocks_of c.args.core.now) c.args.latest)
    (is_column c.args.input (is_stallable c.args.core.now)) core c.args.names.now c.loop-port.port-index
    c.loop-port.left.now outside c.loop-port.invariant)
