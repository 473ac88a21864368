-- In every run with `reset` and then none, the nets' names show the rows of the netlist.
use Rattle.std.proofs.Common.{◌≡◌, ℕ, zero, suc, ◌+◌, ◌-◌, ◌*◌, ◌<◌, true, false, List, [], get_or, slice_get, ℤ, pos, ◌*ℤ◌, Option, Some, ap, sym, ◌∙◌, subst, refl, arith, add-one}
use Rattle.std.proofs.lemmas.Option.{slice_get-get_or, get_or_from_slice_get, slice_get_within}
use Rattle.math_num.specs.Word.{IsWrapped}
use Rattle.vl_ast.specs.declared.expressions.Expr.{Expr}
use Rattle.vl_ast.specs.declared.modules.ModItem.TheVariants as item
use Rattle.vl_ast.specs.declared.modules.Module.{Module}
use Rattle.vl_ast.specs.Nets.{nets_of}
use Rattle.hw_net.specs.declared.netlist.Net.{Net}
use Rattle.hw_net.specs.declared.netlist.NetOp.{NetOp}
use Rattle.hw_net.specs.declared.netlist.NetOp.TheVariants.{Input}
use Rattle.hw_net.specs.declared.netlist.NetKind.{NetKind}
use Rattle.hw_net.specs.declared.netlist.NetKind.TheVariants.{Comb, Reg, EnReg, Acc, Bridge, Unit, Counter}
use Rattle.hw_net.specs.Circuit.{Circuit}
use Rattle.hw_net.specs.Closed.{CounterIsTelling}
use Rattle.hw_net.specs.NetRows.{NetRows, span_of, number_at, operands_at}
use Rattle.hw_net.specs.Netlist.{IsNetlist}
use Rattle.hw_net.specs.Operation.{given_by}
use Rattle.hw_net.specs.Step.{BridgeSteps, NetStarts, NetSteps, NetGoes, StepsGiveRows}
use Rattle.vl_emit.specs.Names.{input_wire}
use Rattle.hw_net.specs.Products.{no_net}
use Rattle.vl_emit.specs.Shown.{inputs_from, rows_from}
use Rattle.vl_emit.specs.inner.Operators.{expression_of, product}
use Rattle.vl_emit.specs.inner.AtWidth.{Shows}
use Rattle.vl_emit.proofs.Sections.{Run, run_of}
use Rattle.vl_emit.proofs.ModuleNets.{here}
use Rattle.vl_emit.proofs.OfOperations.{width-at-least}
use Rattle.vl_emit.proofs.Factors.{op-assigned, product-assigned}
use Rattle.vl_emit.proofs.NetBits.{Running, known, value-wrapped, assigned-bits, item-of, names-of}
use Rattle.vl_emit.proofs.Counters.{counter-value}
use Rattle.vl_emit.proofs.RegisterSteps.{begun, reg-goes, en-goes, acc-goes, bridge-begins, bridge-goes, counter-goes}
use Rattle.math_num.proofs.Words.{word-width}

module _ {netlist : Circuit} {rank : ℕ → ℕ} {m : Module} {total last : ℕ} {start : List ℕ → ℕ} {inputs rows : ℕ → List ℕ → ℕ}
    (run : Running netlist rank m total last start inputs rows) where
  abbrev parts : Run
  parts = run_of netlist total last rows

  open parts use {cycles, count, net, naming, wire, clocks, row, value}

  abbrev given : ℕ → ℕ → ℤ
  given = inputs_from netlist last rows

  module _ (telling : CounterIsTelling) (k : ℕ) (h : k < count) where
    unit-goes : (clock left right : ℕ) → (net k).kind ≡ Unit left right → clock < clocks → IsWrapped (value left clock *ℤ value right clock) (net k).width (net k).signed (value k clock)
    unit-goes clock left right is below =
        let names = names-of run k h (Unit left right) is in
        let e : Expr = product (net k).width (wire left) (wire right) in
        value-wrapped run clock k (value left clock *ℤ value right clock) below h
        (assigned-bits run clock k e (value left clock *ℤ value right clock) h below
        (item-of run k h (Unit left right) is (item.Assign (naming.net k) e) (here _ []))
        (product-assigned (nets_of m) (row clock) (net k).width (wire left) (wire right) (value left clock) (value right clock)
        (width-at-least (net k).signed (net k).width (run.sound.word k h)) (known run clock left below names.0.there) (known run clock right below names.1.there)))

    comb-goes : (clock : ℕ) (op : NetOp) (args : List ℕ) → (net k).kind ≡ Comb op args → clock < clocks
        → ((port : ℕ) → op ≡ Input port → Shows (nets_of m) (row clock) (input_wire netlist port) (given port clock))
        → IsWrapped (given_by op (λ number. given number clock) (operands_at (λ number. value number clock) args)) (net k).width (net k).signed (value k clock)
    comb-goes clock op args is below input =
        let names = names-of run k h (Comb op args) is in
        let z : ℤ = given_by op (λ number. given number clock) (operands_at (λ number. value number clock) args) in
        let e : Expr = expression_of op naming.port (λ j. wire (get_or args j 0)) (net k).width in
        value-wrapped run clock k z below h
        (assigned-bits run clock k e z h below (item-of run k h (Comb op args) is (item.Assign (naming.net k) e) (here _ []))
        (op-assigned (nets_of m) (row clock) naming.port (λ number. given number clock) (λ j. wire (get_or args j 0)) (λ j. number_at (λ number. value number clock) (slice_get args j)) (net k).width
        (width-at-least (net k).signed (net k).width (run.sound.word k h)) (word-width (net k).width (net k).signed (run.sound.word k h)) op
        (λ j within. (let same : slice_get args j ≡ Some (get_or args j 0) = slice_get-get_or args j 0 (omega (arith, within, names.2)) in
        subst (λ (o : Option ℕ). Shows (nets_of m) (row clock) (wire (get_or args j 0)) (number_at (λ number. value number clock) o)) (sym same)
        (known run clock (get_or args j 0) below (names.1 j within).there)))
        input names.0))

    -- what is shown of the input ports
    abbrev InputsShow : Type 0
    InputsShow = (clock port : ℕ) (args : List ℕ) → (net k).kind ≡ Comb (Input port) args → clock < clocks → Shows (nets_of m) (row clock) (input_wire netlist port) (given port clock)

    starts-by : InputsShow → 0 < clocks → (kind : NetKind) → (net k).kind ≡ kind
        → NetStarts cycles (λ number. given number 0) (λ number. value number 0) (net k).width (net k).signed kind (value k 0)
    starts-by input below (Comb op args) is = comb-goes 0 op args is below (λ port e. input 0 port args (is ∙ ap (λ (o : NetOp). Comb o args) e) below)
    starts-by input below (Unit left right) is = unit-goes 0 left right is below
    starts-by input below (Counter frame) is =
        (let names = names-of run k h (Counter frame) is in counter-value run k h 0 frame below is ∙ ap pos (omega (arith, names.0)))
    starts-by input below (Reg frame slot first from) is =
        (let names = names-of run k h (Reg frame slot first from) is in begun run telling k h (Reg frame slot first from) is first _ _ below names.1.first_in (here _ []))
    starts-by input below (EnReg frame enable true first from) is =
        (let names = names-of run k h (EnReg frame enable true first from) is in begun run telling k h (EnReg frame enable true first from) is first _ _ below names.1.first_in (here _ []))
    starts-by input below (EnReg frame enable false first from) is =
        (let names = names-of run k h (EnReg frame enable false first from) is in begun run telling k h (EnReg frame enable false first from) is first _ _ below names.1.first_in (here _ []))
    starts-by input below (Acc frame enable from) is =
        (let names = names-of run k h (Acc frame enable from) is in begun run telling k h (Acc frame enable from) is (pos 0) _ _ below names.1.first_in (here _ []))
    starts-by input below (Bridge frame live from) is = bridge-begins run telling k h frame live from is below

    steps-by : InputsShow → (clock : ℕ) → suc clock < clocks → (kind : NetKind) → (net k).kind ≡ kind
        → NetSteps cycles clock (λ number. given number (suc clock)) (λ number. value number clock)
        (λ number. value number (suc clock)) (net k).width (net k).signed kind (value k clock)
        (value k (suc clock))
    steps-by input clock below (Comb op args) is = comb-goes (suc clock) op args is below (λ port e. input (suc clock) port args (is ∙ ap (λ (o : NetOp). Comb o args) e) below)
    steps-by input clock below (Unit left right) is = unit-goes (suc clock) left right is below
    steps-by input clock below (Counter frame) is = counter-goes run telling k h clock frame is below
    steps-by input clock below (Reg frame slot first from) is = reg-goes run telling k h clock frame slot first from is below
    steps-by input clock below (EnReg frame enable resets first from) is = en-goes run telling k h clock frame enable resets first from is below
    steps-by input clock below (Acc frame enable from) is = acc-goes run telling k h clock frame enable from is below
    steps-by input clock below (Bridge frame live from) is =
        let e : suc clock ≡ clock + 1 = sym (add-one clock) in
        subst (λ (c : ℕ). BridgeSteps (span_of cycles frame) (live * cycles) c (value from (suc clock))
        (value k clock) (value k (suc clock))) e (bridge-goes run telling k h frame live from is clock below)

    goes-by : InputsShow → (clock : ℕ) → clock < clocks
        → NetGoes cycles clock (λ number. given number clock) (λ number. value number (clock - 1))
        (λ number. value number clock) (net k).width (net k).signed (net k).kind (value k (clock - 1))
        (value k clock)
    goes-by input zero below = starts-by input below (net k).kind refl
    goes-by input (suc clock) below =
        let e : clock ≡ suc clock - 1 = omega arith in
        subst (λ (c : ℕ). NetSteps cycles clock (λ number. given number (suc clock)) (λ number. value number c)
        (λ number. value number (suc clock)) (net k).width (net k).signed (net k).kind (value k c)
        (value k (suc clock)))
        e (steps-by input clock below (net k).kind refl)

  pub rows-are : CounterIsTelling → StepsGiveRows → IsNetlist netlist
      → ((k : ℕ) → k < count → (clock port : ℕ) (args : List ℕ) → (net k).kind ≡ Comb (Input port) args → clock < clocks → Shows (nets_of m) (row clock) (input_wire netlist port) (given port clock))
      → NetRows netlist clocks given (rows_from netlist last rows)
  rows-are telling stepping runs input =
      stepping netlist clocks given (rows_from netlist last rows) runs
      (λ clock below. record {
        each = λ k n there. (let h : k < count = slice_get_within netlist.nets k n there in
            let same : net k ≡ n = get_or_from_slice_get netlist.nets k n no_net there in
            subst (λ (x : Net). NetGoes cycles clock (λ number. given number clock)
            (λ number. value number (clock - 1)) (λ number. value number clock) x.width x.signed x.kind
            (value k (clock - 1)) (value k clock))
            same (goes-by telling k h (input k h) clock below));
      })
