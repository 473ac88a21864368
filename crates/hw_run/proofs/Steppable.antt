-- What the nets of a netlist that can be run offer to a step.
use Rattle.std.proofs.Common.{◌≡◌, ℕ, ◌<◌, Bool, List, [], ◌∷◌, length, Option, None, Some, slice_get, slice_index_or, All, arith, refl}
use Rattle.math_num.specs.Word.{IsWord}
use Rattle.hw_net.specs.declared.netlist.Net.{Net}
use Rattle.hw_net.specs.declared.netlist.NetOp.{NetOp}
use Rattle.hw_net.specs.declared.netlist.NetOp.TheVariants.{Input, Const, Resize, ShiftUp, ShiftDown, Add, Subtract, Negate, Multiply, And, Or, Xor, Not, Less, Equal, Choose, Slice}
use Rattle.hw_net.specs.declared.netlist.NetKind.{NetKind}
use Rattle.hw_net.specs.declared.netlist.NetKind.TheVariants.{Comb, Reg, EnReg, Acc, Bridge, Unit, Counter}
use Rattle.hw_net.specs.Circuit.{Circuit}
use Rattle.hw_net.specs.Operation.{arity}
use Rattle.hw_net.specs.Netlist.{IsNetlist, IsKind, HasParts, HasBits, reads}
use Rattle.hw_run.specs.inner.StepTests.{CanGive, CanStep}
use Rattle.math_list.proofs.Places.{held, slice_get_inside}
use Rattle.math_num.proofs.Words.{word-width}

within-word : (nets : List Net) (args : List ℕ) (high low : ℕ) → All (λ net. IsWord net.width net.signed) nets
    → All (λ read. read < length nets) args → length args ≡ 1 → HasBits nets args high low → high < 128
within-word nets [] high low words there one bits = absurd (omega arith)
within-word nets (read ∷ args) high low words there one bits = by (slice_get nets read) refl
  where
    by : (found : Option Net) → slice_get nets read ≡ found → high < 128
    by None e = absurd (slice_get_inside nets read (there 0 0 (omega arith)) e)
    by (Some net) e =
        let word = held (λ (one : Net). IsWord one.width one.signed) nets read net words e in
        let most = word-width net.width net.signed word in
        let bit = bits.within 0 read net refl e in
        omega arith

can-give : (nets : List Net) (inputs : ℕ) (args : List ℕ) (op : NetOp) → All (λ net. IsWord net.width net.signed) nets → All (λ read. read < length nets) args → length args ≡ arity op
    → HasParts nets inputs args op → CanGive inputs op
can-give nets inputs args (Input number) words there many has = has
can-give nets inputs args (Const value) words there many has = tt
can-give nets inputs args Resize words there many has = tt
can-give nets inputs args (ShiftUp places) words there many has = tt
can-give nets inputs args (ShiftDown places) words there many has = tt
can-give nets inputs args Add words there many has = tt
can-give nets inputs args Subtract words there many has = tt
can-give nets inputs args Negate words there many has = tt
can-give nets inputs args Multiply words there many has = tt
can-give nets inputs args And words there many has = tt
can-give nets inputs args Or words there many has = tt
can-give nets inputs args Xor words there many has = tt
can-give nets inputs args Not words there many has = tt
can-give nets inputs args Less words there many has = tt
can-give nets inputs args Equal words there many has = tt
can-give nets inputs args Choose words there many has = tt
can-give nets inputs args (Slice high low) words there many has = (has.ordered, within-word nets args high low words there many has)

can-step : (nets : List Net) (cycles inputs width : ℕ) (signed : Bool) (kind : NetKind) → All (λ net. IsWord net.width net.signed) nets → All (λ read. read < length nets) (reads kind)
    → IsKind nets cycles inputs width signed kind → CanStep inputs kind
can-step nets cycles inputs width signed (Comb op args) words there has = can-give nets inputs args op words there has.0 has.1
can-step nets cycles inputs width signed (Reg frame slot first from) words there has = has.0
can-step nets cycles inputs width signed (EnReg frame enable reset first from) words there has = has.0
can-step nets cycles inputs width signed (Acc frame enable from) words there has = has.0
can-step nets cycles inputs width signed (Bridge frame live from) words there has = has.0
can-step nets cycles inputs width signed (Unit left right) words there has = tt
can-step nets cycles inputs width signed (Counter frame) words there has = has.0

pub all-can-step : (netlist : Circuit) → IsNetlist netlist → All (λ net. CanStep (length netlist.inputs) net.kind) netlist.nets
all-can-step netlist well k default within =
    let net : Net = slice_index_or netlist.nets k default in
    can-step netlist.nets netlist.cycles (length netlist.inputs) net.width net.signed net.kind well.words (well.there k default within) (well.kinds k default within)
