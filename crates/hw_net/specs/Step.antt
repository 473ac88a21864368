-- From the row of one clock to the next (own).
use Rattle.std.specs.Prelude.{◌≡◌, ◌≢◌, ℕ, zero, suc, ◌+◌, ◌-◌, ◌*◌, ◌<◌, ℤ, pos, ◌<ℤ◌, ◌≤ℤ◌, ◌+ℤ◌}
use Rattle.std.specs.Prelude.{◌*ℤ◌, slice_get, Some, Bool, true, false}
use Rattle.math_num.specs.Word.{IsWrapped}
use Rattle.hw_net.specs.declared.netlist.Net.{Net}
use Rattle.hw_net.specs.declared.netlist.NetKind.{NetKind}
use Rattle.hw_net.specs.declared.netlist.NetKind.TheVariants.{Comb, Reg, EnReg, Acc, Bridge}
use Rattle.hw_net.specs.declared.netlist.NetKind.TheVariants.{Unit, Counter}
use Rattle.hw_net.specs.Circuit.{Circuit}
use Rattle.hw_net.specs.Operation.{given_by}
use Rattle.hw_net.specs.Registers.{Span, Takes, IsLive}
use Rattle.hw_net.specs.Netlist.{IsNetlist}
use Rattle.hw_net.specs.NetRows.{Inputs, Rows, NetRows, span_of, operands_at}

abbrev pub Row : Type 0
Row = ℕ → ℤ

-- what a register keeps or takes at the edge that ends a clock
pub record RegSteps (span : Span) (slot clock : ℕ) (from now next : ℤ) : Type 0 where
  pub takes : Takes span slot clock → next ≡ from
  pub keeps : ¬ Takes span slot clock → next ≡ now

pub record EnRegSteps (span : Span) (reset : Bool) (first : ℤ) (clock : ℕ)
    (enable from now next : ℤ) : Type 0 where
  pub takes : Takes span (span.length - 1) clock → enable ≢ pos 0 → next ≡ from
  pub resets : Takes span (span.length - 1) clock → enable ≡ pos 0 → reset ≡ true → next ≡ first
  pub stays : Takes span (span.length - 1) clock → enable ≡ pos 0 → reset ≡ false → next ≡ now
  pub keeps : ¬ Takes span (span.length - 1) clock → next ≡ now

-- an accumulator: 0 at the frame's end, and else one number more, cut to its word
pub record AccSteps (span : Span) (width : ℕ) (signed : Bool) (clock : ℕ)
    (enable from now next : ℤ) : Type 0 where
  pub clears : Takes span (span.length - 1) clock → next ≡ pos 0
  pub adds : ¬ Takes span (span.length - 1) clock → enable ≢ pos 0
      → IsWrapped (now +ℤ from) width signed next
  pub keeps : ¬ Takes span (span.length - 1) clock → enable ≡ pos 0 → next ≡ now

pub record BridgeSteps (span : Span) (live clock : ℕ) (from now next : ℤ) : Type 0 where
  pub passes : IsLive span live clock → next ≡ from
  pub holds : ¬ IsLive span live clock → next ≡ now

pub record CounterSteps (span : Span) (now next : ℤ) : Type 0 where
  pub falls : pos 0 <ℤ now → next +ℤ pos 1 ≡ now
  pub wraps : now ≤ℤ pos 0 → next ≡ pos (span.length - 1)

-- a net's number at clock 0, in a row
abbrev pub NetStarts : ℕ → Row → Row → ℕ → Bool → NetKind → ℤ → Type 0
NetStarts cycles inputs row width signed (Comb op args) v =
    IsWrapped (given_by op inputs (operands_at row args)) width signed v
NetStarts cycles inputs row width signed (Reg frame slot first from) v = v ≡ first
NetStarts cycles inputs row width signed (EnReg frame enable reset first from) v = v ≡ first
NetStarts cycles inputs row width signed (Acc frame enable from) v = v ≡ pos 0
NetStarts cycles inputs row width signed (Bridge frame live from) v = v ≡ row from
NetStarts cycles inputs row width signed (Unit left right) v =
    IsWrapped (row left *ℤ row right) width signed v
NetStarts cycles inputs row width signed (Counter frame) v =
    v ≡ pos ((span_of cycles frame).start + (span_of cycles frame).length - 1)

-- a net's number at the clock after this one, where `now` is the row of this and `next` that of the
-- next
abbrev pub NetSteps : ℕ → ℕ → Row → Row → Row → ℕ → Bool → NetKind → ℤ → ℤ → Type 0
NetSteps cycles clock inputs now next width signed (Comb op args) old v =
    IsWrapped (given_by op inputs (operands_at next args)) width signed v
NetSteps cycles clock inputs now next width signed (Reg frame slot first from) old v =
    RegSteps (span_of cycles frame) slot clock (now from) old v
NetSteps cycles clock inputs now next width signed (EnReg frame enable reset first from) old v =
    EnRegSteps (span_of cycles frame) reset first clock (now enable) (now from) old v
NetSteps cycles clock inputs now next width signed (Acc frame enable from) old v =
    AccSteps (span_of cycles frame) width signed clock (now enable) (now from) old v
NetSteps cycles clock inputs now next width signed (Bridge frame live from) old v =
    BridgeSteps (span_of cycles frame) (live * cycles) (clock + 1) (next from) old v
NetSteps cycles clock inputs now next width signed (Unit left right) old v =
    IsWrapped (next left *ℤ next right) width signed v
NetSteps cycles clock inputs now next width signed (Counter frame) old v =
    CounterSteps (span_of cycles frame) old v

-- a net's number at a clock, where `now` is the row of the clock before and `next` that of the
-- clock
abbrev pub NetGoes : ℕ → ℕ → Row → Row → Row → ℕ → Bool → NetKind → ℤ → ℤ → Type 0
NetGoes cycles zero inputs now next width signed kind old v =
    NetStarts cycles inputs next width signed kind v
NetGoes cycles (suc clock) inputs now next width signed kind old v =
    NetSteps cycles clock inputs now next width signed kind old v

-- the row of a clock, after that of the clock before
pub record Goes (netlist : Circuit) (clock : ℕ) (inputs now next : Row) : Type 0 where
  pub each : (k : ℕ) (net : Net) → slice_get netlist.nets k ≡ Some net
      → NetGoes netlist.cycles clock inputs now next net.width net.signed net.kind (now k) (next k)

-- rows that go on so from clock to clock are the rows of the netlist
abbrev pub StepsGiveRows : Type 0
StepsGiveRows = (netlist : Circuit) (n : ℕ) (inputs : Inputs) (rows : Rows)
    → IsNetlist netlist
    → ((c : ℕ) → c < n → Goes netlist c (λ number. inputs number c) (λ net. rows net (c - 1))
    (λ net. rows net c))
    → NetRows netlist n inputs rows
