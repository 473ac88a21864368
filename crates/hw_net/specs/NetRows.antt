-- What the nets of a netlist show at each clock: a fact about a function of net and clock, with no
-- order and no state (own).
use Rattle.std.specs.Prelude.{◌≡◌, ℕ, ◌*◌, ◌<◌, ℤ, pos, ◌*ℤ◌, List, length, slice_get, Option, None}
use Rattle.std.specs.Prelude.{Some, Bool}
use Rattle.math_num.specs.Word.{InWord, IsWrapped}
use Rattle.hw_net.specs.declared.netlist.Frame.{Frame}
use Rattle.hw_net.specs.declared.netlist.Net.{Net}
use Rattle.hw_net.specs.declared.netlist.NetKind.{NetKind}
use Rattle.hw_net.specs.declared.netlist.NetKind.TheVariants.{Comb, Reg, EnReg, Acc, Bridge}
use Rattle.hw_net.specs.declared.netlist.NetKind.TheVariants.{Unit, Counter}
use Rattle.hw_net.specs.Circuit.{Circuit}
use Rattle.hw_net.specs.Netlist.{IsNetlist}
use Rattle.hw_net.specs.Operation.{Operands, given_by}
use Rattle.hw_net.specs.Registers.{Wave, Span, IsReg, IsEnReg, IsAcc, IsBridge, IsCounter}

-- the numbers of the inputs at each clock, and of the nets
abbrev pub Inputs : Type 0
Inputs = ℕ → ℕ → ℤ

abbrev pub Rows : Type 0
Rows = ℕ → Wave

-- a frame in clocks, where a base sample has so many
abbrev pub span_of : ℕ → Frame → Span
span_of cycles frame = record { start = frame.latency * cycles; length = frame.period * cycles }

-- a net's number in a row; 0 where there is no net
abbrev pub number_at : (ℕ → ℤ) → Option ℕ → ℤ
number_at row None = pos 0
number_at row (Some net) = row net

-- the numbers of the nets of a list, in order
abbrev pub operands_at : (ℕ → ℤ) → List ℕ → Operands
operands_at row args =
    record {
      first = number_at row (slice_get args 0);
      second = number_at row (slice_get args 1);
      third = number_at row (slice_get args 2);
    }

-- below clock n the wave is that of a net of this kind and word
abbrev pub NetShows : ℕ → ℕ → Inputs → Rows → ℕ → Bool → NetKind → Wave → Type 0
NetShows cycles n inputs rows width signed (Comb op args) wave =
    (c : ℕ) → c < n
    → IsWrapped (given_by op (λ number. inputs number c) (operands_at (λ net. rows net c) args))
    width signed (wave c)
NetShows cycles n inputs rows width signed (Reg frame slot first from) wave =
    IsReg n (span_of cycles frame) slot first (rows from) wave
NetShows cycles n inputs rows width signed (EnReg frame enable reset first from) wave =
    IsEnReg n (span_of cycles frame) reset first (rows enable) (rows from) wave
NetShows cycles n inputs rows width signed (Acc frame enable from) wave =
    IsAcc n (span_of cycles frame) width signed (rows enable) (rows from) wave
NetShows cycles n inputs rows width signed (Bridge frame live from) wave =
    IsBridge n (span_of cycles frame) (live * cycles) (rows from) wave
NetShows cycles n inputs rows width signed (Unit left right) wave =
    (c : ℕ) → c < n → wave c ≡ rows left c *ℤ rows right c
NetShows cycles n inputs rows width signed (Counter frame) wave =
    IsCounter n (span_of cycles frame) wave

-- the rows of a netlist at the first n clocks under these inputs: each net shows what its kind
-- says, and a number of its word
pub record NetRows (netlist : Circuit) (n : ℕ) (inputs : Inputs) (rows : Rows) : Type 0 where
  pub shows : (k : ℕ) (net : Net) → slice_get netlist.nets k ≡ Some net
      → NetShows netlist.cycles n inputs rows net.width net.signed net.kind (rows k)
  pub in_word : (k : ℕ) (net : Net) → slice_get netlist.nets k ≡ Some net → (c : ℕ) → c < n
      → InWord net.width net.signed (rows k c)

-- Two functions that are rows of one netlist under the same inputs are one, as far as there are
-- nets and clocks.
abbrev pub RowsAreOne : Type 0
RowsAreOne =
    (netlist : Circuit) (n : ℕ) (inputs : Inputs) (rows other : Rows) → IsNetlist netlist
    → NetRows netlist n inputs rows → NetRows netlist n inputs other
    → (k c : ℕ) → k < length netlist.nets → c < n → rows k c ≡ other k c

-- there are rows of a netlist under any inputs
pub record HasRows (netlist : Circuit) (n : ℕ) (inputs : Inputs) : Type 0 where
  pub rows : Rows
  pub are : NetRows netlist n inputs rows

abbrev pub RowsAreThere : Type 0
RowsAreThere =
    (netlist : Circuit) (n : ℕ) (inputs : Inputs) → IsNetlist netlist → HasRows netlist n inputs
