-- Which nets show what a net that they read shows.
use Rattle.std.specs.Prelude.{◌≡◌, ℕ, ◌<◌, ◌⊎◌, ◌&&◌, Bool, false, not, if◌then◌else◌}
use Rattle.std.specs.Prelude.{List, [], ◌∷◌, length}
use Rattle.math_num.specs.Bits.{truth}
use Rattle.hw_net.specs.declared.netlist.Net.{Net}
use Rattle.hw_net.specs.declared.netlist.NetKind.TheVariants.{Comb}
use Rattle.hw_net.specs.declared.netlist.NetOp.TheVariants.{Choose, Const, Less, Not, Or, Resize}
use Rattle.hw_net.specs.Products.{net_at}

-- the net is the constant 0 or 1
pub record IsBitNet (net : Net) (bit : Bool) : Type 0 where
  pub args : List ℕ
  pub is : net.kind ≡ Comb (Const (truth bit)) args

-- what stands for the net is the constant 0 or 1
pub record IsBit (nets : List Net) (root : ℕ → ℕ) (k : ℕ) (bit : Bool) : Type 0 where
  pub inside : root k < length nets
  pub constant : IsBitNet (net_at nets (root k)) bit

-- the net only resizes the other
abbrev pub IsCopyOf : Net → ℕ → Type 0
IsCopyOf net read = net.kind ≡ Comb Resize (read ∷ [])

-- the net chooses between the other and one for which the same stands
pub record IsSameChoice (root : ℕ → ℕ) (net : Net) (read : ℕ) : Type 0 where
  pub test : ℕ
  pub second : ℕ
  pub is : net.kind ≡ Comb Choose (test ∷ read ∷ second ∷ [])
  pub same : root read ≡ root second

-- the net chooses by a constant, and chooses the other
pub record IsPick (nets : List Net) (root : ℕ → ℕ) (net : Net) (read : ℕ) : Type 0 where
  pub test : ℕ
  pub one : ℕ
  pub second : ℕ
  pub bit : Bool
  pub is : net.kind ≡ Comb Choose (test ∷ one ∷ second ∷ [])
  pub constant : IsBit nets root test bit
  pub picked : read ≡ (if bit then one else second)

-- the net has the bits of 0 or of the other
pub record IsJoin (nets : List Net) (root : ℕ → ℕ) (net : Net) (read : ℕ) : Type 0 where
  pub nought : ℕ
  pub is : net.kind ≡ Comb Or (nought ∷ read ∷ [])
  pub constant : IsBit nets root nought false

-- the net is one bit, and tells whether the other is above 0
pub record IsSign (nets : List Net) (root : ℕ → ℕ) (net : Net) (read : ℕ) : Type 0 where
  pub nought : ℕ
  pub is : net.kind ≡ Comb Less (nought ∷ read ∷ [])
  pub constant : IsBit nets root nought false
  pub wide : net.width ≡ 1
  pub sign : net.signed ≡ false

-- by one of the rules the net shows what the other shows, where it has its word
abbrev pub Passes : List Net → (ℕ → ℕ) → Net → ℕ → Type 0
Passes nets root net read =
    IsCopyOf net read ⊎ (IsSameChoice root net read ⊎ (IsPick nets root net read
    ⊎ (IsJoin nets root net read ⊎ IsSign nets root net read)))

-- the net resizes a constant bit
pub record IsResizedBit (nets : List Net) (root : ℕ → ℕ) (net : Net) (bit : Bool) : Type 0 where
  pub read : ℕ
  pub is : net.kind ≡ Comb Resize (read ∷ [])
  pub constant : IsBit nets root read bit

-- the net is one bit, the inverse of a constant
pub record IsTurnedBit (nets : List Net) (root : ℕ → ℕ) (net : Net) (bit : Bool) : Type 0 where
  pub read : ℕ
  pub is : net.kind ≡ Comb Not (read ∷ [])
  pub constant : IsBit nets root read (not bit)
  pub wide : net.width ≡ 1
  pub sign : net.signed ≡ false

-- the net compares two constant bits
pub record IsComparedBits (nets : List Net) (root : ℕ → ℕ) (net : Net) (bit : Bool) : Type 0 where
  pub one : ℕ
  pub second : ℕ
  pub first_bit : Bool
  pub second_bit : Bool
  pub is : net.kind ≡ Comb Less (one ∷ second ∷ [])
  pub first : IsBit nets root one first_bit
  pub other : IsBit nets root second second_bit
  pub compared : bit ≡ (not first_bit && second_bit)

-- by one of these rules the net shows the bit always
abbrev pub IsKnown : List Net → (ℕ → ℕ) → Net → Bool → Type 0
IsKnown nets root net bit =
    IsResizedBit nets root net bit
    ⊎ (IsTurnedBit nets root net bit ⊎ IsComparedBits nets root net bit)
