-- The multipliers behind the ends of their chains, and the registers of results behind these.
use Rattle.std.specs.Prelude.{◌≡◌, ℕ, ◌+◌, ◌*ℤ◌, ◌<◌, ◌||◌, List, [], ◌∷◌, length}
use Rattle.std.specs.Prelude.{slice_get, slice_index_or, Option, None, Some, pos}
use Rattle.math_num.specs.Word.{IsWord}
use Rattle.hw_net.specs.Circuit.{Circuit}
use Rattle.hw_net.specs.Registers.{Wave}
use Rattle.hw_net.specs.Growing.{InRows}
use Rattle.hw_share.specs.declared.operation.Operation.{Operation}
use Rattle.hw_share.specs.declared.joining.Ends.{Ends}
use Rattle.hw_share.specs.Shared.{IsUnitAt, HasProductWord, IsFrameOf}
use Rattle.hw_lines.specs.Register.{IsHeld, IsThere}
use Rattle.hw_share.specs.inner.Parts.{Grows, IsMultiplying, IsKeeping}

-- the nets are there in words whose product has a word
pub record CanMultiply (netlist : Circuit) (ends : Ends) : Type 0 where
  pub left : IsThere netlist ends.left
  pub right : IsThere netlist ends.right
  pub product : IsWord (left.net.width + right.net.width) (left.net.signed || right.net.signed)

-- the wave is the product of two
pub record Multiplies (n : ℕ) (left right wave : Wave) : Type 0 where
  pub at : (c : ℕ) → c < n → wave c ≡ left c *ℤ right c

-- the Unit net of ends, in the word of products
pub record IsMultiplier (before after : Circuit) (ends : Ends) (number : ℕ) : Type 0 where
  pub shows : InRows before after (λ n rows.
      Multiplies n (rows ends.left) (rows ends.right) (rows number))
  pub unit : IsUnitAt after.nets number ends.left ends.right
  pub word : HasProductWord before after ends.left ends.right number

-- the nets that the ends of multipliers name
abbrev pub reads_of : List (Option Ends) → List ℕ
reads_of [] = []
reads_of (None ∷ ends) = reads_of ends
reads_of (Some own ∷ ends) = own.left ∷ own.right ∷ reads_of ends

-- each multiplier has its ends
pub record AreReady (netlist : Circuit) (ends : List (Option Ends)) : Type 0 where
  pub each : (unit : ℕ) (known : Option Ends) → slice_get ends unit ≡ Some known
      → (own : Ends) × (known ≡ Some own) × CanMultiply netlist own

-- the Unit nets of the first multipliers, in order
pub record AreMultipliers (before after : Circuit) (ends : List (Option Ends))
    (numbers : List ℕ) (count : ℕ) : Type 0 where
  pub size : length numbers ≡ count
  pub long : length after.nets ≡ length before.nets + count
  pub placed : (unit : ℕ) → unit < count
      → slice_get numbers unit ≡ Some (length before.nets + unit)
  pub each : (unit : ℕ) (own : Ends) → unit < count → slice_get ends unit ≡ Some (Some own)
      → IsMultiplier before after own (length before.nets + unit)
  pub grown : Grows before after (reads_of ends) IsMultiplying 0

-- the multiplier of each operation is there, and its slot is a number of 32 bits
pub record CanKeep (netlist : Circuit) (operations : List Operation) (numbers : List ℕ)
    : Type 0 where
  pub inside : (k : ℕ) (one : Operation) → slice_get operations k ≡ Some one
      → one.unit < length numbers
  pub there : (k : ℕ) (one : Operation) → slice_get operations k ≡ Some one
      → IsThere netlist (slice_index_or numbers one.unit 0)
  pub some : (k : ℕ) (one : Operation) → slice_get operations k ≡ Some one → 0 < one.frame.period
  pub low : (k : ℕ) (one : Operation) → slice_get operations k ≡ Some one → one.slot < 4294967296

-- the registers of the results of the first operations
pub record AreResults (before after : Circuit) (operations : List Operation)
    (numbers results : List ℕ) (count : ℕ) : Type 0 where
  pub size : length results ≡ count
  pub each : (k : ℕ) (one : Operation) (result : ℕ) → slice_get operations k ≡ Some one
      → slice_get results k ≡ Some result
      → IsHeld before after (slice_index_or numbers one.unit 0) one.frame one.slot (pos 0) result
  pub grown : Grows before after numbers (IsKeeping (IsFrameOf operations)) count
