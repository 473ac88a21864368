-- What a multiplier and a register owe an operation, as waves (own).
use Rattle.std.specs.Prelude.{◌≡◌, ℕ, ◌+◌, ◌<◌, ◌*ℤ◌}
use Rattle.hw_net.specs.Registers.{Wave, Span}
use Rattle.hw_net.specs.Closed.{frame_start}

-- in its slot of each frame the multiplier has the operand
pub record IsOffered (n : ℕ) (span : Span) (slot : ℕ) (operand input : Wave) : Type 0 where
  pub holds : (k : ℕ) → frame_start span k + slot < n
      → input (frame_start span k + slot) ≡ operand (frame_start span k + slot)

-- from the clock after its slot to the end of a frame the wave is the product of what the operands
-- had there
pub record IsProductAt (n : ℕ) (span : Span) (slot : ℕ) (left right product : Wave)
    : Type 0 where
  pub holds : (k c : ℕ) → c < n → frame_start span k + slot < c
      → c < frame_start span k + span.length
      → product c ≡ left (frame_start span k + slot) *ℤ right (frame_start span k + slot)

-- an operation of two operands, the inputs of its multiplier, and the register of its product
pub record Serves (n : ℕ) (span : Span) (slot : ℕ) (left right first second product : Wave)
    : Type 0 where
  pub has_left : IsOffered n span slot left first
  pub has_right : IsOffered n span slot right second
  pub has_product : IsProductAt n span slot left right product
