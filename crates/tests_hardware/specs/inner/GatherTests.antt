-- What the tests ask of slots that are gathered, one after another.
use Rattle.std.specs.Prelude.{ℕ, ◌<◌, List, Contains}
use Rattle.hw_share.specs.Gathered.{SlotsDiffer}

-- no two slots are one, and each is one of the first clocks
pub record AreRising (slots : List ℕ) (length : ℕ) : Type 0 where
  pub differ : SlotsDiffer slots
  pub inside : (slot : ℕ) → Contains slots slot → slot < length
