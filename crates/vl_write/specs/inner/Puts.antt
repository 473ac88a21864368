-- A text that grows at its end (own).
use Rattle.std.specs.Prelude.{◌≡◌, ℕ, Bool, false, List, ◌++◌, codes, if◌then◌else◌}
use Rattle.vl_write.specs.declared.parts.Writer.{Writer}

-- the text stands at the end of what was there, unless memory was wanting
pub record Puts (before after : Writer) (text : List ℕ) : Type 0 where
  pub whole : after.wanting ≡ false → (before.wanting ≡ false)
      × (after.text.items ≡ before.text.items ++ text)

-- what stands between the width and the digits of a number in base ten
abbrev pub base_text : Bool → List ℕ
base_text signed = if signed then codes "'sd" else codes "'d"
