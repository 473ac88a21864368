-- What a check tells of the whole model by its plan, line by line, and ways that are one item wrong
-- (own).
use Rattle.std.specs.Prelude.{◌≡◌, ℕ, List, [], ◌∷◌, ◌++◌, false, codes}
use Rattle.cmd_check.specs.CheckText.{IsCheckText}
use Rattle.cmd_check.specs.Paths.{IsTightPath}
use Rattle.hw_arcs.specs.declared.arc.Arc.{Arc}
use Rattle.tests_premises.specs.Whole.{arc, arcs, diagram, resolved, timing}

-- the whole text: the output is a base sample late, and shows a number from the sixth clock on,
-- since a register stands behind the Gain
abbrev pub whole_check : List ℕ
whole_check =
    codes "accepted cycles 3 multipliers 1\n"
    ++ codes "block \"u\" period 1 latency 0 fixdt(1,8,0) 2\n"
    ++ codes "block \"G\" period 1 latency 0 fixdt(1,16,0) 2\n"
    ++ codes "block \"y\" period 1 latency 1\n"
    ++ codes "output y_0 clocks 5 path \"G\" \"y\"\n"
    ++ codes "output y_1 clocks 5 path \"G\" \"y\"\n"

-- arcs round two blocks, of which neither is later than the other
abbrev pub round : List Arc
round = arc 0 1 1 ∷ arc 1 2 0 ∷ arc 2 1 0 ∷ []

-- one arc, by which the second block may be as late as the first
abbrev pub loose : List Arc
loose = arc 0 1 0 ∷ []

-- one by which it is to be later by one
abbrev pub asking : List Arc
asking = arc 0 1 1 ∷ []

-- one that asks nothing
abbrev pub silent : List Arc
silent = record (arc 0 1 1) { counts = false } ∷ []

-- a check tells this text and no other. No way to the output begins before the Gain, at a block that
-- is late or at none; none leaves out the Gain's arc, ends before the output or behind it, or goes round; none goes over
-- an arc that has something to spare, over one that doesn't count, or over a block without a latency
pub record ChecksTell : Type 0 where
  pub told : IsCheckText diagram resolved timing whole_check
  pub only : (text : List ℕ) → IsCheckText diagram resolved timing text → text ≡ whole_check
  pub before : ¬ IsTightPath arcs timing.lat 2 (0 ∷ 1 ∷ 2 ∷ [])
  pub nothing : ¬ IsTightPath arcs timing.lat 2 []
  pub late : ¬ IsTightPath arcs timing.lat 2 (2 ∷ [])
  pub apart : ¬ IsTightPath arcs timing.lat 2 (0 ∷ 2 ∷ [])
  pub short : ¬ IsTightPath arcs timing.lat 2 (1 ∷ [])
  pub long : ¬ IsTightPath arcs timing.lat 2 (1 ∷ 2 ∷ 2 ∷ [])
  pub again : ¬ IsTightPath round (0 ∷ 1 ∷ 1 ∷ []) 2 (0 ∷ 1 ∷ 2 ∷ 1 ∷ 2 ∷ [])
  pub unknown : ¬ IsTightPath arcs timing.lat 3 (3 ∷ [])
  pub past : ¬ IsTightPath asking (0 ∷ 1 ∷ []) 0 (0 ∷ 1 ∷ [])
  pub spare : ¬ IsTightPath loose (0 ∷ 1 ∷ []) 1 (0 ∷ 1 ∷ [])
  pub uncounted : ¬ IsTightPath silent (0 ∷ 1 ∷ []) 1 (0 ∷ 1 ∷ [])
