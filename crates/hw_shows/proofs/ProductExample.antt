-- A Product of period 2 with a shared multiplier before a transition to period 4, worked out by hand: two clocks a
-- base sample, slot 2, so that it is ready in its second base sample; operands 3, 4, 5, 6 and 2, 3, 4, 5.
use Rattle.std.proofs.Common.{◌≡◌, ℕ, ℤ, pos, [], ◌∷◌, Some, refl, arith}
use Rattle.std.proofs.lemmas.Int.{ints}
use Rattle.hw_net.specs.Registers.{Wave}
use Rattle.hw_lines.specs.Line.{Line, IsLine}
use Rattle.hw_shows.specs.Shows.{Shows}
use Rattle.hw_shows.specs.Series.{IsProductAt}
use Rattle.hw_shows.proofs.WaveTests.{wave_of, tried_shows, tried_line, tried_product}

-- the entries of the operands, of the product and of the transition by base sample
abbrev pub lefts : ℕ → ℤ
lefts = wave_of (pos 3 ∷ pos 3 ∷ pos 4 ∷ pos 4 ∷ pos 5 ∷ pos 5 ∷ pos 6 ∷ pos 6 ∷ [])

abbrev pub rights : ℕ → ℤ
rights = wave_of (pos 2 ∷ pos 2 ∷ pos 3 ∷ pos 3 ∷ pos 4 ∷ pos 4 ∷ pos 5 ∷ pos 5 ∷ [])

abbrev pub products : ℕ → ℤ
products = wave_of (pos 6 ∷ pos 6 ∷ pos 12 ∷ pos 12 ∷ pos 20 ∷ pos 20 ∷ pos 30 ∷ pos 30 ∷ [])

abbrev pub slower : ℕ → ℤ
slower = wave_of (pos 6 ∷ pos 6 ∷ pos 6 ∷ pos 6 ∷ pos 20 ∷ pos 20 ∷ pos 20 ∷ pos 20 ∷ [])

-- the waves by clock
abbrev pub left : Wave
left = wave_of (pos 3 ∷ pos 3 ∷ pos 3 ∷ pos 3 ∷ pos 4 ∷ pos 4 ∷ pos 4 ∷ pos 4 ∷ pos 5 ∷ pos 5 ∷ pos 5 ∷ pos 5 ∷ pos 6 ∷ pos 6 ∷ pos 6 ∷ pos 6 ∷ [])

abbrev pub right : Wave
right = wave_of (pos 2 ∷ pos 2 ∷ pos 2 ∷ pos 2 ∷ pos 3 ∷ pos 3 ∷ pos 3 ∷ pos 3 ∷ pos 4 ∷ pos 4 ∷ pos 4 ∷ pos 4 ∷ pos 5 ∷ pos 5 ∷ pos 5 ∷ pos 5 ∷ [])

abbrev pub product : Wave
product = wave_of (pos 0 ∷ pos 0 ∷ pos 0 ∷ pos 6 ∷ pos 6 ∷ pos 6 ∷ pos 6 ∷ pos 12 ∷ pos 12 ∷ pos 12 ∷ pos 12 ∷ pos 20 ∷ pos 20 ∷ pos 20 ∷ pos 20 ∷ pos 30 ∷ [])

-- the line to the transition: the product itself in the first two base samples of a frame of four, and then what it had
abbrev pub slowed : Wave
slowed = wave_of (pos 0 ∷ pos 0 ∷ pos 0 ∷ pos 6 ∷ pos 6 ∷ pos 6 ∷ pos 6 ∷ pos 6 ∷ pos 12 ∷ pos 12 ∷ pos 12 ∷ pos 20 ∷ pos 20 ∷ pos 20 ∷ pos 20 ∷ pos 20 ∷ [])

abbrev pub line : Line
line = record { cycles = 2; own = record { period = 2; latency = 0 }; reader = record { period = 4; latency = 0 } }

pub served : IsProductAt 16 (record { start = 0; length = 4 }) 2 left right product
served = tried_product 16 (record { start = 0; length = 4 }) 2 left right product refl (omega arith)

pub lined : IsLine 16 line product slowed
lined = tried_line 16 line product slowed refl (omega arith)

-- the Product is ready in the fourth clock of its frame, the transition in the fifth of its own
pub product_shows : Shows 16 8 2 (Some 2) 0 3 products product
product_shows = tried_shows 16 8 2 2 0 3 products product refl

pub transition_shows : Shows 16 8 2 (Some 4) 0 4 slower slowed
transition_shows = tried_shows 16 8 2 4 0 4 slower slowed refl

-- a clock sooner the line still has what was there before
pub not_ready : ¬ Shows 16 8 2 (Some 4) 0 2 slower slowed
not_ready s =
    let shown : pos 0 ≡ pos 6 = s.at 0 2 (omega arith) (omega arith) (record { is_hit = refl; from = omega arith; until = omega arith }) in
    absurd (omega (arith, ints, shown))

-- one wrong number: a line that doesn't hold
abbrev pub wrong : Wave
wrong = wave_of (pos 0 ∷ pos 0 ∷ pos 0 ∷ pos 6 ∷ pos 6 ∷ pos 6 ∷ pos 6 ∷ pos 12 ∷ pos 12 ∷ pos 12 ∷ pos 12 ∷ pos 20 ∷ pos 20 ∷ pos 20 ∷ pos 20 ∷ pos 20 ∷ [])

pub not_lined : ¬ IsLine 16 line product wrong
not_lined s =
    let shown : pos 12 ≡ pos 6 = s.shows 0 7 (record { is_hit = refl; below = omega arith; from = omega arith; until = omega arith }) in
    absurd (omega (arith, ints, shown))

pub not_shown : ¬ Shows 16 8 2 (Some 4) 0 4 slower wrong
not_shown s =
    let shown : pos 12 ≡ pos 6 = s.at 0 7 (omega arith) (omega arith) (record { is_hit = refl; from = omega arith; until = omega arith }) in
    absurd (omega (arith, ints, shown))
