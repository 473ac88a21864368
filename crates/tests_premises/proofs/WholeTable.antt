-- The table of the whole model solves its diagram, and the stimulus is in range.
use Rattle.std.proofs.Common.{◌≡◌, ℕ, zero, suc, ℤ, pos, negsuc, ◌<◌, true, false, Some, slice_get, sym, subst, refl, arith}
use Rattle.std.proofs.Math.Dec.{lit<}
use Rattle.std.proofs.lemmas.Int.{ints}
use Rattle.std.proofs.lemmas.Option.{none-some, same_Some}
use lib.Signed.{le_z_yes}
use Rattle.math_num.specs.Word.{InWord}
use Rattle.fx_type.specs.declared.rounding.Rounding.TheVariants.{Floor}
use Rattle.fx_type.specs.Conversion.{Converts}
use Rattle.fx_type.specs.FxType.{InRange}
use Rattle.dg_model.specs.declared.diagram.Block.{Block}
use Rattle.dg_model.specs.declared.op.Op.TheVariants.{Gain, Pass}
use Rattle.dg_model.specs.Attributes.{attributes_of}
use Rattle.dg_model.specs.Equation.{Equation}
use Rattle.dg_model.specs.Hits.{Hits, last_hit}
use Rattle.dg_model.specs.Library.{row_of}
use Rattle.dg_model.specs.Signals.{Attributes}
use Rattle.dg_model.specs.Solves.{IsShown, IsStimulus, Solves}
use Rattle.dg_model.specs.Wired.{root_input}
use Rattle.dg_model.proofs.Examples.{stores_small}
use Rattle.hw_shows.proofs.Small.{int16_full, each_by}
use Rattle.tests_premises.specs.Whole.{diagram, int8, int16, given, stimulus, table}
use Rattle.tests_premises.proofs.WholeRules.{attributes, attributes_known, gain_block}

-- a number of an int16 stays what it is
same : (v : ℤ) → InWord 16 true v → Converts v int16 int16 Floor false v
same v inside = record {
  rounded = v;
  rounds = record { at_most = omega (arith, ints); next_above = omega (arith, ints) };
  settles = record { in_word = inside; congruent = record { turns = pos 0; equal = omega (arith, ints) } };
}

abbrev IsRight : ℕ → ℕ → ℕ → ℕ → Type 0
IsRight block port element t = Equation diagram attributes stimulus table block port element t (table block port element t)

scales : (port element t : ℕ) → element < 2 → t < 3 → IsRight 1 port element t
scales port zero zero inside below = (Gain (pos 3) int8, (pos 3, stores_small 3 (lit< tt) (lit< tt), refl), (int16, int16_full, same (pos 3) (record { low = le_z_yes tt; high = le_z_yes tt })))
scales port zero (suc zero) inside below = (
  Gain (pos 3) int8,
  (pos 3, stores_small 3 (lit< tt) (lit< tt), refl),
  (int16, int16_full, same (negsuc 5) (record { low = le_z_yes tt; high = le_z_yes tt })),
)
scales port zero (suc (suc zero)) inside below = (
  Gain (pos 3) int8,
  (pos 3, stores_small 3 (lit< tt) (lit< tt), refl),
  (int16, int16_full, same (pos 381) (record { low = le_z_yes tt; high = le_z_yes tt })),
)
scales port zero (suc (suc (suc t))) inside below = absurd (omega arith)
scales port (suc zero) zero inside below = (Gain (pos 5) int8, (pos 5, stores_small 5 (lit< tt) (lit< tt), refl), (int16, int16_full, same (pos 50) (record { low = le_z_yes tt; high = le_z_yes tt })))
scales port (suc zero) (suc zero) inside below = (
  Gain (pos 5) int8,
  (pos 5, stores_small 5 (lit< tt) (lit< tt), refl),
  (int16, int16_full, same (pos 100) (record { low = le_z_yes tt; high = le_z_yes tt })),
)
scales port (suc zero) (suc (suc zero)) inside below = (
  Gain (pos 5) int8,
  (pos 5, stores_small 5 (lit< tt) (lit< tt), refl),
  (int16, int16_full, same (negsuc 639) (record { low = le_z_yes tt; high = le_z_yes tt })),
)
scales port (suc zero) (suc (suc (suc t))) inside below = absurd (omega arith)
scales port (suc (suc element)) t inside below = absurd (omega arith)

-- the Gain shows two elements
two_shown : (b : Block) (port element : ℕ) → IsShown diagram attributes 1 b port element → element < 2
two_shown b port element seen = by port (subst (λ (x : Block). IsShown diagram attributes 1 x port element) (sym (same_Some _ b seen.block_is)) seen) where
  by : (port : ℕ) → IsShown diagram attributes 1 gain_block port element → element < 2
  by zero seen = absurd (omega (arith, seen.port_from))
  by (suc zero) seen = seen.element_below
  by (suc (suc port)) seen = absurd (omega (arith, seen.port_to))

at_hits : (block : ℕ) (b : Block) (port element t : ℕ) → IsShown diagram attributes block b port element → t < 3 → Hits (attributes.period_at block) t → IsRight block port element t
at_hits zero b port element t seen below hit = refl
at_hits (suc zero) b port element t seen below hit =
    scales port element t (two_shown b port element seen) below
at_hits (suc (suc zero)) b port element t seen below hit = (Pass, refl, refl)
at_hits (suc (suc (suc block))) b port element t seen below hit = absurd (none-some b seen.block_is)

-- each base sample is a hit
between_hits : (block : ℕ) (b : Block) (port element t : ℕ) → IsShown diagram attributes block b port element → t < 3 → ¬ Hits (attributes.period_at block) t
    → table block port element t ≡ table block port element (last_hit (attributes.period_at block) t)
between_hits zero b port element t seen below miss = absurd (miss (omega arith))
between_hits (suc zero) b port element t seen below miss = absurd (miss (omega arith))
between_hits (suc (suc zero)) b port element t seen below miss = absurd (miss (omega arith))
between_hits (suc (suc (suc block))) b port element t seen below miss = absurd (none-some b seen.block_is)

solves_by : Solves diagram attributes stimulus 3 table
solves_by = record { at_hits = at_hits; between_hits = between_hits }

pub solves : Solves diagram (attributes_of diagram) stimulus 3 table
solves = subst (λ (a : Attributes). Solves diagram a stimulus 3 table) (sym attributes_known) solves_by

-- ---- the inputs
fits : (element t : ℕ) → t < 3 → InRange int8 (given element t)
fits zero zero below = record { low = le_z_yes tt; high = le_z_yes tt }
fits zero (suc zero) below = record { low = le_z_yes tt; high = le_z_yes tt }
fits zero (suc (suc zero)) below = record { low = le_z_yes tt; high = le_z_yes tt }
fits zero (suc (suc (suc t))) below = absurd (omega arith)
fits (suc element) zero below = record { low = le_z_yes tt; high = le_z_yes tt }
fits (suc element) (suc zero) below = record { low = le_z_yes tt; high = le_z_yes tt }
fits (suc element) (suc (suc zero)) below = record { low = le_z_yes tt; high = le_z_yes tt }
fits (suc element) (suc (suc (suc t))) below = absurd (omega arith)

abbrev Fits : ℕ → Block → Type 0
Fits block b = (number element t : ℕ) → root_input (row_of b.kind).place.role ≡ Some number → t < 3 → InRange (attributes.type_at block 1) (stimulus number element t)

all_fit : (block : ℕ) (b : Block) → slice_get diagram.blocks block ≡ Some b → Fits block b
all_fit = each_by Fits diagram.blocks
    (λ number element t is below. fits element t below)
    (λ number element t is below. absurd (none-some number is))
    (λ number element t is below. absurd (none-some number is))

in_range_by : IsStimulus diagram attributes stimulus 3
in_range_by = record { in_range = λ block b number element t at is inside below hit. all_fit block b at number element t is below }

pub in_range : IsStimulus diagram (attributes_of diagram) stimulus 3
in_range = subst (λ (a : Attributes). IsStimulus diagram a stimulus 3) (sym attributes_known) in_range_by
