-- The diagram of the worked design keeps the rules.
use Rattle.std.proofs.Common.{◌≤◌, ℕ, List, All, codes, sym, subst, refl}
use Rattle.std.proofs.Math.Dec.{lit<, lit≤}
use Rattle.dg_model.specs.Attributes.{attributes_of}
use Rattle.dg_model.specs.Checked.{IsChecked}
use Rattle.dg_model.specs.Readable.{IsReadable}
use Rattle.dg_model.specs.Loop.{KeepsLoop}
use Rattle.dg_model.specs.Signals.{Attributes}
use Rattle.math_list.proofs.ByRecursion.{all_of}
use Rattle.hw_shows.proofs.Small.{int8_valid}
use Rattle.hw_shows.proofs.RuleFacts.{two_numbers}
use Rattle.hw_shows.proofs.RuleTests.{checked_by}
use Rattle.tests_worked.proofs.Paths.{no_cycle}
use Rattle.tests_worked.proofs.TwoRates.{attributes, blocks, columns, delay, diagram, input, known, output, product, transition, tried}

-- ---- its blocks can be read
input_readable : (path : List ℕ) (number : ℕ) → 1 ≤ number → number ≤ 20000 → IsReadable (input path number)
input_readable path number low high =
    record { ports = (refl, refl); parameters = ((low, high), (lit≤ tt, lit≤ tt)); types = int8_valid; result = tt; rounding = (refl, refl); period = record { sign = refl; above = lit< tt } }

product_readable : (path : List ℕ) → IsReadable (product path)
product_readable path = record { ports = (refl, refl); parameters = tt; types = int8_valid; result = tt; rounding = tt; period = tt }

transition_readable : IsReadable transition
transition_readable = record { ports = (refl, refl); parameters = (record { sign = refl; above = lit< tt }, (lit≤ tt, lit≤ tt)); types = tt; result = refl; rounding = (refl, refl); period = refl }

delay_readable : IsReadable delay
delay_readable = record { ports = (refl, refl); parameters = ((lit≤ tt, lit≤ tt), (lit≤ tt, lit≤ tt)); types = tt; result = refl; rounding = (refl, refl); period = tt }

output_readable : (path : List ℕ) (number : ℕ) → 1 ≤ number → number ≤ 20000 → IsReadable (output path number)
output_readable path number low high = record { ports = (refl, refl); parameters = (low, high); types = tt; result = tt; rounding = (refl, refl); period = tt }

readable : All IsReadable blocks
readable =
    all_of IsReadable blocks (
      input_readable (codes "a") 1 (lit≤ tt) (lit≤ tt),
      (
        input_readable (codes "b") 2 (lit≤ tt) (lit≤ tt),
        (
          product_readable (codes "P"),
          (
            product_readable (codes "Q"),
            (
              transition_readable,
              (
                delay_readable,
                (
                  product_readable (codes "S"),
                  (
                    output_readable (codes "y") 1 (lit≤ tt) (lit≤ tt),
                    (output_readable (codes "z") 2 (lit≤ tt) (lit≤ tt), tt),
                  ),
                ),
              ),
            ),
          ),
        ),
      ),
    )

-- ---- loops: all lines but the one into D, which reads before, lead to later blocks
loops : KeepsLoop diagram (attributes_of diagram)
loops = subst (λ (a : Attributes). KeepsLoop diagram a) (sym known) (no_cycle diagram attributes (λ place. place) refl)

-- ---- all rules
pub checked : IsChecked diagram
checked = checked_by diagram columns tried readable two_numbers two_numbers loops
