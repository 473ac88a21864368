-- Each module of the whole model has a run that the stimulus drives, in which every row counts.
use Rattle.std.proofs.Common.{◌≡◌, ℕ, zero, suc, ◌+◌, ◌-◌, ◌*◌, ◌/◌, ◌^◌, ◌<◌, ◌≤◌, ℤ, true, true≢false, if◌then◌else◌, List, [], ◌∷◌, Some, slice_get, Contains, bytes_eq, codes, refl, sym, ap, subst}
use Rattle.std.proofs.Common.{◌∙◌, arith}
use Rattle.std.proofs.Math.Dec.{lit<}
use Rattle.std.proofs.Math.Nat.{div-lt_iff_lt-mul, le-div_iff_mul-le}
use Rattle.std.proofs.lemmas.Option.{same_Some}
use Rattle.vl_ast.specs.declared.modules.Attr.{Attr}
use Rattle.vl_ast.specs.declared.modules.Module.{Module}
use Rattle.vl_ast.specs.declared.modules.ModItem.{ModItem}
use Rattle.vl_ast.specs.declared.modules.Port.{Port}
use Rattle.vl_ast.specs.Attributes.{period_of}
use Rattle.vl_ast.specs.Conditions.{BreaksNone}
use Rattle.vl_ast.specs.Driven.{Driven, IsEnabled, IsResetLast, stimulus_ports}
use Rattle.vl_ast.specs.Header.{HasHeader, attribute_of, bit_input, bit_output}
use Rattle.vl_ast.specs.Room.{HasRoom, HasRows, StartFits}
use Rattle.vl_ast.specs.Runs.{Row, Rows}
use Rattle.vl_ast.specs.Value.{bits_of}
use Rattle.vl_ast.specs.Windows.{AtHits, Shows, row_at}
use Rattle.vl_ast.proofs.FullCounts.{enabled-count, shows-clocks}
use Rattle.math_list.proofs.ByRecursion.{all_of}
use Rattle.hw_shows.proofs.Small.{each_by}
use Rattle.tests_premises.specs.Running.{RunsWhole, WholeModulesRun, column, input_of, input_ports, output_of, output_ports, window}
use Rattle.tests_premises.specs.Whole.{firsts, seconds}
use Rattle.vl_ast.proofs.SomeInputs.{bits-fit}

-- ---- a module with these ports
abbrev pub ports : List Port
ports = bit_input (codes "clk") ∷ bit_input (codes "reset") ∷ bit_input (codes "clk_enable")
    ∷ input_of (codes "u_0") ∷ input_of (codes "u_1") ∷ bit_output (codes "ce_out") ∷ output_of (codes "y_0")
    ∷ output_of (codes "y_1") ∷ []

abbrev pub whole : List ModItem → Module
whole items = record { name = codes "fx_model"; attrs = attribute_of (codes "fx_cycles") 3 ∷ []; ports = ports; items = items }

pub by_header : (m : Module) → HasHeader m 3 input_ports output_ports → m ≡ whole m.items
by_header m h =
    ap (λ (name : List ℕ). record m { name = name }) h.name
    ∙ ap (λ (attrs : List Attr). record m { name = codes "fx_model"; attrs = attrs }) h.attrs
    ∙ ap (λ (ports : List Port). record m { name = codes "fx_model"; attrs = attribute_of (codes "fx_cycles") 3 ∷ []; ports = ports }) h.ports

-- ---- the inputs: reset in the first row, and then each number for three rows
abbrev reset_in : ℕ → ℕ
reset_in zero = 1
reset_in (suc k) = 0

abbrev sample_of : ℕ → ℕ
sample_of k = (k - 1) / 3

abbrev given : Rows
given k name =
    if bytes_eq name (codes "reset") then reset_in k
    else (if bytes_eq name (codes "clk_enable") then 1
    else (if bytes_eq name (codes "u_0") then bits_of 8 (firsts (sample_of k))
    else (if bytes_eq name (codes "u_1") then bits_of 8 (seconds (sample_of k))
    else 0)))

enabled : IsEnabled window given
enabled = record { at = λ k below. refl }

released : (k : ℕ) → 0 < k → given k (codes "reset") ≡ 0
released zero after = absurd (omega (arith, after))
released (suc k) after = refl

reset : IsResetLast window given
reset = record { within = lit< tt; reset = refl; released = λ k after below. released k after }

in_sample : (t place : ℕ) → t * 3 ≤ place → place < (t + 1) * 3 → sample_of (row_at window place) ≡ t
in_sample t place from under =
    let low : t ≤ place / 3 = (le-div_iff_mul-le {k = 3} {x = t} {y = place} (omega arith)).1 from in
    let high : place / 3 < t + 1 = (div-lt_iff_lt-mul {k = 3} {x = place} {y = t + 1} (omega arith)).1 under in
    let same : 0 + 1 + place - 1 ≡ place = omega arith in
    ap (λ (n : ℕ). n / 3) same ∙ omega (arith, low, high)

-- ---- the stimulus drives them
module _ (items : List ModItem) where
  abbrev Gives : List ℕ → ℤ → ℕ → ℕ → Type 0
  Gives name number t period = Shows (whole items) window given given name 8 number (t * 3) ((t + period) * 3)

  shown_first : (t : ℕ) → Gives (codes "u_0") (firsts t) t 1
  shown_first t =
      shows-clocks (whole items) window given (enabled-count (whole items) window given enabled) given (codes "u_0") 8 (firsts t) (t * 3) ((t + 1) * 3)
      (λ place from under within. ap (λ (n : ℕ). bits_of 8 (firsts n)) (in_sample t place from under))

  shown_second : (t : ℕ) → Gives (codes "u_1") (seconds t) t 1
  shown_second t =
      shows-clocks (whole items) window given (enabled-count (whole items) window given enabled) given (codes "u_1") 8 (seconds t) (t * 3) ((t + 1) * 3)
      (λ place from under within. ap (λ (n : ℕ). bits_of 8 (seconds n)) (in_sample t place from under))

  first_column : (t : ℕ) → column 0 t ≡ firsts t
  first_column t = refl

  second_column : (t : ℕ) → column 1 t ≡ seconds t
  second_column t = refl

  abbrev IsGiven : ℕ → Port → Type 0
  IsGiven place port = (period : ℕ) → period_of port ≡ Some period → AtHits period 3 (λ t. Shows (whole items) window given given port.name port.width (column place t) (t * 3) ((t + period) * 3))

  all_given : (place : ℕ) (port : Port) → slice_get input_ports place ≡ Some port → IsGiven place port
  all_given = each_by IsGiven input_ports
      (λ period is t below at. subst (λ (p : ℕ). Gives (codes "u_0") (column 0 t) t p) (same_Some 1 period is) (subst (λ (v : ℤ). Gives (codes "u_0") v t 1) (sym (first_column t)) (shown_first t)))
      (λ period is t below at. subst (λ (p : ℕ). Gives (codes "u_1") (column 1 t) t p) (same_Some 1 period is) (subst (λ (v : ℤ). Gives (codes "u_1") v t 1) (sym (second_column t)) (shown_second t)))

  ports_are : stimulus_ports (whole items) ≡ input_ports
  ports_are = refl

  driven : Driven (whole items) column 3 window given
  driven = record {
    reset = reset;
    shows = λ cycles is place port at period period_is t below hit.
        subst (λ (c : ℕ). Shows (whole items) window given given port.name port.width (column place t) (t * c) ((t + period) * c)) (same_Some 3 cycles is)
        (all_given place port (subst (λ (xs : List Port). slice_get xs place ≡ Some port) ports_are at) period period_is t below hit);
  }

reset_fits : (k : ℕ) → reset_in k < 2
reset_fits zero = lit< tt
reset_fits (suc k) = lit< tt

abbrev Fits : ℕ → Port → Type 0
Fits k port = port.input ≡ true → given k port.name < 2 ^ port.width

room : (k : ℕ) (port : Port) → Contains ports port → Fits k port
room k port (place, below, at) =
    subst (Fits k) at (all_of (Fits k) ports (
      (λ input. lit< tt),
      (
        (λ input. reset_fits k),
        (
          (λ input. lit< tt),
          (
            (λ input. bits-fit 8 (firsts (sample_of k))),
            (
              (λ input. bits-fit 8 (seconds (sample_of k))),
              ((λ input. absurd (true≢false (sym input))), ((λ input. absurd (true≢false (sym input))), ((λ input. absurd (true≢false (sym input))), tt))),
            ),
          ),
        ),
      ),
    ) place port below)

-- ---- the run
module _ (some : (m : Module) (count : ℕ) (start : Row) (inputs : Rows) → BreaksNone m → HasRoom m count start inputs → HasRows m count start inputs) where
  whole_run : (items : List ModItem) (start : Row) → BreaksNone (whole items) → StartFits (whole items) start → RunsWhole (whole items) start
  whole_run items start sound fits =
      let rows = some (whole items) 13 start given sound (record { started = fits.at; driven = λ k below port there input. room k port there input }) in
      record { inputs = given; rows = rows.0; driven = driven items; enabled = enabled; runs = rows.1 }

  pub whole_modules_run : WholeModulesRun
  whole_modules_run m start header sound fits =
      let same = by_header m header in
      subst (λ (x : Module). RunsWhole x start) (sym same)
      (whole_run m.items start (subst BreaksNone same sound) (subst (λ (x : Module). StartFits x start) same fits))
