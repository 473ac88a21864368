-- Parts of small diagrams that are worked out by hand, and the order of those whose lines all lead to later blocks.
use Rattle.std.proofs.Common.{◌≡◌, ℕ, zero, suc, ◌+◌, ◌-◌, ◌%◌, ◌^◌, ◌<◌, ◌≤◌, inl, ℤ, pos, Bool, true, false, ◌&&◌, List, [], ◌∷◌, length, get_or, Option, Some, None, slice_get, All, ap, sym, ◌∙◌}
use Rattle.std.proofs.Common.{subst, refl, arith}
use Rattle.std.specs.Prelude.{nat_lt, slice_index, IsSome, count_by}
use Rattle.std.specs.List.{list_all}
use Rattle.std.proofs.Math.Dec.{lit≤}
use Rattle.std.proofs.Math.Nat.{mod_self, mod-eq_of_lt}
use Rattle.std.specs.Ordering.{int_eq}
use Rattle.std.proofs.lemmas.Bool.{and_parts, ltb-true}
use Rattle.std.proofs.lemmas.Bool.Decides.{Decides-int_eq}
use Rattle.std.proofs.lemmas.Int.{ints}
use Rattle.std.proofs.lemmas.List.Sums.{AllPass-from_list_all}
use Rattle.std.proofs.lemmas.Option.{none-some, same_Some, slice_get_within, slice_get-get_or, get_or_from_slice_get}
use lib.Signed.{le_z_yes}
use Rattle.fx_type.specs.declared.kind.FxType.{FxType}
use Rattle.fx_type.specs.declared.kind.FxType.TheVariants.{Num}
use Rattle.fx_type.specs.declared.spec.TypeSpec.TheVariants.{Auto, Fixed}
use Rattle.fx_type.specs.declared.rounding.Rounding.TheVariants.{Floor}
use Rattle.fx_type.specs.declared.decimal.Decimal.{Decimal}
use Rattle.fx_type.specs.FxType.{InRange}
use Rattle.fx_type.specs.FullType.{IsFullProduct}
use Rattle.fx_type.specs.Conversion.{Converts}
use Rattle.fx_type.specs.StoredOf.{is_in_range}
use Rattle.fx_type.proofs.Decimals.{Decides-in_range}
use Rattle.math_list.specs.Numbers.{numbers_from}
use Rattle.dg_model.specs.declared.diagram.Diagram.{Diagram}
use Rattle.dg_model.specs.declared.diagram.Block.{Block}
use Rattle.dg_model.specs.declared.diagram.Edge.{Edge}
use Rattle.dg_model.specs.declared.diagram.PeriodSpec.TheVariants.{Inherit, Every}
use Rattle.dg_model.specs.declared.kind.Kind.{Kind}
use Rattle.dg_model.specs.declared.kind.Kind.TheVariants.{Inport, Outport}
use Rattle.dg_model.specs.Dimension.{IsRepeated}
use Rattle.dg_model.specs.KindRow.{IsSpec}
use Rattle.dg_model.specs.LatencyEdges.{LatencyEdge, latency_edges}
use Rattle.dg_model.specs.Readable.{IsReadable}
use Rattle.dg_model.specs.Loop.{LeadsNow, IsOrder, KeepsLoop}
use Rattle.dg_model.specs.Attributes.{attributes_of, or_logical, param_type_at}
use Rattle.dg_model.specs.Signals.{Attributes}
use Rattle.dg_model.specs.Wires.{enters}
use Rattle.dg_model.specs.Widths.{Widths, width_at, widths_of}
use Rattle.dg_model.specs.TypeRounds.{Types, types_of}
use Rattle.dg_model.specs.Periods.{known_at, periods_of, period_at}
use Rattle.math_list.proofs.ByRecursion.{EachByRecursion, all_of, each_of}
use Rattle.hw_shows.proofs.WaveTests.{each_below, each_holds}

-- ---- types and numbers
abbrev pub int8 : FxType
int8 = Num true 8 (pos 0)

abbrev pub int16 : FxType
int16 = Num true 16 (pos 0)

pub int8_valid : IsSpec (Fixed int8)
int8_valid = ((lit≤ tt, lit≤ tt), le_z_yes tt, le_z_yes tt)

-- the product of two
pub int16_full : IsFullProduct int8 int8 int16
int16_full = record { valid = ((lit≤ tt, lit≤ tt), le_z_yes tt, le_z_yes tt); number = tt; width = refl; frac = refl; sign = refl }

-- numbers of it that an int8 holds are kept
kept_one : (v : ℤ) → InRange int8 v → Converts v int16 int8 Floor true v
kept_one v inside = record {
  rounded = v;
  rounds = record { at_most = omega (arith, ints); next_above = omega (arith, ints) };
  settles = record { inside = λ h. refl; below = λ h. absurd (omega (arith, ints, h, inside.low)); above = λ h. absurd (omega (arith, ints, h, inside.high)) };
}

abbrev are_kept : ℕ → (ℕ → ℤ) → (ℕ → ℤ) → Bool
are_kept n numbers results = each_below n (λ k. int_eq (numbers k) (results k) && is_in_range int8 (results k))

pub kept : (n : ℕ) (numbers results : ℕ → ℤ) → are_kept n numbers results ≡ true → (k : ℕ) → k < n → Converts (numbers k) int16 int8 Floor true (results k)
kept n numbers results is k below =
    let parts = and_parts (int_eq (numbers k) (results k)) (is_in_range int8 (results k)) (each_holds n (λ j. int_eq (numbers j) (results j) && is_in_range int8 (results j)) is k below) in
    subst (λ (v : ℤ). Converts v int16 int8 Floor true (results k)) (sym ((Decides-int_eq (numbers k) (results k)).0 parts.0)) (kept_one (results k) ((Decides-in_range int8 (results k)).0 parts.1))

-- a whole number as a parameter
abbrev pub decimal_of : (n : ℕ) → n < 10 ^ 18 → Decimal
decimal_of n small = record { negative = false; digits = n; exponent = pos 0; eighteen_digits = small; least_exponent = le_z_yes tt; greatest_exponent = le_z_yes tt }

-- ---- blocks and edges
abbrev pub block_of : Kind → ℕ → ℕ → Block
block_of kind inputs outputs = record { path = []; kind = kind; inputs = inputs; outputs = outputs; result = Auto; rounding = Floor; saturate = false; period = Inherit; enable = None }

-- an input of an int8 with a period
abbrev pub input_of : ℕ → (period : ℕ) → period < 10 ^ 18 → Block
input_of number period small = record (block_of (Inport number 0) 0 1) { result = Fixed int8; period = Every (decimal_of period small) }

abbrev pub output : Block
output = block_of (Outport 1) 1 0

abbrev pub edge_of : ℕ → ℕ → ℕ → Edge
edge_of from to to_port = record { from = from; from_port = 1; to = to; to_port = to_port }

pub input_readable : (number period : ℕ) (small : period < 10 ^ 18) → 1 ≤ number → number ≤ 20000 → 0 < period → IsReadable (input_of number period small)
input_readable number period small low high some =
    record { ports = (refl, refl); parameters = ((low, high), (lit≤ tt, lit≤ tt)); types = int8_valid; result = tt; rounding = (refl, refl); period = record { sign = refl; above = some } }

pub output_readable : IsReadable output
output_readable = record { ports = (refl, refl); parameters = (lit≤ tt, lit≤ tt); types = tt; result = tt; rounding = (refl, refl); period = tt }

-- what holds of each place and element, with a fact after the other
abbrev pub AfterEach : {A : Type 0} → (ℕ → A → Type 0) → List A → Type 0 → Type 0
AfterEach P [] Goal = Goal
AfterEach P (x ∷ xs) Goal = P 0 x → AfterEach (λ k. P (suc k)) xs Goal

after_each : {A : Type 0} (P : ℕ → A → Type 0) (xs : List A) (Goal : Type 0) → (EachByRecursion P xs → Goal) → AfterEach P xs Goal
after_each P [] Goal given = given tt
after_each P (x ∷ xs) Goal given = λ here. after_each (λ k. P (suc k)) xs Goal (λ rest. given (here, rest))

pub each_by : {A : Type 0} (P : ℕ → A → Type 0) (xs : List A) → AfterEach P xs ((k : ℕ) (x : A) → slice_get xs k ≡ Some x → P k x)
each_by {A} P xs = after_each P xs ((k : ℕ) (x : A) → slice_get xs k ≡ Some x → P k x) (each_of P xs)

-- the ports of a block are driven
abbrev pub AreDrivenOnce : List Edge → ℕ → ℕ → Type 0
AreDrivenOnce edges block inputs = (port : ℕ) → 1 ≤ port → port ≤ inputs → count_by (enters block port) edges ≡ 1

pub none_driven : (edges : List Edge) (block : ℕ) → AreDrivenOnce edges block 0
none_driven edges block port from to = absurd (omega arith)

pub one_driven : (edges : List Edge) (block : ℕ) → count_by (enters block 1) edges ≡ 1 → AreDrivenOnce edges block 1
one_driven edges block is zero from to = absurd (omega arith)
one_driven edges block is (suc zero) from to = is
one_driven edges block is (suc (suc port)) from to = absurd (omega arith)

-- widths of 1, and what is known of inputs
pub one_fits : All (λ (width : ℕ). width ≤ 1024) (1 ∷ [])
one_fits = all_of (λ (width : ℕ). width ≤ 1024) (1 ∷ []) (lit≤ tt, tt)

pub one_repeats : All (IsRepeated 1) (1 ∷ [])
one_repeats = all_of (IsRepeated 1) (1 ∷ []) (inl refl, tt)

pub none_known : All {X = Option FxType} IsSome []
none_known = λ k d below. absurd (omega arith)

pub one_known : All {X = Option FxType} IsSome (Some int8 ∷ [])
one_known = all_of {A = Option FxType} IsSome (Some int8 ∷ []) (refl, tt)

-- ---- lines that lead to later blocks
number_at : (k n i v : ℕ) → slice_get (numbers_from k n) i ≡ Some v → (v ≡ k + i) × (i < n)
number_at k zero i v e = absurd (none-some v e)
number_at k (suc n) zero v e = let same : k ≡ v = same_Some k v e in (omega (arith, same), omega arith)
number_at k (suc n) (suc i) v e = let rest = number_at (suc k) n i v e in (omega (arith, rest.0), omega (arith, rest.1))

number_there : (k n i v : ℕ) → v ≡ k + i → i < n → slice_get (numbers_from k n) i ≡ Some v
number_there k zero i v e below = absurd (omega (arith, below))
number_there k (suc n) zero v e below = ap (λ (m : ℕ). Some m) (omega (arith, e))
number_there k (suc n) (suc i) v e below = number_there (suc k) n i v (omega (arith, e)) (omega (arith, below))

abbrev pub leads_up : LatencyEdge → Bool
leads_up edge = nat_lt edge.from edge.to

module _ (diagram : Diagram) (attributes : Attributes) (all : list_all leads_up (latency_edges diagram) ≡ true) where
  up : (from to : ℕ) → LeadsNow diagram attributes from to → from < to
  up from to (k, edge, below, at, (from_is, to_is, now)) =
      let less : edge.from < edge.to = ltb-true edge.from edge.to (sym (ap leads_up at) ∙ AllPass-from_list_all leads_up (latency_edges diagram) all k edge below) in
      omega (arith, from_is, to_is, less)

  -- the order of the file is one
  pub file_order : IsOrder diagram attributes (numbers_from 0 (length diagram.blocks))
  file_order = record {
    there = λ k d below. let at = number_at 0 n k (get_or order k d) (slice_get-get_or order k d below) in omega (arith, at.0, at.1);
    different = λ i j d less below same.
        let a = number_at 0 n i (get_or order i d) (slice_get-get_or order i d (omega (arith, less, below))) in
        let b = number_at 0 n j (get_or order j d) (slice_get-get_or order j d below) in
        omega (arith, a.0, b.0, same, less);
    all = λ place below.
        let at = number_there 0 n place place (omega arith) below in
        (place, place, slice_get_within order place place at, get_or_from_slice_get order place place place at, refl);
    after = λ k place source at leads.
        let here = number_at 0 n k place at in
        let less = up source place leads in
        (source, omega (arith, here.0, less), number_there 0 n source source (omega arith) (omega (arith, here.0, here.1, less)));
  }
    where
      n : ℕ
      n = length diagram.blocks

      order : List ℕ
      order = numbers_from 0 n

  -- nothing leads back
  pub no_loop : KeepsLoop diagram attributes
  no_loop cycle is = ends (climbs last (omega (arith, is.some))) (is.leads last (omega (arith, is.some)))
    where
      last : ℕ
      last = length cycle - 1

      climbs : (k : ℕ) → k < length cycle → slice_index cycle 0 + k ≤ slice_index cycle k
      climbs zero below = omega arith
      climbs (suc k) below =
          let next : slice_index cycle k < slice_index cycle (suc k) =
          subst (λ (i : ℕ). slice_index cycle k < slice_index cycle i) (mod-eq_of_lt below) (up (slice_index cycle k) (slice_index cycle (suc k % length cycle)) (is.leads k (omega (arith, below)))) in
          omega (arith, next, climbs k (omega (arith, below)))

      ends : slice_index cycle 0 + last ≤ slice_index cycle last → LeadsNow diagram attributes (slice_index cycle last) (slice_index cycle (suc last % length cycle)) → ⊥
      ends far leads =
          let whole : suc last ≡ length cycle = omega (arith, is.some) in
          let round : suc last % length cycle ≡ 0 = ap (λ (m : ℕ). m % length cycle) whole ∙ mod_self (length cycle) in
          let less : slice_index cycle last < slice_index cycle 0 =
          subst (λ (i : ℕ). slice_index cycle last < slice_index cycle i) round
          (up (slice_index cycle last) (slice_index cycle (suc last % length cycle)) leads) in
          omega (arith, far, less)

-- ---- attributes written out

-- six blocks in the order of the file, each with one output of one element
abbrev pub order_of_six : List ℕ
order_of_six = 0 ∷ 1 ∷ 2 ∷ 3 ∷ 4 ∷ 5 ∷ []

abbrev pub widths_of_six : Widths
widths_of_six = (1 ∷ []) ∷ (1 ∷ []) ∷ (1 ∷ []) ∷ (1 ∷ []) ∷ (1 ∷ []) ∷ (1 ∷ []) ∷ []

abbrev pub attributes_by : Diagram → Widths → Types → List (Option ℕ) → Attributes
attributes_by diagram widths types periods = record {
  width_at = width_at widths;
  type_at = λ block port. or_logical (known_at types block);
  param_at = λ block. or_logical (param_type_at diagram types block);
  period_at = period_at periods;
}

pub attributes_are : (diagram : Diagram) (widths : Widths) (types : Types) (periods : List (Option ℕ)) → widths_of diagram ≡ widths → types_of diagram ≡ types → periods_of diagram ≡ periods
    → attributes_of diagram ≡ attributes_by diagram widths types periods
attributes_are diagram widths types periods w t p =
    ap (λ (x : Widths). attributes_by diagram x (types_of diagram) (periods_of diagram)) w
    ∙ ap (λ (x : Types). attributes_by diagram widths x (periods_of diagram)) t
    ∙ ap (λ (x : List (Option ℕ)). attributes_by diagram widths types x) p
