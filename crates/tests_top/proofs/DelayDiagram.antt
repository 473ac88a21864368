-- The diagram of the model of one delay keeps the rules, worked out by hand.
use Rattle.std.proofs.Common.{◌≡◌, ◌≢◌, ℕ, true≢false, List, [], ◌∷◌, length, Option, Some, slice_get, inl, codes, sym, refl, arith}
use Rattle.std.proofs.Math.Dec.{lit≤}
use Rattle.fx_type.specs.declared.decimal.Decimal.{Decimal}
use Rattle.dg_model.specs.declared.diagram.Block.{Block}
use Rattle.dg_model.specs.Attributes.{attributes_of}
use Rattle.dg_model.specs.Checked.{IsChecked}
use Rattle.dg_model.specs.Dimension.{IsRepeated, KeepsDimension, KeepsDimensions}
use Rattle.dg_model.specs.Faults.{AllKeep}
use Rattle.dg_model.specs.Library.{row_of}
use Rattle.dg_model.specs.Readable.{IsReadable}
use Rattle.dg_model.specs.Rate.{KeepsDeclared, KeepsPeriods, KeepsRates}
use Rattle.dg_model.specs.Signals.{Attributes}
use Rattle.dg_model.specs.TypeRounds.{Types}
use Rattle.dg_model.specs.TypeRule.{IsNotWide, HasTypes, HasAgreeing}
use Rattle.dg_model.specs.Widths.{Widths}
use Rattle.dg_model.specs.Wired.{IsWired, NamesControl, MayStand}
use Rattle.math_list.proofs.ByRecursion.{all_of}
use Rattle.hw_shows.proofs.Small.{int8_valid, each_by, none_driven, one_driven, one_fits, one_repeats, none_known, one_known, no_loop, attributes_by, attributes_are, AreDrivenOnce}
use Rattle.hw_shows.proofs.RuleFacts.{all_join, in_order, one_number, dimensions_kept, types_kept, rates_kept}
use Rattle.tests_premises.specs.Whole.{int8}
use Rattle.tests_top.proofs.DelayModel.{diagram, inport, delay, outport, three}

-- ---- its widths, types and periods

abbrev widths : Widths
widths = (1 ∷ []) ∷ (1 ∷ []) ∷ (1 ∷ []) ∷ []

abbrev types : Types
types = Some int8 ∷ Some int8 ∷ Some int8 ∷ []

abbrev periods : List (Option ℕ)
periods = Some 1 ∷ Some 1 ∷ Some 1 ∷ []

abbrev pub attributes : Attributes
attributes = attributes_by diagram widths types periods

pub attributes-are : attributes_of diagram ≡ attributes
attributes-are = attributes_are diagram widths types periods refl refl refl

-- ---- it is well formed

driven : (place : ℕ) (block : Block) → slice_get diagram.blocks place ≡ Some block → AreDrivenOnce diagram.edges place block.inputs
driven = each_by (λ (k : ℕ) (x : Block). AreDrivenOnce diagram.edges k x.inputs) diagram.blocks (none_driven diagram.edges 0) (one_driven diagram.edges 1 refl) (one_driven diagram.edges 2 refl)

in-readable : IsReadable (inport (codes "u"))
in-readable = record { ports = (refl, refl); parameters = ((lit≤ tt, lit≤ tt), (lit≤ tt, lit≤ tt)); types = int8_valid; result = tt; rounding = (refl, refl); period = tt }

delay-readable : IsReadable (delay (codes "D"))
delay-readable = record { ports = (refl, refl); parameters = ((lit≤ tt, lit≤ tt), (lit≤ tt, lit≤ tt)); types = tt; result = refl; rounding = (refl, refl); period = tt }

out-readable : IsReadable (outport (codes "y"))
out-readable = record { ports = (refl, refl); parameters = (lit≤ tt, lit≤ tt); types = tt; result = tt; rounding = (refl, refl); period = tt }

pub wired : IsWired diagram
wired = record {
  size = lit≤ tt;
  edges = all_join diagram.blocks diagram.edges refl;
  driven = λ place port block at. driven place block at port;
  ordered = in_order diagram.edges refl;
  blocks = all_of IsReadable diagram.blocks (in-readable, (delay-readable, (out-readable, tt)));
  controls = all_of (λ (block : Block). NamesControl diagram.blocks block.enable) diagram.blocks (tt, (tt, (tt, tt)));
  enables = all_of (λ (block : Block). MayStand (row_of block.kind).place.stands block.enable) diagram.blocks (tt, (tt, (tt, tt)));
  inports = one_number;
  outports = one_number;
}

-- ---- dimensions, types and rates

dimensions-by : AllKeep diagram (KeepsDimension diagram widths)
dimensions-by = each_by (KeepsDimension diagram widths) diagram.blocks
    (record { settled = refl; within = λ some. one_fits; agrees = λ k d below. absurd (omega arith); lists = λ k d below. absurd (omega arith); declared = inl refl })
    (record { settled = refl; within = λ some. one_fits; agrees = one_repeats; lists = all_of (λ (list : List Decimal). IsRepeated 1 (length list)) (three ∷ []) (inl refl, tt); declared = inl refl })
    (record { settled = refl; within = λ some. one_fits; agrees = one_repeats; lists = λ k d below. absurd (omega arith); declared = inl refl })

dimensions : KeepsDimensions diagram
dimensions = dimensions_kept diagram widths refl dimensions-by (record { outputs = omega arith; inputs = omega arith; delays = omega arith })

narrow-by : AllKeep diagram (IsNotWide diagram types)
narrow-by = each_by (IsNotWide diagram types) diagram.blocks (λ named known. absurd (true≢false (sym named)))
    (λ named known. absurd (true≢false (sym named))) (λ named known. absurd (true≢false (sym named)))

known-by : AllKeep diagram (HasTypes diagram types)
known-by = each_by (HasTypes diagram types) diagram.blocks (record { outputs = λ some. refl; inputs = none_known })
    (record { outputs = λ some. refl; inputs = one_known }) (record { outputs = λ some. refl; inputs = one_known })

agree-by : AllKeep diagram (HasAgreeing diagram types)
agree-by = each_by (HasAgreeing diagram types) diagram.blocks (record { written = tt; inside = tt }) (record { written = tt; inside = tt }) (record { written = tt; inside = tt })

rates : KeepsRates diagram
rates = rates_kept diagram periods refl (each_by (KeepsDeclared diagram) diagram.blocks tt tt tt) (each_by (KeepsPeriods diagram periods) diagram.blocks refl refl refl)

-- ---- all rules

pub checked : IsChecked diagram
checked = record { wired = wired; dimensions = dimensions; types = types_kept diagram types refl narrow-by known-by agree-by; rates = rates; loops = no_loop diagram (attributes_of diagram) refl }
