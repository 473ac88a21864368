-- The rules that a diagram keeps which is worked out by hand: its edges by tests, and what holds of it over attributes that are written out.
use Rattle.std.proofs.Common.{◌≡◌, ◌≢◌, ℕ, ◌≤◌, Bool, true, false, true≢false, ◌&&◌, cond, List, [], ◌∷◌, get_or, Option, Some, None, slice_get, All, inl, inr, sym, subst, refl, arith}
use Rattle.std.specs.Prelude.{◌==◌, nat_le, nat_lt, AllPairs, MatchOption}
use Rattle.std.specs.List.{AllByRecursion, list_all}
use Rattle.std.proofs.Math.Dec.{lit≤}
use Rattle.std.proofs.lemmas.Bool.{and_parts, eqb-true, leb-true, ltb-true}
use Rattle.std.proofs.lemmas.List.Sums.{AllPass-from_list_all}
use Rattle.dg_model.specs.declared.diagram.Diagram.{Diagram}
use Rattle.dg_model.specs.declared.diagram.Block.{Block}
use Rattle.dg_model.specs.declared.diagram.Edge.{Edge}
use Rattle.dg_model.specs.Dimension.{KeepsDimension, KeepsDimensions, IsBounded}
use Rattle.dg_model.specs.Faults.{AllKeep}
use Rattle.dg_model.specs.Periods.{periods_of}
use Rattle.dg_model.specs.Rate.{KeepsDeclared, KeepsPeriods, KeepsRates}
use Rattle.dg_model.specs.TypeRounds.{Types, types_of}
use Rattle.dg_model.specs.TypeRule.{IsNotWide, HasTypes, HasAgreeing, KeepsTypes}
use Rattle.dg_model.specs.Widths.{Widths, widths_of}
use Rattle.dg_model.specs.Wired.{AreNumbered, Joins, StandsBefore}
use Rattle.math_list.proofs.ByRecursion.{PairsByRecursion, all_of, pairs_of}

-- ---- edges join ports, by a test
abbrev has_port : Option Block → (Block → ℕ) → ℕ → Bool
has_port None count port = false
has_port (Some block) count port = nat_le 1 port && nat_le port (count block)

port_by : (block : Option Block) (count : Block → ℕ) (port : ℕ) → has_port block count port ≡ true → MatchOption block ⊥ (λ b. (1 ≤ port) × (port ≤ count b))
port_by None count port is = absurd (true≢false (sym is))
port_by (Some block) count port is = let parts = and_parts (nat_le 1 port) (nat_le port (count block)) is in (leb-true 1 port parts.0, leb-true port (count block) parts.1)

abbrev pub joins : List Block → Edge → Bool
joins blocks edge = has_port (slice_get blocks edge.from) (λ block. block.outputs) edge.from_port && has_port (slice_get blocks edge.to) (λ block. block.inputs) edge.to_port

joins_by : (blocks : List Block) (edge : Edge) → joins blocks edge ≡ true → Joins blocks edge
joins_by blocks edge is =
    let parts = and_parts (has_port (slice_get blocks edge.from) (λ block. block.outputs) edge.from_port) (has_port (slice_get blocks edge.to) (λ block. block.inputs) edge.to_port) is in
    record { source = port_by (slice_get blocks edge.from) (λ block. block.outputs) edge.from_port parts.0; target = port_by (slice_get blocks edge.to) (λ block. block.inputs) edge.to_port parts.1 }

pub all_join : (blocks : List Block) (edges : List Edge) → list_all (joins blocks) edges ≡ true → All (Joins blocks) edges
all_join blocks edges is k edge below = joins_by blocks (get_or edges k edge) (AllPass-from_list_all (joins blocks) edges is k edge below)

-- ---- edges stand in order, by a test
abbrev is_before : Edge → Edge → Bool
is_before edge later = cond (nat_lt edge.to later.to) true ((edge.to == later.to) && nat_le edge.to_port later.to_port)

before_by : (edge later : Edge) → is_before edge later ≡ true → StandsBefore edge later
before_by edge later is = by (nat_lt edge.to later.to) refl is where
  by : (b : Bool) → nat_lt edge.to later.to ≡ b → cond b true ((edge.to == later.to) && nat_le edge.to_port later.to_port) ≡ true → StandsBefore edge later
  by true less is = inl (ltb-true edge.to later.to less)
  by false not is = let parts = and_parts (edge.to == later.to) (nat_le edge.to_port later.to_port) is in inr (eqb-true edge.to later.to parts.0, leb-true edge.to_port later.to_port parts.1)

abbrev all_before : Edge → List Edge → Bool
all_before edge [] = true
all_before edge (later ∷ edges) = is_before edge later && all_before edge edges

abbrev pub are_ordered : List Edge → Bool
are_ordered [] = true
are_ordered (edge ∷ edges) = all_before edge edges && are_ordered edges

each_before : (edge : Edge) (edges : List Edge) → all_before edge edges ≡ true → AllByRecursion (StandsBefore edge) edges
each_before edge [] is = tt
each_before edge (later ∷ edges) is = let parts = and_parts (is_before edge later) (all_before edge edges) is in (before_by edge later parts.0, each_before edge edges parts.1)

ordered_by : (edges : List Edge) → are_ordered edges ≡ true → PairsByRecursion StandsBefore edges
ordered_by [] is = tt
ordered_by (edge ∷ edges) is = let parts = and_parts (all_before edge edges) (are_ordered edges) is in (each_before edge edges parts.0, ordered_by edges parts.1)

pub in_order : (edges : List Edge) → are_ordered edges ≡ true → AllPairs StandsBefore edges
in_order edges is = pairs_of StandsBefore edges (ordered_by edges is)

-- ---- ports of the root have the numbers 1, 1 and 2, 1 to 3
pub one_number : AreNumbered (1 ∷ [])
one_number = record {
  within = all_of (λ (number : ℕ). (1 ≤ number) × (number ≤ 1)) (1 ∷ []) ((lit≤ tt, lit≤ tt), tt);
  distinct = pairs_of (λ (number other : ℕ). number ≢ other) (1 ∷ []) (tt, tt);
}

pub two_numbers : AreNumbered (1 ∷ 2 ∷ [])
two_numbers = record {
  within = all_of (λ (number : ℕ). (1 ≤ number) × (number ≤ 2)) (1 ∷ 2 ∷ []) ((lit≤ tt, lit≤ tt), ((lit≤ tt, lit≤ tt), tt));
  distinct = pairs_of (λ (number other : ℕ). number ≢ other) (1 ∷ 2 ∷ []) ((λ e. absurd (omega (arith, e)), tt), (tt, tt));
}

pub three_numbers : AreNumbered (1 ∷ 2 ∷ 3 ∷ [])
three_numbers = record {
  within = all_of (λ (number : ℕ). (1 ≤ number) × (number ≤ 3)) (1 ∷ 2 ∷ 3 ∷ []) ((lit≤ tt, lit≤ tt), ((lit≤ tt, lit≤ tt), ((lit≤ tt, lit≤ tt), tt)));
  distinct = pairs_of (λ (number other : ℕ). number ≢ other) (1 ∷ 2 ∷ 3 ∷ []) (
    (λ e. absurd (omega (arith, e)), (λ e. absurd (omega (arith, e)), tt)),
    ((λ e. absurd (omega (arith, e)), tt), (tt, tt)),
  );
}

-- ---- each rule, over widths, types and periods that are written out
pub dimensions_kept : (diagram : Diagram) (widths : Widths) → widths_of diagram ≡ widths → AllKeep diagram (KeepsDimension diagram widths) → IsBounded diagram widths → KeepsDimensions diagram
dimensions_kept diagram widths are blocks bounded = record {
  blocks = subst (λ (w : Widths). AllKeep diagram (KeepsDimension diagram w)) (sym are) blocks;
  bounded = subst (λ (w : Widths). IsBounded diagram w) (sym are) bounded;
}

pub types_kept : (diagram : Diagram) (types : Types) → types_of diagram ≡ types
    → AllKeep diagram (IsNotWide diagram types) → AllKeep diagram (HasTypes diagram types)
    → AllKeep diagram (HasAgreeing diagram types)
    → KeepsTypes diagram
types_kept diagram types are narrow known agree = record {
  narrow = subst (λ (t : Types). AllKeep diagram (IsNotWide diagram t)) (sym are) narrow;
  known = subst (λ (t : Types). AllKeep diagram (HasTypes diagram t)) (sym are) known;
  agree = subst (λ (t : Types). AllKeep diagram (HasAgreeing diagram t)) (sym are) agree;
}

pub rates_kept : (diagram : Diagram) (periods : List (Option ℕ)) → periods_of diagram ≡ periods
    → AllKeep diagram (KeepsDeclared diagram) → AllKeep diagram (KeepsPeriods diagram periods) → KeepsRates diagram
rates_kept diagram periods are declared kept = record { declared = declared; periods = subst (λ (p : List (Option ℕ)). AllKeep diagram (KeepsPeriods diagram p)) (sym are) kept }
