-- The control of an enabled subsystem asks for some element above 0.
use Rattle.std.proofs.Common.{◌≡◌, ℕ, ◌<◌, ◌+◌, ◌++◌, ◌||◌, Bool, ℤ, pos, int_lt, List, [], ◌∷◌, ◌⊎◌, inl, inr, length, map, Some, slice_get, ap, sym, ◌∙◌, subst, subst₂, refl, arith, append-nil}
use Rattle.std.proofs.Common.{length-append}
use Rattle.std.specs.List.{list_any}
use Rattle.fx_type.specs.declared.kind.FxType.{FxType}
use Rattle.math_list.specs.Numbers.{numbers_from}
use Rattle.dg_model.specs.declared.diagram.Diagram.{Diagram}
use Rattle.dg_model.specs.declared.diagram.Block.{Block}
use Rattle.dg_model.specs.declared.kind.Kind.TheVariants.{EnableTest}
use Rattle.dg_model.specs.Signals.{Attributes}
use Rattle.dg_model.specs.Operation.{stored_truth}
use Rattle.dg_model.specs.Wires.{width_into, value_into}
use Rattle.dg_tables.specs.declared.entries.Place.{Place}
use Rattle.dg_sim.specs.declared.program.Program.{Program}
use Rattle.dg_sim.specs.declared.program.Rule.TheVariants.{Above}
use Rattle.dg_sim.specs.Program.{part}
use Rattle.dg_sim.specs.inner.ProgramSteps.{AreElements, IsMade}
use Rattle.dg_tables.specs.Entries.{Reads}
use Rattle.dg_sim.proofs.ByKind.{of_kind}
use Rattle.math_list.proofs.Places.{push_cases}
use Rattle.dg_sim.proofs.RuleEquations.{values_same}
use Rattle.dg_sim.proofs.Operations.{part_there, end_there}

any_map : (p : ℤ → Bool) (f : ℕ → ℤ) (xs : List ℕ) → list_any p (map f xs) ≡ list_any (λ x. p (f x)) xs
any_map p f [] = refl
any_map p f (x ∷ xs) = ap (λ (b : Bool). p (f x) || b) (any_map p f xs)

pub elements_more : (diagram : Diagram) (attributes : Attributes) (places : List Place) (block k : ℕ)
    (numbers : List ℕ) (number n : ℕ) → length numbers ≡ n → number < k
    → Reads diagram attributes places block 1 n number
    → AreElements diagram attributes places block k numbers → AreElements diagram attributes places block k (numbers ++ number ∷ [])
elements_more diagram attributes places block k numbers number n size below reads are i j at = go (push_cases numbers number i j at)
  where
    go : (slice_get numbers i ≡ Some j) ⊎ ((i ≡ length numbers) × (number ≡ j)) → (j < k) × Reads diagram attributes places block 1 i j
    go (inl h) = are i j h
    go (inr h) =
        let at_end : n ≡ i = omega (arith, h.0, size) in
        (subst (λ (m : ℕ). m < k) h.1 below, subst₂ (λ (element m : ℕ). Reads diagram attributes places block 1 element m) at_end h.1 reads)

pub above_made : (diagram : Diagram) (attributes : Attributes) (old : Program) (k : ℕ) (place : Place) (b : Block) → slice_get diagram.blocks place.block ≡ Some b → b.kind ≡ EnableTest
    → (first width : ℕ) (numbers args : List ℕ) (types more : List FxType) → first ≡ length old.args
    → width ≡ width_into diagram attributes place.block 1 → length numbers ≡ width → args ≡ old.args ++ numbers
    → AreElements diagram attributes old.places place.block k numbers → types ≡ old.types ++ more → length more ≡ width
    → IsMade diagram attributes old (record {
      places = old.places;
      cells = old.cells;
      args = args;
      types =
          types;
      signs = old.signs;
      memories = old.memories;
      outputs = old.outputs;
    }) k place (Above first width)
above_made diagram attributes old k place b block_is kind first width numbers args types more first_is width_is size args_is are types_is more_size = record {
  grows = record {
    places = refl;
    cells = refl;
    args = (numbers, args_is);
    types = (more, types_is);
    paired = λ same. omega (arith, same, size, more_size, ap length args_is ∙ length-append old.args numbers, ap length types_is ∙ length-append old.types more);
    signs = ([], sym (append-nil old.signs));
    memories = ([], sym (append-nil old.memories));
    few = omega arith;
  };
  memories = λ are_memories m memory at. let is = are_memories m memory at in (is.0, record { block_is = is.1.block_is; room = is.1.room; some = is.1.some; moves = is.1.moves; from = is.1.from });
  made = record {
    within = end_there old.args numbers args first width args_is first_is (sym size);
    serves = λ stimulus table t look kept row v agrees keep row_is hit gives.
        let f : ℕ → ℤ = λ element. value_into diagram attributes table place.block 1 element t in
        let looked : map look (part args first width) ≡ map f (numbers_from 0 width) =
        ap (map look) (part_there old.args numbers args first width args_is first_is (sym size))
        ∙ values_same look f numbers width 0 size
        (λ i j at.
        let read = are i j at in
        let from : i ≡ 0 + i = omega arith in
        agrees j read.1.place read.0 read.1.there ∙ sym (read.1.is_source.value table t) ∙ ap f from) in
        of_kind diagram attributes place b block_is EnableTest kind stimulus table t v
        (gives ∙ ap (λ (xs : List ℤ). stored_truth (list_any (λ x. int_lt (pos 0) x) xs)) looked
        ∙ ap stored_truth (any_map (λ x. int_lt (pos 0) x) f (numbers_from 0 width) ∙ ap (λ (n : ℕ). list_any (λ element. int_lt (pos 0) (f element)) (numbers_from 0 n)) width_is));
    can = λ table t look agrees in_range. end_there old.args numbers args first width args_is first_is (sym size);
  };
}
