-- What holds at each input holds of all input types.
use Rattle.std.proofs.Common.{◌≡◌, ℕ, zero, suc, ◌<◌, ◌≤◌, List, [], ◌∷◌, length, All, get_or, Option, None, refl, subst, arith}
use Rattle.std.proofs.lemmas.List.{length-map}
use Rattle.fx_type.specs.declared.kind.FxType.{FxType}
use Rattle.dg_model.specs.Periods.{known_at}
use Rattle.dg_model.specs.TypeRounds.{Types}
use Rattle.dg_model.specs.TypeRule.{AreOne}
use Rattle.std.specs.Prelude.{◌↔◌}
use Rattle.dg_types.specs.declared.linked.Source.{Source}
use Rattle.dg_types.specs.inner.TypeInputs.{source_types}

pub source_at : (values : Types) (sources : List Source) (k : ℕ) (d : Source) → k < length sources → known_at (source_types values sources) k ≡ known_at values (get_or sources k d).block
source_at values [] k d inside = absurd (omega arith)
source_at values (x ∷ xs) zero d inside = refl
source_at values (x ∷ xs) (suc k) d inside = source_at values xs k d (omega arith)

each : (P : Option FxType → Type 0) (types : Types) → ((k : ℕ) → k < length types → P (known_at types k)) → All P types
each P [] holds k d inside = absurd (omega arith)
each P (x ∷ xs) holds zero d inside = holds 0 (omega arith)
each P (x ∷ xs) holds (suc k) d inside = each P xs (λ j i. holds (suc j) (omega arith)) k d (omega arith)

pub length_sources : (values : Types) (sources : List Source) → length (source_types values sources) ≡ length sources
length_sources values sources = length-map sources (λ (source : Source). known_at values source.block)

pub all_inputs : (P : Option FxType → Type 0) (values : Types) (sources : List Source) (n : ℕ) → length sources ≤ n
    → ((k : ℕ) → k < n → P (known_at (source_types values sources) k)) → All P (source_types values sources)
all_inputs P values sources n past holds = each P (source_types values sources) (λ k inside. holds k (omega (arith, length_sources values sources)))

pub at_input : (P : Option FxType → Type 0) (values : Types) (sources : List Source) (k : ℕ) (d : Source)
    → k < length sources → All P (source_types values sources) → P (known_at values (get_or sources k d).block)
at_input P values sources k d inside all = subst P (source_at values sources k d inside) (all k None (omega (arith, length_sources values sources)))

-- all are the first
pub one_type : (types : Types) → All (λ other. other ≡ known_at types 0) types ↔ AreOne types
one_type [] = ((λ _. tt), (λ _ k d inside. absurd (omega arith)))
one_type (x ∷ xs) = ((λ all k d inside. all (suc k) d (omega arith)), from) where
  from : All (λ other. other ≡ x) xs → All (λ other. other ≡ x) (x ∷ xs)
  from later zero d inside = refl
  from later (suc k) d inside = later k d (omega arith)
