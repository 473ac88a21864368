-- Sound blocks and lines have a flat diagram, or break a rule.
use Rattle.std.proofs.Common.{◌≡◌, ℕ, zero, suc, ◌<◌, ◌⊎◌, inl, inr, List, [], ◌∷◌, length, get_or, Option, None, Some, refl, sym, ◌∙◌, ap, subst, arith}
use Rattle.std.specs.Prelude.{slice_get, AllPairs}
use Rattle.std.specs.List.{filter_map}
use Rattle.std.specs.List.Sorted.{IsPermutation}
use Rattle.std.proofs.lemmas.Bool.{cases_lt, cases_order}
use Rattle.std.proofs.lemmas.List.Elements.{All-cons}
use Rattle.std.proofs.lemmas.List.Kept.{AllPairs-cons}
use Rattle.std.proofs.lemmas.List.Sorted.{All-permutation, IsPermutation-refl, IsPermutation-trans, IsPermutation-cons, IsPermutation-middle}
use Rattle.std.proofs.lemmas.Option.{slice_get_cases, none-some, same_Some}
use Rattle.dg_model.specs.declared.diagram.Diagram.{Diagram}
use Rattle.dg_model.specs.declared.diagram.Edge.{Edge}
use Rattle.dg_model.specs.declared.fault.RuleFault.{RuleFault}
use Rattle.dg_model.specs.declared.fault.Shown.TheVariants.{Nothing}
use Rattle.dg_model.specs.declared.nested.Nested.{Nested}
use Rattle.dg_model.specs.declared.nested.NestedBlock.{NestedBlock}
use Rattle.dg_model.specs.declared.rule.Rule.{Rule}
use Rattle.dg_model.specs.Faults.{fault_of}
use Rattle.dg_model.specs.Wired.{StandsBefore}
use Rattle.dg_flat.specs.Flat.{IsFlatOf, flat_blocks, edge_of}
use Rattle.dg_flat.specs.Laws.{FlatIsThere}
use Rattle.dg_flat.specs.Parts.{nested_path}
use Rattle.dg_flat.specs.Rules.{AllNestedKeep, BreaksNested, KeepsWiring, KeepsEnable}
use Rattle.dg_flat.proofs.Law.{wired}

-- ---- edges in order

stands_either : (edge other : Edge) → StandsBefore edge other ⊎ StandsBefore other edge
stands_either edge other = elim (cases_order edge.to other.to) [
  | inl to ↦ elim (cases_lt other.to_port edge.to_port) [
    | inl less ↦ inr (inr (sym to, omega (arith, less)))
    | inr most ↦ inl (inr (to, most))
  ]
  | inr differ ↦ elim differ [ inl less ↦ inl (inl less) | inr more ↦ inr (inl more) ]
]

pub stands_on : (edge other later : Edge) → StandsBefore edge other → StandsBefore other later → StandsBefore edge later
stands_on edge other later (inl less) (inl before) = inl (omega (arith, less, before))
stands_on edge other later (inl less) (inr before) = inl (omega (arith, less, before.0))
stands_on edge other later (inr at) (inl before) = inl (omega (arith, at.0, before))
stands_on edge other later (inr at) (inr before) = inr (at.0 ∙ before.0, omega (arith, at.1, before.1))

record Ordered (edges : List Edge) : Type 0 where
  list : List Edge
  same : IsPermutation edges list
  ordered : AllPairs StandsBefore list

put : (edge : Edge) (edges : List Edge) → AllPairs StandsBefore edges → Ordered (edge ∷ edges)
put edge [] ordered = record {
  list = edge ∷ [];
  same = IsPermutation-refl (edge ∷ []);
  ordered = AllPairs-cons StandsBefore edge [] (λ k d inside. absurd (omega (arith, inside))) ordered;
}
put edge (x ∷ xs) ordered = by (stands_either edge x) (put edge xs (λ i j d less inside. ordered (suc i) (suc j) d (omega (arith, less)) (omega (arith, inside))))
  where
    by : StandsBefore edge x ⊎ StandsBefore x edge → Ordered (edge ∷ xs) → Ordered (edge ∷ x ∷ xs)
    by (inl before) rest = record {
      list = edge ∷ x ∷ xs;
      same = IsPermutation-refl (edge ∷ x ∷ xs);
      ordered = AllPairs-cons StandsBefore edge (x ∷ xs)
          (All-cons (StandsBefore edge) x xs before (λ k d inside. stands_on edge x (get_or xs k d) before (ordered 0 (suc k) d (omega arith) (omega (arith, inside))))) ordered;
    }
    by (inr after) rest = record {
      list = x ∷ rest.list;
      same = IsPermutation-trans (edge ∷ x ∷ xs) (x ∷ edge ∷ xs) (x ∷ rest.list) (IsPermutation-middle (edge ∷ []) x xs) (IsPermutation-cons x (edge ∷ xs) rest.list rest.same);
      ordered = AllPairs-cons StandsBefore x rest.list
          (All-permutation (StandsBefore x) (edge ∷ xs) rest.list rest.same
          (All-cons (StandsBefore x) edge xs after
          (λ k d inside. ordered 0 (suc k) d (omega arith) (omega (arith, inside))))) rest.ordered;
    }

in_order : (edges : List Edge) → Ordered edges
in_order [] = record { list = []; same = IsPermutation-refl []; ordered = λ i j d less inside. absurd (omega (arith, inside)) }
in_order (x ∷ xs) = on (in_order xs) where
  on : Ordered xs → Ordered (x ∷ xs)
  on rest =
      let more = put x rest.list rest.ordered in
      record { list = more.list; same = IsPermutation-trans (x ∷ xs) (x ∷ rest.list) more.list (IsPermutation-cons x xs rest.list rest.same) more.same; ordered = more.ordered }

-- ---- the two rules

abbrev KeepTo : Nested → (Nested → ℕ → NestedBlock → Type 0) → ℕ → Type 0
KeepTo nested Keeps count = (place : ℕ) (block : NestedBlock) → place < count → slice_get nested.blocks place ≡ Some block → Keeps nested place block

one_more : (nested : Nested) (Keeps : Nested → ℕ → NestedBlock → Type 0) (count : ℕ) → KeepTo nested Keeps count
    → ((block : NestedBlock) → slice_get nested.blocks count ≡ Some block → Keeps nested count block)
    → KeepTo nested Keeps (suc count)
one_more nested Keeps count kept here place block less there = elim (cases_lt place count) [
  | inl before ↦ kept place block before there
  | inr at ↦
      let same : count ≡ place = omega (arith, at, less) in
      subst (λ (p : ℕ). Keeps nested p block) same (here block (ap (slice_get nested.blocks) same ∙ there))
]

kept_below : (nested : Nested) (rule : Rule) (Keeps : Nested → ℕ → NestedBlock → Type 0)
    → ((fault : RuleFault) → BreaksNested nested rule Keeps fault → ⊥) → (count : ℕ)
    → (KeepTo nested Keeps count → ⊥) → ⊥
kept_below nested rule Keeps none zero never = never (λ place block less there. absurd (omega (arith, less)))
kept_below nested rule Keeps none (suc count) never = kept_below nested rule Keeps none count (λ kept. by (slice_get nested.blocks count) refl kept)
  where
    by : (found : Option NestedBlock) → slice_get nested.blocks count ≡ found → KeepTo nested Keeps count → ⊥
    by None is kept = never (one_more nested Keeps count kept (λ block there. absurd (none-some block (sym is ∙ there))))
    by (Some b) is kept = none (fault_of rule (nested_path nested.blocks count) Nothing) (record {
      place = count;
      block = b;
      there = is;
      broken = λ keeps. never (one_more nested Keeps count kept (λ block there. subst (λ (x : NestedBlock). Keeps nested count x) (same_Some b block (sym is ∙ there)) keeps));
      before = λ other o less there. kept other o less there;
      fault_is = refl;
    })

kept_or_first : (nested : Nested) (rule : Rule) (Keeps : Nested → ℕ → NestedBlock → Type 0) → ((fault : RuleFault) → BreaksNested nested rule Keeps fault → ⊥) → (AllNestedKeep nested Keeps → ⊥) → ⊥
kept_or_first nested rule Keeps none never = kept_below nested rule Keeps none (length nested.blocks) (λ kept. never (λ place block there. kept place block (inside place block there) there))
  where
    inside : (place : ℕ) (block : NestedBlock) → slice_get nested.blocks place ≡ Some block → place < length nested.blocks
    inside place block there = elim (slice_get_cases nested.blocks place).1 [
      | inl has ↦ has.1
      | inr past ↦ absurd (none-some block (sym past.1 ∙ there))
    ]

pub some_flat : FlatIsThere
some_flat nested sound not none =
    kept_or_first nested Rule.Wiring KeepsWiring (λ fault broken. none fault (inl broken)) (λ wiring.
    kept_or_first nested Rule.Enable KeepsEnable (λ fault broken. none fault (inr (record { wired = wiring; enables = broken }))) (λ enables.
    let edges = in_order (filter_map (edge_of nested.blocks) nested.lines) in
    let diagram : Diagram = record { blocks = flat_blocks nested.blocks; edges = edges.list } in
    let flat : IsFlatOf nested diagram = record { blocks = refl; edges = edges.same; ordered = edges.ordered } in
    not diagram wiring enables flat (wired nested diagram sound wiring enables flat)))
