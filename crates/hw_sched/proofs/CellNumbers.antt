-- One shared operation more is numbered, those of a block, and those of all blocks.
use Rattle.std.proofs.Common.{◌≡◌, ℕ, suc, ◌+◌, ◌-◌, ◌<◌, ◌≤◌, Bool, true, false, cond, List, [], ◌∷◌, ◌++◌, length, map, filter, refl, sym, ap, subst, ◌∙◌, append_assoc, arith}
use Rattle.std.proofs.lemmas.List.{append-nil}
use Rattle.std.specs.List.{flat_map}
use Rattle.math_list.specs.Numbers.{numbers_from}
use Rattle.dg_model.specs.declared.diagram.Diagram.{Diagram}
use Rattle.dg_model.specs.declared.resolved.Resolved.{Resolved}
use Rattle.dg_model.specs.Attributes.{attributes_of}
use Rattle.dg_model.specs.Signals.{Attributes}
use Rattle.hw_latency.specs.Shared.{is_shared}
use Rattle.hw_latency.specs.Weight.{samples}
use Rattle.hw_slots.specs.declared.operation.Operation.{Operation as Cell}
use Rattle.hw_sched.specs.declared.cells.Cells.{Cells}
use Rattle.hw_sched.specs.declared.cells.Sort.{Sort}
use Rattle.hw_sched.specs.Slots.{Timing, Operation, OperationKind, operation, operations_of, shared_operations, kind_of, with_kind, new_kind, before_kind}
use Rattle.hw_sched.specs.Numbered.{number_of, cell_of, cells_of}
use Rattle.hw_sched.specs.inner.Keys.{key_of}
use Rattle.hw_sched.specs.inner.Cells.{AreKinds, AreCellsBut, AreCells, IsSort, shared_at}
use Rattle.hw_sched.proofs.KindNumbers.{kept_all}
use Rattle.hw_sched.proofs.Units.{own_new}

abbrev cell : ℕ → ℕ → ℕ → Cell
cell kind period level = record { kind = kind; period = period; level = level }

module _ (diagram : Diagram) (plan : Resolved) (timing : Timing) where
  abbrev attributes : Attributes
  attributes = attributes_of diagram

  abbrev But : List Operation → Cells → Type 0
  But rest cells = AreCellsBut diagram plan timing rest cells

  pub cells_none : (cells : Cells) → cells.operations.items ≡ [] → AreKinds [] cells.numbers → But (shared_operations diagram attributes plan) cells
  cells_none cells none kinds = record {
    kinds = [];
    numbers = kinds;
    left = refl;
    listed = ap (λ (xs : List Cell). xs ++ cells_of diagram attributes plan timing) none;
  }

  pub cells_more : (o : Operation) (rest : List Operation) (sort : Sort) (number : ℕ) (old new : Cells) → IsSort diagram timing o.block sort
      → ((kinds : List OperationKind) (kind : OperationKind) → sort.key ≡ key_of kind → AreKinds kinds old.numbers → number ≡ length (before_kind kind (with_kind kinds kind)))
      → ((kinds : List OperationKind) (kind : OperationKind) → sort.key ≡ key_of kind → AreKinds kinds old.numbers → AreKinds (with_kind kinds kind) new.numbers)
      → new.operations.items ≡ old.operations.items ++ cell number sort.period sort.level ∷ []
      → But (o ∷ rest) old → But rest new
  cells_more o rest sort number old new is numbered kept push before =
      let kind = kind_of diagram attributes timing o in
      let kinds = new_kind diagram attributes timing before.kinds o in
      let here : number ≡ length (before_kind kind kinds) = numbered before.kinds kind is.key before.numbers in
      let final : length (before_kind kind kinds) ≡ number_of diagram attributes plan timing kind =
      sym (kept_all diagram attributes plan timing rest kinds kind
      (own_new diagram attributes plan timing before.kinds o))
      ∙ ap (λ (ks : List OperationKind). length (before_kind kind ks)) before.left in
      let same : cell number sort.period sort.level ≡ cell_of diagram attributes plan timing o =
      ap (λ (k : ℕ). cell k sort.period sort.level) (here ∙ final)
      ∙ ap (λ (p : ℕ). cell (number_of diagram attributes plan timing kind) p sort.level) is.period
      ∙ ap (λ (l : ℕ). cell (number_of diagram attributes plan timing kind) (samples (attributes.period_at o.block)) l) is.level in
      record {
        kinds = kinds;
        numbers = kept before.kinds kind is.key before.numbers;
        left = before.left;
        listed =
            ap (λ (xs : List Cell). xs ++ map (cell_of diagram attributes plan timing) rest) push
            ∙ append_assoc old.operations.items (cell number sort.period sort.level ∷ []) (map (cell_of diagram attributes plan timing) rest)
            ∙ ap (λ (c : Cell). old.operations.items ++ c ∷ map (cell_of diagram attributes plan timing) rest) same
            ∙ before.listed;
      }

  -- ---- the elements of a block

  -- those from this one on
  abbrev pub elements_from : ℕ → ℕ → List Operation
  elements_from place element = map (operation place) (numbers_from element (attributes.width_at place 1 - element))

  pub elements_first : (place : ℕ) → elements_from place 0 ≡ operations_of attributes place
  elements_first place = let e : attributes.width_at place 1 - 0 ≡ attributes.width_at place 1 = omega arith in ap (λ (n : ℕ). map (operation place) (numbers_from 0 n)) e

  pub elements_next : (place element : ℕ) → element < attributes.width_at place 1 → elements_from place element ≡ operation place element ∷ elements_from place (element + 1)
  elements_next place element below =
      let e : attributes.width_at place 1 - element ≡ suc (attributes.width_at place 1 - (element + 1)) = omega (arith, below) in
      let one : suc element ≡ element + 1 = omega arith in
      ap (λ (n : ℕ). map (operation place) (numbers_from element n)) e
      ∙ ap (λ (n : ℕ). operation place element ∷ map (operation place) (numbers_from n (attributes.width_at place 1 - (element + 1)))) one

  pub elements_last : (place element : ℕ) → attributes.width_at place 1 ≤ element → elements_from place element ≡ []
  elements_last place element past = let e : attributes.width_at place 1 - element ≡ 0 = omega (arith, past) in ap (λ (n : ℕ). map (operation place) (numbers_from element n)) e

  -- ---- the blocks

  -- the shared operations of those from this one on
  abbrev pub operations_from : ℕ → List Operation
  operations_from place = flat_map (operations_of attributes) (filter (is_shared diagram attributes plan) (numbers_from place (length diagram.blocks - place)))

  pub operations_first : operations_from 0 ≡ shared_operations diagram attributes plan
  operations_first = let e : length diagram.blocks - 0 ≡ length diagram.blocks = omega arith in
      ap (λ (n : ℕ). flat_map (operations_of attributes)
      (filter (is_shared diagram attributes plan) (numbers_from 0 n))) e

  pub operations_next : (place : ℕ) → place < length diagram.blocks → operations_from place ≡ shared_at diagram plan place ++ operations_from (place + 1)
  operations_next place below =
      let e : length diagram.blocks - place ≡ suc (length diagram.blocks - (place + 1)) = omega (arith, below) in
      let one : suc place ≡ place + 1 = omega arith in
      ap (λ (n : ℕ). flat_map (operations_of attributes) (filter (is_shared diagram attributes plan) (numbers_from place n))) e
      ∙ by (filter (is_shared diagram attributes plan) (numbers_from (suc place) (length diagram.blocks - (place + 1)))) (is_shared diagram attributes plan place)
      ∙ ap (λ (n : ℕ). shared_at diagram plan place ++ flat_map (operations_of attributes) (filter (is_shared diagram attributes plan) (numbers_from n (length diagram.blocks - (place + 1))))) one
    where
      by : (rest : List ℕ) (b : Bool) → flat_map (operations_of attributes) (cond b (place ∷ rest) rest) ≡ cond b (operations_of attributes place) [] ++ flat_map (operations_of attributes) rest
      by rest true = refl
      by rest false = refl

  pub operations_last : (place : ℕ) → length diagram.blocks ≤ place → operations_from place ≡ []
  operations_last place past = let e : length diagram.blocks - place ≡ 0 = omega (arith, past) in
      ap (λ (n : ℕ). flat_map (operations_of attributes)
      (filter (is_shared diagram attributes plan) (numbers_from place n))) e

  pub cells_end : (place : ℕ) (cells : Cells) → length diagram.blocks ≤ place → But (operations_from place) cells → AreCells diagram plan timing cells
  cells_end place cells past before =
      let done = subst (λ (rest : List Operation). But rest cells) (operations_last place past) before in
      record {
        listed = sym (append-nil cells.operations.items) ∙ done.listed;
        kinds = done.numbers.count ∙ ap (λ (ks : List OperationKind). length ks) done.left;
      }
