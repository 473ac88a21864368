-- Lists of root elements, port after port.
use Rattle.std.proofs.Common.{◌≡◌, ℕ, zero, suc, ◌+◌, ◌≤◌, ◌++◌, List, [], ◌∷◌, length, map, filter_map, count_by, Option, Some, None, is_some, slice_get, ap, sym, ◌∙◌, refl, arith, append_assoc}
use Rattle.std.proofs.Common.{append-nil, add-one}
use Rattle.std.specs.List.{flat_map, cons_option}
use Rattle.std.proofs.lemmas.List.{map-append}
use Rattle.math_list.specs.Numbers.{numbers_from}
use Rattle.std.proofs.lemmas.Option.{none-some}
use Rattle.dg_model.specs.declared.diagram.Diagram.{Diagram}
use Rattle.dg_model.specs.declared.diagram.Block.{Block}
use Rattle.dg_model.specs.declared.kind.Kind.{Kind}
use Rattle.dg_model.specs.declared.kind.Kind.TheVariants.{Inport}
use Rattle.dg_model.specs.Library.{row_of}
use Rattle.dg_model.specs.Readable.{HasPorts, IsReadable}
use Rattle.dg_model.specs.Wired.{IsWired, root_input}
use Rattle.dg_model.specs.Signals.{Attributes}
use Rattle.dg_model.specs.RootElements.{RootElement, root_element, elements_of_port, number_in}
use Rattle.dg_tables.specs.declared.roots.Root.{Root}
use Rattle.dg_tables.specs.Roots.{root_at, roots_of}
use Rattle.dg_tables.proofs.Drivers.{count_by-cons, unit_if}
use Rattle.math_list.proofs.Places.{held}

pub counted_map : {A B : Type 0} (f : A → Option B) (xs : List A) → count_by (λ x. is_some (f x)) xs ≡ length (filter_map f xs)
counted_map f [] = refl
counted_map {A} {B} f (x ∷ xs) = count_by-cons (λ x. is_some (f x)) x xs ∙ go (f x) (counted_map f xs)
  where
    go : (o : Option B) → count_by (λ x. is_some (f x)) xs ≡ length (filter_map f xs) → unit_if (is_some o) + count_by (λ x. is_some (f x)) xs ≡ length (cons_option o (filter_map f xs))
    go None rest = omega (arith, rest)
    go (Some y) rest = omega (arith, rest)

pub filtered_at_most : {A B : Type 0} (f : A → Option B) (xs : List A) → length (filter_map f xs) ≤ length xs
filtered_at_most f [] = omega arith
filtered_at_most {A} {B} f (x ∷ xs) = go (f x) (filtered_at_most f xs)
  where
    go : (o : Option B) → length (filter_map f xs) ≤ length xs → length (cons_option o (filter_map f xs)) ≤ suc (length xs)
    go None rest = omega (arith, rest)
    go (Some y) rest = omega (arith, rest)

pub roots_port : (attributes : Attributes) (number block width : ℕ) → roots_of (map (root_element attributes number block) (numbers_from 0 width)) ≡ map (root_at number block) (numbers_from 0 width)
roots_port attributes number block width = go 0 width
  where
    go : (from n : ℕ) → roots_of (map (root_element attributes number block) (numbers_from from n)) ≡ map (root_at number block) (numbers_from from n)
    go from zero = refl
    go from (suc n) = ap (λ (xs : List Root). root_at number block from ∷ xs) (go (suc from) n)

flat_last : (f : ℕ → List RootElement) (from n : ℕ) → flat_map f (numbers_from from (suc n)) ≡ flat_map f (numbers_from from n) ++ f (from + n)
flat_last f from zero = let e : from ≡ from + 0 = omega arith in append-nil (f from) ∙ ap f e
flat_last f from (suc n) =
    let e : suc from + n ≡ from + suc n = omega arith in
    ap (λ (xs : List RootElement). f from ++ xs) (flat_last f (suc from) n)
    ∙ sym (append_assoc (f from) (flat_map f (numbers_from (suc from) n)) (f (suc from + n)))
    ∙ ap (λ (m : ℕ). f from ++ flat_map f (numbers_from (suc from) n) ++ f m) e

pub roots_more : (f : ℕ → List RootElement) (n : ℕ) (roots : List Root)
    → roots ≡ roots_of (flat_map f (numbers_from 1 n)) ++ roots_of (f (n + 1))
    → roots ≡ roots_of (flat_map f (numbers_from 1 (n + 1)))
roots_more f n roots e =
    let one : 1 + n ≡ n + 1 = omega arith in
    rw add-one (e ∙ sym (map-append (λ (e : RootElement). root_at e.number e.block e.element) (flat_map f (numbers_from 1 n)) (f (n + 1)))
    ∙ ap roots_of (ap (λ (m : ℕ). flat_map f (numbers_from 1 n) ++ f m) (sym one) ∙ sym (flat_last f 1 n)))

pub port_roots : (attributes : Attributes) (width_of : ℕ → ℕ) (number block width : ℕ) (o : Option ℕ) → o ≡ Some block → width ≡ width_of block
    → map (root_at number block) (numbers_from 0 width) ≡ roots_of (elements_of_port attributes width_of number o)
port_roots attributes width_of number block width o e w =
    ap (λ (n : ℕ). map (root_at number block) (numbers_from 0 n)) w
    ∙ sym (roots_port attributes number block (width_of block))
    ∙ ap (λ (o : Option ℕ). roots_of (elements_of_port attributes width_of number o)) (sym e)

-- a root input port has an output port
pub input_shows : (diagram : Diagram) → IsWired diagram → (block : ℕ) (b : Block) (number : ℕ) → slice_get diagram.blocks block ≡ Some b → number_in root_input b ≡ Some number → 1 ≤ b.outputs
input_shows diagram wired block b number at is = by_kind b.kind b.inputs b.outputs (held IsReadable diagram.blocks block b wired.blocks at).ports is
  where
    by_kind : (kind : Kind) (inputs outputs : ℕ) → HasPorts kind inputs outputs → root_input (row_of kind).place.role ≡ Some number → 1 ≤ outputs
    by_kind (Inport own width) inputs outputs ports is = omega (arith, ports.1)
    by_kind _ inputs outputs ports is = absurd (none-some number is)
