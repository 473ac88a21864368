-- The number of a name in a scope is its place among the names of the module.
use Rattle.std.proofs.Common.{◌≡◌, ◌+◌, ℕ, Bool, not, if◌then◌else◌, nat_lt, List, [], ◌∷◌, length, map, bytes_eq, Bor, None, Some, refl, sym, ap, ◌∙◌}
use Rattle.std.specs.List.{position, position_or_len, prefix_len}
use Rattle.std.proofs.lemmas.List.{length-map}
use Rattle.vl_ast.specs.declared.modules.Module.{Module}
use Rattle.vl_check.specs.declared.scope.Scope.{Scope}
use Rattle.vl_check.specs.Names.{names_of}
use Rattle.vl_check.specs.Scope.{names_in, number_in}

prefix-map : {X Y : Type 0} (p : Y → Bool) (f : X → Y) (xs : List X) → prefix_len p (map f xs) ≡ prefix_len (λ x. p (f x)) xs
prefix-map p f [] = refl
prefix-map p f (x ∷ xs) = ap (λ n. if p (f x) then 1 + n else 0) (prefix-map p f xs)

position-map : {X Y : Type 0} (p : Y → Bool) (f : X → Y) (xs : List X) → position p (map f xs) ≡ position (λ x. p (f x)) xs
position-map p f xs =
    let e : position_or_len p (map f xs) ≡ position_or_len (λ x. p (f x)) xs = prefix-map (λ y. not (p y)) f xs in
    let l : length (map f xs) ≡ length xs = length-map xs f in
    λ i. if nat_lt (e i) (l i) then Some (e i) else None

pub number-is : (m : Module) (scope : Scope) → names_in scope ≡ names_of m → (name : List ℕ) → position (bytes_eq name) (names_of m) ≡ number_in scope name
number-is m scope names name = ap (position (bytes_eq name)) (sym names) ∙ position-map (bytes_eq name) (λ (key : Bor (List ℕ)). key.now) scope.names.items
