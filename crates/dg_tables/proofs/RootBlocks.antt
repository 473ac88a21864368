-- The blocks of root elements, from those that are listed.
use Rattle.std.proofs.Common.{◌≡◌, ℕ, List, [], ◌∷◌, map, refl, ap, ◌∙◌}
use Rattle.dg_model.specs.RootElements.{RootElement}
use Rattle.dg_tables.specs.declared.roots.Root.{Root}
use Rattle.dg_tables.specs.Roots.{roots_of}

blocks-of : (es : List RootElement) → map (λ (root : Root). root.block) (roots_of es) ≡ map (λ (e : RootElement). e.block) es
blocks-of [] = refl
blocks-of (e ∷ es) = ap (λ (blocks : List ℕ). e.block ∷ blocks) (blocks-of es)

pub listed : (es : List RootElement) (roots : List Root) (blocks : List ℕ) → blocks ≡ map (λ (root : Root). root.block) roots → roots ≡ roots_of es → blocks ≡ map (λ (e : RootElement). e.block) es
listed es roots blocks are of = are ∙ ap (λ (list : List Root). map (λ (root : Root). root.block) list) of ∙ blocks-of es
