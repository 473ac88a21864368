-- Lists element by element, and the products of a netlist net by net.
use Rattle.std.proofs.Common.{◌≡◌, ℕ, zero, suc, List, [], ◌∷◌, ◌++◌, map, flat_map, length, refl, ap, sym, ◌∙◌}
use Rattle.std.proofs.lemmas.List.{map-append}
use Rattle.hw_net.specs.declared.netlist.Net.{Net}
use Rattle.hw_net.specs.Circuit.{Circuit}
use Rattle.hw_net.specs.Products.{Product, comb_product, net_at, places, products_of, unit_product}

-- ---- what is read net by net, as it stands in the list

pub places-first : (n : ℕ) → places (suc n) ≡ 0 ∷ map suc (places n)
places-first zero = refl
places-first (suc n) = (let e = places-first n in ap (λ (l : List ℕ). l ++ suc n ∷ []) e ∙ ap (λ (l : List ℕ). 0 ∷ l) (sym (map-append suc (places n) (n ∷ []))))

module _ {X : Type 0} where
  pub further : (g : ℕ → List X) (l : List ℕ) → flat_map g (map suc l) ≡ flat_map (λ k. g (suc k)) l
  further g [] = refl
  further g (k ∷ l) = ap (λ (rest : List X). g (suc k) ++ rest) (further g l)

  pub first-out : (g : ℕ → List X) (n : ℕ) → flat_map g (places (suc n)) ≡ g 0 ++ flat_map (λ k. g (suc k)) (places n)
  first-out g n = ap (flat_map g) (places-first n) ∙ ap (λ (rest : List X). g 0 ++ rest) (further g (places n))

  pub by-place : (f : Net → List X) (nets : List Net) → flat_map (λ k. f (net_at nets k)) (places (length nets)) ≡ flat_map f nets
  by-place f [] = refl
  by-place f (net ∷ nets) = first-out (λ k. f (net_at (net ∷ nets) k)) (length nets) ∙ ap (λ (rest : List X). f net ++ rest) (by-place f nets)

abbrev pub units-in : Net → List Product
units-in net = unit_product net.width net.kind

abbrev pub combs-in : Net → List Product
combs-in net = comb_product net.width net.kind

pub products-are : (netlist : Circuit) → products_of netlist ≡ flat_map units-in netlist.nets ++ flat_map combs-in netlist.nets
products-are netlist = (let a = by-place units-in netlist.nets in let b = by-place combs-in netlist.nets in λ i. a i ++ b i)
