-- The tables of block types: each stands at its number, and a name has the type beside it.
use Rattle.std.proofs.Common.{◌≡◌, ℕ, ◌<◌, Bool, true, false, cond, List, [], ◌∷◌, length, map, get_or, Option, Some, refl, sym, ap, ◌∙◌, arith}
use Rattle.std.specs.Prelude.{bytes_eq, find, slice_get, option_map}
use Rattle.std.proofs.lemmas.List.{length-map}
use Rattle.std.proofs.lemmas.Option.{same_Some, slice_get-map, slice_get-get_or, slice_get_within}
use Rattle.std.proofs.lemmas.Slice.Eq.{bytes_eq-Decides}
use Rattle.mdl_build.specs.declared.library.BlockType.{BlockType}
use Rattle.mdl_build.specs.declared.library.BlockType.TheVariants.{Inport, Outport, Constant, Ground, Terminator, Sum, Gain, Product, UnitDelay, Delay, Switch, RelationalOperator, Logic}
use Rattle.mdl_build.specs.declared.library.BlockType.TheVariants.{DataTypeConversion, Mux, Demux, RateTransition, SubSystem, EnablePort, DiscreteFir}
use Rattle.mdl_build.specs.Library.{block_types, number_of, type_name}
use Rattle.mdl_values.specs.Words.{value_beside}

type_here : (block_type : BlockType) → slice_get block_types (number_of block_type) ≡ Some block_type
type_here Inport = refl
type_here Outport = refl
type_here Constant = refl
type_here Ground = refl
type_here Terminator = refl
type_here Sum = refl
type_here Gain = refl
type_here Product = refl
type_here UnitDelay = refl
type_here Delay = refl
type_here Switch = refl
type_here RelationalOperator = refl
type_here Logic = refl
type_here DataTypeConversion = refl
type_here Mux = refl
type_here Demux = refl
type_here RateTransition = refl
type_here SubSystem = refl
type_here EnablePort = refl
type_here DiscreteFir = refl

-- what a table has of a type at its number, where it has it of all of them
module _ {V W : Type 0} (view : V → W) (f : BlockType → W) (table : List V) (all : map view table ≡ map f block_types) (block_type : BlockType) (number : ℕ) (is : number ≡ number_of block_type) where
  there : slice_get block_types number ≡ Some block_type
  there = ap (slice_get block_types) is ∙ type_here block_type

  pub number_below : number < length table
  number_below =
      let long : length table ≡ length block_types = sym (length-map table view) ∙ ap length all ∙ length-map block_types f in
      omega (arith, slice_get_within block_types number block_type there, long)

  pub at_number : (d : V) → view (get_or table number d) ≡ f block_type
  at_number d =
      same_Some (view (get_or table number d)) (f block_type)
      (sym (slice_get-map view table number ∙ ap (option_map view) (slice_get-get_or table number d number_below))
      ∙ ap (λ (list : List W). slice_get list number) all
      ∙ slice_get-map f block_types number ∙ ap (option_map f) there)

-- two texts are equal either way
swapped : (a b : List ℕ) → bytes_eq a b ≡ bytes_eq b a
swapped a b = by (bytes_eq a b) refl (bytes_eq b a) refl
  where
    by : (x : Bool) → bytes_eq a b ≡ x → (y : Bool) → bytes_eq b a ≡ y → x ≡ y
    by true one true other = refl
    by true one false other = sym ((bytes_eq-Decides b a).1 (sym ((bytes_eq-Decides a b).0 one))) ∙ other
    by false one true other = sym one ∙ (bytes_eq-Decides a b).1 (sym ((bytes_eq-Decides b a).0 other))
    by false one false other = refl

-- the type beside a name is the first that has it
pub beside_name : (types : List BlockType) (name : List ℕ) → value_beside (map (λ (t : BlockType). (type_name t, t)) types) name ≡ find (λ t. bytes_eq (type_name t) name) types
beside_name [] name = refl
beside_name (t ∷ types) name =
    ap (λ (b : Bool). cond b (Some t) (value_beside (map (λ (t : BlockType). (type_name t, t)) types) name)) (swapped name (type_name t))
    ∙ ap (λ (rest : Option BlockType). cond (bytes_eq (type_name t) name) (Some t) rest) (beside_name types name)
