-- The elements of root ports on the two sides of a module, and the names that they are given (own).
use Rattle.std.specs.Prelude.{◌≡◌, ℕ, List, ◌++◌, ◌∷◌, [], false, map, take, Option}
use Rattle.dg_model.specs.declared.diagram.Diagram.{Diagram}
use Rattle.dg_model.specs.Attributes.{attributes_of}
use Rattle.dg_model.specs.declared.row.Role.{Role}
use Rattle.dg_model.specs.RootElements.{RootElement, root_elements}
use Rattle.dg_model.specs.Wired.{root_input, root_output}
use Rattle.dg_model.specs.Wires.{width_into}
use Rattle.hw_names.specs.declared.giving.Side.{Side}
use Rattle.hw_names.specs.declared.giving.Side.TheVariants.{Inputs, Outputs}
use Rattle.hw_names.specs.declared.names.Names.{Names}
use Rattle.hw_names.specs.Names.{Given, IsGiven, element_name, port_name, undoubled, wanted_of}
use Rattle.hw_names.specs.Taken.{AreTaken, taken_by}

-- the number of a port on this side
abbrev pub number_on : Side → Role → Option ℕ
number_on Inputs role = root_input role
number_on Outputs role = root_output role

-- the width of a port's signal
abbrev pub width_on : Side → Diagram → ℕ → ℕ
width_on Inputs diagram block = (attributes_of diagram).width_at block 1
width_on Outputs diagram block = width_into diagram (attributes_of diagram) block 1

-- the elements in order
abbrev pub elements_on : Side → Diagram → List RootElement
elements_on side diagram =
    root_elements (number_on side) (width_on side diagram) diagram (attributes_of diagram)

-- the names that they want
abbrev pub wanted_on : Side → Diagram → List (List ℕ)
wanted_on side diagram = map (wanted_of diagram (width_on side diagram)) (elements_on side diagram)

-- the name that an element wants, by the path of its block and the width of the signal
abbrev pub name_wanted : List ℕ → ℕ → ℕ → List ℕ
name_wanted path width element = port_name (element_name (undoubled false path) width element)

-- a name more, for what wants this one
pub record AddsName (wanted : List ℕ) (old new : Names)
    (earlier later : List (List ℕ)) : Type 0 where
  pub name : List ℕ
  pub is : later ≡ earlier ++ name ∷ []
  pub given : (list : List (List ℕ)) → AreTaken old list → IsGiven list wanted name
      × AreTaken new (name ∷ list)

-- the first so many of them are given names behind those that were given before
pub record AddsNames (diagram : Diagram) (side : Side) (old new : Names)
    (earlier later : List (List ℕ)) (count : ℕ) : Type 0 where
  pub added : (list wanted : List (List ℕ)) → AreTaken old (taken_by list earlier)
      → Given list wanted earlier
      → Given list (wanted ++ take count (wanted_on side diagram)) later
      × AreTaken new (taken_by list later)
