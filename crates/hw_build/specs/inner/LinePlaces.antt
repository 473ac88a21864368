-- Where nets stand once ends of blocks are offered theirs (own).
use Rattle.std.specs.Prelude.{ℕ, ◌==◌, ◌&&◌, List}
use Rattle.std.specs.List.{position_or_len}
use Rattle.dg_model.specs.declared.diagram.Diagram.{Diagram}
use Rattle.dg_model.specs.Attributes.{attributes_of}
use Rattle.dg_model.specs.RootElements.{root_inputs}
use Rattle.hw_build.specs.declared.operands.Operands.{Operands}
use Rattle.hw_build.specs.Places.{Places}
use Rattle.hw_build.specs.inner.HubPlaces.{hub_at}
use Rattle.hw_build.specs.inner.Operands.{offered_at, enabled_by, first_at}

-- the place of a root input's element in the order of columns
abbrev pub input_place : Diagram → ℕ → ℕ → ℕ
input_place diagram number element =
    position_or_len (λ e. (e.number == number) && (e.element == element))
    (root_inputs diagram (attributes_of diagram))

-- the places that are settled then, without those of elements
abbrev pub line_places : Diagram → List (List ℕ) → Operands → Places
line_places diagram firsts operands = record {
  input = input_place diagram;
  entry = λ block port element. 0;
  after = hub_at firsts;
  stage = λ block port element stage. 0;
  offered = offered_at diagram operands;
  enable = enabled_by operands;
  state = λ block element number. 0;
  first = first_at diagram;
  product = λ block element. 0;
}
