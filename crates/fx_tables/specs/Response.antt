-- The text of a response (own).
use Prim.Native.Char.{code}
use Rattle.std.specs.Prelude.{ℕ, zero, suc, ℤ, Bool, List, [], ◌∷◌, ◌++◌, if◌then◌else◌}
use Rattle.std.specs.List.{join_with_byte}
use Rattle.std.specs.Fmt.{signed_decimal}
use Rattle.fx_tables.specs.Stimulus.{hits_at}

-- the number at a hit, and elsewhere `-`
abbrev pub text_of_field : Bool → ℤ → List ℕ
text_of_field hit value = if hit then signed_decimal value else code "-" ∷ []

-- the fields of a line, under the periods of the columns
abbrev pub response_fields : ℕ → List ℕ → List ℤ → List (List ℕ)
response_fields sample [] values = []
response_fields sample (period ∷ periods) [] = []
response_fields sample (period ∷ periods) (value ∷ values) =
    text_of_field (hits_at period sample) value ∷ response_fields sample periods values

-- the line of a sample: its fields with one space between, and a newline
abbrev pub response_line : List ℕ → ℕ → List ℤ → List ℕ
response_line periods sample values =
    join_with_byte (code " ") (response_fields sample periods values) ++ code "\n" ∷ []

-- the lines of the first `samples` samples, where `row` gives the values of each
abbrev pub response : List ℕ → (ℕ → List ℤ) → ℕ → List ℕ
response periods row zero = []
response periods row (suc samples) =
    response periods row samples ++ response_line periods samples (row samples)
