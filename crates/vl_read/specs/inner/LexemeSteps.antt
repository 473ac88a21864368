-- What one lexeme alone is, and where the plain reading goes on after it (own).
use Rattle.std.specs.Prelude.{ℕ, Bool, true, false, if◌then◌else◌, List, bytes_eq, Option, Some, None, option_and_then}
use Rattle.vl_ast.specs.declared.expressions.Sized.{Sized}
use Rattle.vl_read.specs.declared.scan.Kind.{Kind}
use Rattle.vl_read.specs.declared.scan.Kind.TheVariants.{Name, Count, Constant, Fixed}
use Rattle.vl_read.specs.inner.Places.{Place, Parser}
use Rattle.vl_read.specs.declared.places.Draft.{Draft}

-- a parser at a place
abbrev pub parser_at : Draft → Place → Parser
parser_at draft place = record { draft = draft; place = place }

-- on to a place
abbrev pub goes : Draft → Place → Option Parser
goes draft place = Some (parser_at draft place)

-- the lexeme is this word, and then a place is next
abbrev pub expect : List ℕ → List ℕ → Draft → Place → Option Parser
expect word lexeme draft place = if bytes_eq lexeme word then goes draft place else None

-- whether a lexeme is a name
abbrev pub is_name : Kind → Bool
is_name Name = true
is_name (Count number) = false
is_name (Constant number) = false
is_name Fixed = false

-- the one for a name, and the other for what is none
abbrev pub on_name : Kind → Option Parser → Option Parser → Option Parser
on_name kind named other = if is_name kind then named else other

-- the number, where it has no base
abbrev pub count_of : Kind → Option ℕ
count_of Name = None
count_of (Count number) = Some number
count_of (Constant number) = None
count_of Fixed = None

-- the number with its base
abbrev pub constant_of : Kind → Option Sized
constant_of Name = None
constant_of (Count number) = None
constant_of (Constant number) = Some number
constant_of Fixed = None

-- on with a number without base
abbrev pub on_number : Kind → (ℕ → Option Parser) → Option Parser
on_number kind numbered = option_and_then numbered (count_of kind)

-- on with a number with its base
abbrev pub on_based : Kind → (Sized → Option Parser) → Option Parser
on_based kind sized = option_and_then sized (constant_of kind)
