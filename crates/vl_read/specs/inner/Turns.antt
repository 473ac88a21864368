-- Where the reading is after a byte, and the lexeme that a byte goes on with (own).
use Prim.Native.Char.{code}
use Rattle.std.specs.Prelude.{◌≡◌, ℕ, ◌+◌, ◌-◌, ◌<◌, ◌==◌, Bool, true, false, if◌then◌else◌, ⊤, List, [], ◌∷◌, get_or, take, drop, count_by, Option, Some, None, option_and_then}
use Rattle.vl_read.specs.declared.design.Design.{Design}
use Rattle.vl_read.specs.declared.scan.ByteClass.{ByteClass}
use Rattle.vl_read.specs.declared.scan.ByteClass.TheVariants.{OfWord, OfBlank, OfComment, OfMark, OfNone}
use Rattle.vl_read.specs.declared.scan.Mode.{Mode}
use Rattle.vl_read.specs.declared.scan.Mode.TheVariants.{Between, Word, Mark, Slash, LineComment, BlockComment, Star}
use Rattle.vl_read.specs.inner.Places.{Parser}
use Rattle.vl_read.specs.inner.Lexemes.{class_of, continues, lexemes_from}
use Rattle.vl_read.specs.inner.Designs.{Sketch, sketch_step, parse_design}
use Rattle.vl_read.specs.inner.Plain.{step}

-- after a byte outside of comments that goes on with no lexeme
abbrev pub mode_by : ByteClass → Option Mode
mode_by OfWord = Some Word
mode_by OfBlank = Some Between
mode_by OfComment = Some Slash
mode_by OfMark = Some Mark
mode_by OfNone = None

-- after a byte that goes on with no lexeme
abbrev pub mode_after : Mode → ℕ → Option Mode
mode_after Between byte = mode_by (class_of byte)
mode_after Word byte = mode_by (class_of byte)
mode_after Mark byte = mode_by (class_of byte)
mode_after Slash byte =
    if byte == code "/" then Some LineComment
    else (if byte == code "*" then Some BlockComment else None)
mode_after LineComment byte = if byte == code "\n" then Some Between else Some LineComment
mode_after BlockComment byte = if byte == code "*" then Some Star else Some BlockComment
mode_after Star byte =
    if byte == code "/" then Some Between
    else (if byte == code "*" then Some Star else Some BlockComment)

-- neither in a word nor in a mark
abbrev pub IsBeyond : Mode → Type 0
IsBeyond Word = ⊥
IsBeyond Mark = ⊥
IsBeyond mode = ⊤

-- in a word or a mark
abbrev pub IsWithin : Mode → Type 0
IsWithin Word = ⊤
IsWithin Mark = ⊤
IsWithin mode = ⊥

-- the bytes from one place to another
abbrev pub between : ℕ → ℕ → List ℕ → List ℕ
between start end bytes = take (end - start) (drop start bytes)

-- whether the byte at a place goes on with the lexeme that begins at another
abbrev pub goes_on_at : Mode → List ℕ → ℕ → ℕ → Bool
goes_on_at mode bytes start place =
    continues mode (class_of (get_or bytes place 0)) (between start place bytes)
    (get_or bytes place 0)

-- each byte after a place and before another goes on with the lexeme that begins at the first
abbrev pub GoOn : Mode → List ℕ → ℕ → ℕ → Type 0
GoOn mode bytes start end =
    (place : ℕ) → start < place → place < end → goes_on_at mode bytes start place ≡ true

-- the state after some lexemes, by what one does
abbrev pub feed_by : {S : Type 0} → (S → List ℕ → Option S) → S → List (List ℕ) → Option S
feed_by step state [] = Some state
feed_by step state (lexeme ∷ lexemes) =
    option_and_then (λ next. feed_by step next lexemes) (step state lexeme)

-- the parser after some lexemes
abbrev pub feed : Parser → List (List ℕ) → Option Parser
feed = feed_by step

-- the sketch after them
abbrev pub gather : Sketch → List (List ℕ) → Option Sketch
gather = feed_by sketch_step

-- what the bytes that are left make of what was read
abbrev pub ahead : Sketch → Mode → List ℕ → List ℕ → Option Design
ahead sketch mode lexeme bytes =
    option_and_then (parse_design sketch) (lexemes_from mode lexeme bytes)

-- the parser, where the reading goes on
abbrev pub stepped : Bool → Parser → Option Parser
stepped true parser = Some parser
stepped false parser = None

abbrev pub is_newline : ℕ → Bool
is_newline byte = byte == code "\n"

-- the line at the end of the bytes, counted from 1
abbrev pub line_at : List ℕ → ℕ
line_at bytes = 1 + count_by is_newline bytes
