-- The plain reading of a text, a line after another. What it gives is what the text stands for
-- (own).
use Prim.Native.Char.{code}
use Rattle.std.specs.Prelude.{ℕ, ◌+◌, ◌-◌, ◌≤◌, ◌==◌, ◌&&◌, Bool, List, [], ◌∷◌, ◌++◌, codes, Option, None, Some, option_and_then, length, take, drop, nat_lt, if◌then◌else◌}
use Rattle.std.specs.List.{list_all, prefix_len}
use Rattle.mdl_text.specs.declared.tree.Item.{Item}
use Rattle.mdl_text.specs.declared.tree.Value.{Value}
use Rattle.mdl_text.specs.declared.tree.Value.TheVariants.{Section, Bare, List as Brackets, Quoted}
use Rattle.mdl_text.specs.declared.strings.Place.{Place}
use Rattle.mdl_text.specs.declared.strings.Place.TheVariants.{Outside, Inside, Escaped}
use Rattle.mdl_text.specs.declared.brackets.Spot.{Spot}
use Rattle.mdl_text.specs.declared.brackets.ListEnd.{ListEnd}
use Rattle.mdl_text.specs.declared.brackets.ListEnd.TheVariants.{Closed, Open, Broken}
use Rattle.mdl_text.specs.declared.reader.Draft.{Draft}
use Rattle.mdl_text.specs.declared.reader.Pending.{Pending}
use Rattle.mdl_text.specs.declared.reader.Pending.TheVariants.{Nothing, Strings, Open as OpenList}
use Rattle.mdl_text.specs.declared.reader.Reader.{Reader}
use Rattle.mdl_text.specs.Bytes.{is_blank, is_name_byte}
use Rattle.fx_text.specs.Strings.{escaped}

-- the bytes from the first that is no blank
abbrev pub unblanked : List ℕ → List ℕ
unblanked [] = []
unblanked (byte ∷ bytes) = if is_blank byte then unblanked bytes else byte ∷ bytes

-- the bytes without the blanks at their end
abbrev pub trimmed : List ℕ → List ℕ
trimmed [] = []
trimmed (byte ∷ bytes) = if list_all is_blank (byte ∷ bytes) then [] else byte ∷ trimmed bytes

-- a byte of quoted strings, read in a place, after what was said so far
unfoldable pub string_step : Place → List ℕ → ℕ → Option (Place × List ℕ)
string_step Outside said byte =
    if byte == code "\"" then Some (Inside, said)
    else (if is_blank byte then Some (Outside, said) else None)
string_step Inside said byte =
    if byte == code "\"" then Some (Outside, said)
    else (if byte == code "\\" then Some (Escaped, said) else Some (Inside, said ++ byte ∷ []))
string_step Escaped said byte = Some (Inside, said ++ escaped byte)

-- what is said at the end of a line, which ends no string
abbrev pub ended : Place → List ℕ → Option (List ℕ)
ended Outside said = Some said
ended Inside said = None
ended Escaped said = None

-- the strings of a line, after what was said so far
abbrev pub strings : Place → List ℕ → List ℕ → Option (List ℕ)
strings place said [] = ended place said
strings place said (byte ∷ bytes) =
    option_and_then (λ next. strings next.0 next.1 bytes) (string_step place said byte)

-- the strings of a line from its first byte on
abbrev pub strings_from : List ℕ → List ℕ → Option (List ℕ)
strings_from said bytes = strings Outside said bytes

-- a spot in a list
abbrev pub spot_at : Place → ℕ → Spot
spot_at place nesting = record { place = place; nesting = nesting }

-- a byte of a list; none follows the bracket that closes it
abbrev pub spot_step_in : Place → ℕ → ℕ → Option Spot
spot_step_in Outside nesting byte =
    if byte == code "\"" then Some (spot_at Inside nesting)
    else (if byte == code "[" then Some (spot_at Outside (nesting + 1))
    else (if byte == code "]"
    then (if nesting == 0 then None else Some (spot_at Outside (nesting - 1)))
    else Some (spot_at Outside nesting)))
spot_step_in Inside nesting byte =
    if byte == code "\"" then Some (spot_at Outside nesting)
    else (if byte == code
    "\\" then Some (spot_at Escaped nesting) else Some (spot_at Inside nesting))
spot_step_in Escaped nesting byte = Some (spot_at Inside nesting)

-- `spot_step_in` of a spot
unfoldable pub spot_step : Spot → ℕ → Option Spot
spot_step spot byte = spot_step_in spot.place spot.nesting byte

-- how a list stands at the end of a line, by the place
abbrev pub line_end_in : Place → ℕ → ListEnd
line_end_in Outside nesting = Open nesting
line_end_in Inside nesting = Broken
line_end_in Escaped nesting = Broken

-- the same of a spot
abbrev pub line_end : Spot → ListEnd
line_end spot = line_end_in spot.place spot.nesting

-- closed after so many bytes, or on from the spot
abbrev pub or_else_closed : ℕ → (Spot → ListEnd) → Option Spot → ListEnd
or_else_closed taken go None = Closed taken
or_else_closed taken go (Some spot) = go spot

-- how a list goes on over the rest of a line, of which so many bytes were taken
abbrev pub list_end : Spot → ℕ → List ℕ → ListEnd
list_end spot taken [] = line_end spot
list_end spot taken (byte ∷ bytes) =
    or_else_closed (taken + 1) (λ next. list_end next (taken + 1) bytes) (spot_step spot byte)

-- at most so many bytes are taken, and at most so many brackets are open beside the first
abbrev pub IsWithin : ℕ → ℕ → ListEnd → Type 0
IsWithin count most (Closed taken) = taken ≤ count
IsWithin count most (Open nesting) = nesting ≤ most
IsWithin count most Broken = Unit {0}

-- how a list with so many brackets open beside the first goes on over a line
abbrev pub list_from : ℕ → List ℕ → ListEnd
list_from nesting line = list_end (spot_at Outside nesting) 0 line

-- the items with one more
abbrev pub added : Draft → List ℕ → Value → Draft
added draft name value =
    record {
      items = draft.items ++ record { depth = draft.depth; name = name; value = value } ∷ [];
      depth = draft.depth;
    }

-- a reader with nothing pending
abbrev pub free : Draft → Reader
free draft = record { draft = draft; pending = Nothing }

-- before the first line
abbrev pub start : Reader
start = free (record { items = []; depth = 0 })

-- no more brackets are open beside the first than bytes were read
abbrev pub IsBounded : Pending → Type 0
IsBounded Nothing = Unit {0}
IsBounded (Strings name said) = Unit {0}
IsBounded (OpenList name said nesting) = nesting ≤ length said

-- the draft with what is pending
abbrev pub reader_of : Draft → Option Pending → Option Reader
reader_of draft None = None
reader_of draft (Some pending) = Some (record { draft = draft; pending = pending })

-- the reader, where a text may go on so
abbrev pub goes_on : Bool → Reader → Option Reader
goes_on good reader = if good then Some reader else None

-- a quoted value, where the strings were read
abbrev pub pending_strings : List ℕ → Option (List ℕ) → Option Pending
pending_strings name None = None
pending_strings name (Some said) = Some (Strings name said)

-- a reader with a quoted value pending, where the strings were read
abbrev pub reader_strings : Draft → List ℕ → Option (List ℕ) → Option Reader
reader_strings draft name said = reader_of draft (pending_strings name said)

-- a section begins, of which the bytes after its brace are given
unfoldable pub opened : Draft → List ℕ → List ℕ → Option Reader
opened draft name after =
    if list_all is_blank after && nat_lt draft.depth 256
    then Some (free (record { items = (added draft name Section).items; depth = draft.depth + 1 }))
    else None

-- a section ends
unfoldable pub closed : Draft → List ℕ → Option Reader
closed draft after =
    if list_all is_blank after && nat_lt 0 draft.depth
    then Some (free (record { items = draft.items; depth = draft.depth - 1 }))
    else None

-- a list goes on as its end on this line tells
abbrev pub listed_by : Draft → List ℕ → List ℕ → List ℕ → ListEnd → Option Reader
listed_by draft name said line (Closed taken) =
    if list_all is_blank (drop taken line)
    then Some (free (added draft name (Brackets (said ++ take taken line)))) else None
listed_by draft name said line (Open nesting) =
    Some (record {
      draft = draft;
      pending = OpenList name (said ++ line ++ code "\n" ∷ []) nesting;
    })
listed_by draft name said line Broken = None

-- a list goes on over the line
unfoldable pub listed : Draft → List ℕ → List ℕ → ℕ → List ℕ → Option Reader
listed draft name said nesting line = listed_by draft name said line (list_from nesting line)

-- a parameter with a value, which begins with no blank
unfoldable pub valued : Draft → List ℕ → List ℕ → Option Reader
valued draft name [] = None
valued draft name (byte ∷ bytes) =
    if byte == code "\"" then reader_strings draft name (strings_from [] (byte ∷ bytes))
    else (if byte == code "[" then listed draft name (codes "[") 0 bytes
    else Some (free (added draft name (Bare (trimmed (byte ∷ bytes))))))

-- what follows a name, and the same from its first byte that is no blank
abbrev pub after_name : Draft → List ℕ → List ℕ → List ℕ → Option Reader
after_name draft name rest [] = Some (free (added draft name (Bare [])))
after_name draft name rest (byte ∷ bytes) =
    if byte == code "{" then opened draft name bytes
    else (if length rest == length (byte ∷ bytes) then None
    else valued draft name (byte ∷ bytes))

-- a line that begins with a name
unfoldable pub named : Draft → List ℕ → Option Reader
named draft text =
    let count = prefix_len is_name_byte text in
    if count == 0 then None
    else after_name draft (take count text) (drop count text) (unblanked (drop count text))

-- `fresh` from the first byte that is no blank
abbrev pub fresh_text : Draft → List ℕ → Option Reader
fresh_text draft [] = Some (free draft)
fresh_text draft (byte ∷ bytes) =
    if byte == code "#" then Some (free draft)
    else (if byte == code "}" then closed draft bytes
    else named draft (byte ∷ bytes))

-- a line that goes on with nothing
unfoldable pub fresh : Draft → List ℕ → Option Reader
fresh draft line = fresh_text draft (unblanked line)

-- the first byte is a quote
abbrev pub begins_with_quote : List ℕ → Bool
begins_with_quote [] = Bool.false
begins_with_quote (byte ∷ bytes) = byte == code "\""

-- the next line, by what is pending
abbrev pub step_in : Draft → Pending → List ℕ → Option Reader
step_in draft Nothing line = fresh draft line
step_in draft (Strings name said) line =
    if begins_with_quote (unblanked line)
    then reader_strings draft name (strings_from said (unblanked line))
    else fresh (added draft name (Quoted said)) line
step_in draft (OpenList name said nesting) line = listed draft name said nesting line

-- the next line
unfoldable pub step : Reader → List ℕ → Option Reader
step reader line = step_in reader.draft reader.pending line

-- the items, where every section is closed
abbrev pub if_closed : Draft → Option (List Item)
if_closed draft = if draft.depth == 0 then Some draft.items else None

-- the items at the end, by what is pending
abbrev pub finish_in : Draft → Pending → Option (List Item)
finish_in draft Nothing = if_closed draft
finish_in draft (Strings name said) = if_closed (added draft name (Quoted said))
finish_in draft (OpenList name said nesting) = None

-- the items at the end of the text
unfoldable pub finish : Reader → Option (List Item)
finish reader = finish_in reader.draft reader.pending

-- what the lines that are left make of what was read, which is the items of the whole text
abbrev pub run : Reader → List (List ℕ) → Option (List Item)
run reader [] = finish reader
run reader (line ∷ lines) = option_and_then (λ next. run next lines) (step reader line)
