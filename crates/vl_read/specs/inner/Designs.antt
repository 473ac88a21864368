-- The plain reading of a module alone, or of modules one after another with instances in the last
-- (own).
use Rattle.std.specs.Prelude.{◌≡◌, ℕ, ◌-◌, nat_lt, Bool, true, false, if◌then◌else◌, List, [], ◌∷◌, ◌++◌, length, bytes_eq, codes, Option, Some, None, option_map, option_and_then}
use Rattle.vl_ast.specs.declared.designs.Instance.{Instance}
use Rattle.vl_ast.specs.declared.modules.Module.{Module}
use Rattle.vl_read.specs.declared.design.Design.{Design}
use Rattle.vl_read.specs.declared.designer.Scope.{Scope}
use Rattle.vl_read.specs.declared.designer.Scope.TheVariants.{Alone, Together}
use Rattle.vl_read.specs.declared.places.Draft.{Draft}
use Rattle.vl_read.specs.declared.scan.Kind.{Kind}
use Rattle.vl_read.specs.declared.scan.Mode.TheVariants.{Between}
use Rattle.vl_read.specs.inner.LexemeSteps.{is_name, parser_at}
use Rattle.vl_read.specs.inner.Lexemes.{kind_of, lexemes_from}
use Rattle.vl_read.specs.inner.Places.{Parser, Place}
use Rattle.vl_read.specs.inner.Places.Place.{Items, Done}
use Rattle.vl_read.specs.inner.Plain.{finish, start, step}

-- where in an instance the reading is, with what was read of it
pub data Joint : Type 0 where
  -- in none
  Outside : Joint
  -- its name is next, after that of its module
  Named : List ℕ → Joint
  -- `(` is next, and then a link
  Opened : Instance → Joint
  -- `.` is next
  Dotted : Instance → Joint
  -- a port is next
  Ported : Instance → Joint
  -- `(` is next, and then the net, after a port
  Begun : Instance → List ℕ → Joint
  -- a net is next
  Linked : Instance → List ℕ → Joint
  -- `)` is next, which ends a link
  Ended : Instance → Joint
  -- `,` or `)` is next
  More : Instance → Joint
  -- `;` is next, which ends the instance
  Closed : Instance → Joint

-- what the lexemes so far say
pub record Sketch : Type 0 where
  pub scope : Scope
  -- the modules that are read whole
  pub below : List Module
  -- the instances in the module that is being read
  pub instances : List Instance
  pub joint : Joint
  pub parser : Parser

-- on with the module
abbrev pub with_parser : Sketch → Option Parser → Option Sketch
with_parser sketch next = option_map (λ parser. record sketch { parser = parser }) next

-- on to a joint
abbrev pub joined : Sketch → Joint → Option Sketch
joined sketch joint = Some (record sketch { joint = joint })

-- the lexeme is this mark, and then a joint is next
abbrev pub expect_joint : List ℕ → List ℕ → Sketch → Joint → Option Sketch
expect_joint mark lexeme sketch joint =
    if bytes_eq lexeme mark then joined sketch joint else None

-- it is a name, and then a joint is next
abbrev pub name_joint : Kind → Sketch → Joint → Option Sketch
name_joint kind sketch joint = if is_name kind then joined sketch joint else None

-- an instance with one more link
abbrev pub with_link : Instance → List ℕ → List ℕ → Instance
with_link i port net =
    record i { links = i.links ++ record { port = port; net = net } ∷ [] }

-- the next lexeme in an instance
unfoldable pub inside_step : Sketch → Joint → Kind → List ℕ → Option Sketch
inside_step sketch Outside kind lexeme = None
inside_step sketch (Named of) kind lexeme =
    name_joint kind sketch (Opened (record { of = of; name = lexeme; links = [] }))
inside_step sketch (Opened i) kind lexeme = expect_joint (codes "(") lexeme sketch (Dotted i)
inside_step sketch (Dotted i) kind lexeme = expect_joint (codes ".") lexeme sketch (Ported i)
inside_step sketch (Ported i) kind lexeme = name_joint kind sketch (Begun i lexeme)
inside_step sketch (Begun i port) kind lexeme =
    expect_joint (codes "(") lexeme sketch (Linked i port)
inside_step sketch (Linked i port) kind lexeme =
    name_joint kind sketch (Ended (with_link i port lexeme))
inside_step sketch (Ended i) kind lexeme = expect_joint (codes ")") lexeme sketch (More i)
inside_step sketch (More i) kind lexeme =
    if bytes_eq lexeme (codes ",") then joined sketch (Dotted i)
    else expect_joint (codes ")") lexeme sketch (Closed i)
inside_step sketch (Closed i) kind lexeme =
    if bytes_eq lexeme (codes ";")
    then joined (record sketch { instances = sketch.instances ++ i ∷ [] }) Outside else None

-- an instance begins, which takes the room of an item
unfoldable pub begin_instance : Sketch → Draft → List ℕ → Option Sketch
begin_instance sketch draft lexeme =
    if nat_lt (length draft.items) draft.most
    then joined (record sketch { parser = parser_at (record draft { most = draft.most - 1 }) Items })
    (Named lexeme) else None

-- the module of a draft
abbrev pub module_of : Draft → Module
module_of draft =
    record { name = draft.name; attrs = draft.attrs; ports = draft.ports; items = draft.items }

-- the module is read whole, and the next begins with what is left of the room
abbrev pub over_next : Sketch → Draft → Sketch
over_next sketch draft =
    record sketch {
      below = sketch.below ++ module_of draft ∷ [];
      parser = start (draft.most - length draft.items);
    }

-- whether there is none
abbrev pub has_no : List Instance → Bool
has_no [] = true
has_no (i ∷ instances) = false

-- the next lexeme of the module
abbrev pub module_step : Sketch → List ℕ → Option Sketch
module_step sketch lexeme = with_parser sketch (step sketch.parser lexeme)

-- the next lexeme in no instance
unfoldable pub outside_step : Sketch → Place → Kind → List ℕ → Option Sketch
outside_step sketch Items kind lexeme =
    if is_name kind then begin_instance sketch sketch.parser.draft lexeme
    else module_step sketch lexeme
outside_step sketch Done kind lexeme =
    if has_no sketch.instances then module_step (over_next sketch sketch.parser.draft) lexeme
    else None
outside_step sketch place kind lexeme = module_step sketch lexeme

-- the next lexeme of modules one after another
abbrev pub together_step : Sketch → Joint → Kind → List ℕ → Option Sketch
together_step sketch Outside kind lexeme = outside_step sketch sketch.parser.place kind lexeme
together_step sketch joint kind lexeme = inside_step sketch joint kind lexeme

-- the next lexeme
abbrev pub scoped_step : Scope → Sketch → List ℕ → Option Sketch
scoped_step Alone sketch lexeme = module_step sketch lexeme
scoped_step Together sketch lexeme = together_step sketch sketch.joint (kind_of lexeme) lexeme

unfoldable pub sketch_step : Sketch → List ℕ → Option Sketch
sketch_step sketch lexeme = scoped_step sketch.scope sketch lexeme

-- the modules with one behind them, and the instances
abbrev pub design_with : Sketch → Module → Design
design_with sketch m =
    record { modules = sketch.below ++ m ∷ []; instances = sketch.instances }

-- the design, outside of instances
abbrev pub finish_at : Sketch → Joint → Option Design
finish_at sketch Outside = option_map (design_with sketch) (finish sketch.parser)
finish_at sketch joint = None

-- the design, where it is read whole
abbrev pub finish_design : Sketch → Option Design
finish_design sketch = finish_at sketch sketch.joint

-- what the lexemes that are left make of what was read
abbrev pub parse_design : Sketch → List (List ℕ) → Option Design
parse_design sketch [] = finish_design sketch
parse_design sketch (lexeme ∷ lexemes) =
    option_and_then (λ next. parse_design next lexemes) (sketch_step sketch lexeme)

-- before the first lexeme of a text of at most so many items
abbrev pub first_sketch : Scope → ℕ → Sketch
first_sketch scope most =
    record { scope = scope; below = []; instances = []; joint = Outside; parser = start most }

-- the design of the bytes, of at most so many items
abbrev pub design_reading : Scope → ℕ → List ℕ → Option Design
design_reading scope most bytes =
    option_and_then (parse_design (first_sketch scope most)) (lexemes_from Between [] bytes)
