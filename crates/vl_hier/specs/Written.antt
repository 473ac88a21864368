-- The one written text of a design: its modules one after another, and last the top, whose instances
-- stand behind its items, one on a line (own; the tokens are those of IEEE 1364-2005).
use Rattle.std.specs.Prelude.{◌≡◌, ℕ, List, [], ◌++◌, map, flat_map, codes, Result, Ok, Err, ⊤}
use Rattle.vl_ast.specs.declared.designs.Instance.{Instance}
use Rattle.vl_ast.specs.declared.designs.Link.{Link}
use Rattle.vl_ast.specs.declared.modules.Module.{Module}
use Rattle.vl_ast.specs.Spelling.{attrs_text, item_text, joined, port_text, spelling}
use Rattle.vl_read.specs.declared.design.Design.{Design}
use Rattle.vl_hier.specs.declared.refusal.HierFault.{HierFault}
use Rattle.vl_hier.specs.declared.refusal.HierFault.TheVariants.{Syntax, Link as Unlinked, OutOfMemory}
use Rattle.vl_hier.specs.Linked.{IsParted}

-- the text of a link
abbrev pub link_text : Link → List ℕ
link_text link = codes "." ++ link.port ++ codes "(" ++ link.net ++ codes ")"

-- the line of an instance
abbrev pub instance_text : Instance → List ℕ
instance_text i =
    i.of ++ codes " " ++ i.name ++ codes " (" ++ joined (codes ", ") (map link_text i.links)
    ++ codes ");\n"

-- a module's text before its last line
abbrev pub open_spelling : Module → List ℕ
open_spelling m =
    attrs_text [] m.attrs ++ codes "module " ++ m.name
    ++ codes " (\n" ++ joined (codes ",\n") (map port_text m.ports)
    ++ codes "\n);\n" ++ flat_map item_text m.items

-- the text of a top with these instances
abbrev pub top_spelling : Module → List Instance → List ℕ
top_spelling top instances =
    open_spelling top ++ flat_map instance_text instances ++ codes "endmodule\n"

-- the text is that of the design
abbrev pub IsDesignSpelling : Design → List ℕ → Type 0
IsDesignSpelling design text =
    (below : List Module) × (top : Module) × IsParted design below top
    × (text ≡ flat_map spelling below ++ top_spelling top design.instances)

-- the answer is this design, or want of memory
abbrev pub IsReadBack : Result Design HierFault → Design → Type 0
IsReadBack (Ok read) design = read ≡ design
IsReadBack (Err (Syntax line)) design = ⊥
IsReadBack (Err (Unlinked name)) design = ⊥
IsReadBack (Err OutOfMemory) design = ⊤
