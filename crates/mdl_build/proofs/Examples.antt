-- Trees worked by hand: what their items are, which lines they have, and the faults of broken ones.
use Rattle.std.proofs.Common.{◌≡◌, ℕ, List, [], ◌∷◌, ◌++◌, ◌+◌, Some, None, refl}
use Rattle.std.specs.Prelude.{codes}
use Rattle.dg_model.specs.declared.fault.Shown.TheVariants.{Nothing, Word}
use Rattle.dg_model.specs.declared.nested.NestedLine.{NestedLine}
use Rattle.dg_model.specs.declared.nested.Target.{Target}
use Rattle.dg_model.specs.declared.rule.Rule.{Rule}
use Rattle.dg_model.specs.Faults.{fault_of}
use Rattle.mdl_text.specs.declared.tree.Item.{Item}
use Rattle.mdl_text.specs.declared.tree.Value.TheVariants.{Section, Bare, Quoted}
use Rattle.mdl_build.specs.Lines.{lines_of}
use Rattle.mdl_build.specs.Roles.{blocks_of}
use Rattle.mdl_build.specs.Rules.{structure_fault, library_fault}

abbrev section : ℕ → List ℕ → Item
section depth name = record { depth = depth; name = name; value = Section }

abbrev quoted : ℕ → List ℕ → List ℕ → Item
quoted depth name text = record { depth = depth; name = name; value = Quoted text }

abbrev bare : ℕ → List ℕ → List ℕ → Item
bare depth name text = record { depth = depth; name = name; value = Bare text }

-- a block of a type and a name at this depth, with further parameters
abbrev block : ℕ → List ℕ → List ℕ → List Item → List Item
block depth type name more = section depth (codes "Block") ∷ bare (depth + 1) (codes "BlockType") type ∷ quoted (depth + 1) (codes "Name") name ∷ more

-- a line between two blocks
abbrev line : ℕ → List ℕ → List ℕ → List Item
line depth from to = section depth (codes "Line") ∷ quoted (depth + 1) (codes "SrcBlock") from
    ∷ bare (depth + 1) (codes "SrcPort") (codes "1") ∷ quoted (depth + 1) (codes "DstBlock") to
    ∷ bare (depth + 1) (codes "DstPort") (codes "1") ∷ []

-- the model of one delay
abbrev one : List Item
one =
    section 0 (codes "Model") ∷ quoted 1 (codes "Name") (codes "one") ∷ section 1 (codes "System") ∷
    (block 2 (codes "Inport") (codes "u") (quoted 3 (codes "OutDataTypeStr") (codes "int8") ∷ [])
    ++ (block 2 (codes "UnitDelay") (codes "D") (quoted 3 (codes "InitialCondition") (codes "3") ∷ [])
    ++ (block 2 (codes "Outport") (codes "y") []
    ++ (line 2 (codes "u") (codes "D") ++ line 2 (codes "D") (codes "y")))))

one_blocks : blocks_of one ≡ 3 ∷ 7 ∷ 11 ∷ []
one_blocks = refl

abbrev joins : ℕ → ℕ → NestedLine
joins from to = record { from = from; from_port = 1; to = to; target = Target.Port 1 }

one_lines : lines_of one ≡ joins 0 1 ∷ joins 1 2 ∷ []
one_lines = refl

-- a block that is no filter stands for itself
abbrev three : List ℕ
three = 1 ∷ 1 ∷ 1 ∷ []

abbrev four : List ℕ
four = 1 ∷ three

one_is_structured : structure_fault three one ≡ None
one_is_structured = refl

one_is_known : library_fault one ≡ None
one_is_known = refl

-- an empty tree has no Model
none_breaks : structure_fault [] [] ≡ Some (fault_of Rule.Structure [] Nothing)
none_breaks = refl

-- two Models, and two Systems in one
two_models : structure_fault three (one ++ (section 0 (codes "Model") ∷ [])) ≡ Some (fault_of Rule.Structure [] Nothing)
two_models = refl

two_systems : structure_fault three (one ++ (section 1 (codes "System") ∷ [])) ≡ Some (fault_of Rule.Structure [] Nothing)
two_systems = refl

-- a block without a type is told by its name; so is the second of two with one name
no_type : structure_fault four (one ++ (section 2 (codes "Block") ∷ quoted 3 (codes "Name") (codes "a/b") ∷ [])) ≡ Some (fault_of Rule.Structure (codes "a//b") Nothing)
no_type = refl

no_name : structure_fault four (one ++ (section 2 (codes "Block") ∷ bare 3 (codes "BlockType") (codes "Ground") ∷ [])) ≡ Some (fault_of Rule.Structure [] Nothing)
no_name = refl

equal_names : structure_fault four (one ++ block 2 (codes "Ground") (codes "D") []) ≡ Some (fault_of Rule.Structure (codes "D") Nothing)
equal_names = refl

-- 20,000 blocks are few enough, where some of them are those that one stands for
most_blocks : structure_fault (1 ∷ 19998 ∷ 1 ∷ []) one ≡ None
most_blocks = refl

too_many_blocks : structure_fault (1 ∷ 19999 ∷ 1 ∷ []) one ≡ Some (fault_of Rule.Structure [] Nothing)
too_many_blocks = refl

-- a line to a name that isn't there
lost_line : structure_fault three (one ++ line 2 (codes "u") (codes "x")) ≡ Some (fault_of Rule.Structure [] Nothing)
lost_line = refl

-- a line without an end, and one without a source, break nothing and are no lines
open_line : structure_fault three (one ++ (section 2 (codes "Line") ∷ quoted 3 (codes "SrcBlock") (codes "u") ∷ [])) ≡ None
open_line = refl

open_line_none : lines_of (one ++ (section 2 (codes "Line") ∷ quoted 3 (codes "DstBlock") (codes "x") ∷ [])) ≡ joins 0 1 ∷ joins 1 2 ∷ []
open_line_none = refl

-- a block of an unknown type inside a subsystem
scope : library_fault (one ++ (block 2 (codes "SubSystem") (codes "S")
    (section 3 (codes "System") ∷ block 4 (codes "Scope") (codes "P") [])))
    ≡ Some (fault_of Rule.Library (codes "S/P") (Word (codes "Scope")))
scope = refl

-- a subsystem without a System
no_system : structure_fault four (one ++ block 2 (codes "SubSystem") (codes "S") []) ≡ Some (fault_of Rule.Structure (codes "S") Nothing)
no_system = refl
