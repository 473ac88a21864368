-- The grammar of a module in which others stand (IEEE 1364-2005, 12.1.2 and 12.3.6, of which the
-- subset keeps links by name alone).
use Rattle.std.specs.Prelude.{◌≡◌, ◌≢◌, List, [], ◌∷◌, ◌++◌, map, flat_map, Contains, codes}
use Rattle.std.specs.List.{AllZip}
use Rattle.vl_ast.specs.declared.designs.Instance.{Instance}
use Rattle.vl_ast.specs.declared.designs.Link.{Link}
use Rattle.vl_ast.specs.declared.modules.Module.{Module}
use Rattle.vl_ast.specs.Grammar.{IsItemText, IsPortText, attrs_tokens, comma}
use Rattle.vl_ast.specs.Spelling.{joined}
use Rattle.vl_ast.specs.Tokens.{Token, Key, Sign, Identifier}

-- link = "." id "(" id ")"
abbrev pub link_tokens : Link → List Token
link_tokens link =
    Sign (codes ".") ∷ Identifier link.port ∷ Sign (codes "(") ∷ Identifier link.net
    ∷ Sign (codes ")") ∷ []

-- instance = id id "(" link {"," link} ")" ";"
abbrev pub instance_tokens : Instance → List Token
instance_tokens instance =
    Identifier instance.of ∷ Identifier instance.name ∷ Sign (codes "(")
    ∷ (joined comma (map link_tokens instance.links) ++ Sign (codes ")") ∷ Sign (codes ";") ∷ [])

-- what stands between the ports of a module and its end: the tokens of an item, or of an instance
pub data BodyPart : Type 0 where
  OfItem : List Token → BodyPart
  OfInstance : List Token → BodyPart

-- the tokens of a part
abbrev pub part_tokens : BodyPart → List Token
part_tokens (OfItem tokens) = tokens
part_tokens (OfInstance tokens) = tokens

-- those of the items alone, in their order
abbrev pub item_parts : List BodyPart → List (List Token)
item_parts [] = []
item_parts (OfItem tokens ∷ parts) = tokens ∷ item_parts parts
item_parts (OfInstance tokens ∷ parts) = item_parts parts

-- those of the instances alone, in their order
abbrev pub instance_parts : List BodyPart → List (List Token)
instance_parts [] = []
instance_parts (OfItem tokens ∷ parts) = instance_parts parts
instance_parts (OfInstance tokens ∷ parts) = tokens ∷ instance_parts parts

-- a module as in the grammar of one alone, but that instances stand among its items
pub record IsTopText (m : Module) (instances : List Instance) (tokens : List Token) : Type 0 where
  pub ports : List (List Token)
  pub parts : List BodyPart
  pub has_port : m.ports ≢ []
  pub has_link : (i : Instance) → Contains instances i → i.links ≢ []
  pub each_port : AllZip IsPortText m.ports ports
  pub each_item : AllZip IsItemText m.items (item_parts parts)
  pub each_instance : instance_parts parts ≡ map instance_tokens instances
  pub text : tokens ≡ attrs_tokens m.attrs ++
      (Key (codes "module") ∷ Identifier m.name
      ∷ Sign (codes "(")
      ∷ (joined comma ports ++ (Sign (codes ")") ∷ Sign (codes ";")
      ∷ (flat_map part_tokens parts ++ Key (codes "endmodule") ∷ []))))
