-- The names of a module's ports (own).
use Prim.Native.Char.{code}
use Rattle.std.specs.Prelude.{◌≡◌, ◌⊎◌, ℕ, ◌^◌, ◌≤◌, ◌<◌, ◌==◌, ◌&&◌, not, nat_lt, nat_eq, Bool, true, false, if◌then◌else◌, List, [], ◌∷◌, ◌++◌, map, Contains, codes, ⊤}
use Rattle.std.specs.List.{starts_with}
use Rattle.std.specs.Fmt.{decimal}
use Rattle.vl_names.specs.Identifiers.{continues_name, is_identifier}
use Rattle.dg_model.specs.declared.diagram.Diagram.{Diagram}
use Rattle.dg_model.specs.Attributes.{attributes_of}
use Rattle.dg_model.specs.Faults.{path_of}
use Rattle.dg_model.specs.RootElements.{RootElement, root_inputs, root_outputs}
use Rattle.dg_model.specs.Wires.{width_into}

-- a name by the path in which it stands with each `/` twice: what follows a first `/` stands for
-- itself
abbrev pub undoubled : Bool → List ℕ → List ℕ
undoubled second [] = []
undoubled true (byte ∷ bytes) = byte ∷ undoubled false bytes
undoubled false (byte ∷ bytes) =
    let rest = undoubled (byte == code "/") bytes
    in if byte == code "/" then rest else byte ∷ rest

-- a byte that a name can have
abbrev pub plain_byte : ℕ → ℕ
plain_byte byte = if continues_name byte then byte else code "_"

-- the name of an element of a signal of this width
abbrev pub element_name : List ℕ → ℕ → ℕ → List ℕ
element_name name width element =
    if nat_lt 1 width then map plain_byte name ++ (codes "_" ++ decimal element)
    else map plain_byte name

-- a name that is none of a port gets `p_` in front
abbrev pub port_name : List ℕ → List ℕ
port_name name =
    if is_identifier name && not (starts_with nat_eq name (codes "fx_")) then name
    else codes "p_" ++ name

-- a name with a number; `fx` with one would be none of a port
abbrev pub numbered : List ℕ → ℕ → List ℕ
numbered name number = port_name (name ++ (codes "_" ++ decimal number))

-- a name with the least number from 2 on that makes it free
pub record IsNumbered (taken : List (List ℕ)) (wanted name : List ℕ) : Type 0 where
  pub number : ℕ
  pub above : 2 ≤ number
  pub small : number < 2 ^ 64
  pub is : name ≡ numbered wanted number
  pub least : (other : ℕ) → 2 ≤ other → other < number → Contains taken (numbered wanted other)

-- a free name is given: the one that is wanted, or where that is taken one with a number
pub record IsGiven (taken : List (List ℕ)) (wanted name : List ℕ) : Type 0 where
  pub free : ¬ Contains taken name
  pub is : (name ≡ wanted) ⊎ (Contains taken wanted × IsNumbered taken wanted name)

-- names are given one after another
abbrev pub Given : List (List ℕ) → List (List ℕ) → List (List ℕ) → Type 0
Given taken [] [] = ⊤
Given taken [] (name ∷ names) = ⊥
Given taken (wanted ∷ others) [] = ⊥
Given taken (wanted ∷ others) (name ∷ names) =
    IsGiven taken wanted name × Given (name ∷ taken) others names

-- the names that a module has itself
abbrev pub own_names : List (List ℕ)
own_names = codes "clk" ∷ codes "reset" ∷ codes "clk_enable" ∷ codes "ce_out" ∷ []

-- those that it has beside them, where it takes and gives samples by valid and ready
abbrev pub handshake_names : List (List ℕ)
handshake_names = codes "in_valid" ∷ codes "out_ready" ∷ codes "in_ready" ∷ codes "out_valid" ∷ []

-- the name that an element of a root port wants, by the path of its block and the width of its
-- signal
abbrev pub wanted_of : Diagram → (ℕ → ℕ) → RootElement → List ℕ
wanted_of diagram width_of e =
    port_name
    (element_name (undoubled false (path_of diagram e.block)) (width_of e.block) e.element)

-- those of the root inputs and then of the root outputs
abbrev pub wanted_names : Diagram → List (List ℕ)
wanted_names diagram =
    map (wanted_of diagram (λ block. (attributes_of diagram).width_at block 1))
    (root_inputs diagram (attributes_of diagram))
    ++ map (wanted_of diagram (λ block. width_into diagram (attributes_of diagram) block 1))
    (root_outputs diagram (attributes_of diagram))

-- the names of the ports of a diagram
pub record AreNames (diagram : Diagram) (names : List (List ℕ)) : Type 0 where
  pub given : Given own_names (wanted_names diagram) names

-- those of its ports in a module with valid and ready
pub record AreStreamNames (diagram : Diagram) (names : List (List ℕ)) : Type 0 where
  pub given : Given (handshake_names ++ own_names) (wanted_names diagram) names
