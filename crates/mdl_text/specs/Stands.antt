-- Which tree a text stands for (own).
use Rattle.std.specs.Prelude.{◌≡◌, ℕ, zero, suc, ◌<◌, List, [], ◌∷◌, ◌⊎◌}
use Rattle.std.specs.List.{flat_map, AllByRecursion}
use Rattle.mdl_text.specs.declared.tree.Tree.{Tree}
use Rattle.mdl_text.specs.declared.tree.Item.{Item}
use Rattle.mdl_text.specs.declared.tree.Value.{Value}
use Rattle.mdl_text.specs.declared.tree.Value.TheVariants.{Section, Bare, List as Brackets, Quoted}
use Rattle.mdl_text.specs.Bytes.{AreBlanks, lines_of}
use Rattle.mdl_text.specs.Lines.{IsComment, StartsSection, EndsSection, IsEmptyParameter, IsBareParameter, IsQuotedParameter, IsListParameter}

-- what a line, or the lines of one parameter, say: nothing (a blank line or a comment), a section
-- or a parameter that begins, or the end of a section
pub data Says : Type 0 where
  Nothing : Says
  Entry : (name : List ℕ) → Value → Says
  End : Says

-- some lines of the text, and what they say
pub record Part : Type 0 where
  pub lines : List (List ℕ)
  pub says : Says

-- the lines are one line, for which the fact holds
abbrev pub OneLine : List (List ℕ) → (List ℕ → Type 0) → Type 0
OneLine lines P = (line : List ℕ) × (lines ≡ line ∷ []) × P line

-- the lines have the form of what they say
abbrev pub HasForm : List (List ℕ) → Says → Type 0
HasForm lines Nothing = OneLine lines (λ line. AreBlanks line ⊎ IsComment line)
HasForm lines End = OneLine lines EndsSection
HasForm lines (Entry name Section) = OneLine lines (λ line. StartsSection line name)
HasForm lines (Entry name (Bare value)) = OneLine lines
    (λ line. (IsEmptyParameter line name × (value ≡ [])) ⊎ IsBareParameter line name value)
HasForm lines (Entry name (Quoted value)) = IsQuotedParameter lines name value
HasForm lines (Entry name (Brackets value)) = IsListParameter lines name value

-- What the parts say, in a place that so many sections hold, are these items, and every section is
-- closed at the end. Sections nest at most 256 deep.
abbrev pub Builds : ℕ → List Says → List Item → Type 0
Builds depth [] items = (depth ≡ 0) × (items ≡ [])
Builds depth (Nothing ∷ more) items = Builds depth more items
Builds zero (End ∷ more) items = ⊥
Builds (suc depth) (End ∷ more) items = Builds depth more items
Builds depth (Entry name Section ∷ more) items =
    (rest : List Item) × (items ≡ record { depth = depth; name = name; value = Section } ∷ rest)
    × (depth < 256) × Builds (suc depth) more rest
Builds depth (Entry name value ∷ more) items =
    (rest : List Item) × (items ≡ record { depth = depth; name = name; value = value } ∷ rest)
    × Builds depth more rest

-- the bytes stand for the tree
pub record Stands (bytes : List ℕ) (tree : Tree) : Type 0 where
  pub parts : List Part
  pub each : AllByRecursion (λ part. HasForm part.lines part.says) parts
  pub whole : lines_of bytes ≡ flat_map (λ part. part.lines) parts
  pub builds : Builds 0 (flat_map (λ part. part.says ∷ []) parts) tree.items
