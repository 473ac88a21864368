-- The model of one delay with initial value 3, as text: the tree that it stands for, its blocks and lines, and its diagram, worked out by hand.
use Rattle.std.proofs.Common.{◌≡◌, ℕ, false, List, [], ◌∷◌, ◌++◌, map, Some, inl, inr, codes, refl}
use Rattle.std.proofs.Math.Dec.{lit<, lit≤}
use Rattle.fx_type.specs.declared.decimal.Decimal.{Decimal}
use Rattle.fx_type.specs.declared.spec.TypeSpec.TheVariants.{Fixed, Auto}
use Rattle.dg_model.specs.declared.diagram.Block.{Block}
use Rattle.dg_model.specs.declared.diagram.Diagram.{Diagram}
use Rattle.dg_model.specs.declared.diagram.PeriodSpec.TheVariants.{Inherit}
use Rattle.dg_model.specs.declared.kind.Kind.TheVariants.{Inport, Outport, Delay}
use Rattle.dg_model.specs.declared.nested.Nested.{Nested}
use Rattle.dg_model.specs.Wired.{StandsBefore}
use Rattle.mdl_text.specs.declared.tree.Item.{Item}
use Rattle.mdl_text.specs.declared.tree.Tree.{Tree}
use Rattle.mdl_text.specs.declared.tree.Value.TheVariants.{Quoted}
use Rattle.mdl_text.specs.Bytes.{is_blank, is_name_byte, lines_of as text_lines}
use Rattle.mdl_text.specs.inner.Plain.{string_step, opened, closed, listed, valued, named, fresh, step, finish, run, start}
use Rattle.mdl_text.specs.Stands.{Stands}
use Rattle.mdl_text.proofs.Sound.{reading_stands}
use Rattle.mdl_build.specs.declared.library.BlockType.TheVariants as block_type
use Rattle.mdl_build.specs.declared.settings.Setting.{Setting}
use Rattle.mdl_build.specs.declared.settings.Settings.{Settings}
use Rattle.mdl_build.specs.Blocks.{HasSettings}
use Rattle.mdl_build.specs.Nested.{IsNestedOf}
use Rattle.mdl_build.specs.Settings.{unset, unsaid, zero_decimal}
use Rattle.dg_flat.specs.Flat.{IsFlatOf}
use Rattle.dg_flat.specs.Rules.{AllNestedKeep, KeepsWiring, KeepsEnable}
use Rattle.math_list.proofs.ByRecursion.{each_of, pairs_of}
use Rattle.tests_premises.specs.Whole.{block_of, edge_of, int8}
use Rattle.tests_premises.proofs.Three.{section, bare, quoted, line_items, as_drawn, three_nested, three_wired, whole_number}

-- ---- the text, and the tree that it stands for

abbrev pub model_text : List ℕ
model_text =
    codes
    "Model {\n  Name \"one\"\n  System {\n    Block {\n      BlockType Inport\n      Name \"u\"\n      OutDataTypeStr \"int8\"\n    }\n    Block {\n      BlockType UnitDelay\n      Name \"D\"\n      InitialCondition \"3\"\n    }\n    Block {\n      BlockType Outport\n      Name \"y\"\n    }\n    Line {\n      SrcBlock \"u\"\n      SrcPort 1\n      DstBlock \"D\"\n      DstPort 1\n    }\n    Line {\n      SrcBlock \"D\"\n      SrcPort 1\n      DstBlock \"y\"\n      DstPort 1\n    }\n  }\n}\n"

abbrev blocks : List Item
blocks =
    section 2 (codes "Block") ∷ bare (codes "BlockType") (codes "Inport") ∷ quoted (codes "Name") (codes "u")
    ∷ quoted (codes "OutDataTypeStr") (codes "int8")
    ∷ section 2 (codes "Block") ∷ bare (codes "BlockType") (codes "UnitDelay") ∷ quoted (codes "Name") (codes "D")
    ∷ quoted (codes "InitialCondition") (codes "3")
    ∷ section 2 (codes "Block") ∷ bare (codes "BlockType") (codes "Outport") ∷ quoted (codes "Name") (codes "y") ∷ []

abbrev pub tree : Tree
tree = record {
  items = section 0 (codes "Model") ∷ record { depth = 1; name = codes "Name"; value = Quoted (codes "one") }
      ∷ section 1 (codes "System")
      ∷ (blocks ++ (line_items (codes "u") (codes "D") ++ line_items (codes "D") (codes "y")));
}

read : run start (text_lines model_text) ≡ Some tree.items
unfolding is_blank is_name_byte string_step opened closed listed valued named fresh step finish
read = refl

pub stands : Stands model_text tree
stands = reading_stands model_text tree.items read

-- ---- its blocks and lines

-- the initial value
abbrev initial : Decimal
initial = record zero_decimal { digits = 3; eighteen_digits = lit< tt }

abbrev pub three : List Decimal
three = initial ∷ []

-- what the parameters of each block say
abbrev in_settings : Settings
in_settings = record unset { said = record unsaid { number = 1; result = Fixed int8 } }

abbrev delay_settings : Settings
delay_settings = record unset { list = three }

abbrev out_settings : Settings
out_settings = record unset { said = record unsaid { number = 1 }; list = zero_decimal ∷ [] }

has_in : HasSettings tree.items block_type.Inport 3 in_settings
has_in = (
  Setting.Number 1,
  (1, record { some_digit = lit< tt; are_digits = refl; value = refl; in_range = (lit≤ tt, lit≤ tt) }, refl),
  (
    Setting.Result (Fixed int8),
    inr (int8, inl refl, refl),
    (
      Setting.Period Inherit,
      (Inherit, refl, refl),
      (
        Setting.Width 0,
        (0, refl, refl),
        refl,
      ),
    ),
  ),
)

has_delay : HasSettings tree.items block_type.UnitDelay 7 delay_settings
unfolding is_blank
has_delay = (
  Setting.List three,
  (
    three,
    record { texts = codes "3" ∷ []; are_elements = refl; read = (whole_number (codes "3") initial refl (lit≤ tt) refl refl (lit< tt) refl, tt); size = (lit≤ tt, lit≤ tt) },
    refl,
  ),
  (
    Setting.Period Inherit,
    (Inherit, refl, refl),
    refl,
  ),
)

has_out : HasSettings tree.items block_type.Outport 11 out_settings
has_out = (
  Setting.Number 1,
  (1, record { some_digit = lit< tt; are_digits = refl; value = refl; in_range = (lit≤ tt, lit≤ tt) }, refl),
  (
    Setting.Result Auto,
    inl (record { text_is = refl; setting_is = refl }),
    (
      Setting.Period Inherit,
      (Inherit, refl, refl),
      (
        Setting.Flag false,
        (false, refl, refl),
        (
          Setting.List (zero_decimal ∷ []),
          (zero_decimal ∷ [], inl (refl, refl), refl),
          refl,
        ),
      ),
    ),
  ),
)

-- an input of an int8, a delay and an output, with their paths
abbrev pub inport : List ℕ → Block
inport path = record (block_of path (Inport 1 0) 0 1) { result = Fixed int8 }

abbrev pub delay : List ℕ → Block
delay path = block_of path (Delay 1 three false) 1 1

abbrev pub outport : List ℕ → Block
outport path = block_of path (Outport 1) 1 0

abbrev pub nested : Nested
nested = three_nested (inport []) (delay []) (outport []) (codes "D")

pub is-nested : IsNestedOf tree nested
is-nested = record {
  extents = 1 ∷ 1 ∷ 1 ∷ [];
  are_extents = (refl, (refl, (refl, tt)));
  structured = refl;
  known = refl;
  drawn = map as_drawn nested.blocks;
  are_drawn = (
    record { block = record { name = refl; parent = refl; block_type = block_type.Inport; type_is = refl; settings = in_settings; has = has_in; part = refl }; filter = refl },
    (
      record { block = record { name = refl; parent = refl; block_type = block_type.UnitDelay; type_is = refl; settings = delay_settings; has = has_delay; part = refl }; filter = refl },
      (
        record { block = record { name = refl; parent = refl; block_type = block_type.Outport; type_is = refl; settings = out_settings; has = has_out; part = refl }; filter = refl },
        tt,
      ),
    ),
  );
  blocks = λ other. refl;
  lines = refl;
}

-- ---- the diagram

abbrev pub diagram : Diagram
diagram = record {
  blocks = inport (codes "u") ∷ delay (codes "D") ∷ outport (codes "y") ∷ [];
  edges = edge_of 0 1 ∷ edge_of 1 2 ∷ [];
}

pub is-flat : IsFlatOf nested diagram
is-flat = record {
  blocks = refl;
  edges = record { moves = []; below = tt; is = refl };
  ordered = pairs_of StandsBefore diagram.edges ((inl (lit< tt), tt), (tt, tt));
}

-- ---- the rules of wiring and of enabled subsystems

pub wiring : AllNestedKeep nested KeepsWiring
wiring = three_wired (inport []) (delay []) (outport []) (codes "D") refl refl

pub enables : AllNestedKeep nested KeepsEnable
enables = each_of (KeepsEnable nested) nested.blocks (tt, (tt, (tt, tt)))
