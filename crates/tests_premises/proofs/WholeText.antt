-- The text of the whole model: the tree that it stands for, its blocks and lines, and its diagram.
use Rattle.std.proofs.Common.{◌≡◌, false, List, [], ◌∷◌, ◌++◌, map, Some, inl, inr, codes, refl}
use Rattle.std.proofs.Math.Dec.{lit<, lit≤}
use Rattle.fx_type.specs.declared.rounding.Rounding.TheVariants.{Floor}
use Rattle.fx_type.specs.declared.spec.TypeSpec.TheVariants.{Fixed, Auto}
use Rattle.dg_model.specs.declared.diagram.PeriodSpec.TheVariants.{Inherit}
use Rattle.dg_model.specs.declared.nested.Nested.{Nested}
use Rattle.dg_model.specs.Wired.{StandsBefore}
use Rattle.mdl_text.specs.declared.tree.Item.{Item}
use Rattle.mdl_text.specs.declared.tree.Tree.{Tree}
use Rattle.mdl_text.specs.declared.tree.Value.TheVariants.{Quoted}
use Rattle.mdl_text.specs.Bytes.{is_blank, is_name_byte, lines_of as text_lines}
use Rattle.mdl_text.specs.inner.Plain.{string_step, opened, closed, listed, valued, named, fresh, step, finish, run, start}
use Rattle.mdl_text.specs.Stands.{Stands}
use Rattle.mdl_text.proofs.Sound.{reading_stands}
use Rattle.mdl_build.specs.declared.library.BlockType.TheVariants as block_type
use Rattle.mdl_build.specs.declared.settings.Setting.{Setting}
use Rattle.mdl_build.specs.declared.settings.Settings.{Settings}
use Rattle.mdl_build.specs.Blocks.{HasSettings}
use Rattle.mdl_build.specs.Nested.{IsNestedOf}
use Rattle.mdl_build.specs.Settings.{unset, unsaid, zero_decimal}
use Rattle.dg_flat.specs.Flat.{IsFlatOf}
use Rattle.dg_flat.specs.Rules.{AllNestedKeep, KeepsEnable}
use Rattle.cmd_model.specs.Model.{IsModelOf}
use Rattle.math_list.proofs.ByRecursion.{pairs_of}
use Rattle.hw_shows.proofs.Small.{each_by}
use Rattle.tests_premises.specs.Whole.{model_text, diagram, input, gain, output, int8, int16, three, five, coefficients}
use Rattle.tests_premises.proofs.Three.{section, bare, quoted, line_items, as_drawn, three_nested, three_wired, whole_number}
use Rattle.tests_premises.proofs.WholeRules.{checked}

-- ---- the tree that the text stands for

abbrev block_items : List Item
block_items =
    section 2 (codes "Block") ∷ bare (codes "BlockType") (codes "Inport") ∷ quoted (codes "Name") (codes "u")
    ∷ quoted (codes "OutDataTypeStr") (codes "int8") ∷ quoted (codes "PortDimensions") (codes "2")
    ∷ section 2 (codes "Block") ∷ bare (codes "BlockType") (codes "Gain") ∷ quoted (codes "Name") (codes "G")
    ∷ quoted (codes "Gain") (codes "[3 5]") ∷ quoted (codes "ParamDataTypeStr") (codes "int8") ∷ quoted (codes "OutDataTypeStr") (codes "int16")
    ∷ section 2 (codes "Block") ∷ bare (codes "BlockType") (codes "Outport") ∷ quoted (codes "Name") (codes "y") ∷ []

abbrev tree : Tree
tree = record {
  items = section 0 (codes "Model") ∷ record { depth = 1; name = codes "Name"; value = Quoted (codes "two") }
      ∷ section 1 (codes "System")
      ∷ (block_items ++ (line_items (codes "u") (codes "G") ++ line_items (codes "G") (codes "y")));
}

read : run start (text_lines model_text) ≡ Some tree.items
unfolding is_blank is_name_byte string_step opened closed listed valued named fresh step finish
read = refl

stands : Stands model_text tree
stands = reading_stands model_text tree.items read

-- ---- what the parameters of each block say
abbrev in_settings : Settings
in_settings = record unset { said = record unsaid { number = 1; width = 2; result = Fixed int8 } }

abbrev gain_settings : Settings
gain_settings = record unset { said = record unsaid { result = Fixed int16; coefficient = Fixed int8 }; list = coefficients }

abbrev out_settings : Settings
out_settings = record unset { said = record unsaid { number = 1 }; list = zero_decimal ∷ [] }

has_in : HasSettings tree.items block_type.Inport 3 in_settings
has_in = (
  Setting.Number 1,
  (1, record { some_digit = lit< tt; are_digits = refl; value = refl; in_range = (lit≤ tt, lit≤ tt) }, refl),
  (
    Setting.Result (Fixed int8),
    inr (int8, inl refl, refl),
    (
      Setting.Period Inherit,
      (Inherit, refl, refl),
      (
        Setting.Width 2,
        (2, inl (record { some_digit = lit< tt; are_digits = refl; value = refl; in_range = (lit≤ tt, lit≤ tt) }), refl),
        refl,
      ),
    ),
  ),
)

has_gain : HasSettings tree.items block_type.Gain 8 gain_settings
unfolding is_blank
has_gain = (
  Setting.List coefficients,
  (
    coefficients,
    record {
      texts = codes "3" ∷ codes "5" ∷ [];
      are_elements = refl;
      read = (
        whole_number (codes "3") three refl (lit≤ tt) refl refl (lit< tt) refl,
        (whole_number (codes "5") five refl (lit≤ tt) refl refl (lit< tt) refl, tt),
      );
      size = (lit≤ tt, lit≤ tt);
    },
    refl,
  ),
  (
    Setting.Coefficient (Fixed int8),
    (Fixed int8, inl refl, refl),
    (
      Setting.Unsaid,
      (refl, refl),
      (
        Setting.Result (Fixed int16),
        inr (inr (int16, inl refl, refl)),
        (
          Setting.Rounding Floor,
          (Floor, refl, refl),
          (
            Setting.Saturate false,
            (false, refl, refl),
            (
              Setting.Period Inherit,
              (Inherit, refl, refl),
              refl,
            ),
          ),
        ),
      ),
    ),
  ),
)

has_out : HasSettings tree.items block_type.Outport 14 out_settings
has_out = (
  Setting.Number 1,
  (1, record { some_digit = lit< tt; are_digits = refl; value = refl; in_range = (lit≤ tt, lit≤ tt) }, refl),
  (
    Setting.Result Auto,
    inl (record { text_is = refl; setting_is = refl }),
    (
      Setting.Period Inherit,
      (Inherit, refl, refl),
      (
        Setting.Flag false,
        (false, refl, refl),
        (
          Setting.List (zero_decimal ∷ []),
          (zero_decimal ∷ [], inl (refl, refl), refl),
          refl,
        ),
      ),
    ),
  ),
)

-- ---- its blocks and lines
abbrev nested : Nested
nested = three_nested (input []) (gain []) (output []) (codes "G")

is_nested : IsNestedOf tree nested
is_nested = record {
  extents = 1 ∷ 1 ∷ 1 ∷ [];
  are_extents = (refl, (refl, (refl, tt)));
  structured = refl;
  known = refl;
  drawn = map as_drawn nested.blocks;
  are_drawn = (
    record { block = record { name = refl; parent = refl; block_type = block_type.Inport; type_is = refl; settings = in_settings; has = has_in; part = refl }; filter = refl },
    (
      record { block = record { name = refl; parent = refl; block_type = block_type.Gain; type_is = refl; settings = gain_settings; has = has_gain; part = refl }; filter = refl },
      (
        record { block = record { name = refl; parent = refl; block_type = block_type.Outport; type_is = refl; settings = out_settings; has = has_out; part = refl }; filter = refl },
        tt,
      ),
    ),
  );
  blocks = λ other. refl;
  lines = refl;
}

is_flat : IsFlatOf nested diagram
is_flat = record {
  blocks = refl;
  edges = record { moves = []; below = tt; is = refl };
  ordered = pairs_of StandsBefore diagram.edges ((inl (lit< tt), tt), (tt, tt));
}

enables : AllNestedKeep nested KeepsEnable
enables = each_by (KeepsEnable nested) nested.blocks tt tt tt

-- ---- all of it
pub is_model : IsModelOf model_text diagram
is_model = record {
  tree = tree;
  stands = stands;
  flat = record { nested = nested; built = is_nested; wiring = three_wired (input []) (gain []) (output []) (codes "G") refl refl; enables = enables; flat = is_flat; wired = checked.wired };
  checked = checked;
}
