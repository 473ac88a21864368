-- A model of three blocks in a row, `u`, another and `y`: its lines as text and the rules of wiring.
use Rattle.std.proofs.Common.{◌≡◌, ◌<◌, ◌≤◌, ◌^◌, ℕ, zero, suc, pos, false, List, [], ◌∷◌, ◌++◌, All, None, Some, length, slice_get, append-nil, inl, inr, codes, refl, sym, ap, subst, arith}
use Rattle.std.specs.Str.Parse.{digits_value}
use Rattle.std.proofs.Math.Dec.{lit≤}
use Rattle.std.proofs.lemmas.Option.{none-some, same_Some}
use lib.Signed.{le_z_yes}
use Rattle.fx_type.specs.declared.decimal.Decimal.{Decimal}
use Rattle.fx_round.specs.DecimalText.{AreDigits, IsDecimal}
use Rattle.dg_model.specs.declared.diagram.Block.{Block}
use Rattle.dg_model.specs.declared.nested.Nested.{Nested}
use Rattle.dg_model.specs.declared.nested.NestedBlock.{NestedBlock}
use Rattle.dg_model.specs.declared.nested.NestedLine.{NestedLine}
use Rattle.dg_model.specs.declared.nested.Part.TheVariants.{Plain, In, Out}
use Rattle.dg_model.specs.declared.nested.Target.TheVariants.{Port}
use Rattle.mdl_text.specs.declared.tree.Item.{Item}
use Rattle.mdl_text.specs.declared.tree.Value.TheVariants.{Section, Bare, Quoted}
use Rattle.mdl_build.specs.declared.expanding.DrawnBlock.{DrawnBlock}
use Rattle.dg_flat.specs.Parts.{in_number, out_number}
use Rattle.dg_flat.specs.Rules.{AllNestedKeep, KeepsWiring, IsNumbered, HasEnd, drivers, is_port}
use Rattle.math_list.proofs.ByRecursion.{all_of, each_of}

-- ---- items of the text

-- a section of this depth and name
abbrev pub section : ℕ → List ℕ → Item
section depth name = record { depth = depth; name = name; value = Section }

-- a parameter of a block or a line with a bare value, or with a quoted one
abbrev pub bare : List ℕ → List ℕ → Item
bare name value = record { depth = 3; name = name; value = Bare value }

abbrev pub quoted : List ℕ → List ℕ → Item
quoted name value = record { depth = 3; name = name; value = Quoted value }

-- a line from the first port of a block to the first of another
abbrev pub line_items : List ℕ → List ℕ → List Item
line_items source target =
    section 2 (codes "Line") ∷ quoted (codes "SrcBlock") source ∷ bare (codes "SrcPort") (codes "1")
    ∷ quoted (codes "DstBlock") target ∷ bare (codes "DstPort") (codes "1") ∷ []

-- digits alone are the decimal of their number
pub whole_number : (text : List ℕ) (d : Decimal) → AreDigits text → 1 ≤ length text → d.negative ≡ false
    → d.digits ≡ digits_value 10 text → digits_value 10 text < 10 ^ 18 → d.exponent ≡ pos 0 → IsDecimal text d
whole_number text d digits some negative is few exponent =
    let all : text ≡ text ++ [] = sym (append-nil text) in
    inr (inr (record {
      numeral = record {
        sign = [];
        negative = false;
        whole = text;
        point = [];
        fraction = [];
        digits = digits_value 10 text;
        written = [];
        exponent = pos 0;
        form = all;
        is_sign = inl refl;
        are_digits = subst AreDigits all digits;
        some_digit = subst (λ (own : List ℕ). 1 ≤ length own) all some;
        value = ap (digits_value 10) all;
        is_fraction = inr (refl, refl);
        is_exponent = inr (refl, refl);
      };
      short = record { few_digits = few; few_behind = lit≤ tt; least = le_z_yes tt; greatest = le_z_yes tt };
      negative = negative;
      digits = is;
      exponent = exponent;
    }))

-- ---- the three blocks, and the two lines from each to the next

-- a block that stands for no filter
abbrev pub as_drawn : NestedBlock → DrawnBlock
as_drawn block = record { block = block; filter = None }

module _ (input middle output : Block) (name : List ℕ) where
  abbrev first : NestedBlock
  first = record { name = codes "u"; parent = None; part = In input 1 }

  abbrev second : NestedBlock
  second = record { name = name; parent = None; part = Plain middle }

  abbrev third : NestedBlock
  third = record { name = codes "y"; parent = None; part = Out output 1 }

  abbrev blocks : List NestedBlock
  blocks = first ∷ second ∷ third ∷ []

  abbrev joins : ℕ → ℕ → NestedLine
  joins from to = record { from = from; from_port = 1; to = to; target = Port 1 }

  abbrev pub three_nested : Nested
  three_nested = record { blocks = blocks; lines = joins 0 1 ∷ joins 1 2 ∷ [] }

  each_line : (P : NestedLine → Type 0) → P (joins 0 1) → P (joins 1 2) → All P three_nested.lines
  each_line P one other = all_of P three_nested.lines (one, (other, tt))

  one_driver : (place : ℕ) → drivers three_nested.lines place (is_port 1) ≡ 1 → (port count : ℕ) → count ≡ 1 → 1 ≤ port → port ≤ count → drivers three_nested.lines place (is_port port) ≡ 1
  one_driver place one zero count is from to = absurd (omega arith)
  one_driver place one (suc zero) count is from to = one
  one_driver place one (suc (suc port)) count is from to = absurd (omega (arith, is))

  first_wired : KeepsWiring three_nested 0 first
  first_wired = record {
    leaving = each_line (λ line. line.from ≡ 0 → (1 ≤ line.from_port) × (line.from_port ≤ 1)) (λ same. (lit≤ tt, lit≤ tt)) (λ same. (lit≤ tt, lit≤ tt));
    ending = each_line (λ line. line.to ≡ 0 → HasEnd blocks 0 first.part line.target) (λ same. absurd (omega (arith, same))) (λ same. absurd (omega (arith, same)));
    driven = λ port from to. absurd (omega arith);
    enabled = tt;
    in_number = λ number is. subst (IsNumbered blocks 0 None in_number) (same_Some 1 number is)
        (record { above = lit≤ tt; within = lit≤ tt; first = λ other block below at same. absurd (omega arith) });
    out_number = λ number is. absurd (cc is);
  }

  third_wired : KeepsWiring three_nested 2 third
  third_wired = record {
    leaving = each_line (λ line. line.from ≡ 2 → (1 ≤ line.from_port) × (line.from_port ≤ 0)) (λ same. absurd (omega (arith, same))) (λ same. absurd (omega (arith, same)));
    ending = each_line (λ line. line.to ≡ 2 → HasEnd blocks 2 third.part line.target) (λ same. (lit≤ tt, lit≤ tt)) (λ same. (lit≤ tt, lit≤ tt));
    driven = λ port from to. one_driver 2 refl port 1 refl from to;
    enabled = tt;
    in_number = λ number is. absurd (cc is);
    out_number = λ number is. subst (IsNumbered blocks 2 None out_number) (same_Some 1 number is)
        (record { above = lit≤ tt; within = lit≤ tt; first = λ other block below at same. no_earlier other block below at });
  }
    where
      no_earlier : (other : ℕ) (block : NestedBlock) → other < 2 → slice_get blocks other ≡ Some block → out_number block.part ≡ Some 1 → ⊥
      no_earlier zero block below at is = none-some 1 (subst (λ (b : NestedBlock). out_number b.part ≡ Some 1) (sym (same_Some first block at)) is)
      no_earlier (suc zero) block below at is = none-some 1 (subst (λ (b : NestedBlock). out_number b.part ≡ Some 1) (sym (same_Some second block at)) is)
      no_earlier (suc (suc other)) block below at is = absurd (omega arith)

  module _ (ins : middle.inputs ≡ 1) (outs : middle.outputs ≡ 1) where
    second_wired : KeepsWiring three_nested 1 second
    second_wired = record {
      leaving = each_line (λ line. line.from ≡ 1 → (1 ≤ line.from_port) × (line.from_port ≤ middle.outputs)) (λ same. absurd (omega (arith, same))) (λ same. (lit≤ tt, omega (arith, outs)));
      ending = each_line (λ line. line.to ≡ 1 → HasEnd blocks 1 second.part line.target) (λ same. (lit≤ tt, omega (arith, ins))) (λ same. absurd (omega (arith, same)));
      driven = λ port from to. one_driver 1 refl port middle.inputs ins from to;
      enabled = tt;
      in_number = λ number is. absurd (cc is);
      out_number = λ number is. absurd (cc is);
    }

    pub three_wired : AllNestedKeep three_nested KeepsWiring
    three_wired = each_of (KeepsWiring three_nested) blocks (first_wired, (second_wired, (third_wired, tt)))
