-- The module of one delay can be written.
use Rattle.std.proofs.Common.{◌≡◌, ◌<◌, ◌^◌, ℕ, Bool, true, ◌&&◌, List, [], ◌∷◌, ◌++◌, flat_map, codes, refl, ap, sym, ◌∙◌, nat_lt, inl, inr, arith}
use Rattle.std.specs.List.{list_all}
use Rattle.std.proofs.lemmas.Bool.{ltb-true, lt-ltb}
use Rattle.vl_ast.specs.declared.expressions.Sized.{Sized}
use Rattle.vl_ast.specs.declared.expressions.Expr.TheOpen.{Expr-F}
use Rattle.vl_ast.specs.declared.expressions.Expr.TheFolds.{fold-roll-Expr}
use Rattle.vl_ast.specs.declared.expressions.Expr.TheVariants.{Name, rolls-Name}
use Rattle.vl_ast.specs.Value.{bits_of}
use Rattle.vl_ast.specs.Grammar.{comma, expr_tokens, tokens_step, depth, depth_step, is_filled, is_filled_step, IsExpr, IsRange, IsModuleText}
use Rattle.vl_ast.specs.Spelling.{joined}
use Rattle.vl_ast.specs.Tokens.{Token, Key, Sign, Identifier, Number, Based, IsWritable, AreWritable}
use Rattle.vl_names.specs.Identifiers.{is_identifier}
use Rattle.tests_top.proofs.DelayModule.{OneDelay, delay_module}
use Rattle.tests_top.proofs.Names.{register}
use Rattle.tests_top.proofs.Bits.{bits-fit}
use Rattle.math_list.proofs.Tests.{left_true, right_true}

tokens-name : (x : List ℕ) → expr_tokens (Name x) ≡ Identifier x ∷ []
tokens-name x = ap expr_tokens (sym (rolls-Name x)) ∙ fold-roll-Expr (List Token) tokens_step (Expr-F.Name x)

depth-name : (x : List ℕ) → depth (Name x) ≡ 0
depth-name x = ap depth (sym (rolls-Name x)) ∙ fold-roll-Expr ℕ depth_step (Expr-F.Name x)

filled-name : (x : List ℕ) → is_filled (Name x) ≡ true
filled-name x = ap is_filled (sym (rolls-Name x)) ∙ fold-roll-Expr Bool is_filled_step (Expr-F.Name x)

name-fits : (x : List ℕ) → IsExpr (Name x)
name-fits x = let flat = depth-name x in (omega arith, filled-name x)

-- a range of eight bits, and the text of each part of the module

abbrev pub byte_range : List Token
byte_range = Sign (codes "[") ∷ Number 7 ∷ Sign (codes ":") ∷ Key (codes "0") ∷ Sign (codes "]") ∷ []

abbrev pub attribute_tokens : List ℕ → ℕ → List Token
attribute_tokens name value = Identifier name ∷ Sign (codes "=") ∷ Number value ∷ []

abbrev pub bit_tokens : List ℕ → List Token
bit_tokens name = Key (codes "input") ∷ Key (codes "wire") ∷ Identifier name ∷ []

abbrev pub byte_tokens : List ℕ → List ℕ → List Token
byte_tokens direction name = Key direction ∷ Key (codes "wire") ∷ Key (codes "signed") ∷ (byte_range ++ Identifier name ∷ [])

abbrev pub port_texts : OneDelay → List (List Token)
port_texts d =
    bit_tokens (codes "clk") ∷ bit_tokens (codes "reset")
    ∷ (Sign (codes "(*") ∷ (attribute_tokens (codes "fx_period") 1 ++ Sign (codes "*)") ∷ []) ++ byte_tokens (codes "input") d.input)
    ∷ (Sign (codes "(*") ∷ ((attribute_tokens (codes "fx_period") 1 ++ (comma ++ attribute_tokens (codes "fx_latency") 0)) ++ Sign (codes "*)") ∷ []) ++ byte_tokens (codes "output") d.output)
    ∷ []

abbrev pub first_value : OneDelay → Sized
first_value d = record { width = 8; signed = true; bits = bits_of 8 d.initial }

abbrev pub item_texts : OneDelay → List (List Token)
item_texts d =
    (Key (codes "reg") ∷ Key (codes "signed") ∷ (byte_range ++ Identifier register ∷ Sign (codes ";") ∷ []))
    ∷ (Key (codes "always") ∷ Sign (codes "@") ∷ Sign (codes "(") ∷ Key (codes "posedge") ∷ Key (codes "clk")
    ∷ Sign (codes ")") ∷ Key (codes "begin") ∷ Key (codes "if") ∷ Sign (codes "(") ∷ Key (codes "reset") ∷ Sign (codes ")")
    ∷ Identifier register ∷ Sign (codes "<=") ∷ Based (first_value d) ∷ Sign (codes ";") ∷ Key (codes "else")
    ∷ Identifier register ∷ Sign (codes "<=") ∷ Identifier d.input ∷ Sign (codes ";") ∷ Key (codes "end") ∷ [])
    ∷ (Key (codes "assign") ∷ Identifier d.output ∷ Sign (codes "=") ∷ Identifier register ∷ Sign (codes ";") ∷ [])
    ∷ []

abbrev pub module_text : OneDelay → List Token
module_text d =
    (Sign (codes "(*") ∷ (attribute_tokens (codes "fx_cycles") 1 ++ Sign (codes "*)") ∷ []))
    ++ (Key (codes "module") ∷ Identifier (codes "fx_model") ∷ Sign (codes "(")
    ∷ (joined comma (port_texts d) ++ (Sign (codes ")") ∷ Sign (codes ";")
    ∷ (flat_map (λ item. item) (item_texts d) ++ Key (codes "endmodule") ∷ []))))

byte_is : IsRange 8 byte_range
byte_is = inr (omega arith, refl)

pub is-module-text : (d : OneDelay) → IsModuleText (delay_module d) (module_text d)
is-module-text d = record {
  ports = port_texts d;
  items = item_texts d;
  has_port = λ e. absurd (cc e);
  each_port = (([], inl (refl, refl), refl), (([], inl (refl, refl), refl), ((byte_range, byte_is, refl), ((byte_range, byte_is, refl), tt))));
  each_item = ((byte_range, byte_is, refl), ((tt, name-fits d.input, simp tokens-name), ((name-fits register, simp tokens-name), tt)));
  text = refl;
}

-- tokens that can be seen to be writable, but for numbers
is_plain : Token → Bool
is_plain (Key word) = true
is_plain (Sign sign) = true
is_plain (Identifier name) = is_identifier name
is_plain (Number number) = nat_lt number 1000000000
is_plain (Based number) = nat_lt number.width 1000000000 && nat_lt number.bits 256

-- such tokens are writable, by the law on numbers
module _ (plain : (number : ℕ) → number < 10 ^ 9 → IsWritable (Number number)) (based : (number : Sized) → number.width < 10 ^ 9 → number.bits < 2 ^ 128 → IsWritable (Based number)) where
  token-writable : (token : Token) → is_plain token ≡ true → IsWritable token
  unfolding is_plain
  token-writable (Key word) e = (word, refl)
  token-writable (Sign sign) e = (sign, refl)
  token-writable (Identifier name) e = (name, (refl, e))
  token-writable (Number number) e = plain number (ltb-true number 1000000000 e)
  token-writable (Based number) e =
      let width : number.width < 1000000000 = ltb-true number.width 1000000000 (left_true _ _ e) in
      let bits : number.bits < 256 = ltb-true number.bits 256 (right_true _ _ e) in
      based number width (omega arith)

  tokens-writable : (tokens : List Token) → list_all is_plain tokens ≡ true → AreWritable tokens
  tokens-writable [] e = tt
  tokens-writable (token ∷ tokens) e = (token-writable token (left_true _ _ e), tokens-writable tokens (right_true _ _ e))

  pub module-writable : (d : OneDelay) → is_identifier d.input ≡ true → is_identifier d.output ≡ true → AreWritable (module_text d)
  unfolding is_plain
  module-writable d input output =
      let bits : nat_lt (bits_of 8 d.initial) 256 ≡ true = lt-ltb (bits_of 8 d.initial) 256 (bits-fit d.initial) in
      tokens-writable (module_text d) (simp (input, output, bits))
