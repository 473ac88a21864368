-- The model text of a sample stands for a tree.
use Rattle.std.proofs.Common.{◌≡◌, ◌≢◌, ℕ, zero, suc, ◌-◌, ◌≤◌, true, false, cond, true≢false, List, [], ◌∷◌, ◌++◌, refl, sym, ◌∙◌, ap, subst, append_assoc, arith, codes, decimal}
use Rattle.std.specs.Prelude.{◌==◌}
use Rattle.std.specs.List.{list_all}
use Rattle.std.specs.Str.Parse.{AllDigits}
use Rattle.std.proofs.lemmas.Bool.{and_from}
use Rattle.std.proofs.lemmas.Fmt.{decimal_is_IsNumeral, decimal_digit}
use Rattle.std.proofs.lemmas.Str.Parse.{digit_from_value}
use Rattle.mdl_text.specs.Bytes.{is_blank, is_name_byte, IsName}
use Rattle.mdl_text.specs.Lines.{IsBare}
use Rattle.mdl_text.specs.Prefix.{IsMdl}
use Rattle.mdl_text.proofs.Classes.{name_no_blank}
use Rattle.cmd_sample.specs.declared.chain.ChainKind.{ChainKind}
use Rattle.cmd_sample.specs.declared.chain.ChainKind.TheVariants.{Delay, Sum, Gain, Product, Switch}
use Rattle.cmd_sample.specs.Chain.{word_of, inputs_of}
use Rattle.cmd_sample.specs.ModelText.{chain_name, parameter_text, block_head, section_end, block_text, type_parameter, gain_parameters, parameters_of, chain_text, source_text, target_text, line_text}
use Rattle.cmd_sample.specs.ModelText.{chain_lines, kind_at, block_at, lines_at, model_head, input_text, ends_text, end_lines, model_end, sample_model}
use Rattle.cmd_sample.proofs.WholeLines.{Spelled, empty, joined, same_bytes, ranged, opens, closes, bare, in_quotes, is_word_byte, AreWord, word_line, stands}

-- ---- words

digit_word : (byte : ℕ) → 48 ≤ byte → byte ≤ 57 → is_word_byte byte ≡ true
digit_word byte low high = grind arith

digits_word : (digits : List ℕ) → AllDigits 10 digits → AreWord digits
digits_word [] all = refl
digits_word (digit ∷ digits) all =
    let range = digit_from_value digit all.0 in
    and_from (is_word_byte digit) (list_all is_word_byte digits) (digit_word digit range.0 range.1) (digits_word digits all.1)

decimal_word : (n : ℕ) → n ≤ 5000 → AreWord (decimal n)
decimal_word n small = digits_word (decimal n) (decimal_is_IsNumeral n (omega arith)).0.1

name_word : (place : ℕ) → place ≤ 5000 → AreWord (chain_name place)
name_word place small = elim (place == 0) as (λ first. AreWord (cond first (codes "In") (codes "B" ++ decimal place))) [
  | true ↦ refl
  | false ↦ and_from (is_word_byte 66) (list_all is_word_byte (decimal place)) refl (decimal_word place small)
]

is_name : (first : ℕ) (rest : List ℕ) → list_all is_name_byte (first ∷ rest) ≡ true → IsName (first ∷ rest)
is_name first rest each = record { nonempty = λ none. absurd (cc none); each = each }

-- a value that begins and ends with a byte of names is bare
bare_of : (first : ℕ) (rest front : List ℕ) (last : ℕ) → is_name_byte first ≡ true → is_name_byte last ≡ true → first ∷ rest ≡ front ++ last ∷ [] → IsBare (first ∷ rest)
unfolding is_name_byte
bare_of first rest front last first_named last_named same = record {
  first = first;
  rest = rest;
  front = front;
  last = last;
  begins = refl;
  no_quote = other 34 refl;
  no_bracket = other 91 refl;
  no_brace = other 123 refl;
  no_blank_first = name_no_blank first first_named;
  ends = same;
  no_blank_last = name_no_blank last last_named;
}
  where
    other : (byte : ℕ) → is_name_byte byte ≡ false → first ≢ byte
    other byte none is = true≢false (sym first_named ∙ ap is_name_byte is ∙ none)

-- ---- parameters

quoted_shape : (before name value : List ℕ) → (before ++ (name ++ (32 ∷ 34 ∷ (value ++ 34 ∷ [])))) ++ 10 ∷ [] ≡ before ++ name ++ (32 ∷ 34 ∷ []) ++ value ++ (34 ∷ 10 ∷ [])
quoted_shape before name value = simp append_assoc

parameter : (first : ℕ) (rest value : List ℕ) → list_all is_name_byte (first ∷ rest) ≡ true → AreWord value → Spelled 3 (parameter_text (first ∷ rest) value) 3
unfolding parameter_text is_blank
parameter first rest value named word = same_bytes (quoted_shape (codes "      ") (first ∷ rest) value) (in_quotes 3 (codes "      ") (first ∷ rest) value refl (is_name first rest named) word refl)

types : Spelled 3 type_parameter 3
unfolding type_parameter is_name_byte
types = parameter 79 (codes "utDataTypeStr") (codes "fixdt(1,16,8)") refl refl

gain : Spelled 3 gain_parameters 3
unfolding gain_parameters is_name_byte
gain = joined (joined (parameter 71 (codes "ain") (codes "0.75") refl refl) (parameter 80 (codes "aramDataTypeStr") (codes "fixdt(1,16,14)") refl refl)) types

parameters : (kind : ChainKind) → Spelled 3 (parameters_of kind) 3
unfolding is_name_byte
parameters Delay = parameter 73 (codes "nitialCondition") (codes "1") refl refl
parameters Sum = types
parameters Gain = gain
parameters Product = types
parameters Switch = types

-- ---- blocks

closing : Spelled 3 section_end 2
unfolding section_end is_blank
closing = closes 2 (codes "    ") refl refl

head_shape : (begin type_word word end name : List ℕ) → (begin ++ ((type_word ++ word) ++ end)) ++ name ≡ begin ++ type_word ++ word ++ end ++ name
head_shape begin type_word word end name = simp append_assoc

head : (word name : List ℕ) → IsBare word → AreWord word → AreWord name → Spelled 2 (block_head word name) 3
unfolding block_head is_blank is_name_byte
head word name is_bare is_word named =
    same_bytes (head_shape (codes "    Block {\n") (codes "      BlockType ") word (codes "\n") (parameter_text (codes "Name") name))
    (joined (joined (opens 2 (codes "    ") (codes "Block") (omega arith) refl (is_name 66 (codes "lock") refl) refl)
    (bare 3 (codes "      ") (codes "BlockType") word refl (is_name 66 (codes "lockType") refl) is_bare refl (word_line word is_word)))
    (parameter 78 (codes "ame") name refl named))

block : (word name inner : List ℕ) → IsBare word → AreWord word → AreWord name → Spelled 3 inner 3 → Spelled 2 (block_text word name inner) 2
block word name inner is_bare is_word named spelled = joined (joined (head word name is_bare is_word named) spelled) closing

kind_bare : (kind : ChainKind) → IsBare (word_of kind)
unfolding is_name_byte
kind_bare Delay = bare_of 85 (codes "nitDelay") (codes "UnitDela") 121 refl refl refl
kind_bare Sum = bare_of 83 (codes "um") (codes "Su") 109 refl refl refl
kind_bare Gain = bare_of 71 (codes "ain") (codes "Gai") 110 refl refl refl
kind_bare Product = bare_of 80 (codes "roduct") (codes "Produc") 116 refl refl refl
kind_bare Switch = bare_of 83 (codes "witch") (codes "Switc") 104 refl refl refl

kind_word : (kind : ChainKind) → AreWord (word_of kind)
kind_word Delay = refl
kind_word Sum = refl
kind_word Gain = refl
kind_word Product = refl
kind_word Switch = refl

chain_block : (place : ℕ) (kind : ChainKind) → place ≤ 5000 → Spelled 2 (chain_text place kind) 2
chain_block place kind small = block (word_of kind) (chain_name place) (parameters_of kind) (kind_bare kind) (kind_word kind) (name_word place small) (parameters kind)

input : Spelled 2 input_text 2
unfolding input_text is_name_byte
input = block (codes "Inport") (codes "In") (type_parameter ++ parameter_text (codes "SampleTime") (codes "1")) (bare_of 73 (codes "nport") (codes "Inpor") 116 refl refl refl) refl refl
    (joined types (parameter 83 (codes "ampleTime") (codes "1") refl refl))

outport : IsBare (codes "Outport")
unfolding is_name_byte
outport = bare_of 79 (codes "utport") (codes "Outpor") 116 refl refl refl

ends : Spelled 2 ends_text 2
unfolding ends_text is_name_byte
ends =
    joined (joined (block (codes "RateTransition") (codes "Down")
    (parameter_text (codes "OutPortSampleTime") (codes "2"))
    (bare_of 82 (codes "ateTransition") (codes "RateTransitio") 110 refl refl refl) refl refl
    (parameter 79 (codes "utPortSampleTime") (codes "2") refl refl))
    (block (codes "Outport") (codes "Out") [] outport refl refl (empty 3)))
    (block (codes "Outport") (codes "Slow") (parameter_text (codes "Port") (codes "2")) outport refl refl (parameter 80 (codes "ort") (codes "2") refl refl))

-- ---- lines

source : (name : List ℕ) → AreWord name → Spelled 2 (source_text name) 3
unfolding source_text is_blank is_name_byte
source name named =
    joined (joined (opens 2 (codes "    ") (codes "Line") (omega arith) refl (is_name 76 (codes "ine") refl) refl) (parameter 83 (codes "rcBlock") name refl named))
    (bare 3 (codes "      ") (codes "SrcPort") (codes "1") refl (is_name 83 (codes "rcPort") refl) (bare_of 49 [] [] 49 refl refl refl) refl refl)

port_bare : (port : ℕ) → port ≤ 3 → IsBare (decimal port)
unfolding is_name_byte
port_bare zero small = subst IsBare (sym (decimal_digit 0 (omega arith))) (bare_of 48 [] [] 48 refl refl refl)
port_bare (suc zero) small = subst IsBare (sym (decimal_digit 1 (omega arith))) (bare_of 49 [] [] 49 refl refl refl)
port_bare (suc (suc zero)) small = subst IsBare (sym (decimal_digit 2 (omega arith))) (bare_of 50 [] [] 50 refl refl refl)
port_bare (suc (suc (suc zero))) small = subst IsBare (sym (decimal_digit 3 (omega arith))) (bare_of 51 [] [] 51 refl refl refl)
port_bare (suc (suc (suc (suc port)))) small = absurd (omega arith)

target_shape : (name port_word port end close : List ℕ) → (name ++ ((port_word ++ port) ++ end)) ++ close ≡ name ++ port_word ++ port ++ end ++ close
target_shape name port_word port end close = simp append_assoc

target : (name : List ℕ) (port : ℕ) → AreWord name → port ≤ 3 → Spelled 3 (target_text name port) 2
unfolding target_text is_blank is_name_byte
target name port named small =
    same_bytes (target_shape (parameter_text (codes "DstBlock") name) (codes "      DstPort ") (decimal port) (codes "\n") section_end)
    (joined (joined (parameter 68 (codes "stBlock") name refl named)
    (bare 3 (codes "      ") (codes "DstPort") (decimal port) refl (is_name 68 (codes "stPort") refl) (port_bare port small) refl (word_line (decimal port) (decimal_word port (omega arith)))))
    closing)

line : (from to : List ℕ) (port : ℕ) → AreWord from → AreWord to → port ≤ 3 → Spelled 2 (line_text from to port) 2
line from to port from_named to_named small = joined (source from from_named) (target to port to_named small)

few_inputs : (kind : ChainKind) → inputs_of kind ≤ 3
few_inputs Delay = omega arith
few_inputs Sum = omega arith
few_inputs Gain = omega arith
few_inputs Product = omega arith
few_inputs Switch = omega arith

chain_line : (place : ℕ) (kind : ChainKind) → place ≤ 5000 → Spelled 2 (chain_lines place kind) 2
chain_line place kind small =
    let most = few_inputs kind in
    joined (line (chain_name (place - 1)) (chain_name place) 1 (name_word (place - 1) (omega arith)) (name_word place small) (omega arith))
    (ranged 2 (line_text (codes "In") (chain_name place)) 2 (inputs_of kind - 1) (λ port below. line (codes "In") (chain_name place) port refl (name_word place small) (omega (arith, most))))

behind : (last : List ℕ) → AreWord last → Spelled 2 (end_lines last) 2
unfolding end_lines
behind last named =
    joined (joined (line last (codes "Down") 1 named refl (omega arith)) (line last (codes "Out") 1 named refl (omega arith)))
    (line (codes "Down") (codes "Slow") 1 refl refl (omega arith))

-- ---- the whole

begins : Spelled 0 model_head 2
unfolding model_head is_blank is_name_byte
begins =
    joined (joined (opens 0 [] (codes "Model") (omega arith) refl (is_name 77 (codes "odel") refl) refl)
    (in_quotes 1 (codes "  ") (codes "Name") (codes "sample") refl (is_name 78 (codes "ame") refl) refl refl))
    (opens 1 (codes "  ") (codes "System") (omega arith) refl (is_name 83 (codes "ystem") refl) refl)

finishes : Spelled 2 model_end 0
unfolding model_end is_blank
finishes = joined (closes 1 (codes "  ") refl refl) (closes 0 [] refl refl)

pub sample_stands : (count : ℕ) → count ≤ 5000 → IsMdl (sample_model count)
sample_stands count small =
    let blocks = ranged 2 (block_at count) 1 count (λ place below. chain_block place (kind_at count place) (omega arith)) in
    let lines = ranged 2 (lines_at count) 1 count (λ place below. chain_line place (kind_at count place) (omega arith)) in
    stands (joined (joined (joined (joined (joined (joined begins input) blocks) ends) lines) (behind (chain_name count) (name_word count small))) finishes)
