-- Texts that are put one after another.
use Rattle.std.proofs.Common.{◌≡◌, ℕ, zero, suc, ◌+◌, ◌∙◌, List, [], ◌∷◌, ◌++◌, sym, ap, append_assoc, append-nil, arith}
use Rattle.std.specs.Prelude.{codes, decimal}
use Rattle.std.specs.List.{flat_map, range_with_len, sum_by}
use Rattle.std.proofs.lemmas.List.Concat.{flat_map-append}
use Rattle.std.proofs.lemmas.List.Sums.{sum_by_push}
use Rattle.cmd_sample.specs.Chain.{word_of}
use Rattle.cmd_sample.specs.ModelText.{parameter_text, block_head, section_end, source_text, target_text, type_parameter, model_head, input_text, ends_text, end_lines, line_text, block_text}
use Rattle.cmd_sample.specs.ModelText.{chain_name, chain_text, parameters_of}
use Rattle.cmd_sample.specs.Summary.{number_line, made_lines, equal_line, summary_text}
use Rattle.cmd_sample.specs.declared.chain.ChainKind.{ChainKind}
use Rattle.cmd_sample.specs.declared.summing.Made.{Made}
use Rattle.math_list.proofs.Places.{three_appended}

-- the pieces of a line from a block to a port of another
line_pieces : (line own source quote from other target to port end last : List ℕ)
    → line ++ (own ++ (source ++ (quote ++ (from
    ++ (other ++ (target ++ (quote ++ (to ++ (port ++ (end ++ (last ++ []))))))))))) ≡
    (line ++ (own ++ source ++ quote) ++ from) ++ ((other ++ target ++ quote) ++ to ++ port ++ end ++ last)
line_pieces line own source quote from other target to port end last = simp (append_assoc, append-nil)

pub line_put : (old source target digits new : List ℕ) (port : ℕ) → digits ≡ decimal port
    → new ≡ old ++ (codes "    Line {\n" ++ (codes "      SrcBlock \""
    ++ (source ++ (codes "\"\n" ++ (codes "      SrcPort 1\n"
    ++ (codes "      DstBlock \"" ++ (target
    ++ (codes "\"\n"
    ++ (codes "      DstPort " ++ (digits ++ (codes "\n" ++ (codes "    }\n" ++ []))))))))))))
    → new ≡ old ++ line_text source target port
unfolding source_text target_text parameter_text section_end
line_put old source target digits new port is put =
    put
    ∙ ap (λ text. old ++ text) (line_pieces
    (codes "    Line {\n") (codes "      SrcBlock \"") source (codes "\"\n")
    (codes "      SrcPort 1\n")
    (codes "      DstBlock \"") target (codes "      DstPort ") digits (codes "\n") (codes "    }\n"))
    ∙ ap (λ number. old ++ (source_text source ++ (parameter_text (codes "DstBlock") target ++ codes "      DstPort " ++ number ++ codes "\n" ++ section_end))) is

-- the pieces of a block
block_pieces : (block type word end own name quote parameters last : List ℕ) → block ++ (type ++ (word ++ (end ++ (own ++ (name ++ (quote ++ (parameters ++ (last ++ [])))))))) ≡
    (block ++ type ++ word ++ end ++ (own ++ name ++ quote)) ++ parameters ++ last
block_pieces block type word end own name quote parameters last = simp (append_assoc, append-nil)

pub block_put : (old word name parameters new : List ℕ) (place : ℕ) (kind : ChainKind) → word ≡ word_of kind → name ≡ chain_name place → parameters ≡ parameters_of kind
    → new ≡ old ++ (codes "    Block {\n" ++ (codes "      BlockType " ++ (word ++ (codes "\n" ++ (codes "      Name \"" ++ (name ++ (codes "\"\n" ++ (parameters ++ (codes "    }\n" ++ [])))))))))
    → new ≡ old ++ chain_text place kind
unfolding block_head parameter_text section_end
block_put old word name parameters new place kind is_word is_name are put =
    put
    ∙ ap (λ text. old ++ text) (block_pieces (codes "    Block {\n") (codes "      BlockType ") word (codes "\n") (codes "      Name \"") name (codes "\"\n") parameters (codes "    }\n"))
    ∙ ap (λ own. old ++ block_text own name parameters) is_word
    ∙ ap (λ own. old ++ block_text (word_of kind) own parameters) is_name
    ∙ ap (λ own. old ++ block_text (word_of kind) (chain_name place) own) are

pub start_put : (old new : List ℕ) → new
    ≡ old ++ (codes "Model {\n" ++ (codes "  Name \"sample\"\n"
    ++ (codes "  System {\n"
    ++ (codes "    Block {\n" ++ (codes "      BlockType Inport\n" ++ (codes "      Name \"In\"\n" ++
    (codes "      OutDataTypeStr \"fixdt(1,16,8)\"\n" ++ (codes "      SampleTime \"1\"\n" ++ (codes "    }\n" ++ [])))))))))
    → new ≡ old ++ (model_head ++ input_text)
unfolding model_head input_text block_head parameter_text type_parameter section_end
start_put old new put = put

pub ends_put : (old new : List ℕ) → new
    ≡ old ++ (codes "    Block {\n" ++ (codes "      BlockType RateTransition\n"
    ++ (codes "      Name \"Down\"\n" ++ (codes "      OutPortSampleTime \"2\"\n" ++ (codes "    }\n" ++
    (codes "    Block {\n" ++ (codes "      BlockType Outport\n" ++ (codes "      Name \"Out\"\n" ++ (codes "    }\n" ++
    (codes "    Block {\n" ++ (codes "      BlockType Outport\n" ++ (codes "      Name \"Slow\"\n" ++ (codes "      Port \"2\"\n" ++ (codes "    }\n" ++ []))))))))))))))
    → new ≡ old ++ ends_text
unfolding ends_text block_head parameter_text section_end
ends_put old new put = put

pub end_lines_appended : (old last one two three : List ℕ) → one ≡ old ++ line_text last (codes "Down") 1 → two ≡ one ++ line_text last (codes "Out") 1 →
    three ≡ two ++ line_text (codes "Down") (codes "Slow") 1 → three ≡ old ++ end_lines last
unfolding end_lines
end_lines_appended old last = three_appended old (line_text last (codes "Down") 1) (line_text last (codes "Out") 1) (line_text (codes "Down") (codes "Slow") 1)

pub six_appended : (old a b c d e f one two three four five six : List ℕ) → one ≡ old ++ a → two ≡ one ++ b → three ≡ two ++ c → four ≡ three ++ d → five ≡ four ++ e → six ≡ five ++ f →
    six ≡ old ++ (a ++ b ++ c ++ d ++ e ++ f)
six_appended old a b c d e f one two three four five six p q r s t u = rw (u, t, s, r, q, p) (simp append_assoc)

-- the pieces of a summary
summary_pieces : (first blocks end second eight third multiplications fourth out fifth slow last equal of : List ℕ)
    → first ++ (blocks ++ ((end ++ second)
    ++ (eight ++ ((end ++ third) ++ (multiplications
    ++ ((end ++ fourth)
    ++ (out ++ ((end ++ fifth) ++ (slow ++ ((end ++ last) ++ (equal ++ (of ++ [])))))))))))) ≡
    (first ++ blocks ++ end) ++ (second ++ eight ++ end) ++ ((third ++ multiplications ++ end) ++ (fourth ++ out ++ end) ++ (fifth ++ slow ++ end)) ++ (last ++ equal ++ of)
summary_pieces first blocks end second eight third multiplications fourth out fifth slow last equal of = simp (append_assoc, append-nil)

abbrev summary_of : (blocks samples multiplications out slow equal : List ℕ) → List ℕ
summary_of blocks samples multiplications out slow equal =
    (codes "blocks " ++ blocks ++ codes "\n") ++ (codes "samples " ++ samples ++ codes "\n")
    ++ ((codes "multiplications " ++ multiplications ++ codes "\n") ++ (codes "latency Out " ++ out ++ codes "\n") ++ (codes "latency Slow " ++ slow ++ codes "\n"))
    ++ (codes "equal " ++ equal ++ codes " of 12\n")

pub summary_put : (old blocks samples multiplications out slow equal new : List ℕ) (count : ℕ) (made : Made)
    (fields : ℕ) → blocks ≡ decimal (count + 4) → samples ≡ decimal 8
    → multiplications ≡ decimal made.multiplications → out ≡ decimal made.out_latency
    → slow ≡ decimal made.slow_latency → equal ≡ decimal fields
    → new ≡ old ++ (codes "blocks " ++ (blocks
    ++ (codes "\nsamples " ++ (samples ++ (codes "\nmultiplications "
    ++ (multiplications ++ (codes "\nlatency Out "
    ++ (out ++ (codes "\nlatency Slow "
    ++ (slow ++ (codes "\nequal " ++ (equal ++ (codes " of 12\n" ++ [])))))))))))))
    → new ≡ old ++ summary_text count made fields
unfolding number_line made_lines equal_line
summary_put old blocks samples multiplications out slow equal new count made fields p eight q r s t put =
    put
    ∙ ap (λ text. old ++ text) (summary_pieces
    (codes "blocks ") blocks (codes "\n")
    (codes "samples ") samples (codes "multiplications ") multiplications
    (codes "latency Out ") out (codes "latency Slow ") slow (codes "equal ") equal (codes " of 12\n"))
    ∙ ap (λ (n : List ℕ). old ++ summary_of n samples multiplications out slow equal) p
    ∙ ap (λ (n : List ℕ). old ++ summary_of (decimal (count + 4)) n multiplications out slow equal) eight
    ∙ ap (λ (n : List ℕ). old ++ summary_of (decimal (count + 4)) (decimal 8) n out slow equal) q
    ∙ ap (λ (n : List ℕ). old ++ summary_of (decimal (count + 4)) (decimal 8) (decimal made.multiplications) n slow equal) r
    ∙ ap (λ (n : List ℕ). old ++ summary_of (decimal (count + 4)) (decimal 8) (decimal made.multiplications) (decimal made.out_latency) n equal) s
    ∙ ap (λ (n : List ℕ). old ++ summary_of (decimal (count + 4)) (decimal 8) (decimal made.multiplications) (decimal made.out_latency) (decimal made.slow_latency) n) t

-- a range with the number behind it
range_further : (from count : ℕ) → range_with_len from (suc count) ≡ range_with_len from count ++ (from + count) ∷ []
range_further from zero = let same : from ≡ from + 0 = omega arith in ap (λ (n : ℕ). n ∷ []) same
range_further from (suc count) =
    let last : from + 1 + count ≡ from + suc count = omega arith in
    ap (λ rest. from ∷ rest) (range_further (from + 1) count ∙ ap (λ (n : ℕ). range_with_len (from + 1) count ++ n ∷ []) last)

range_more : (from count : ℕ) → range_with_len from (count + 1) ≡ range_with_len from count ++ (from + count) ∷ []
range_more from count = let next : count + 1 ≡ suc count = omega arith in ap (range_with_len from) next ∙ range_further from count

-- what a loop puts for each number of a range
pub texts_more : (f : ℕ → List ℕ) (from count number : ℕ) (old one two : List ℕ) → one ≡ old ++ flat_map f (range_with_len from count) → two ≡ one ++ f number → from + count ≡ number →
    two ≡ old ++ flat_map f (range_with_len from (count + 1))
texts_more f from count number old one two p q same =
    q ∙ ap (λ begun. begun ++ f number) p ∙ append_assoc old (flat_map f (range_with_len from count)) (f number)
    ∙ ap (λ rest. old ++ rest) (sym (ap (flat_map f) (range_more from count ∙ ap (λ (n : ℕ). range_with_len from count ++ n ∷ []) same)
    ∙ flat_map-append f (range_with_len from count) (number ∷ []) ∙ ap (λ last. flat_map f (range_with_len from count) ++ last) (append-nil (f number))))

-- a sum over a range with the number behind it
pub sum_more : (f : ℕ → ℕ) (count : ℕ) → sum_by f (range_with_len 0 (count + 1)) ≡ sum_by f (range_with_len 0 count) + f count
sum_more f count =
    let same : 0 + count ≡ count = omega arith in
    ap (sum_by f) (range_more 0 count ∙ ap (λ (n : ℕ). range_with_len 0 count ++ n ∷ []) same) ∙ sum_by_push f (range_with_len 0 count) count
