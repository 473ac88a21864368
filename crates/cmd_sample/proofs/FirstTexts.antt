-- The texts of the first sample, as a reference that is written apart from these definitions has them.
use Rattle.std.proofs.Common.{◌≡◌, ◌+◌, ◌++◌, ℕ, Bool, false, List, [], Option, None, Some, ap, refl}
use Rattle.std.specs.Prelude.{codes}
use Rattle.std.specs.Fmt.{digits}
use Rattle.cmd_sample.specs.ModelText.{sample_model, parameter_text, block_head, section_end, type_parameter, gain_parameters, source_text, target_text, model_head, input_text, ends_text, end_lines}
use Rattle.cmd_sample.specs.ModelText.{model_end}
use Rattle.cmd_sample.specs.Numbers.{number_after}
use Rattle.cmd_sample.specs.Stimulus.{sample_stimulus}
use Rattle.cmd_sample.specs.Summary.{are_equal, equal_count, equal_line, field_at, one_if, made_lines, number_line, summary_text}

first-model : sample_model 1
    ≡ codes "Model {\n"
    ++ codes "  Name \"sample\"\n"
    ++ codes "  System {\n"
    ++ codes "    Block {\n"
    ++ codes "      BlockType Inport\n"
    ++ codes "      Name \"In\"\n"
    ++ codes "      OutDataTypeStr \"fixdt(1,16,8)\"\n"
    ++ codes "      SampleTime \"1\"\n"
    ++ codes "    }\n"
    ++ codes "    Block {\n"
    ++ codes "      BlockType Product\n"
    ++ codes "      Name \"B1\"\n"
    ++ codes "      OutDataTypeStr \"fixdt(1,16,8)\"\n"
    ++ codes "    }\n"
    ++ codes "    Block {\n"
    ++ codes "      BlockType RateTransition\n"
    ++ codes "      Name \"Down\"\n"
    ++ codes "      OutPortSampleTime \"2\"\n"
    ++ codes "    }\n"
    ++ codes "    Block {\n"
    ++ codes "      BlockType Outport\n"
    ++ codes "      Name \"Out\"\n"
    ++ codes "    }\n"
    ++ codes "    Block {\n"
    ++ codes "      BlockType Outport\n"
    ++ codes "      Name \"Slow\"\n"
    ++ codes "      Port \"2\"\n"
    ++ codes "    }\n"
    ++ codes "    Line {\n"
    ++ codes "      SrcBlock \"In\"\n"
    ++ codes "      SrcPort 1\n"
    ++ codes "      DstBlock \"B1\"\n"
    ++ codes "      DstPort 1\n"
    ++ codes "    }\n"
    ++ codes "    Line {\n"
    ++ codes "      SrcBlock \"In\"\n"
    ++ codes "      SrcPort 1\n"
    ++ codes "      DstBlock \"B1\"\n"
    ++ codes "      DstPort 2\n"
    ++ codes "    }\n"
    ++ codes "    Line {\n"
    ++ codes "      SrcBlock \"B1\"\n"
    ++ codes "      SrcPort 1\n"
    ++ codes "      DstBlock \"Down\"\n"
    ++ codes "      DstPort 1\n"
    ++ codes "    }\n"
    ++ codes "    Line {\n"
    ++ codes "      SrcBlock \"B1\"\n"
    ++ codes "      SrcPort 1\n"
    ++ codes "      DstBlock \"Out\"\n"
    ++ codes "      DstPort 1\n"
    ++ codes "    }\n"
    ++ codes "    Line {\n"
    ++ codes "      SrcBlock \"Down\"\n"
    ++ codes "      SrcPort 1\n"
    ++ codes "      DstBlock \"Slow\"\n"
    ++ codes "      DstPort 1\n"
    ++ codes "    }\n"
    ++ codes "  }\n"
    ++ codes "}\n"
unfolding number_after digits parameter_text block_head section_end type_parameter gain_parameters source_text target_text model_head input_text ends_text end_lines model_end
first-model = refl

first-stimulus : sample_stimulus 1
    ≡ codes "616\n"
    ++ codes "9722\n"
    ++ codes "-7677\n"
    ++ codes "19362\n"
    ++ codes "33\n"
    ++ codes "3534\n"
    ++ codes "-28481\n"
    ++ codes "22264\n"
unfolding number_after digits
first-stimulus = refl

-- a summary, and fields that are equal at none, some and all hits
first-summary : summary_text 1 (record { multiplications = 1; out_latency = 1; slow_latency = 64 }) 12
    ≡ codes "blocks 5\n" ++ codes "samples 8\n" ++ codes "multiplications 1\n" ++ codes "latency Out 1\n" ++ codes "latency Slow 64\n" ++ codes "equal 12 of 12\n"
unfolding digits number_line made_lines equal_line
first-summary = refl

none-equal : equal_count (codes "1 2\n3 -\n5 6\n7 -\n9 0\n1 -\n3 4\n5 -\n") [] ≡ 0
none-equal = refl

two-equal : equal_count (codes "1 2\n3 -\n5 6\n7 -\n9 0\n1 -\n3 4\n5 -\n") (codes "1 2\n") ≡ 2
two-equal = refl

-- a response of no bytes has no field in common with any other
empty-field : (other : Option (List ℕ)) → are_equal (Some []) other ≡ false
empty-field None = refl
empty-field (Some other) = refl

nothing-equal : (told : List ℕ) → equal_count [] told ≡ 0
nothing-equal told = ap (λ (flag : Bool). 0 + (one_if flag + 0) + 0 + 0 + 0 + 0 + 0 + 0 + 0) (empty-field (field_at told 0 0))

all-equal : equal_count (codes "1 2\n3 -\n5 6\n7 -\n9 0\n1 -\n3 4\n5 -\n") (codes "1 2\n3 -\n5 6\n7 -\n9 0\n1 -\n3 4\n5 -\n") ≡ 12
all-equal = refl
