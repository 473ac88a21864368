-- The model text of a sample: an input, a chain of blocks, a rate transition and two outputs (own).
-- Each parameter that isn't its default stands quoted, in the order in which they are listed for
-- its BlockType. The lines follow the blocks, in the order of destination and port.
use Rattle.std.specs.Prelude.{ℕ, ◌-◌, ◌==◌, if◌then◌else◌, List, [], ◌++◌, codes}
use Rattle.std.specs.Fmt.{decimal}
use Rattle.std.specs.List.{flat_map, range_with_len}
use Rattle.cmd_sample.specs.declared.chain.ChainKind.{ChainKind}
use Rattle.cmd_sample.specs.declared.chain.ChainKind.TheVariants.{Delay, Sum, Gain, Product, Switch}
use Rattle.cmd_sample.specs.Chain.{kind_of, word_of, inputs_of}
use Rattle.cmd_sample.specs.Numbers.{sample_number}

-- the name of the block at a place of the chain; before the first stands the input
abbrev pub chain_name : ℕ → List ℕ
chain_name place = if place == 0 then codes "In" else codes "B" ++ decimal place

-- the line of a parameter
unfoldable pub parameter_text : List ℕ → List ℕ → List ℕ
parameter_text name value = codes "      " ++ name ++ codes " \"" ++ value ++ codes "\"\n"

-- the lines with which a block begins
unfoldable pub block_head : List ℕ → List ℕ → List ℕ
block_head word name =
    codes "    Block {\n" ++ codes "      BlockType " ++ word ++ codes "\n"
    ++ parameter_text (codes "Name") name

-- the line with which a block or a line ends
unfoldable pub section_end : List ℕ
section_end = codes "    }\n"

-- a block of this BlockType, name and parameters
abbrev pub block_text : List ℕ → List ℕ → List ℕ → List ℕ
block_text word name parameters = block_head word name ++ parameters ++ section_end

-- the type of the input and of what the chain computes
unfoldable pub type_parameter : List ℕ
type_parameter = parameter_text (codes "OutDataTypeStr") (codes "fixdt(1,16,8)")

-- a gain of 0.75 with its type
unfoldable pub gain_parameters : List ℕ
gain_parameters =
    parameter_text (codes "Gain") (codes "0.75")
    ++ parameter_text (codes "ParamDataTypeStr") (codes "fixdt(1,16,14)") ++ type_parameter

-- the parameters of a block of the chain
abbrev pub parameters_of : ChainKind → List ℕ
parameters_of Delay = parameter_text (codes "InitialCondition") (codes "1")
parameters_of Sum = type_parameter
parameters_of Gain = gain_parameters
parameters_of Product = type_parameter
parameters_of Switch = type_parameter

-- the block of a kind at a place of the chain
abbrev pub chain_text : ℕ → ChainKind → List ℕ
chain_text place kind = block_text (word_of kind) (chain_name place) (parameters_of kind)

-- the lines of a line's source, output port 1 of a block, and of its destination
unfoldable pub source_text : List ℕ → List ℕ
source_text source =
    codes "    Line {\n" ++ parameter_text (codes "SrcBlock") source ++ codes "      SrcPort 1\n"

unfoldable pub target_text : List ℕ → ℕ → List ℕ
target_text target port =
    parameter_text (codes "DstBlock") target ++ codes "      DstPort " ++ decimal port ++ codes "\n"
    ++ section_end

-- a line from a block to a port of another
abbrev pub line_text : List ℕ → List ℕ → ℕ → List ℕ
line_text source target port = source_text source ++ target_text target port

-- the lines into a block of a kind at a place of the chain
abbrev pub chain_lines : ℕ → ChainKind → List ℕ
chain_lines place kind =
    line_text (chain_name (place - 1)) (chain_name place) 1
    ++ flat_map (line_text (codes "In") (chain_name place)) (range_with_len 2 (inputs_of kind - 1))

-- the kind of the block at a place of the chain of so many
abbrev pub kind_at : ℕ → ℕ → ChainKind
kind_at count place = kind_of place (sample_number count place)

-- the block at a place of the chain of so many, and the lines into it
abbrev pub block_at : ℕ → ℕ → List ℕ
block_at count place = chain_text place (kind_at count place)

abbrev pub lines_at : ℕ → ℕ → List ℕ
lines_at count place = chain_lines place (kind_at count place)

-- before the blocks
unfoldable pub model_head : List ℕ
model_head = codes "Model {\n" ++ codes "  Name \"sample\"\n" ++ codes "  System {\n"

-- the input
unfoldable pub input_text : List ℕ
input_text =
    block_text (codes "Inport") (codes "In")
    (type_parameter ++ parameter_text (codes "SampleTime") (codes "1"))

-- the blocks behind the chain
unfoldable pub ends_text : List ℕ
ends_text =
    block_text (codes "RateTransition") (codes "Down")
    (parameter_text (codes "OutPortSampleTime") (codes "2"))
    ++ block_text (codes "Outport") (codes "Out") []
    ++ block_text (codes "Outport") (codes "Slow") (parameter_text (codes "Port") (codes "2"))

-- and the lines into them, behind the last block of the chain
unfoldable pub end_lines : List ℕ → List ℕ
end_lines last =
    line_text last (codes "Down") 1 ++ line_text last (codes "Out") 1
    ++ line_text (codes "Down") (codes "Slow") 1

-- behind the lines
unfoldable pub model_end : List ℕ
model_end = codes "  }\n}\n"

-- the text of the model with a chain of so many blocks
abbrev pub sample_model : ℕ → List ℕ
sample_model count =
    model_head ++ input_text ++ flat_map (block_at count) (range_with_len 1 count)
    ++ ends_text ++ flat_map (lines_at count) (range_with_len 1 count)
    ++ end_lines (chain_name count) ++ model_end
