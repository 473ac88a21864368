-- Which block types are known, and which parameters are read of each: the same table as the code
-- has, line by line (Simulink reference, each block's page; the defaults are own).
use Rattle.std.specs.Prelude.{ℕ, List, [], ◌∷◌, Option, codes}
use Rattle.std.specs.List.{find}
use Rattle.std.specs.Str.{bytes_eq}
use Rattle.mdl_build.specs.declared.library.BlockType.{BlockType}
use Rattle.mdl_build.specs.declared.library.BlockType.TheVariants.{Inport, Outport, Constant, Ground, Terminator, Sum, Gain, Product, UnitDelay, Delay, Switch, RelationalOperator, Logic, DataTypeConversion, Mux, Demux, RateTransition, SubSystem, EnablePort, DiscreteFir}
use Rattle.mdl_build.specs.declared.library.Parameter.{Parameter}
use Rattle.mdl_build.specs.declared.library.Reader.{Reader}

-- a parameter: its name, its value where the model gives none, and how it is read
pub record ParameterRow : Type 0 where
  pub name : List ℕ
  pub default : List ℕ
  pub reader : Reader

-- the same, as the code has it
abbrev pub row_of : Parameter → ParameterRow
row_of parameter =
    record { name = parameter.0.now; default = parameter.1.now; reader = parameter.2 }

abbrev pub row : List ℕ → List ℕ → Reader → ParameterRow
row name default reader = record { name = name; default = default; reader = reader }

-- one that has its default alone
abbrev pub fixed : List ℕ → List ℕ → ParameterRow
fixed name default = row name default Reader.Default

-- ---- parameters of several block types

-- a type, which need not be said
abbrev pub type_or_auto : ParameterRow
type_or_auto = row (codes "OutDataTypeStr") (codes "Inherit: auto") Reader.TypeOrAuto

-- a type, the internal rule, or the first input's type
abbrev pub type_or_first : ParameterRow
type_or_first =
    row (codes "OutDataTypeStr") (codes "Inherit: Inherit via internal rule") Reader.TypeOrFirst

-- the type of what is true or false
abbrev pub truth : ParameterRow
truth = row (codes "OutDataTypeStr") (codes "boolean") Reader.Truth

-- what an element has before its first value
abbrev pub initial_condition : ParameterRow
initial_condition = row (codes "InitialCondition") (codes "0") Reader.List

-- a period, or an inherited one
abbrev pub sample_time : ParameterRow
sample_time = row (codes "SampleTime") (codes "-1") Reader.SampleTime

-- how a result is rounded, whether one that is too large is held at the end of its type, and a
-- period
abbrev pub settling : List ParameterRow
settling =
    row (codes "RndMeth") (codes "Floor") Reader.Rounding ∷
    row (codes "SaturateOnIntegerOverflow") (codes "off") Reader.Saturation ∷
    sample_time ∷
    []

-- the coefficients of a filter
abbrev pub taps : ParameterRow
taps = row (codes "Coefficients") (codes "[0.5 0.5]") Reader.Taps

-- ---- block types

-- a block type: its place among all of them, its name, and its parameters in the order in which
-- they are tried
pub record TypeRow : Type 0 where
  pub number : ℕ
  pub name : List ℕ
  pub parameters : List ParameterRow

abbrev pub type_as : ℕ → List ℕ → List ParameterRow → TypeRow
type_as number name parameters = record { number = number; name = name; parameters = parameters }

-- the table
abbrev pub type_row : BlockType → TypeRow
type_row Inport = type_as 0 (codes "Inport") (
    row (codes "Port") (codes "1") Reader.Port ∷
    type_or_auto ∷ sample_time ∷
    row (codes "PortDimensions") (codes "-1") Reader.Width ∷
    []
    )
type_row Outport = type_as 1 (codes "Outport") (
    row (codes "Port") (codes "1") Reader.Port ∷
    type_or_auto ∷ sample_time ∷
    row (codes "OutputWhenDisabled") (codes "held") Reader.Reset ∷
    row (codes "InitialOutput") (codes "[]") Reader.ListOrEmpty ∷
    []
    )
type_row Constant = type_as 2 (codes "Constant") (
    row (codes "Value") (codes "1") Reader.List ∷
    row (codes "OutDataTypeStr")
    (codes "Inherit: Inherit from 'Constant value'") Reader.TypeOrAuto ∷
    row (codes "SampleTime") (codes "inf") Reader.ConstantTime ∷
    []
    )
type_row Ground = type_as 3 (codes "Ground") []
type_row Terminator = type_as 4 (codes "Terminator") []
type_row Sum = type_as 5 (codes "Sum") (
    row (codes "Inputs") (codes "++") Reader.Signs ∷
    row (codes "AccumDataTypeStr")
    (codes "Inherit: Inherit via internal rule") Reader.AccumulatorType ∷
    type_or_first ∷ settling
    )
type_row Gain = type_as 6 (codes "Gain") (
    row (codes "Gain") (codes "1") Reader.List ∷
    row (codes "ParamDataTypeStr")
    (codes "Inherit: Inherit via internal rule") Reader.CoefficientType ∷
    fixed (codes "Multiplication") (codes "Element-wise(K.*u)") ∷
    row (codes "OutDataTypeStr") (codes "Inherit: Inherit via internal rule") Reader.TypeOrInput ∷
    settling
    )
type_row Product = type_as 7 (codes "Product") (
    row (codes "Inputs") (codes "2") Reader.Factors ∷
    fixed (codes "Multiplication") (codes "Element-wise(.*)") ∷
    type_or_first ∷ settling
    )
type_row UnitDelay = type_as 8 (codes "UnitDelay") (initial_condition ∷ sample_time ∷ [])
type_row Delay = type_as 9 (codes "Delay") (
    row (codes "DelayLength") (codes "2") Reader.Length ∷
    initial_condition ∷ sample_time ∷
    fixed (codes "DelayLengthSource") (codes "Dialog") ∷
    fixed (codes "InitialConditionSource") (codes "Dialog") ∷
    fixed (codes "ExternalReset") (codes "None") ∷
    fixed (codes "ShowEnablePort") (codes "off") ∷
    []
    )
type_row Switch = type_as 10 (codes "Switch") (
    row (codes "Criteria") (codes "u2 >= Threshold") Reader.Criterion ∷
    row (codes "Threshold") (codes "0") Reader.List ∷
    type_or_first ∷ settling
    )
type_row RelationalOperator = type_as 11 (codes "RelationalOperator") (
    row (codes "Operator") (codes "<=") Reader.Relation ∷
    truth ∷ sample_time ∷
    []
    )
type_row Logic = type_as 12 (codes "Logic") (
    row (codes "Operator") (codes "AND") Reader.Gate ∷
    row (codes "Inputs") (codes "2") Reader.Operands ∷
    truth ∷ sample_time ∷
    []
    )
type_row DataTypeConversion = type_as 13 (codes "DataTypeConversion") (
    row (codes "OutDataTypeStr") (codes "Inherit: Inherit via back propagation") Reader.Type ∷
    row (codes "ConvertRealWorld") (codes "Real World Value (RWV)") Reader.Conversion ∷
    settling
    )
type_row Mux = type_as 14 (codes "Mux") (row (codes "Inputs") (codes "4") Reader.Parts ∷ [])
type_row Demux = type_as 15 (codes "Demux") (
    row (codes "Outputs") (codes "4") Reader.Parts ∷
    fixed (codes "BusSelectionMode") (codes "off") ∷
    []
    )
type_row RateTransition = type_as 16 (codes "RateTransition") (
    row (codes "OutPortSampleTime") (codes "-1") Reader.Period ∷
    fixed (codes "OutPortSampleTimeOpt") (codes "Specify") ∷
    fixed (codes "Deterministic") (codes "on") ∷
    initial_condition ∷
    []
    )
type_row SubSystem =
    type_as 17 (codes "SubSystem") (fixed (codes "SystemSampleTime") (codes "-1") ∷ [])
type_row EnablePort = type_as 18 (codes "EnablePort") (
    row (codes "StatesWhenEnabling") (codes "held") Reader.Reset ∷
    fixed (codes "ShowOutputPort") (codes "off") ∷
    []
    )
type_row DiscreteFir = type_as 19 (codes "DiscreteFir") (
    taps ∷
    fixed (codes "CoefSource") (codes "Dialog parameters") ∷
    fixed (codes "FilterStructure") (codes "Direct form") ∷
    row (codes "InitialStates") (codes "0") Reader.States ∷
    row (codes "CoefDataTypeStr") (codes "Inherit: Same word length as input") Reader.TapType ∷
    fixed (codes "ProductDataTypeStr") (codes "Inherit: Inherit via internal rule") ∷
    fixed (codes "AccumDataTypeStr") (codes "Inherit: Inherit via internal rule") ∷
    row (codes "OutDataTypeStr")
    (codes "Inherit: Inherit via internal rule") Reader.TypeOrInternal ∷
    settling
    )

-- its columns
abbrev pub number_of : BlockType → ℕ
number_of block_type = (type_row block_type).number

abbrev pub type_name : BlockType → List ℕ
type_name block_type = (type_row block_type).name

abbrev pub parameters_of : BlockType → List ParameterRow
parameters_of block_type = (type_row block_type).parameters

-- all of them
abbrev pub block_types : List BlockType
block_types =
    Inport ∷ Outport ∷ Constant ∷ Ground ∷ Terminator ∷ Sum ∷ Gain ∷ Product ∷ UnitDelay ∷ Delay
    ∷ Switch ∷ RelationalOperator ∷ Logic ∷
    DataTypeConversion ∷ Mux ∷ Demux ∷ RateTransition ∷ SubSystem ∷ EnablePort ∷ DiscreteFir ∷ []

-- the block type of a name
abbrev pub type_of_name : List ℕ → Option BlockType
type_of_name name = find (λ block_type. bytes_eq (type_name block_type) name) block_types
