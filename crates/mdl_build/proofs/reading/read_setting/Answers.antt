use Rattle.std.proofs.Common.{refl, ◌∙◌}
use Rattle.mdl_values.specs.Numbers.{IsNumberText}
use Rattle.mdl_values.specs.Periods.{IsPeriodText, IsSampleTime, IsConstantTime, IsWidthText}
use Rattle.mdl_values.specs.Words.{rounding_of, switch_of, reset_of, criterion_of, relation_of, gate_of}
use Rattle.mdl_build.specs.declared.library.Reader.{Reader}
use Rattle.mdl_build.specs.declared.settings.Setting.{Setting}
use Rattle.mdl_build.proofs.Readings.{found_in, word_in, reads_as}
use Rattle.mdl_build.proofs.reading.read_setting.Goals as goal

pub returns-in-Operands : goal.returns-in-Operands
returns-in-Operands c =
    reads_as c.args.first.now Reader.Operands c.args.parameter.2 c.args.parameter.1.now c.args.parameter.1.now c.args.text.now c.operands.result c.in-Operands.ensures refl c.operands.ensures

pub returns-in-Type : goal.returns-in-Type
returns-in-Type c =
    reads_as c.args.first.now Reader.Type c.args.parameter.2 c.args.parameter.1.now c.args.parameter.1.now c.args.text.now c.type_alone.result c.in-Type.ensures refl c.type_alone.ensures

pub returns-in-TypeOrAuto : goal.returns-in-TypeOrAuto
returns-in-TypeOrAuto c =
    reads_as c.args.first.now Reader.TypeOrAuto c.args.parameter.2 c.as_bytes-default.result.now c.args.parameter.1.now c.args.text.now c.type_or.result c.in-TypeOrAuto.ensures
    (c.as_bytes-default.ensures.value ∙ c.default.ensures) c.type_or.ensures

pub returns-in-TypeOrFirst : goal.returns-in-TypeOrFirst
returns-in-TypeOrFirst c =
    reads_as c.args.first.now Reader.TypeOrFirst c.args.parameter.2 c.as_bytes-default.result.now c.args.parameter.1.now c.args.text.now c.type_or_first.result c.in-TypeOrFirst.ensures
    (c.as_bytes-default.ensures.value ∙ c.default.ensures) c.type_or_first.ensures

pub returns-in-TypeOrInput : goal.returns-in-TypeOrInput
returns-in-TypeOrInput c =
    reads_as c.args.first.now Reader.TypeOrInput c.args.parameter.2 c.as_bytes-default.result.now c.args.parameter.1.now c.args.text.now c.type_or_first-in-TypeOrInput.result c.in-TypeOrInput.ensures
    (c.as_bytes-default.ensures.value ∙ c.default.ensures) c.type_or_first-in-TypeOrInput.ensures

pub returns-in-CoefficientType : goal.returns-in-CoefficientType
returns-in-CoefficientType c =
    reads_as c.args.first.now Reader.CoefficientType c.args.parameter.2 c.as_bytes-default.result.now c.args.parameter.1.now c.args.text.now c.coefficient.result c.in-CoefficientType.ensures
    (c.as_bytes-default.ensures.value ∙ c.default.ensures) c.coefficient.ensures

pub returns-in-AccumulatorType : goal.returns-in-AccumulatorType
returns-in-AccumulatorType c =
    reads_as c.args.first.now Reader.AccumulatorType c.args.parameter.2 c.as_bytes-default.result.now
    c.args.parameter.1.now c.args.text.now c.coefficient-in-AccumulatorType.result c.in-AccumulatorType.ensures
    (c.as_bytes-default.ensures.value ∙ c.default.ensures) c.coefficient-in-AccumulatorType.ensures

pub returns-in-Conversion : goal.returns-in-Conversion
returns-in-Conversion c =
    reads_as c.args.first.now Reader.Conversion c.args.parameter.2 c.as_bytes-default.result.now c.args.parameter.1.now c.args.text.now c.conversion.result c.in-Conversion.ensures
    (c.as_bytes-default.ensures.value ∙ c.default.ensures) c.conversion.ensures

pub returns-in-Port : goal.returns-in-Port
returns-in-Port c =
    reads_as c.args.first.now Reader.Port c.args.parameter.2 c.args.parameter.1.now c.args.parameter.1.now c.args.text.now c.map.result c.in-Port.ensures refl
    (found_in (IsNumberText 1 20000 c.args.text.now) Setting.Number c.read_number.result c.map.result c.map.ensures.cases c.read_number.ensures)

pub returns-in-Length : goal.returns-in-Length
returns-in-Length c =
    reads_as c.args.first.now Reader.Length c.args.parameter.2 c.args.parameter.1.now c.args.parameter.1.now c.args.text.now c.map-in-Length.result c.in-Length.ensures refl
    (found_in (IsNumberText 1 1024 c.args.text.now) Setting.Number c.read_number-in-Length.result c.map-in-Length.result c.map-in-Length.ensures.cases c.read_number-in-Length.ensures)

pub returns-in-Rounding : goal.returns-in-Rounding
returns-in-Rounding c =
    reads_as c.args.first.now Reader.Rounding c.args.parameter.2 c.args.parameter.1.now c.args.parameter.1.now c.args.text.now c.map-in-Rounding.result c.in-Rounding.ensures refl
    (word_in (rounding_of c.args.text.now) c.read_rounding.result Setting.Rounding c.map-in-Rounding.result c.map-in-Rounding.ensures.cases c.read_rounding.ensures)

pub returns-in-Saturation : goal.returns-in-Saturation
returns-in-Saturation c =
    reads_as c.args.first.now Reader.Saturation c.args.parameter.2 c.args.parameter.1.now c.args.parameter.1.now c.args.text.now c.map-in-Saturation.result c.in-Saturation.ensures refl
    (word_in (switch_of c.args.text.now) c.read_switch.result Setting.Saturate c.map-in-Saturation.result c.map-in-Saturation.ensures.cases c.read_switch.ensures)

pub returns-in-Reset : goal.returns-in-Reset
returns-in-Reset c =
    reads_as c.args.first.now Reader.Reset c.args.parameter.2 c.args.parameter.1.now c.args.parameter.1.now c.args.text.now c.map-in-Reset.result c.in-Reset.ensures refl
    (word_in (reset_of c.args.text.now) c.read_reset.result Setting.Flag c.map-in-Reset.result c.map-in-Reset.ensures.cases c.read_reset.ensures)

pub returns-in-Criterion : goal.returns-in-Criterion
returns-in-Criterion c =
    reads_as c.args.first.now Reader.Criterion c.args.parameter.2 c.args.parameter.1.now c.args.parameter.1.now c.args.text.now c.map-in-Criterion.result c.in-Criterion.ensures refl
    (word_in (criterion_of c.args.text.now) c.read_criterion.result Setting.Criterion c.map-in-Criterion.result c.map-in-Criterion.ensures.cases c.read_criterion.ensures)

pub returns-in-Relation : goal.returns-in-Relation
returns-in-Relation c =
    reads_as c.args.first.now Reader.Relation c.args.parameter.2 c.args.parameter.1.now c.args.parameter.1.now c.args.text.now c.map-in-Relation.result c.in-Relation.ensures refl
    (word_in (relation_of c.args.text.now) c.read_relation.result Setting.Relation c.map-in-Relation.result c.map-in-Relation.ensures.cases c.read_relation.ensures)

pub returns-in-Gate : goal.returns-in-Gate
returns-in-Gate c =
    reads_as c.args.first.now Reader.Gate c.args.parameter.2 c.args.parameter.1.now c.args.parameter.1.now c.args.text.now c.map-in-Gate.result c.in-Gate.ensures refl
    (word_in (gate_of c.args.text.now) c.read_gate.result Setting.Gate c.map-in-Gate.result c.map-in-Gate.ensures.cases c.read_gate.ensures)

pub returns-in_ok-read_width-in-Width : goal.returns-in_ok-read_width-in-Width
returns-in_ok-read_width-in-Width c =
    reads_as c.args.first.now Reader.Width c.args.parameter.2 c.args.parameter.1.now c.args.parameter.1.now c.args.text.now c.map-in-Width.result c.in-Width.ensures refl
    (found_in (IsWidthText c.args.text.now) Setting.Width c.in_ok-read_width-in-Width.field-0 c.map-in-Width.result c.map-in-Width.ensures.cases c.in_ok-read_width-in-Width.ensures)

pub returns-in_ok-read_sample_time-in-SampleTime : goal.returns-in_ok-read_sample_time-in-SampleTime
returns-in_ok-read_sample_time-in-SampleTime c =
    reads_as c.args.first.now Reader.SampleTime c.args.parameter.2 c.args.parameter.1.now c.args.parameter.1.now c.args.text.now c.map-in-SampleTime.result c.in-SampleTime.ensures refl
    (found_in (IsSampleTime c.args.text.now) Setting.Period c.in_ok-read_sample_time-in-SampleTime.field-0
    c.map-in-SampleTime.result c.map-in-SampleTime.ensures.cases c.in_ok-read_sample_time-in-SampleTime.ensures)

pub returns-in_ok-read_constant_time-in-ConstantTime : goal.returns-in_ok-read_constant_time-in-ConstantTime
returns-in_ok-read_constant_time-in-ConstantTime c =
    reads_as c.args.first.now Reader.ConstantTime c.args.parameter.2 c.args.parameter.1.now c.args.parameter.1.now c.args.text.now c.map-in-ConstantTime.result c.in-ConstantTime.ensures refl
    (found_in (IsConstantTime c.args.text.now) Setting.Period c.in_ok-read_constant_time-in-ConstantTime.field-0
    c.map-in-ConstantTime.result c.map-in-ConstantTime.ensures.cases
    c.in_ok-read_constant_time-in-ConstantTime.ensures)

pub returns-in_ok-read_period-in-Period : goal.returns-in_ok-read_period-in-Period
returns-in_ok-read_period-in-Period c =
    reads_as c.args.first.now Reader.Period c.args.parameter.2 c.args.parameter.1.now c.args.parameter.1.now c.args.text.now c.map-in-Period.result c.in-Period.ensures refl
    (found_in (IsPeriodText c.args.text.now) Setting.Rate c.in_ok-read_period-in-Period.field-0 c.map-in-Period.result c.map-in-Period.ensures.cases c.in_ok-read_period-in-Period.ensures)

pub returns-in-TypeOrInternal : goal.returns-in-TypeOrInternal
returns-in-TypeOrInternal c =
    reads_as c.args.first.now Reader.TypeOrInternal c.args.parameter.2 c.as_bytes-default.result.now
    c.args.parameter.1.now c.args.text.now c.type_or-in-TypeOrInternal.result c.in-TypeOrInternal.ensures
    (c.as_bytes-default.ensures.value ∙ c.default.ensures) c.type_or-in-TypeOrInternal.ensures

pub returns-in-TapType : goal.returns-in-TapType
returns-in-TapType c =
    reads_as c.args.first.now Reader.TapType c.args.parameter.2 c.as_bytes-default.result.now c.args.parameter.1.now c.args.text.now c.tap_type.result c.in-TapType.ensures
    (c.as_bytes-default.ensures.value ∙ c.default.ensures) c.tap_type.ensures
