-- Each block is such as its text can be: one lemma a type.
use Rattle.std.proofs.Common.{ℕ, List, refl}
use Rattle.std.proofs.Math.Dec.{lit≤}
use Rattle.dg_model.specs.Sound.{HasReadable}
use Rattle.mdl_text.specs.declared.tree.Item.{Item}
use Rattle.mdl_build.specs.declared.library.BlockType.TheVariants.{Inport, Outport, Constant, Ground, Terminator, SubSystem, EnablePort, DiscreteFir, Sum, Gain, Product, UnitDelay, Delay, Switch}
use Rattle.mdl_build.specs.declared.library.BlockType.TheVariants.{RelationalOperator, Logic, DataTypeConversion, Mux, Demux, RateTransition}
use Rattle.mdl_build.specs.declared.parts.Standing.{Standing}
use Rattle.mdl_build.specs.declared.settings.Settings.{Settings}
use Rattle.mdl_build.specs.Blocks.{HasSettings}
use Rattle.mdl_build.specs.Library.{row}
use Rattle.mdl_build.specs.Lookup.{text_of}
use Rattle.mdl_build.specs.declared.library.Reader.{Reader}
use Rattle.mdl_build.specs.declared.library.BlockType.{BlockType}
use Rattle.std.specs.Prelude.{codes}
use Rattle.mdl_build.proofs.PartRanges.{operands_are, mux_parts, demux_parts}
use Rattle.mdl_build.specs.Parts.{part_of}
use Rattle.mdl_build.proofs.SettingRanges.{auto_of, choice_of, coefficient_of, type_valid, may_declare, constant_period, period_above, list_size, signs_size, width_range, conversion_of}

pub readable_Constant : (items : List Item) (place : ℕ) (standing : Standing) (settings : Settings) → HasSettings items Constant place settings → HasReadable (part_of standing Constant settings)
readable_Constant items place standing settings h =
    let p0 = h.1 in
    let r1 = auto_of _ _ _ h.2.1 in
    let p2 = h.2.2.1 in
    rw (h.2.2.2, p0.2, r1.3, p2.2)
    (record { ports = (refl, refl); parameters = p0.1.size; types = r1.2; result = r1.1; rounding = (refl, refl); period = constant_period _ p2.0 p2.1 })

pub readable_Sum : (items : List Item) (place : ℕ) (standing : Standing) (settings : Settings) → HasSettings items Sum place settings → HasReadable (part_of standing Sum settings)
readable_Sum items place standing settings h =
    let p1 = h.2.1 in
    let r2 = choice_of _ _ _ _ h.2.2.1 in
    let p5 = h.2.2.2.2.2.1 in
    let a = coefficient_of (codes "Inherit: Inherit via internal rule")
    (codes "Inherit: Same as first input")
    (text_of items Sum place (row (codes "AccumDataTypeStr")
    (codes "Inherit: Inherit via internal rule") Reader.AccumulatorType)) p1.0 p1.1 in
    rw (h.2.2.2.2.2.2, h.1.2, p1.2, r2.3, h.2.2.2.1.2, h.2.2.2.2.1.2, p5.2)
    (record { ports = (refl, refl); parameters = (signs_size _ h.1.0 h.1.1, a.0, a.1); types = r2.2; result = r2.1; rounding = tt; period = may_declare _ p5.0 p5.1 })

pub readable_Gain : (items : List Item) (place : ℕ) (standing : Standing) (settings : Settings) → HasSettings items Gain place settings → HasReadable (part_of standing Gain settings)
readable_Gain items place standing settings h =
    let p0 = h.1 in
    let p1 = h.2.1 in
    let r3 = choice_of _ _ _ _ h.2.2.2.1 in
    let p6 = h.2.2.2.2.2.2.1 in
    let c = coefficient_of (codes "Inherit: Inherit via internal rule")
    (codes "Inherit: Same as input") (text_of items Gain place
    (row (codes "ParamDataTypeStr") (codes "Inherit: Inherit via internal rule") Reader.CoefficientType))
    p1.0 p1.1 in
    rw (h.2.2.2.2.2.2.2, p0.2, p1.2, h.2.2.1.1, r3.3, h.2.2.2.2.1.2, h.2.2.2.2.2.1.2, p6.2)
    (record { ports = (refl, refl); parameters = (p0.1.size, c.0, c.1); types = r3.2; result = r3.1; rounding = tt; period = may_declare _ p6.0 p6.1 })

pub readable_Product : (items : List Item) (place : ℕ) (standing : Standing) (settings : Settings) → HasSettings items Product place settings → HasReadable (part_of standing Product settings)
readable_Product items place standing settings h =
    let r2 = choice_of _ _ _ _ h.2.2.1 in
    let p5 = h.2.2.2.2.2.1 in
    rw (h.2.2.2.2.2.2, h.1.1, h.2.1.1, r2.3, h.2.2.2.1.2, h.2.2.2.2.1.2, p5.2)
    (record { ports = (refl, refl); parameters = tt; types = r2.2; result = r2.1; rounding = tt; period = may_declare _ p5.0 p5.1 })

pub readable_UnitDelay : (items : List Item) (place : ℕ) (standing : Standing) (settings : Settings) → HasSettings items UnitDelay place settings → HasReadable (part_of standing UnitDelay settings)
readable_UnitDelay items place standing settings h =
    let p0 = h.1 in
    let p1 = h.2.1 in
    rw (h.2.2, p0.2, p1.2)
    (record { ports = (refl, refl); parameters = ((lit≤ tt, lit≤ tt), p0.1.size); types = tt; result = refl; rounding = (refl, refl); period = may_declare _ p1.0 p1.1 })

pub readable_Delay : (items : List Item) (place : ℕ) (standing : Standing) (settings : Settings) → HasSettings items Delay place settings → HasReadable (part_of standing Delay settings)
readable_Delay items place standing settings h =
    let p0 = h.1 in
    let p1 = h.2.1 in
    let p2 = h.2.2.1 in
    rw (h.2.2.2.2.2.2.2, p0.2, p1.2, p2.2, h.2.2.2.1.1, h.2.2.2.2.1.1, h.2.2.2.2.2.1.1, h.2.2.2.2.2.2.1.1)
    (record { ports = (refl, refl); parameters = (p0.1.in_range, p1.1.size); types = tt; result = refl; rounding = (refl, refl); period = may_declare _ p2.0 p2.1 })

pub readable_Switch : (items : List Item) (place : ℕ) (standing : Standing) (settings : Settings) → HasSettings items Switch place settings → HasReadable (part_of standing Switch settings)
readable_Switch items place standing settings h =
    let p1 = h.2.1 in
    let r2 = choice_of _ _ _ _ h.2.2.1 in
    let p5 = h.2.2.2.2.2.1 in
    rw (h.2.2.2.2.2.2, h.1.2, p1.2, r2.3, h.2.2.2.1.2, h.2.2.2.2.1.2, p5.2)
    (record { ports = (refl, refl); parameters = p1.1.size; types = r2.2; result = r2.1; rounding = tt; period = may_declare _ p5.0 p5.1 })

pub readable_RelationalOperator : (items : List Item) (place : ℕ) (standing : Standing) (settings : Settings)
    → HasSettings items RelationalOperator place settings
    → HasReadable (part_of standing RelationalOperator settings)
readable_RelationalOperator items place standing settings h =
    let p2 = h.2.2.1 in
    rw (h.2.2.2, h.1.2, h.2.1.1, p2.2)
    (record { ports = (refl, refl); parameters = tt; types = tt; result = refl; rounding = (refl, refl); period = may_declare _ p2.0 p2.1 })

pub readable_DataTypeConversion : (items : List Item) (place : ℕ) (standing : Standing) (settings : Settings)
    → HasSettings items DataTypeConversion place settings
    → HasReadable (part_of standing DataTypeConversion settings)
readable_DataTypeConversion items place standing settings h =
    let p0 = h.1 in
    let r1 = conversion_of _ _ _ h.2.1 in
    let p4 = h.2.2.2.2.1 in
    rw (h.2.2.2.2.2, p0.2, r1.1, h.2.2.1.2, h.2.2.2.1.2, p4.2)
    (record { ports = (refl, refl); parameters = tt; types = type_valid _ p0.0 p0.1; result = tt; rounding = tt; period = may_declare _ p4.0 p4.1 })

pub readable_Logic : (items : List Item) (place : ℕ) (standing : Standing) (settings : Settings) → HasSettings items Logic place settings → HasReadable (part_of standing Logic settings)
readable_Logic items place standing settings h =
    let p0 = h.1 in
    let p1 = h.2.1 in
    let p3 = h.2.2.2.1 in
    rw (h.2.2.2.2, p0.2, p1.2, h.2.2.1.1, p3.2)
    (record {
      ports = (
        operands_are (text_of items Logic place (row (codes "Operator") (codes "AND") Reader.Gate))
            (text_of items Logic place (row (codes "Inputs") (codes "2") Reader.Operands)) p0.0 p1.0 p0.1 p1.1,
        refl,
      );
      parameters = tt;
      types = tt;
      result = refl;
      rounding = (refl, refl);
      period = may_declare _ p3.0 p3.1;
    })

pub readable_Mux : (items : List Item) (place : ℕ) (standing : Standing) (settings : Settings) → HasSettings items Mux place settings → HasReadable (part_of standing Mux settings)
readable_Mux items place standing settings h =
    let p0 = h.1 in
    let m = mux_parts (text_of items Mux place (row (codes "Inputs") (codes "4") Reader.Parts)) p0.0 p0.1.0 p0.1.1 in
    rw (h.2, p0.1.2)
    (record { ports = (m.0, refl); parameters = (m.1, m.2); types = tt; result = refl; rounding = (refl, refl); period = refl })

pub readable_Demux : (items : List Item) (place : ℕ) (standing : Standing) (settings : Settings) → HasSettings items Demux place settings → HasReadable (part_of standing Demux settings)
readable_Demux items place standing settings h =
    let p0 = h.1 in
    let m = demux_parts (text_of items Demux place (row (codes "Outputs") (codes "4") Reader.Parts)) p0.0 p0.1.0 p0.1.1 in
    rw (h.2.2, p0.1.2, h.2.1.1)
    (record { ports = (refl, m.0); parameters = (m.1, m.2); types = tt; result = refl; rounding = (refl, refl); period = refl })

pub readable_RateTransition : (items : List Item) (place : ℕ) (standing : Standing) (settings : Settings)
    → HasSettings items RateTransition place settings → HasReadable (part_of standing RateTransition settings)
readable_RateTransition items place standing settings h =
    let p0 = h.1 in
    let p3 = h.2.2.2.1 in
    rw (h.2.2.2.2, p0.2, h.2.1.1, h.2.2.1.1, p3.2)
    (record {
      ports = (refl, refl);
      parameters = (
        period_above (text_of items RateTransition place
            (row (codes "OutPortSampleTime") (codes "-1") Reader.Period)) p0.0 p0.1,
        p3.1.size,
      );
      types =
          tt;
      result = refl;
      rounding = (refl, refl);
      period = refl;
    })

-- an Inport that stands for an input of its subsystem
readable_inner : (items : List Item) (place : ℕ) (settings : Settings) → HasSettings items Inport place settings → HasReadable (part_of Standing.Plain Inport settings)
readable_inner items place settings h =
    let r1 = auto_of _ _ _ h.2.1 in
    let p2 = h.2.2.1 in
    let p3 = h.2.2.2.1 in
    rw (h.2.2.2.2, h.1.2, r1.3, p2.2, p3.2)
    (record {
      ports = (refl, refl);
      parameters =
          width_range (text_of items Inport place (row (codes "PortDimensions") (codes "-1") Reader.Width)) p3.0 p3.1;
      types = r1.2;
      result = r1.1;
      rounding = (refl, refl);
      period = may_declare _ p2.0 p2.1;
    })

pub readable_Inport : (items : List Item) (place : ℕ) (standing : Standing) (settings : Settings) → HasSettings items Inport place settings → HasReadable (part_of standing Inport settings)
readable_Inport items place Standing.Root settings h =
    let p0 = h.1 in
    let r1 = auto_of _ _ _ h.2.1 in
    let p2 = h.2.2.1 in
    let p3 = h.2.2.2.1 in
    rw (h.2.2.2.2, p0.2, r1.3, p2.2, p3.2)
    (record {
      ports = (refl, refl);
      parameters = (
        p0.1.in_range,
        width_range (text_of items Inport place
            (row (codes "PortDimensions") (codes "-1") Reader.Width)) p3.0 p3.1,
      );
      types =
          r1.2;
      result = r1.1;
      rounding = (refl, refl);
      period = may_declare _ p2.0 p2.1;
    })
readable_Inport items place Standing.Plain settings h = readable_inner items place settings h
readable_Inport items place Standing.Enabled settings h = readable_inner items place settings h

pub readable_Outport : (items : List Item) (place : ℕ) (standing : Standing) (settings : Settings) → HasSettings items Outport place settings → HasReadable (part_of standing Outport settings)
readable_Outport items place Standing.Root settings h =
    let p0 = h.1 in
    let r1 = auto_of _ _ _ h.2.1 in
    let p2 = h.2.2.1 in
    rw (h.2.2.2.2.2, p0.2, r1.3, p2.2, h.2.2.2.1.2, h.2.2.2.2.1.2)
    (record { ports = (refl, refl); parameters = p0.1.in_range; types = r1.2; result = r1.1; rounding = (refl, refl); period = may_declare _ p2.0 p2.1 })
readable_Outport items place Standing.Plain settings h =
    let r1 = auto_of _ _ _ h.2.1 in
    let p2 = h.2.2.1 in
    rw (h.2.2.2.2.2, h.1.2, r1.3, p2.2, h.2.2.2.1.2, h.2.2.2.2.1.2)
    (record { ports = (refl, refl); parameters = (lit≤ tt, lit≤ tt); types = r1.2; result = r1.1; rounding = (refl, refl); period = may_declare _ p2.0 p2.1 })
readable_Outport items place Standing.Enabled settings h =
    let r1 = auto_of _ _ _ h.2.1 in
    let p2 = h.2.2.1 in
    let p4 = h.2.2.2.2.1 in
    rw (h.2.2.2.2.2, h.1.2, r1.3, p2.2, h.2.2.2.1.2, p4.2)
    (record { ports = (refl, refl); parameters = list_size _ p4.0 p4.1; types = r1.2; result = r1.1; rounding = (refl, refl); period = may_declare _ p2.0 p2.1 })

pub readable_Ground : (items : List Item) (place : ℕ) (standing : Standing) (settings : Settings) → HasSettings items Ground place settings → HasReadable (part_of standing Ground settings)
readable_Ground items place standing settings h = rw h (record { ports = (refl, refl); parameters = tt; types = tt; result = refl; rounding = (refl, refl); period = refl })

pub readable_Terminator : (items : List Item) (place : ℕ) (standing : Standing) (settings : Settings) → HasSettings items Terminator place settings → HasReadable (part_of standing Terminator settings)
readable_Terminator items place standing settings h = rw h (record { ports = (refl, refl); parameters = tt; types = tt; result = refl; rounding = (refl, refl); period = refl })

-- a block of any type
pub readable : (items : List Item) (place : ℕ) (standing : Standing) (block_type : BlockType) (settings : Settings)
    → HasSettings items block_type place settings → HasReadable (part_of standing block_type settings)
readable items place standing Inport settings h = readable_Inport items place standing settings h
readable items place standing Outport settings h = readable_Outport items place standing settings h
readable items place standing Constant settings h = readable_Constant items place standing settings h
readable items place standing Ground settings h = readable_Ground items place standing settings h
readable items place standing Terminator settings h = readable_Terminator items place standing settings h
readable items place standing Sum settings h = readable_Sum items place standing settings h
readable items place standing Gain settings h = readable_Gain items place standing settings h
readable items place standing Product settings h = readable_Product items place standing settings h
readable items place standing UnitDelay settings h = readable_UnitDelay items place standing settings h
readable items place standing Delay settings h = readable_Delay items place standing settings h
readable items place standing Switch settings h = readable_Switch items place standing settings h
readable items place standing RelationalOperator settings h = readable_RelationalOperator items place standing settings h
readable items place standing Logic settings h = readable_Logic items place standing settings h
readable items place standing DataTypeConversion settings h = readable_DataTypeConversion items place standing settings h
readable items place standing Mux settings h = readable_Mux items place standing settings h
readable items place standing Demux settings h = readable_Demux items place standing settings h
readable items place standing RateTransition settings h = readable_RateTransition items place standing settings h
readable items place standing SubSystem settings h = tt
readable items place standing EnablePort settings h = tt
readable items place standing DiscreteFir settings h = tt
