-- What each kind of block may carry and how it behaves beside its equation: one row a kind
-- (Simulink reference, each block's page; the limits are own). A new kind has no meaning before it
-- has a row.
use Rattle.std.specs.Prelude.{◌⊎◌, pos, true, false, [], ◌∷◌, length, All, ⊤}
use Rattle.fx_type.specs.declared.kind.FxType.TheVariants.{Num, Logical as LogicalType}
use Rattle.fx_type.specs.declared.spec.TypeSpec.TheVariants.{Auto}
use Rattle.dg_model.specs.declared.diagram.PeriodSpec.TheVariants.{Inherit, Every}
use Rattle.dg_model.specs.declared.kind.Kind.{Kind}
use Rattle.dg_model.specs.declared.kind.Kind.TheVariants.{Inport, Outport, Constant, Ground, Sum, Gain, Product, Switch, Relational, Logic, Convert, Delay, Mux, Demux, RateTransition, Pass, EnableTest, EnOut, Terminator}
use Rattle.dg_model.specs.declared.row.Role.{Role}
use Rattle.dg_model.specs.declared.row.Standing.{Standing}
use Rattle.dg_model.specs.declared.row.OwnType.{OwnType}
use Rattle.dg_model.specs.declared.row.Inherited.{Inherited}
use Rattle.dg_model.specs.declared.row.Reading.{Reading}
use Rattle.dg_model.specs.declared.row.Asking.{Asking}
use Rattle.dg_model.specs.KindRow.{Row, Shape, FullRule, Only, IsBetween, HasOperands, HasParts, IsList, IsPeriod, IsSpec, MayBeFixed, IsChoice, IsFixed, MayDeclare, IsConstantPeriod}
use Rattle.dg_model.specs.Limits.{most_blocks, widest_signal, longest_list, longest_delay}

-- the row of each kind
abbrev pub row_of : Kind → Row
row_of (Inport number width) = record {
  place = record { role = Role.RootInput number; stands = Standing.Anywhere };
  ports = record { inputs = Only 0; outputs = Only 1 };
  parameters = IsBetween 1 most_blocks number × IsBetween 0 widest_signal width;
  signal = record { shape = Shape.Elementwise; lists = []; width = width };
  types =
      record { may_be = MayBeFixed; own = OwnType.Untyped; full = FullRule.NoFull; rounds = false };
  timing =
      record {
        may_be = MayDeclare;
        inherits = Inherited.Base;
        reads = Reading.Now;
        asks = Asking.Never;
        delay = 0;
      };
  hardware = record { pipelines = false; multiplies = false };
}
row_of (Outport number) = record {
  place = record { role = Role.RootOutput number; stands = Standing.Anywhere };
  ports = record { inputs = Only 1; outputs = Only 0 };
  parameters = IsBetween 1 most_blocks number;
  signal = record { shape = Shape.Elementwise; lists = []; width = 0 };
  types =
      record { may_be = MayBeFixed; own = OwnType.OfInput; full = FullRule.NoFull; rounds = false };
  timing =
      record {
        may_be = MayDeclare;
        inherits = Inherited.Moving;
        reads = Reading.Now;
        asks = Asking.Never;
        delay = 0;
      };
  hardware = record { pipelines = false; multiplies = false };
}
row_of (Constant value) = record {
  place = record { role = Role.Plain; stands = Standing.Anywhere };
  ports = record { inputs = Only 0; outputs = Only 1 };
  parameters = IsList value;
  signal = record { shape = Shape.Elementwise; lists = value ∷ []; width = length value };
  types =
      record { may_be = MayBeFixed; own = OwnType.Untyped; full = FullRule.NoFull; rounds = false };
  timing =
      record {
        may_be = IsConstantPeriod;
        inherits = Inherited.Unchanging;
        reads = Reading.Now;
        asks = Asking.Never;
        delay = 0;
      };
  hardware = record { pipelines = false; multiplies = false };
}
row_of Ground = record {
  place = record { role = Role.Plain; stands = Standing.Anywhere };
  ports = record { inputs = Only 0; outputs = Only 1 };
  parameters = ⊤;
  signal = record { shape = Shape.Elementwise; lists = []; width = 0 };
  types =
      record {
        may_be = Only Auto;
        own = OwnType.Always (Num false 1 (pos 0));
        full = FullRule.NoFull;
        rounds = false;
      };
  timing =
      record {
        may_be = Only Inherit;
        inherits = Inherited.Unchanging;
        reads = Reading.Now;
        asks = Asking.Never;
        delay = 0;
      };
  hardware = record { pipelines = false; multiplies = false };
}
row_of (Sum negative accum) = record {
  place = record { role = Role.Plain; stands = Standing.Anywhere };
  ports = record { inputs = Only (length negative); outputs = Only 1 };
  parameters = IsBetween 2 32 (length negative) × IsChoice accum × IsSpec accum;
  signal = record { shape = Shape.Elementwise; lists = []; width = 0 };
  types =
      record {
        may_be = IsChoice;
        own = OwnType.Untyped;
        full = FullRule.FullSum negative accum;
        rounds = true;
      };
  timing =
      record {
        may_be = MayDeclare;
        inherits = Inherited.OfSources;
        reads = Reading.Now;
        asks = Asking.Never;
        delay = 0;
      };
  hardware = record { pipelines = true; multiplies = false };
}
row_of (Gain value param) = record {
  place = record { role = Role.Plain; stands = Standing.Anywhere };
  ports = record { inputs = Only 1; outputs = Only 1 };
  parameters = IsList value × IsChoice param × IsSpec param;
  signal = record { shape = Shape.Elementwise; lists = value ∷ []; width = 0 };
  types =
      record {
        may_be = IsChoice;
        own = OwnType.Untyped;
        full = FullRule.FullScaled value param;
        rounds = true;
      };
  timing =
      record {
        may_be = MayDeclare;
        inherits = Inherited.OfSources;
        reads = Reading.Now;
        asks = Asking.Never;
        delay = 0;
      };
  hardware = record { pipelines = true; multiplies = true };
}
row_of Product = record {
  place = record { role = Role.Plain; stands = Standing.Anywhere };
  ports = record { inputs = Only 2; outputs = Only 1 };
  parameters = ⊤;
  signal = record { shape = Shape.Elementwise; lists = []; width = 0 };
  types =
      record {
        may_be = IsChoice;
        own = OwnType.Untyped;
        full = FullRule.FullProduct;
        rounds = true;
      };
  timing =
      record {
        may_be = MayDeclare;
        inherits = Inherited.OfSources;
        reads = Reading.Now;
        asks = Asking.Never;
        delay = 0;
      };
  hardware = record { pipelines = true; multiplies = true };
}
row_of (Switch criterion threshold) = record {
  place = record { role = Role.Plain; stands = Standing.Anywhere };
  ports = record { inputs = Only 3; outputs = Only 1 };
  parameters = IsList threshold;
  signal = record { shape = Shape.Elementwise; lists = threshold ∷ []; width = 0 };
  types =
      record {
        may_be = IsChoice;
        own = OwnType.Untyped;
        full = FullRule.UnionOfEnds;
        rounds = true;
      };
  timing =
      record {
        may_be = MayDeclare;
        inherits = Inherited.OfSources;
        reads = Reading.Now;
        asks = Asking.Never;
        delay = 0;
      };
  hardware = record { pipelines = true; multiplies = false };
}
row_of (Relational operator) = record {
  place = record { role = Role.Plain; stands = Standing.Anywhere };
  ports = record { inputs = Only 2; outputs = Only 1 };
  parameters = ⊤;
  signal = record { shape = Shape.Elementwise; lists = []; width = 0 };
  types =
      record {
        may_be = Only Auto;
        own = OwnType.Always LogicalType;
        full = FullRule.UnionOfTwo;
        rounds = false;
      };
  timing =
      record {
        may_be = MayDeclare;
        inherits = Inherited.OfSources;
        reads = Reading.Now;
        asks = Asking.Never;
        delay = 0;
      };
  hardware = record { pipelines = true; multiplies = false };
}
row_of (Logic operator) = record {
  place = record { role = Role.Plain; stands = Standing.Anywhere };
  ports = record { inputs = HasOperands operator; outputs = Only 1 };
  parameters = ⊤;
  signal = record { shape = Shape.Elementwise; lists = []; width = 0 };
  types =
      record {
        may_be = Only Auto;
        own = OwnType.Always LogicalType;
        full = FullRule.NoFull;
        rounds = false;
      };
  timing =
      record {
        may_be = MayDeclare;
        inherits = Inherited.OfSources;
        reads = Reading.Now;
        asks = Asking.Never;
        delay = 0;
      };
  hardware = record { pipelines = true; multiplies = false };
}
row_of (Convert stored) = record {
  place = record { role = Role.Plain; stands = Standing.Anywhere };
  ports = record { inputs = Only 1; outputs = Only 1 };
  parameters = ⊤;
  signal = record { shape = Shape.Elementwise; lists = []; width = 0 };
  types = record { may_be = IsFixed; own = OwnType.Untyped; full = FullRule.NoFull; rounds = true };
  timing =
      record {
        may_be = MayDeclare;
        inherits = Inherited.OfSources;
        reads = Reading.Now;
        asks = Asking.Never;
        delay = 0;
      };
  hardware = record { pipelines = true; multiplies = false };
}
row_of (Delay delay initial reset) = record {
  place = record { role = Role.Plain; stands = Standing.Anywhere };
  ports = record { inputs = Only 1; outputs = Only 1 };
  parameters = IsBetween 1 longest_delay delay × IsList initial;
  signal = record { shape = Shape.Elementwise; lists = initial ∷ []; width = 0 };
  types =
      record { may_be = Only Auto; own = OwnType.OfInput; full = FullRule.NoFull; rounds = false };
  timing =
      record {
        may_be = MayDeclare;
        inherits = Inherited.Moving;
        reads = Reading.Before;
        asks = Asking.Before;
        delay = delay;
      };
  hardware = record { pipelines = false; multiplies = false };
}
row_of (Mux sizes) = record {
  place = record { role = Role.Plain; stands = Standing.Anywhere };
  ports = record { inputs = HasParts sizes; outputs = Only 1 };
  parameters = IsBetween 0 longest_list (length sizes) × All (IsBetween 1 widest_signal) sizes;
  signal = record { shape = Shape.Joined sizes; lists = []; width = 0 };
  types =
      record { may_be = Only Auto; own = OwnType.OfInput; full = FullRule.NoFull; rounds = false };
  timing =
      record {
        may_be = Only Inherit;
        inherits = Inherited.OfSources;
        reads = Reading.Now;
        asks = Asking.Never;
        delay = 0;
      };
  hardware = record { pipelines = false; multiplies = false };
}
row_of (Demux sizes) = record {
  place = record { role = Role.Plain; stands = Standing.Anywhere };
  ports = record { inputs = Only 1; outputs = Only (length sizes) };
  parameters =
      IsBetween 1 longest_list (length sizes)
      × (All (IsBetween 1 widest_signal) sizes ⊎ All (Only 0) sizes);
  signal = record { shape = Shape.Parted sizes; lists = []; width = 0 };
  types =
      record { may_be = Only Auto; own = OwnType.OfInput; full = FullRule.NoFull; rounds = false };
  timing =
      record {
        may_be = Only Inherit;
        inherits = Inherited.OfSources;
        reads = Reading.Now;
        asks = Asking.Never;
        delay = 0;
      };
  hardware = record { pipelines = false; multiplies = false };
}
row_of (RateTransition period initial) = record {
  place = record { role = Role.Plain; stands = Standing.Outside };
  ports = record { inputs = Only 1; outputs = Only 1 };
  parameters = IsPeriod period × IsList initial;
  signal = record { shape = Shape.Elementwise; lists = initial ∷ []; width = 0 };
  types =
      record { may_be = Only Auto; own = OwnType.OfInput; full = FullRule.NoFull; rounds = false };
  timing =
      record {
        may_be = Only (Every period);
        inherits = Inherited.OfSources;
        reads = Reading.BeforeIfSlower;
        asks = Asking.Never;
        delay = 0;
      };
  hardware = record { pipelines = false; multiplies = false };
}
row_of (Pass width) = record {
  place = record { role = Role.InnerPort width; stands = Standing.Anywhere };
  ports = record { inputs = Only 1; outputs = Only 1 };
  parameters = IsBetween 0 widest_signal width;
  signal = record { shape = Shape.Elementwise; lists = []; width = width };
  types =
      record { may_be = MayBeFixed; own = OwnType.OfInput; full = FullRule.NoFull; rounds = false };
  timing =
      record {
        may_be = MayDeclare;
        inherits = Inherited.OfSources;
        reads = Reading.Now;
        asks = Asking.Never;
        delay = 0;
      };
  hardware = record { pipelines = false; multiplies = false };
}
row_of EnableTest = record {
  place = record { role = Role.Control; stands = Standing.Outside };
  ports = record { inputs = Only 1; outputs = Only 1 };
  parameters = ⊤;
  signal = record { shape = Shape.Single; lists = []; width = 0 };
  types =
      record {
        may_be = Only Auto;
        own = OwnType.Always LogicalType;
        full = FullRule.NoFull;
        rounds = false;
      };
  timing =
      record {
        may_be = Only Inherit;
        inherits = Inherited.OfSources;
        reads = Reading.Now;
        asks = Asking.Never;
        delay = 0;
      };
  hardware = record { pipelines = false; multiplies = false };
}
row_of (EnOut reset initial) = record {
  place = record { role = Role.EnabledOutput; stands = Standing.Inside };
  ports = record { inputs = Only 1; outputs = Only 1 };
  parameters = IsList initial;
  signal = record { shape = Shape.Elementwise; lists = initial ∷ []; width = 0 };
  types =
      record { may_be = MayBeFixed; own = OwnType.OfInput; full = FullRule.NoFull; rounds = false };
  timing =
      record {
        may_be = MayDeclare;
        inherits = Inherited.Moving;
        reads = Reading.Now;
        asks = Asking.Now;
        delay = 0;
      };
  hardware = record { pipelines = false; multiplies = false };
}
row_of Terminator = record {
  place = record { role = Role.Plain; stands = Standing.Anywhere };
  ports = record { inputs = Only 1; outputs = Only 0 };
  parameters = ⊤;
  signal = record { shape = Shape.Elementwise; lists = []; width = 0 };
  types =
      record { may_be = Only Auto; own = OwnType.Untyped; full = FullRule.NoFull; rounds = false };
  timing =
      record {
        may_be = Only Inherit;
        inherits = Inherited.OfSources;
        reads = Reading.Now;
        asks = Asking.Never;
        delay = 0;
      };
  hardware = record { pipelines = false; multiplies = false };
}
