use Rattle.std.proofs.Common.{inl, inr, List, ap, ◌∙◌}
use Rattle.fx_type.specs.declared.decimal.Decimal.{Decimal}
use Rattle.dg_model.specs.declared.kind.Kind.TheVariants.{Constant, Delay, EnOut}
use Rattle.dg_model.specs.Attributes.{attributes_of}
use Rattle.dg_model.specs.Wires.{period_into}
use Rattle.hw_build.specs.inner.Entries.{hands_on}
use Rattle.hw_build.proofs.Parameters.{list_is}
use Rattle.hw_build.proofs.entries.put_alone.Goals as goal

pub offered_entry-requires-clause-hands : goal.offered_entry-requires-clause-hands
offered_entry-requires-clause-hands c =
    elim c.in-Inport.is [
      | inl here ↦ ap (hands_on c.args.site.one.now.enable (period_into c.args.site.design.checked.now.diagram (attributes_of c.args.site.design.checked.now.diagram) c.args.site.place.block 1)) here.2
      | inr more ↦ elim more [
        | inl here ↦ ap (hands_on c.args.site.one.now.enable
            (period_into c.args.site.design.checked.now.diagram
            (attributes_of c.args.site.design.checked.now.diagram) c.args.site.place.block 1)) here.1
        | inr more ↦ elim more [
          | inl here ↦ ap (hands_on c.args.site.one.now.enable
              (period_into c.args.site.design.checked.now.diagram
              (attributes_of c.args.site.design.checked.now.diagram) c.args.site.place.block 1)) here.1
          | inr more ↦ ap (hands_on c.args.site.one.now.enable
              (period_into c.args.site.design.checked.now.diagram
              (attributes_of c.args.site.design.checked.now.diagram) c.args.site.place.block 1)) more.2
        ]
      ]
    ]

pub offered_entry-requires-clause-operands : goal.offered_entry-requires-clause-operands
offered_entry-requires-clause-operands c = c.requires.ready.operands_are

pub constant-requires-clause-shown : goal.constant-requires-clause-shown
constant-requires-clause-shown c = c.requires.can.shown

pub constant-requires-clause-kind : goal.constant-requires-clause-kind
constant-requires-clause-kind c = c.in-Constant.is ∙ ap Constant (list_is c.args.site.one.now.kind (Constant c.in-Constant.value) c.list_of-list.result.now c.list_of-list.ensures c.in-Constant.is)

pub ground-requires-clause-shown : goal.ground-requires-clause-shown
ground-requires-clause-shown c = c.requires.can.shown

pub ground-requires-clause-kind : goal.ground-requires-clause-kind
ground-requires-clause-kind c = c.in-Ground.is

pub put_enable_test-requires-clause-ready : goal.put_enable_test-requires-clause-ready
put_enable_test-requires-clause-ready c = c.requires.ready

pub put_enable_test-requires-clause-kind : goal.put_enable_test-requires-clause-kind
put_enable_test-requires-clause-kind c = c.in-EnableTest.is

pub put_delay-requires-clause-can : goal.put_delay-requires-clause-can
put_delay-requires-clause-can c = c.requires.can

pub put_delay-requires-clause-operands : goal.put_delay-requires-clause-operands
put_delay-requires-clause-operands c = c.requires.ready.operands_are

pub put_delay-requires-clause-kind : goal.put_delay-requires-clause-kind
put_delay-requires-clause-kind c = c.in-Delay.is
    ∙ ap (λ (list : List Decimal). Delay c.in-Delay.length list c.in-Delay.reset)
    (list_is c.args.site.one.now.kind (Delay c.in-Delay.length c.in-Delay.initial c.in-Delay.reset)
    c.list_of-list.result.now c.list_of-list.ensures c.in-Delay.is)

pub pass_out-requires-clause-can : goal.pass_out-requires-clause-can
pass_out-requires-clause-can c = c.requires.can

pub pass_out-requires-clause-operands : goal.pass_out-requires-clause-operands
pass_out-requires-clause-operands c = c.requires.ready.operands_are

pub pass_out-requires-clause-kind : goal.pass_out-requires-clause-kind
pass_out-requires-clause-kind c = c.in-EnOut.is
    ∙ ap (EnOut c.in-EnOut.reset) (list_is c.args.site.one.now.kind
    (EnOut c.in-EnOut.reset c.in-EnOut.initial) c.list_of-list.result.now c.list_of-list.ensures c.in-EnOut.is)
