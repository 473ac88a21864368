use Rattle.std.proofs.Common.{refl, sym, ◌∙◌}
use Rattle.vl_read.specs.inner.Plain.{step, step_at}
use Rattle.vl_read.proofs.places.Reader.next.Goals as goal

pub returns-in-Start : goal.returns-in-Start
unfolding step step_at
returns-in-Start c = rw c.in-Start.is c.start_step.ensures

pub returns-in-Attributes : goal.returns-in-Attributes
unfolding step step_at
returns-in-Attributes c = rw c.in-Attributes.is c.attr_step.ensures

pub returns-in-Title : goal.returns-in-Title
unfolding step step_at
returns-in-Title c = rw c.in-Title.is c.title_step.ensures

pub returns-in-Ports : goal.returns-in-Ports
unfolding step step_at
returns-in-Ports c = rw c.in-Ports.is c.first_port.ensures

pub returns-in-Port : goal.returns-in-Port
unfolding step step_at
returns-in-Port c = rw c.in-Port.is c.port_step.ensures

pub returns-in-Net : goal.returns-in-Net
unfolding step step_at
returns-in-Net c = rw c.in-Net.is c.net_step.ensures

pub returns-in-AfterPort : goal.returns-in-AfterPort
unfolding step step_at
returns-in-AfterPort c = rw c.in-AfterPort.is c.after_port.ensures

pub returns-in-AfterPorts : goal.returns-in-AfterPorts
unfolding step step_at
returns-in-AfterPorts c = rw c.in-AfterPorts.is (c.expected.ensures c.args.self.now.draft c.args.self.now.held)

pub returns-in-Items : goal.returns-in-Items
unfolding step step_at
returns-in-Items c = rw c.in-Items.is c.items_step.ensures

pub returns-in-AssignName : goal.returns-in-AssignName
unfolding step step_at
returns-in-AssignName c = rw c.in-AssignName.is c.name_step.ensures

pub returns-in-AssignSign : goal.returns-in-AssignSign
unfolding step step_at
returns-in-AssignSign c = rw c.in-AssignSign.is c.expression.ensures

pub returns-in-Head : goal.returns-in-Head
unfolding step step_at
returns-in-Head c = rw (c.in-Head.is, sym c.word.ensures, sym (c.next.ensures c.args.self.now.held)) (c.expected-in-Head.ensures c.args.self.now.draft c.args.self.now.held)

pub returns-in-ClockedName : goal.returns-in-ClockedName
unfolding step step_at
returns-in-ClockedName c = rw c.in-ClockedName.is c.name_step-in-ClockedName.ensures

pub returns-in-ClockedSign : goal.returns-in-ClockedSign
unfolding step step_at
returns-in-ClockedSign c = rw c.in-ClockedSign.is (c.expected-in-ClockedSign.ensures c.args.self.now.draft c.args.self.now.held)

pub returns-in-First : goal.returns-in-First
unfolding step step_at
returns-in-First c = rw c.in-First.is c.first_step.ensures

pub returns-in-AfterFirst : goal.returns-in-AfterFirst
unfolding step step_at
returns-in-AfterFirst c = rw c.in-AfterFirst.is (c.expected-in-AfterFirst.ensures c.args.self.now.draft c.args.self.now.held)

pub returns-in-Else : goal.returns-in-Else
unfolding step step_at
returns-in-Else c = rw c.in-Else.is (c.expected-in-Else.ensures c.args.self.now.draft c.args.self.now.held)

pub returns-in-Branch : goal.returns-in-Branch
unfolding step step_at
returns-in-Branch c = rw c.in-Branch.is c.branch_step.ensures

pub returns-in-If : goal.returns-in-If
unfolding step step_at
returns-in-If c = rw c.in-If.is c.expression-in-If.ensures

pub returns-then-is_name : goal.returns-then-is_name
unfolding step step_at
returns-then-is_name c = rw (c.in-Again.is, sym c.is_name.ensures ∙ c.if-is_name.true) c.again_step.ensures

pub returns-else-is_name : goal.returns-else-is_name
unfolding step step_at
returns-else-is_name c = rw (c.in-Again.is, sym c.is_name.ensures ∙ c.if-is_name.false) refl

pub returns-in-NextSign : goal.returns-in-NextSign
unfolding step step_at
returns-in-NextSign c = rw c.in-NextSign.is c.expression-in-NextSign.ensures

pub returns-in-Expression : goal.returns-in-Expression
unfolding step step_at
returns-in-Expression c = rw c.in-Expression.is c.spot_step.ensures

pub returns-in-AfterNet : goal.returns-in-AfterNet
unfolding step step_at
returns-in-AfterNet c = rw c.in-AfterNet.is c.net_end.ensures

pub returns-in-End : goal.returns-in-End
unfolding step step_at
returns-in-End c = rw c.in-End.is c.clocked_end.ensures
