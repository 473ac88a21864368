use Rattle.std.proofs.Common.{◌≡◌, ◌++◌, ◌∷◌, [], ℕ, List, Some, ap, sym, ◌∙◌, subst, add-one, arith, true, false}
use Rattle.std.proofs.lemmas.Bool.{false≢true}
use Rattle.std.proofs.lemmas.Result.{on_ok_weaker}
use Rattle.fx_type.specs.declared.kind.FxType.{FxType}
use Rattle.dg_model.specs.Attributes.{attributes_of}
use Rattle.dg_model.specs.Library.{row_of}
use Rattle.dg_model.specs.Solves.{shown_width, shown_ports}
use Rattle.hw_build.specs.inner.HubPlaces.{AddsFresh, AddsPorts, before, is_input_role, own_count, port_size}
use Rattle.hw_build.proofs.HubSteps.{fresh_none, own_input, own_other, ports_none, ports_more}
use Rattle.hw_build.proofs.hubs.put_block.Goals as goal

pub loop-port-init : goal.loop-port-init
loop-port-init c = ports_none c.args.net.now ((attributes_of c.args.checked.now.diagram).type_at c.args.block 1)
    (port_size c.args.checked.now.diagram c.args.block c.args.one.now) c.args.firsts.now c.requires.none

pub loop-port-preserved : goal.loop-port-preserved
loop-port-preserved c =
    let diagram = c.args.checked.now.diagram in
    let now = c.loop-port.net in
    let later = c.put_port.new.net in
    let wide : c.shown_width-width.result ≡ port_size diagram c.args.block c.args.one.now c.loop-port.port =
    c.shown_width-width.ensures ∙ ap (shown_width diagram
    (attributes_of diagram) c.args.one.now.kind c.args.block) (add-one c.loop-port.port) in
    let typed : AddsFresh now later c.shown_width-width.result ((attributes_of diagram).type_at c.args.block 1) =
    subst (λ (t : FxType). AddsFresh now later c.shown_width-width.result t)
    (c.result-kind.ensures 1) c.in_ok-first.ensures.adds in
    let adds : AddsFresh now later (port_size diagram c.args.block c.args.one.now c.loop-port.port)
    ((attributes_of diagram).type_at c.args.block 1) =
    subst (λ (n : ℕ). AddsFresh now later n ((attributes_of diagram).type_at c.args.block 1)) wide typed in
    rw c.in_ok-push.ensures.appended (ports_more c.args.net.now now later
    ((attributes_of diagram).type_at c.args.block 1)
    (port_size diagram c.args.block c.args.one.now) c.loop-port.firsts c.loop-port.port c.in_ok-first.first
    c.loop-port.invariant c.in_ok-first.ensures.first adds)

pub returns : goal.returns
returns c =
    let diagram = c.args.checked.now.diagram in
    let type : FxType = (attributes_of diagram).type_at c.args.block 1 in
    let ports : ℕ = shown_ports c.args.one.now.kind c.args.one.now.outputs in
    let other : is_input_role (row_of c.args.one.now.kind).place.role ≡ false = sym c.is_input.ensures ∙ c.if-is_input.false in
    let all : c.loop-port.port ≡ ports = omega (arith, c.loop-port-test.false, c.loop-port.auto.port-end, c.shown_ports-port-end.ensures) in
    let put = subst (λ (n : ℕ). AddsPorts c.args.net.now c.loop-port.net type (port_size diagram c.args.block c.args.one.now) c.loop-port.firsts n) all c.loop-port.invariant in
    let own = own_other (is_input_role (row_of c.args.one.now.kind).place.role) (before (port_size diagram c.args.block c.args.one.now) ports) other in
    record {
      adds = subst (λ (n : ℕ). AddsFresh c.args.net.now c.loop-port.net n type) (sym own) put.adds;
      are = record { input = λ is. absurd (false≢true (sym other ∙ is)); size = λ is. put.count; other = λ is. put.places };
    }

pub returns-then-is_input : goal.returns-then-is_input
returns-then-is_input c =
    let diagram = c.args.checked.now.diagram in
    let type : FxType = (attributes_of diagram).type_at c.args.block 1 in
    let input : is_input_role (row_of c.args.one.now.kind).place.role ≡ true = sym c.is_input.ensures ∙ c.if-is_input.true in
    on_ok_weaker c.push.result
    (λ (put : c.push.new.self ≡ c.args.firsts.now ++ c.args.column ∷ []). record {
      adds = fresh_none c.args.net.now (own_count diagram c.args.block (Some c.args.one.now)) type
          (own_input (is_input_role (row_of c.args.one.now.kind).place.role)
          (before (port_size diagram c.args.block c.args.one.now)
          (shown_ports c.args.one.now.kind c.args.one.now.outputs)) input);
      are = record {
        input = λ is. put ∙ ap (λ (firsts : List ℕ). firsts ++ c.args.column ∷ []) c.requires.none;
        size = λ is. absurd (false≢true (sym is ∙ input));
        other = λ is. absurd (false≢true (sym is ∙ input));
      };
    })
    c.push.ensures.appended
