use Rattle.std.proofs.Common.{◌≡◌, ◌∙◌, ◌++◌, ◌<◌, ◌≤◌, length, slice_index_or, ℕ, Bool, List, find, not, Option, Some, None, refl, sym, ap, subst}
use Rattle.std.specs.Option.{option_map, option_or}
use Rattle.std.specs.List.{list_all}
use Rattle.std.proofs.lemmas.List.{take_all}
use Rattle.std.proofs.lemmas.List.Folds.{find-append}
use Rattle.vl_ast.specs.declared.modules.Port.{Port}
use Rattle.vl_ast.specs.declared.modules.ModItem.{ModItem}
use Rattle.vl_ast.specs.Context.{Net}
use Rattle.vl_ast.specs.Nets.{nets_of, net_or_none}
use Rattle.vl_ast.specs.Conditions.{is_width, is_sound_item, item_name}
use Rattle.vl_check.specs.Scope.{nets_in}
use Rattle.vl_check.proofs.SearchFacts.{all-further, tested, none-fails, one-fails}
use Rattle.vl_check.proofs.widths.too_wide.Goals as goal

abbrev wide : List Port → List ModItem → (List ℕ → Net) → Option (List ℕ)
wide ports items nets = option_map (λ (part : List ℕ × Bool). part.0)
    (find (λ (part : List ℕ × Bool). not part.1)
    (tested (λ (port : Port). port.name) (λ port. is_width port.width) ports
    ++ tested item_name (is_sound_item nets) items))

option-none : (o : Option (List ℕ × Bool)) → o ≡ None → (p : Option (List ℕ × Bool)) → option_or o p ≡ p
option-none o e p = ap (λ x. option_or x p) e

pub loop-port-init : goal.loop-port-init
loop-port-init c = refl

pub loop-port-preserved : goal.loop-port-preserved
loop-port-preserved c =
    all-further (λ (port : Port). is_width port.width) c.as_slice-port-items.result.now c.args.source.now.ports
    c.loop-port.port-index c.port-item.result c.as_slice-port-items.ensures c.loop-port-test.true c.port-item.is
    (sym c.is_width.ensures ∙ c.if-not-is_width.false) c.loop-port.invariant

pub loop-item-init : goal.loop-item-init
loop-item-init c =
    let ports = c.args.source.now.ports in
    let past : length ports ≤ c.loop-port.port-index = subst (λ xs. length xs ≤ c.loop-port.port-index) c.as_slice-port-items.ensures c.loop-port-test.false in
    record {
      ports = ap (list_all (λ (port : Port). is_width port.width)) (sym (take_all c.loop-port.port-index ports past)) ∙ c.loop-port.invariant;
      items = refl;
    }

pub loop-item-preserved : goal.loop-item-preserved
loop-item-preserved c = record {
  ports = c.loop-item.invariant.ports;
  items = all-further (is_sound_item (nets_in c.args.scope.now)) c.as_slice-item-items.result.now
      c.args.source.now.items c.loop-item.item-index c.item-item.result c.as_slice-item-items.ensures
      c.loop-item-test.true c.item-item.is
      (sym c.is_sound_item.ensures ∙ c.if-not-is_sound_item.false) c.loop-item.invariant.items;
}

pub returns-then-not-is_width : goal.returns-then-not-is_width
returns-then-not-is_width c =
    let m = c.args.source.now in
    let is = c.as_slice-port-items.ensures in
    let ports = tested (λ (port : Port). port.name) (λ port. is_width port.width) m.ports in
    let items = tested item_name (is_sound_item (nets_of m)) m.items in
    let found = one-fails (λ (port : Port). port.name) (λ port. is_width port.width) m.ports c.loop-port.port-index c.port-item.result
    (subst (λ xs. c.loop-port.port-index < length xs) is c.loop-port-test.true) (c.port-item.is ∙ ap (λ xs. slice_index_or xs c.loop-port.port-index c.port-item.result) is)
    c.loop-port.invariant (sym c.is_width.ensures ∙ c.if-not-is_width.true) in
    ap Some c.bytes.ensures ∙ sym (ap (option_map (λ (part : List ℕ × Bool). part.0))
    (find-append (λ (part : List ℕ × Bool). not part.1) ports items
    ∙ ap (λ o. option_or o (find (λ (part : List ℕ × Bool). not part.1) items)) found))

pub returns-then-not-is_sound_item : goal.returns-then-not-is_sound_item
returns-then-not-is_sound_item c =
    let m = c.args.source.now in
    let is = c.as_slice-item-items.ensures in
    let nets : nets_in c.args.scope.now ≡ nets_of m = (λ i name. net_or_none (c.requires.declares name i)) in
    let ports = tested (λ (port : Port). port.name) (λ port. is_width port.width) m.ports in
    let items = tested item_name (is_sound_item (nets_in c.args.scope.now)) m.items in
    let found = one-fails item_name (is_sound_item (nets_in c.args.scope.now)) m.items c.loop-item.item-index c.item-item.result
    (subst (λ xs. c.loop-item.item-index < length xs) is c.loop-item-test.true) (c.item-item.is ∙ ap (λ xs. slice_index_or xs c.loop-item.item-index c.item-item.result) is)
    c.loop-item.invariant.items (sym c.is_sound_item.ensures ∙ c.if-not-is_sound_item.true) in
    ap Some c.name.ensures
    ∙ sym (ap (option_map (λ (part : List ℕ × Bool). part.0)) (find-append (λ (part : List ℕ × Bool). not part.1) ports items
    ∙ option-none (find (λ (part : List ℕ × Bool). not part.1) ports)
    (none-fails (λ (port : Port). port.name) (λ port. is_width port.width) m.ports c.loop-item.invariant.ports)
    (find (λ (part : List ℕ × Bool). not part.1) items) ∙ found))
    ∙ ap (wide m.ports m.items) nets

pub returns : goal.returns
returns c =
    let m = c.args.source.now in
    let nets : nets_in c.args.scope.now ≡ nets_of m = (λ i name. net_or_none (c.requires.declares name i)) in
    let ports = tested (λ (port : Port). port.name) (λ port. is_width port.width) m.ports in
    let items = tested item_name (is_sound_item (nets_in c.args.scope.now)) m.items in
    let long : length m.items ≤ c.loop-item.item-index = subst (λ xs. length xs ≤ c.loop-item.item-index) c.as_slice-item-items.ensures c.loop-item-test.false in
    let all = ap (list_all (is_sound_item (nets_in c.args.scope.now))) (sym (take_all c.loop-item.item-index m.items long)) ∙ c.loop-item.invariant.items in
    sym (ap (option_map (λ (part : List ℕ × Bool). part.0)) (find-append (λ (part : List ℕ × Bool). not part.1) ports items
    ∙ option-none (find (λ (part : List ℕ × Bool). not part.1) ports)
    (none-fails (λ (port : Port). port.name) (λ port. is_width port.width) m.ports c.loop-item.invariant.ports)
    (find (λ (part : List ℕ × Bool). not part.1) items)
    ∙ none-fails item_name (is_sound_item (nets_in c.args.scope.now)) m.items all))
    ∙ ap (wide m.ports m.items) nets
