use Rattle.std.proofs.Common.{◌≡◌, ◌≤◌, ◌∙◌, Some, length, ap, sym, drop, arith, ◌+◌}
use Rattle.std.proofs.lemmas.List.{at_drop_all, drop-drop, length-drop, take_rest}
use Rattle.fx_text.specs.Strings.{string_behind, prepend}
use Rattle.fx_text.proofs.StringLemmas.{closed, prepend-nil}
use Rattle.fx_text.proofs.strings.read_string.Goals as goal

pub loop-place-init : goal.loop-place-init
loop-place-init c = record {
  within = omega arith;
  read = ap (λ front. prepend front (string_behind c.args.text.now)) c.new-content.ensures.items ∙ prepend-nil (string_behind c.args.text.now);
}

pub returns-then-text-place-eq34 : goal.returns-then-text-place-eq34
returns-then-text-place-eq34 c = (
  omega (arith, c.loop-place-test.true),
  closed c.loop-place.content.items c.args.text.now c.loop-place.place c.loop-place-test.true c.if-text-place-eq34.true c.loop-place.invariant.read
      ∙ ap (λ content. Some (content, drop (c.loop-place.place + 1) c.args.text.now)) (sym c.in_ok-from_vec.ensures),
)

pub loop-place-preserved : goal.loop-place-preserved
loop-place-preserved c =
    let text = c.args.text.now in
    let place = c.loop-place.place in
    let used = c.in_ok-place.field-0 in
    let rest = take_rest text place in
    let within : used ≤ length (drop place text) = rw rest at c.in_ok-place.ensures.within in
    let put : prepend c.push_char.new.content.items (string_behind (drop used (drop place text)))
    ≡ prepend c.loop-place.content.items (string_behind (drop place text)) =
    rw rest at c.in_ok-place.ensures.put in
    record {
      within = omega (arith, within, length-drop place text, c.loop-place-test.true);
      read = ap (λ left. prepend c.push_char.new.content.items (string_behind left)) (sym (drop-drop used place text)) ∙ put ∙ c.loop-place.invariant.read;
    }

pub returns : goal.returns
returns c = sym c.loop-place.invariant.read ∙ at_drop_all (λ left. prepend c.loop-place.content.items (string_behind left)) c.args.text.now c.loop-place.place c.loop-place-test.false
