use Rattle.std.proofs.Common.{◌≡◌, ℕ, List, length, slice_index, ap, sym, ◌∙◌}
use Rattle.std.specs.Vec.{with_items}
use Rattle.std.proofs.lemmas.List.{with_items_is}
use Rattle.vl_eval.specs.Machine.{slot_of}
use Rattle.vl_eval.proofs.machine.Machine.snapshot.Goals as goal

pub returns : goal.returns
returns c =
    let machine = c.args.self.now in
    let values = c.in_ok-values.values in
    let now : c.copy_from_slice.new.self ≡ machine.values.items = c.copy_from_slice.ensures.after ∙ c.as_slice.ensures.value in
    let long : length c.copy_from_slice.new.self ≡ values.len = ap length now ∙ sym machine.values.ok.0 ∙ sym c.len.ensures ∙ sym c.in_ok-values.ensures.len in
    let is : (with_items values c.copy_from_slice.new.self).items ≡ machine.values.items = with_items_is values c.copy_from_slice.new.self long ∙ now in
    record {
      room = ap length is ∙ c.requires.ready.room;
      row_is = ap (λ (items : List ℕ). λ name. slice_index items (slot_of machine name)) (sym is);
    }
