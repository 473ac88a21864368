use Rattle.std.proofs.Common.{◌≡◌, ◌+◌, Some, false, sym, ap, ◌∙◌, arith}
use Rattle.vl_ast.specs.Conditions.{is_sound}
use Rattle.std.specs.List.{list_all}
use Rattle.vl_check.specs.Scope.{nets_in}
use Rattle.vl_check.specs.Shape.{narrow, bit_shape, part_shape, shape_in}
use Rattle.vl_check.proofs.FormShapes.{shape-name, shape-bit, shape-part, shape-literal, shape-repeat, shape-as-signed, shape-as-unsigned, shape-unary, shape-two, shape-shift, shape-three}
use Rattle.vl_check.proofs.FormShapes.{shape-concat, part-more, part-sound, part-bad, part-long, lengths}
use Rattle.std.proofs.lemmas.List.{take_all}
use Rattle.vl_check.proofs.shapes.+sound_shape.Goals as goal

pub sound_shape-returns-in-Name : goal.sound_shape-returns-in-Name
sound_shape-returns-in-Name t c =
    let nets = nets_in c.args.scope.now in
    let a = c.in-Name in
    c.name_shape.ensures ∙ ap (λ n. narrow (nets n).width (nets n).signed) c.bytes.ensures ∙ sym (shape-name nets a.name) ∙ ap (shape_in nets) (sym a.is)

pub sound_shape-returns-in-Bit : goal.sound_shape-returns-in-Bit
sound_shape-returns-in-Bit t c =
    let nets = nets_in c.args.scope.now in
    let a = c.in-Bit in
    c.bit_shape.ensures ∙ ap (λ n. bit_shape (nets n) a.place) c.bytes-in-Bit.ensures ∙ sym (shape-bit nets a.name a.place) ∙ ap (shape_in nets) (sym a.is)

pub sound_shape-returns-in-Part : goal.sound_shape-returns-in-Part
sound_shape-returns-in-Part t c =
    let nets = nets_in c.args.scope.now in
    let a = c.in-Part in
    c.part_shape.ensures ∙ ap (λ n. part_shape (nets n) a.high a.low) c.bytes-in-Part.ensures ∙ sym (shape-part nets a.name a.high a.low) ∙ ap (shape_in nets) (sym a.is)

pub sound_shape-returns-in-Literal : goal.sound_shape-returns-in-Literal
sound_shape-returns-in-Literal t c =
    let nets = nets_in c.args.scope.now in
    let a = c.in-Literal in
    c.literal_shape.ensures ∙ sym (shape-literal nets a.number) ∙ ap (shape_in nets) (sym a.is)

pub sound_shape-returns-in-Repeat : goal.sound_shape-returns-in-Repeat
sound_shape-returns-in-Repeat t c =
    let nets = nets_in c.args.scope.now in
    let a = c.in-Repeat in
    c.repeat_shape.ensures ∙ sym (shape-repeat nets a.count a.part _ (ap (shape_in nets) (sym c.get.ensures) ∙ sym c.sound_shape.ensures)) ∙ ap (shape_in nets) (sym a.is)

pub sound_shape-returns-in-AsSigned : goal.sound_shape-returns-in-AsSigned
sound_shape-returns-in-AsSigned t c =
    let nets = nets_in c.args.scope.now in
    let a = c.in-AsSigned in
    c.cast_shape.ensures ∙ sym (shape-as-signed nets a.part _ (ap (shape_in nets) (sym c.get-in-AsSigned.ensures) ∙ sym c.sound_shape-in-AsSigned.ensures)) ∙ ap (shape_in nets) (sym a.is)

pub sound_shape-returns-in-AsUnsigned : goal.sound_shape-returns-in-AsUnsigned
sound_shape-returns-in-AsUnsigned t c =
    let nets = nets_in c.args.scope.now in
    let a = c.in-AsUnsigned in
    c.cast_shape-in-AsUnsigned.ensures ∙ sym
    (shape-as-unsigned nets a.part _ (ap (shape_in nets) (sym c.get-in-AsUnsigned.ensures)
    ∙ sym c.sound_shape-in-AsUnsigned.ensures)) ∙ ap (shape_in nets) (sym a.is)

pub sound_shape-returns-in-Unary : goal.sound_shape-returns-in-Unary
sound_shape-returns-in-Unary t c =
    let nets = nets_in c.args.scope.now in
    let a = c.in-Unary in
    c.unary_shape.ensures ∙ sym (shape-unary nets a.op a.part _ (ap (shape_in nets) (sym c.get-in-Unary.ensures) ∙ sym c.sound_shape-in-Unary.ensures)) ∙ ap (shape_in nets) (sym a.is)

pub sound_shape-returns-in-Shift : goal.sound_shape-returns-in-Shift
sound_shape-returns-in-Shift t c =
    let nets = nets_in c.args.scope.now in
    let a = c.in-Shift in
    c.shift_shape.ensures ∙ sym (shape-shift nets a._op a.part a.amount _ (ap (shape_in nets) (sym c.get-in-Shift.ensures) ∙ sym c.sound_shape-in-Shift.ensures)) ∙ ap (shape_in nets) (sym a.is)

pub sound_shape-returns-in-Binary : goal.sound_shape-returns-in-Binary
sound_shape-returns-in-Binary t c =
    let nets = nets_in c.args.scope.now in
    let a = c.in-Binary in
    c.binary_shape.ensures ∙ sym (shape-two nets a.op a.left a.right _ _
    (ap (shape_in nets) (sym c.get-in-Binary.ensures) ∙ sym c.sound_shape-in-Binary.ensures)
    (ap (shape_in nets) (sym c.get-in-Binary-2.ensures) ∙ sym c.sound_shape-in-Binary-2.ensures))
    ∙ ap (shape_in nets) (sym a.is)

pub sound_shape-returns-in-Choose : goal.sound_shape-returns-in-Choose
sound_shape-returns-in-Choose t c =
    let nets = nets_in c.args.scope.now in
    let a = c.in-Choose in
    c.choice_shape.ensures ∙ sym (shape-three nets a.test a.chosen a.other _ _ _
    (ap (shape_in nets) (sym c.get-in-Choose.ensures) ∙ sym c.sound_shape-in-Choose.ensures)
    (ap (shape_in nets) (sym c.get-in-Choose-2.ensures) ∙ sym c.sound_shape-in-Choose-2.ensures)
    (ap (shape_in nets) (sym c.get-in-Choose-3.ensures) ∙ sym c.sound_shape-in-Choose-3.ensures))
    ∙ ap (shape_in nets) (sym a.is)

pub concat_shape-returns-in_default : goal.concat_shape-returns-in_default
concat_shape-returns-in_default t c =
    let nets = nets_in c.args.scope.now in
    sym (part-bad nets c.args.parts.now c.loop-part.part-index c.part-item.result c.loop-part-test.true c.part-item.is (sym c.sound_shape.ensures ∙ c.in_default.is))

pub concat_shape-returns-then-length-gt128 : goal.concat_shape-returns-then-length-gt128
concat_shape-returns-then-length-gt128 t c =
    let nets = nets_in c.args.scope.now in
    let h : shape_in nets c.part-item.result ≡ Some c.in-Some.shape = sym c.sound_shape.ensures ∙ c.in-Some.is in
    let more = part-more nets c.args.parts.now c.loop-part.part-index c.part-item.result c.in-Some.shape c.loop-part.length c.loop-part-test.true c.part-item.is h c.loop-part.invariant.length in
    sym (part-long nets c.args.parts.now (c.loop-part.part-index + 1) (omega (arith, more, c.from-length.ensures, c.if-length-gt128.true)))

pub concat_shape-loop-part-preserved : goal.concat_shape-loop-part-preserved
concat_shape-loop-part-preserved t c =
    let nets = nets_in c.args.scope.now in
    let h : shape_in nets c.part-item.result ≡ Some c.in-Some.shape = sym c.sound_shape.ensures ∙ c.in-Some.is in
    let more = part-more nets c.args.parts.now c.loop-part.part-index c.part-item.result c.in-Some.shape c.loop-part.length c.loop-part-test.true c.part-item.is h c.loop-part.invariant.length in
    record {
      sound = part-sound nets c.args.parts.now c.loop-part.part-index c.part-item.result c.in-Some.shape c.loop-part-test.true c.part-item.is h c.loop-part.invariant.sound;
      length = ap (λ n. c.loop-part.length + n) c.from-length.ensures ∙ more;
      few = omega (arith, c.if-length-gt128.false);
    }

pub concat_shape-returns : goal.concat_shape-returns
concat_shape-returns t c =
    let nets = nets_in c.args.scope.now in
    let all = take_all c.loop-part.part-index c.args.parts.now c.loop-part-test.false in
    c.narrow.ensures ∙ ap (λ n. narrow n false) (c.loop-part.invariant.length ∙ ap (lengths nets) all)
    ∙ sym (shape-concat nets c.args.parts.now (ap (list_all (is_sound nets)) (sym all) ∙ c.loop-part.invariant.sound))
