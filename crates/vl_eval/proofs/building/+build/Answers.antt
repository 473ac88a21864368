use Rattle.std.proofs.Common.{◌≡◌, ◌≤◌, ◌+◌, ◌*◌, [], ℕ, List, false, map, sum, take, refl, sym, ap, subst, ◌∙◌, arith}
use Rattle.vl_ast.specs.declared.expressions.Expr.{Expr}
use Rattle.vl_ast.specs.declared.expressions.Expr.TheVariants.{Name, Bit, Part, Concat, Repeat, AsSigned, Unary, Binary, Shift, Choose}
use Rattle.vl_ast.specs.Context.{own_length}
use Rattle.vl_ast.specs.Nets.{names_read}
use Rattle.vl_check.specs.Scope.{nets_in}
use Rattle.vl_eval.specs.declared.adding.Additions.{Additions}
use Rattle.vl_eval.specs.declared.site.Site.{Site}
use Rattle.vl_eval.specs.inner.OperatorSteps.{shift_op}
use Rattle.vl_eval.specs.inner.PlaceBits.{Pushed}
use Rattle.vl_eval.specs.inner.Site.{ArePlaced, Built, CanBuild, IsBuilt}
use Rattle.std.proofs.lemmas.Bool.{not-false, not-true}
use Rattle.std.proofs.lemmas.List.{take_all}
use Rattle.vl_eval.proofs.Operands.{sound-unary, names-unary, sound-as-signed, length-as-signed, names-as-signed, sound-as-unsigned, names-as-unsigned, sound-binary, names-binary, sound-shift}
use Rattle.vl_eval.proofs.Operands.{length-shift, names-shift, sound-choose, length-choose, sound-repeat, length-repeat, sign-repeat, names-repeat, sound-concat, names-concat}
use Rattle.vl_eval.proofs.Rooms.{room-in, unary-room, left-fits, right-fits}
use Rattle.vl_eval.proofs.SideBySide.{Copied, Joined, beside-grows, built-copies, built-no-parts, built-parts, concat-alone, copied-bit, copied-more, copied-one, copied-room, copies-few, joined-all}
use Rattle.vl_eval.proofs.SideBySide.{joined-more, lengths-more, one-copy, part-in, part-placed, part-size, part-sound, parts-few, parts-more, shows-alone-too, value-at}
use Rattle.vl_eval.proofs.Builds.{behind, both-fine, fine-as, built-unary, built-binary, built-as-signed, built-as-signed-plain, built-as-unsigned, built-shift, built-choice, grows-more, grows-none}
use Rattle.vl_eval.proofs.Builds.{placed-choose, placed-left, placed-right, placed-later}
use Rattle.vl_eval.proofs.building.+build.Given as given
use Rattle.vl_eval.proofs.building.+build.Goals as goal

placed : (site : Site) (ops : Additions) (names names' : List (List ℕ)) → names ≡ names' → (ops.wanting ≡ false → ArePlaced site.base site.scope.now site.slots.now ops.code names)
    → ops.wanting ≡ false → ArePlaced site.base site.scope.now site.slots.now ops.code names'
placed site ops names names' e p fine = subst (λ ns. ArePlaced site.base site.scope.now site.slots.now ops.code ns) e (p fine)

pub build_unary-unary_context-inner-requires : goal.build_unary-unary_context-inner-requires
build_unary-unary_context-inner-requires t c = sound-unary (nets_in c.args.site.now.scope.now) c.args.op c.args.part.now c.requires.sound

pub build_unary-build-slot-requires : goal.build_unary-build-slot-requires
build_unary-build-slot-requires t c =
    let site = c.args.site.now in
    let nets = nets_in site.scope.now in
    let room = room-in (own_length nets c.args.part.now) _ _ c.unary_context-inner.ensures
    (unary-room nets c.args.op c.args.part.now c.args.context.length c.args.context.signed c.requires.sound
    c.requires.longer c.requires.most) in (
      omega arith,
      record {
        by_layer = c.requires.by_layer;
        sound =
            sound-unary nets c.args.op c.args.part.now c.requires.sound;
        longer = room.0;
        most = room.1;
        placed =
            placed site c.args.ops.now _ _ (names-unary nets c.args.op c.args.part.now) c.requires.placed;
      },
    )

pub build_unary-mask_of-requires : goal.build_unary-mask_of-requires
build_unary-mask_of-requires t c = c.requires.most

pub build_unary-returns : goal.build_unary-returns
build_unary-returns t c =
    let site = c.args.site.now in
    behind c.build-slot.ensures c.push.ensures
    (λ b p. built-unary c.requires.by_layer site.base site.scope.now site.slots.now c.args.op c.args.part.now
    c.args.ops.now.code c.build-slot.new.ops.code c.push.new.ops.code c.build-slot.result c.push.result
    c.args.context.length c.mask_of.result c.args.context.signed c.unary_context-inner.result
    c.requires.sound c.requires.longer c.requires.most c.mask_of.ensures
    c.unary_context-inner.ensures b
    (subst (λ o. Pushed site.base c.build-slot.new.ops.code c.push.new.ops.code
    c.push.result o) c.unary_op.ensures p))

pub build_as_signed-build_alone-own-requires : goal.build_as_signed-build_alone-own-requires
build_as_signed-build_alone-own-requires t c =
    let nets = nets_in c.args.site.now.scope.now in (
      omega arith,
      record {
        by_layer = c.requires.by_layer;
        sound =
            sound-as-signed nets c.args.part.now c.requires.sound;
        placed =
            placed c.args.site.now c.args.ops.now _ _ (names-as-signed nets c.args.part.now) c.requires.placed;
      },
    )

pub build_as_signed-returns-then-not-context : goal.build_as_signed-returns-then-not-context
build_as_signed-returns-then-not-context t c =
    let site = c.args.site.now in
    let own = c.build_alone-own.ensures in
    fine-as own.built (built-as-signed-plain c.requires.by_layer site.base site.scope.now site.slots.now
    c.args.part.now c.args.ops.now.code c.build_alone-own.new.ops.code c.build_alone-own.result.slot
    c.args.context.length c.args.context.signed c.build_alone-own.result.shape own.length own.sign
    (not-true c.args.context.signed c.if-not-context.true))

pub build_as_signed-extend-requires-clause-longer : goal.build_as_signed-extend-requires-clause-longer
build_as_signed-extend-requires-clause-longer t c = let l =
    length-as-signed (nets_in c.args.site.now.scope.now) c.args.part.now in let own =
    c.build_alone-own.ensures.length in omega (arith, l, own, c.requires.longer)

pub build_as_signed-extend-requires-clause-most : goal.build_as_signed-extend-requires-clause-most
build_as_signed-extend-requires-clause-most t c = c.requires.most

pub build_as_signed-returns : goal.build_as_signed-returns
build_as_signed-returns t c =
    let site = c.args.site.now in
    let own = c.build_alone-own.ensures in
    behind own.built c.extend.ensures (built-as-signed c.requires.by_layer site.base site.scope.now site.slots.now
    c.args.part.now c.args.ops.now.code c.build_alone-own.new.ops.code c.extend.new.ops.code
    c.build_alone-own.result.slot c.extend.result c.args.context.length c.args.context.signed
    c.build_alone-own.result.shape c.requires.sound c.requires.longer c.requires.most own.length
    own.sign (not-false c.args.context.signed c.if-not-context.false))

pub build_as_unsigned-build_alone-own-requires : goal.build_as_unsigned-build_alone-own-requires
build_as_unsigned-build_alone-own-requires t c =
    let nets = nets_in c.args.site.now.scope.now in (
      omega arith,
      record {
        by_layer = c.requires.by_layer;
        sound =
            sound-as-unsigned nets c.args.part.now c.requires.sound;
        placed =
            placed c.args.site.now c.args.ops.now _ _ (names-as-unsigned nets c.args.part.now) c.requires.placed;
      },
    )

pub build_as_unsigned-returns : goal.build_as_unsigned-returns
build_as_unsigned-returns t c =
    let site = c.args.site.now in
    let own = c.build_alone-own.ensures in
    fine-as own.built (built-as-unsigned c.requires.by_layer site.base site.scope.now site.slots.now c.args.part.now
    c.args.ops.now.code c.build_alone-own.new.ops.code c.build_alone-own.result.slot c.args.context.length
    c.args.context.signed c.build_alone-own.result.shape own.length own.sign)

pub build_binary-left_context-on_left-requires-clause-left : goal.build_binary-left_context-on_left-requires-clause-left
build_binary-left_context-on_left-requires-clause-left t c = (sound-binary (nets_in c.args.site.now.scope.now) c.args.op c.args.left.now c.args.right.now c.requires.sound).0

pub build_binary-left_context-on_left-requires-clause-right : goal.build_binary-left_context-on_left-requires-clause-right
build_binary-left_context-on_left-requires-clause-right t c = (sound-binary (nets_in c.args.site.now.scope.now) c.args.op c.args.left.now c.args.right.now c.requires.sound).1

pub build_binary-left_context-on_right-requires-clause-left : goal.build_binary-left_context-on_right-requires-clause-left
build_binary-left_context-on_right-requires-clause-left t c = (sound-binary (nets_in c.args.site.now.scope.now) c.args.op c.args.left.now c.args.right.now c.requires.sound).1

pub build_binary-left_context-on_right-requires-clause-right : goal.build_binary-left_context-on_right-requires-clause-right
build_binary-left_context-on_right-requires-clause-right t c = (sound-binary (nets_in c.args.site.now.scope.now) c.args.op c.args.left.now c.args.right.now c.requires.sound).0

pub build_binary-build-first-requires : goal.build_binary-build-first-requires
build_binary-build-first-requires t c =
    let site = c.args.site.now in
    let room = left-fits site c.args.ops.now c.args.op c.args.left.now c.args.right.now c.args.context c.requires c.left_context-on_left.result c.left_context-on_left.ensures in
    let all = placed site c.args.ops.now _ _ (names-binary (nets_in site.scope.now) c.args.op c.args.left.now c.args.right.now) c.requires.placed in (
      omega arith,
      record {
        by_layer = c.requires.by_layer;
        sound =
            (sound-binary (nets_in site.scope.now) c.args.op c.args.left.now c.args.right.now c.requires.sound).0;
        longer = room.0;
        most = room.1;
        placed =
            λ fine. placed-left c.requires.by_layer site.base site.scope.now site.slots.now c.args.ops.now.code
            (names_read c.args.left.now) (names_read c.args.right.now) (all fine);
      },
    )

pub build_binary-build-second-requires : goal.build_binary-build-second-requires
build_binary-build-second-requires t c =
    let site = c.args.site.now in
    let room = right-fits site c.args.ops.now c.args.op c.args.left.now c.args.right.now c.args.context c.requires c.left_context-on_right.result c.left_context-on_right.ensures in
    let all = placed site c.args.ops.now _ _ (names-binary (nets_in site.scope.now) c.args.op c.args.left.now c.args.right.now) c.requires.placed in (
      omega arith,
      record {
        by_layer = c.requires.by_layer;
        sound =
            (sound-binary (nets_in site.scope.now) c.args.op c.args.left.now c.args.right.now c.requires.sound).1;
        longer = room.0;
        most = room.1;
        placed = λ fine. let first = c.build-first.ensures fine in
            placed-later c.requires.by_layer site.base site.scope.now site.slots.now c.args.ops.now.code
            c.build-first.new.ops.code (names_read c.args.right.now) first.1.grows
            (placed-right c.requires.by_layer site.base site.scope.now site.slots.now
            c.args.ops.now.code (names_read c.args.left.now) (names_read c.args.right.now)
            (all first.0));
      },
    )

pub build_binary-half_in-requires : goal.build_binary-half_in-requires
build_binary-half_in-requires t c =
    (left-fits c.args.site.now c.args.ops.now c.args.op c.args.left.now c.args.right.now c.args.context c.requires c.left_context-on_left.result c.left_context-on_left.ensures).1

pub build_binary-mask_of-requires : goal.build_binary-mask_of-requires
build_binary-mask_of-requires t c = c.requires.most

pub build_binary-returns : goal.build_binary-returns
build_binary-returns t c =
    let site = c.args.site.now in
    behind (both-fine c.build-first.ensures c.build-second.ensures) c.push.ensures
    (λ b p. built-binary c.requires.by_layer site.base site.scope.now site.slots.now c.args.op c.args.left.now
    c.args.right.now c.args.ops.now.code c.build-first.new.ops.code c.build-second.new.ops.code
    c.push.new.ops.code c.build-first.result c.build-second.result c.push.result c.args.context.length
    c.mask_of.result c.half_in.result c.args.context.signed c.left_context-on_left.result
    c.left_context-on_right.result c.requires.sound c.requires.longer c.requires.most
    c.mask_of.ensures c.left_context-on_left.ensures c.left_context-on_right.ensures
    c.half_in.ensures b.0 b.1 (subst
    (λ o. Pushed site.base c.build-second.new.ops.code c.push.new.ops.code
    c.push.result o) c.binary_op.ensures p))

pub build_choice-build_alone-tested-requires : goal.build_choice-build_alone-tested-requires
build_choice-build_alone-tested-requires t c =
    let site = c.args.site.now in (
      omega arith,
      record {
        by_layer = c.requires.by_layer;
        sound =
            (sound-choose (nets_in site.scope.now) c.args.test.now c.args.chosen.now c.args.other.now
            c.requires.sound).0;
        placed = λ fine.
            (placed-choose c.requires.by_layer site.base site.scope.now site.slots.now c.args.ops.now.code
            c.args.test.now c.args.chosen.now c.args.other.now (c.requires.placed fine)).0;
      },
    )

pub build_choice-build-first-requires : goal.build_choice-build-first-requires
build_choice-build-first-requires t c =
    let site = c.args.site.now in
    let l = length-choose (nets_in site.scope.now) c.args.test.now c.args.chosen.now c.args.other.now in (
      omega arith,
      record {
        by_layer = c.requires.by_layer;
        sound =
            (sound-choose (nets_in site.scope.now) c.args.test.now c.args.chosen.now c.args.other.now
            c.requires.sound).1;
        longer = omega (arith, l, c.requires.longer);
        most = c.requires.most;
        placed =
            λ fine. let tested = c.build_alone-tested.ensures.built fine in
            placed-later c.requires.by_layer site.base site.scope.now site.slots.now c.args.ops.now.code
            c.build_alone-tested.new.ops.code (names_read c.args.chosen.now) tested.1.grows
            (placed-choose c.requires.by_layer site.base site.scope.now site.slots.now
            c.args.ops.now.code c.args.test.now c.args.chosen.now c.args.other.now
            (c.requires.placed tested.0)).1;
      },
    )

pub build_choice-build-second-requires : goal.build_choice-build-second-requires
build_choice-build-second-requires t c =
    let site = c.args.site.now in
    let l = length-choose (nets_in site.scope.now) c.args.test.now c.args.chosen.now c.args.other.now in (
      omega arith,
      record {
        by_layer = c.requires.by_layer;
        sound =
            (sound-choose (nets_in site.scope.now) c.args.test.now c.args.chosen.now c.args.other.now
            c.requires.sound).2;
        longer = omega (arith, l, c.requires.longer);
        most = c.requires.most;
        placed =
            λ fine. let first = c.build-first.ensures fine in let tested =
            c.build_alone-tested.ensures.built first.0 in
            placed-later c.requires.by_layer site.base site.scope.now site.slots.now c.args.ops.now.code
            c.build-first.new.ops.code (names_read c.args.other.now)
            (grows-more site.base c.args.ops.now.code c.build_alone-tested.new.ops.code
            c.build-first.new.ops.code tested.1.grows first.1.grows)
            (placed-choose c.requires.by_layer site.base site.scope.now site.slots.now
            c.args.ops.now.code c.args.test.now c.args.chosen.now c.args.other.now
            (c.requires.placed tested.0)).2;
      },
    )

pub build_choice-returns : goal.build_choice-returns
build_choice-returns t c =
    let site = c.args.site.now in
    let own = c.build_alone-tested.ensures in
    behind (both-fine own.built (both-fine c.build-first.ensures c.build-second.ensures)) c.push.ensures
    (λ b p. built-choice c.requires.by_layer site.base site.scope.now site.slots.now c.args.test.now
    c.args.chosen.now c.args.other.now c.args.ops.now.code c.build_alone-tested.new.ops.code
    c.build-first.new.ops.code c.build-second.new.ops.code c.push.new.ops.code
    c.build_alone-tested.result.slot c.build-first.result c.build-second.result c.push.result
    c.args.context.length c.args.context.signed c.build_alone-tested.result.shape own.length
    own.sign b.0 b.1.0 b.1.1 p)

pub build_shift-build-slot-requires : goal.build_shift-build-slot-requires
build_shift-build-slot-requires t c =
    let site = c.args.site.now in
    let nets = nets_in site.scope.now in
    let l = length-shift nets c.args.op c.args.part.now c.args.amount.now in
    let ok = sound-shift nets c.args.op c.args.part.now c.args.amount.now c.requires.sound in
    let names = placed site c.args.ops.now _ _ (names-shift nets c.args.op c.args.part.now c.args.amount.now) c.requires.placed in
    (omega arith, record { by_layer = c.requires.by_layer; sound = ok.0; longer = omega (arith, l, c.requires.longer); most = c.requires.most; placed = names })

pub build_shift-shift_op-requires : goal.build_shift-shift_op-requires
build_shift-shift_op-requires t c = c.requires.most

pub build_shift-returns : goal.build_shift-returns
build_shift-returns t c =
    let site = c.args.site.now in
    behind c.build-slot.ensures c.push.ensures
    (λ b p. built-shift c.requires.by_layer site.base site.scope.now site.slots.now c.args.op c.args.part.now
    c.args.amount.now c.args.ops.now.code c.build-slot.new.ops.code c.push.new.ops.code c.build-slot.result
    c.push.result c.args.context.length c.args.context.signed c.requires.sound c.requires.longer
    c.requires.most b (subst (λ o. Pushed site.base c.build-slot.new.ops.code c.push.new.ops.code
    c.push.result o) (c.shift_op.ensures
    ∙ ap (λ (places : ℕ). shift_op c.args.op c.build-slot.result places
    c.args.context.length c.args.context.signed) c.get.ensures) p))

pub build_copies-build_alone-own-requires : goal.build_copies-build_alone-own-requires
build_copies-build_alone-own-requires t c =
    let site = c.args.site.now in
    let nets = nets_in site.scope.now in
    let ok = sound-repeat nets c.args.count c.args.part.now c.requires.sound in
    let names = placed site c.args.ops.now _ _ (names-repeat nets c.args.count c.args.part.now) c.requires.placed in
    (omega arith, record { by_layer = c.requires.by_layer; sound = ok.1; placed = names })

-- how long copies of a bit are
bit-length : (count length' own : ℕ) → length' ≡ own → length' ≡ 1 → count * own ≤ 128 → (count * own ≡ count) × (count ≤ 128)
bit-length count length' own long one few =
    let all : count * own ≡ count * 1 = ap (λ (n : ℕ). count * n) (sym long ∙ one) in
    (omega (arith, all), omega (arith, all, few))

pub build_copies-extend-slot-requires-clause-longer : goal.build_copies-extend-slot-requires-clause-longer
build_copies-extend-slot-requires-clause-longer t c =
    let ok = sound-repeat (nets_in c.args.site.now.scope.now) c.args.count c.args.part.now c.requires.sound in
    omega (arith, ok.0)

pub build_copies-extend-slot-requires-clause-most : goal.build_copies-extend-slot-requires-clause-most
build_copies-extend-slot-requires-clause-most t c =
    let nets = nets_in c.args.site.now.scope.now in
    let ok = sound-repeat nets c.args.count c.args.part.now c.requires.sound in
    let own = c.build_alone-own in
    (bit-length c.args.count own.result.shape.length (own_length nets c.args.part.now) own.ensures.length c.if-own-eq1.true ok.2).1

pub build_copies-returns-then-own-eq1-clause-built : goal.build_copies-returns-then-own-eq1-clause-built
build_copies-returns-then-own-eq1-clause-built t c = λ context fine.
    let site = c.args.site.now in
    let by_layer = c.requires.by_layer in
    let nets = nets_in site.scope.now in
    let part = c.args.part.now in
    let ok = sound-repeat nets c.args.count part c.requires.sound in
    let own = c.build_alone-own in
    let one = c.if-own-eq1.true in
    let few = bit-length c.args.count own.result.shape.length (own_length nets part) own.ensures.length one ok.2 in
    let e = c.extend-slot.ensures fine in
    let b = own.ensures.built e.0 in (
      b.0,
      subst (λ slot. Built site.base site.scope.now site.slots.now c.args.ops.now.code c.extend-slot.new.ops.code
          slot context.length context.signed (Repeat c.args.count part)) (sym c.unsigned_slot.ensures.slot)
          (built-copies by_layer site.base site.scope.now site.slots.now c.args.count part c.args.ops.now.code
          c.extend-slot.new.ops.code c.extend-slot.result c.args.count context.length context.signed
          (copied-bit by_layer site.base site.scope.now site.slots.now c.args.ops.now.code own.new.ops.code
          c.extend-slot.new.ops.code own.result.slot c.extend-slot.result c.args.count part own.result.shape
          ok.1 own.ensures.length own.ensures.sign one ok.0 few.1 b.1 e.1)),
    )

pub build_copies-returns-then-own-eq1-clause-own : goal.build_copies-returns-then-own-eq1-clause-own
build_copies-returns-then-own-eq1-clause-own t c =
    let site = c.args.site.now in
    let nets = nets_in site.scope.now in
    let part = c.args.part.now in
    let ok = sound-repeat nets c.args.count part c.requires.sound in
    let own = c.build_alone-own in
    let few = bit-length c.args.count own.result.shape.length (own_length nets part) own.ensures.length c.if-own-eq1.true ok.2 in
    let l = length-repeat nets c.args.count part in
    shows-alone-too c.requires.by_layer site.base site.scope.now site.slots.now c.args.ops.now c.extend-slot.new.ops (Repeat c.args.count part) c.unsigned_slot.result
    (c.unsigned_slot.ensures.length ∙ sym few.0 ∙ sym l)
    (sign-repeat nets c.args.count part) (omega (arith, l, ok.2)) c.unsigned_slot.ensures.sign
    (build_copies-returns-then-own-eq1-clause-built t c)

pub build_copies-loop-copy-init : goal.build_copies-loop-copy-init
build_copies-loop-copy-init t c =
    let site = c.args.site.now in
    let ok = sound-repeat (nets_in site.scope.now) c.args.count c.args.part.now c.requires.sound in
    let own = c.build_alone-own.ensures in
    record {
      long = omega (arith, own.length);
      later = λ fine. (fine, grows-none site.base c.build_alone-own.new.ops.code);
      copied = λ fine.
          let b = own.built fine in (
            b.0,
            λ l. copied-one l site.base site.scope.now site.slots.now c.args.ops.now.code
                c.build_alone-own.new.ops.code c.build_alone-own.result.slot c.args.part.now
                c.build_alone-own.result.shape ok.1 own.length own.sign b.1,
          );
    }

pub build_copies-overflow_add-length : goal.build_copies-overflow_add-length
build_copies-overflow_add-length t c =
    let site = c.args.site.now in
    let room = copied-room c.requires.by_layer site.base site.scope.now site.slots.now c.loop-copy.length
    c.loop-copy._copy c.args.count c.args.part.now c.requires.sound c.loop-copy-test.true
    c.loop-copy.invariant.long in
    omega (arith, room, c.build_alone-own.ensures.length)

pub build_copies-loop-copy-preserved : goal.build_copies-loop-copy-preserved
build_copies-loop-copy-preserved t c =
    let site = c.args.site.now in
    let by_layer = c.requires.by_layer in
    let nets = nets_in site.scope.now in
    let own = c.build_alone-own.ensures in
    let ok = sound-repeat nets c.args.count c.args.part.now c.requires.sound in
    let long = c.loop-copy.invariant.long in
    let more = one-copy by_layer site.base site.scope.now site.slots.now c.loop-copy._copy (own_length nets c.args.part.now) in
    let few = copies-few by_layer site.base site.scope.now site.slots.now c.loop-copy._copy c.args.count (own_length nets c.args.part.now) c.loop-copy-test.true ok.2 in
    let room = copied-room by_layer site.base site.scope.now site.slots.now c.loop-copy.length c.loop-copy._copy c.args.count c.args.part.now c.requires.sound c.loop-copy-test.true long in
    record {
      long = omega (arith, long, more, own.length);
      later = λ fine.
          let s = c.beside-joined.ensures fine in
          let later = c.loop-copy.invariant.later s.0 in
          let copied = (c.loop-copy.invariant.copied s.0).1 by_layer in
          let value = value-at by_layer site.base site.scope.now site.slots.now c.args.ops.now.code
          c.build_alone-own.new.ops.code c.loop-copy.ops.code c.build_alone-own.result.slot c.args.part.now
          c.build_alone-own.result.shape ok.1 own.length own.sign (own.built later.0).1 later.1 in (
            later.0,
            grows-more site.base c.build_alone-own.new.ops.code c.loop-copy.ops.code
                c.beside-joined.new.ops.code later.1
                (beside-grows by_layer site.base site.scope.now site.slots.now c.loop-copy.ops.code
                c.beside-joined.new.ops.code c.loop-copy.joined c.beside-joined.result
                c.build_alone-own.result.slot c.loop-copy.length c.build_alone-own.result.shape.length
                copied.shows.below value.here.below (omega (arith, room, own.length)) s.1),
          );
      copied = λ fine.
          let s = c.beside-joined.ensures fine in
          let later = c.loop-copy.invariant.later s.0 in
          let b = own.built later.0 in (
            b.0,
            λ l. copied-more l site.base site.scope.now site.slots.now c.args.ops.now.code c.loop-copy.ops.code
                c.beside-joined.new.ops.code c.loop-copy.joined c.beside-joined.result c.build_alone-own.result.slot
                c.loop-copy.length c.loop-copy._copy c.args.part.now c.build_alone-own.result.shape ok.1 few
                own.length (value-at l site.base site.scope.now site.slots.now c.args.ops.now.code
                c.build_alone-own.new.ops.code c.loop-copy.ops.code c.build_alone-own.result.slot
                c.args.part.now c.build_alone-own.result.shape ok.1 own.length own.sign b.1 later.1)
                ((c.loop-copy.invariant.copied s.0).1 l) s.1,
          );
    }

pub build_copies-returns-clause-built : goal.build_copies-returns-clause-built
build_copies-returns-clause-built t c = λ context fine.
    let site = c.args.site.now in
    let by_layer = c.requires.by_layer in
    let ok = sound-repeat (nets_in site.scope.now) c.args.count c.args.part.now c.requires.sound in
    let copied = c.loop-copy.invariant.copied fine in (
      copied.0,
      subst (λ slot. Built site.base site.scope.now site.slots.now c.args.ops.now.code c.loop-copy.ops.code
          slot context.length context.signed (Repeat c.args.count c.args.part.now)) (sym c.unsigned_slot-2.ensures.slot)
          (built-copies by_layer site.base site.scope.now site.slots.now c.args.count c.args.part.now
          c.args.ops.now.code c.loop-copy.ops.code c.loop-copy.joined c.loop-copy.length context.length
          context.signed (subst (λ n. Copied by_layer site.base site.scope.now site.slots.now
          c.args.ops.now.code c.loop-copy.ops.code c.loop-copy.joined c.loop-copy.length n
          c.args.part.now) (omega (arith, ok.0)) (copied.1 by_layer))),
    )

pub build_copies-returns-clause-own : goal.build_copies-returns-clause-own
build_copies-returns-clause-own t c =
    let site = c.args.site.now in
    let nets = nets_in site.scope.now in
    let ok = sound-repeat nets c.args.count c.args.part.now c.requires.sound in
    let all : c.loop-copy._copy ≡ c.args.count = omega (arith, ok.0) in
    let l = length-repeat nets c.args.count c.args.part.now in
    shows-alone-too c.requires.by_layer site.base site.scope.now site.slots.now c.args.ops.now c.loop-copy.ops (Repeat c.args.count c.args.part.now) c.unsigned_slot-2.result
    (c.unsigned_slot-2.ensures.length ∙ c.loop-copy.invariant.long
    ∙ ap (λ (n : ℕ). n * own_length nets c.args.part.now) all ∙ sym l)
    (sign-repeat nets c.args.count c.args.part.now) (omega (arith, l, ok.2)) c.unsigned_slot-2.ensures.sign
    (build_copies-returns-clause-built t c)

pub build_parts-loop-part-init : goal.build_parts-loop-part-init
build_parts-loop-part-init t c = record {
  long = refl;
  joined = λ fine. (
    fine,
    λ b. record {
      grows = grows-none c.args.site.now.base c.args.ops.now.code;
      long = refl;
      fits = λ values st f. omega arith;
      shows = λ some. absurd (omega (arith, some));
    },
  );
}

pub build_parts-build_alone-own-requires : goal.build_parts-build_alone-own-requires
build_parts-build_alone-own-requires t c =
    let site = c.args.site.now in
    let by_layer = c.requires.by_layer in
    let nets = nets_in site.scope.now in
    let parts = c.args.parts.now in
    let part = c.part-item.result in
    let there = part-in by_layer site.base site.scope.now site.slots.now parts c.loop-part.part-index part c.loop-part-test.true c.part-item.is in
    let all = placed site c.args.ops.now _ _ (names-concat nets parts) c.requires.placed in
    let sizes : List Expr → ℕ = (λ (ps : List Expr). given.size-build_parts
    (record {
      the-lifetimes = ([], ([], ([], ([], ([], tt)))));
      ops =
          c.args.ops;
      site = c.args.site;
      parts = record { ref_ptr = c.args.parts.ref_ptr; now = ps };
    })) in
    let less = part-size sizes (λ x xs. refl) parts c.loop-part.part-index part c.loop-part-test.true c.part-item.is in (
      omega (arith, less),
      record {
        by_layer = by_layer;
        sound =
            part-sound by_layer site.base site.scope.now site.slots.now parts c.loop-part.part-index part
            (sound-concat nets parts c.requires.sound).0 c.loop-part-test.true c.part-item.is;
        placed =
            λ fine. let joined = c.loop-part.invariant.joined fine in
            placed-later by_layer site.base site.scope.now site.slots.now c.args.ops.now.code
            c.loop-part.ops.code (names_read part) (joined.1 by_layer).grows
            (part-placed by_layer site.base site.scope.now site.slots.now c.args.ops.now.code parts
            part there (all joined.0));
      },
    )

pub build_parts-overflow_add-length : goal.build_parts-overflow_add-length
build_parts-overflow_add-length t c =
    let site = c.args.site.now in
    let parts = c.args.parts.now in
    let few = parts-few c.requires.by_layer site.base site.scope.now site.slots.now parts c.loop-part.part-index
    c.part-item.result (sound-concat (nets_in site.scope.now) parts c.requires.sound).1 c.loop-part-test.true
    c.part-item.is in
    let more = lengths-more c.requires.by_layer site.base site.scope.now site.slots.now (take c.loop-part.part-index parts) c.part-item.result in
    omega (arith, few, more, c.loop-part.invariant.long, c.build_alone-own.ensures.length)

pub build_parts-loop-part-preserved : goal.build_parts-loop-part-preserved
build_parts-loop-part-preserved t c =
    let site = c.args.site.now in
    let nets = nets_in site.scope.now in
    let parts = c.args.parts.now in
    let part = c.part-item.result in
    let i = c.loop-part.part-index in
    let ok = sound-concat nets parts c.requires.sound in
    let own = c.build_alone-own.ensures in
    let by_layer = c.requires.by_layer in
    let next = parts-more by_layer site.base site.scope.now site.slots.now parts i part c.loop-part-test.true c.part-item.is in
    let more = lengths-more by_layer site.base site.scope.now site.slots.now (take i parts) part in
    let sums = ap (λ (ps : List Expr). sum (map (own_length nets) ps)) next in
    record {
      long = omega (arith, c.loop-part.invariant.long, more, sums, own.length);
      joined = λ fine.
          let s = c.beside-joined.ensures fine in
          let a = own.built s.0 in
          let j = c.loop-part.invariant.joined a.0 in (
            j.0,
            λ b. subst (λ done. Joined b site.base site.scope.now site.slots.now c.args.ops.now.code
                c.beside-joined.new.ops.code c.beside-joined.result
                (c.loop-part.length + c.build_alone-own.result.shape.length) done parts) (sym next)
                (joined-more b site.base site.scope.now site.slots.now c.args.ops.now.code
                c.loop-part.ops.code c.build_alone-own.new.ops.code c.beside-joined.new.ops.code
                c.loop-part.joined c.beside-joined.result c.build_alone-own.result.slot
                c.loop-part.length (take i parts) parts part c.build_alone-own.result.shape
                (part-in b site.base site.scope.now site.slots.now parts i part
                c.loop-part-test.true c.part-item.is)
                (part-sound b site.base site.scope.now site.slots.now parts i part
                ok.0 c.loop-part-test.true c.part-item.is)
                (parts-few b site.base site.scope.now site.slots.now parts i
                part ok.1 c.loop-part-test.true c.part-item.is) own.length
                own.sign (j.1 b) a.1 s.1),
          );
    }

pub build_parts-returns-then-length-eq0-clause-built : goal.build_parts-returns-then-length-eq0-clause-built
build_parts-returns-then-length-eq0-clause-built t c = λ context fine.
    let site = c.args.site.now in
    let by_layer = c.requires.by_layer in
    let parts = c.args.parts.now in
    let p = c.push-slot.ensures fine in
    let j = c.loop-part.invariant.joined p.0 in
    let joined = joined-all by_layer site.base site.scope.now site.slots.now c.args.ops.now.code
    c.loop-part.ops.code c.loop-part.joined c.loop-part.length c.loop-part.part-index parts
    (omega (arith, c.loop-part-test.false)) (j.1 by_layer) in (
      j.0,
      subst (λ slot. Built site.base site.scope.now site.slots.now c.args.ops.now.code c.push-slot.new.ops.code
          slot context.length context.signed (Concat parts)) (sym c.unsigned_slot.ensures.slot)
          (built-no-parts by_layer site.base site.scope.now site.slots.now parts c.args.ops.now.code
          c.loop-part.ops.code c.push-slot.new.ops.code c.push-slot.result c.loop-part.joined
          c.loop-part.length context.length context.signed joined c.if-length-eq0.true p.1),
    )

pub build_parts-returns-then-length-eq0-clause-own : goal.build_parts-returns-then-length-eq0-clause-own
build_parts-returns-then-length-eq0-clause-own t c =
    let site = c.args.site.now in
    let parts = c.args.parts.now in
    let all = ap (λ (ps : List Expr). sum (map (own_length (nets_in site.scope.now)) ps)) (take_all c.loop-part.part-index parts (omega (arith, c.loop-part-test.false))) in
    concat-alone c.requires.by_layer site.base site.scope.now site.slots.now c.args.ops.now c.push-slot.new.ops
    parts c.unsigned_slot.result c.requires.sound
    (c.unsigned_slot.ensures.length ∙ c.loop-part.invariant.long ∙ all) c.unsigned_slot.ensures.sign
    (build_parts-returns-then-length-eq0-clause-built t c)

pub build_parts-returns-clause-built : goal.build_parts-returns-clause-built
build_parts-returns-clause-built t c = λ context fine.
    let site = c.args.site.now in
    let by_layer = c.requires.by_layer in
    let parts = c.args.parts.now in
    let j = c.loop-part.invariant.joined fine in
    let joined = joined-all by_layer site.base site.scope.now site.slots.now c.args.ops.now.code
    c.loop-part.ops.code c.loop-part.joined c.loop-part.length c.loop-part.part-index parts
    (omega (arith, c.loop-part-test.false)) (j.1 by_layer) in (
      j.0,
      subst (λ slot. Built site.base site.scope.now site.slots.now c.args.ops.now.code c.loop-part.ops.code slot
          context.length context.signed (Concat parts)) (sym c.unsigned_slot-2.ensures.slot)
          (built-parts by_layer site.base site.scope.now site.slots.now parts c.args.ops.now.code
          c.loop-part.ops.code c.loop-part.joined c.loop-part.length context.length context.signed joined
          (omega (arith, c.if-length-eq0.false))),
    )

pub build_parts-returns-clause-own : goal.build_parts-returns-clause-own
build_parts-returns-clause-own t c =
    let site = c.args.site.now in
    let parts = c.args.parts.now in
    let all = ap (λ (ps : List Expr). sum (map (own_length (nets_in site.scope.now)) ps)) (take_all c.loop-part.part-index parts (omega (arith, c.loop-part-test.false))) in
    concat-alone c.requires.by_layer site.base site.scope.now site.slots.now c.args.ops.now c.loop-part.ops parts
    c.unsigned_slot-2.result c.requires.sound
    (c.unsigned_slot-2.ensures.length ∙ c.loop-part.invariant.long ∙ all) c.unsigned_slot-2.ensures.sign
    (build_parts-returns-clause-built t c)

pub build-returns-in-Concat : goal.build-returns-in-Concat
build-returns-in-Concat t c =
    subst (λ e. IsBuilt c.args.site.now c.args.ops.now c.build_parts.new.ops c.args.context e c.build_parts.result.slot) (ap Concat c.as_slice.ensures ∙ sym c.in-Concat.is)
    (c.build_parts.ensures.built c.args.context)

pub build-returns-in-Repeat : goal.build-returns-in-Repeat
build-returns-in-Repeat t c =
    subst (λ e. IsBuilt c.args.site.now c.args.ops.now c.build_copies.new.ops c.args.context e c.build_copies.result.slot) (ap (Repeat c.in-Repeat.count) c.get.ensures ∙ sym c.in-Repeat.is)
    (c.build_copies.ensures.built c.args.context)

pub build-build_name-requires : goal.build-build_name-requires
build-build_name-requires t c = subst (CanBuild c.args.site.now c.args.ops.now c.args.context.length) (c.in-Name.is ∙ ap Name (sym c.bytes.ensures)) c.requires

pub build-returns-in-Name : goal.build-returns-in-Name
build-returns-in-Name t c = subst (λ e. IsBuilt c.args.site.now c.args.ops.now c.build_name.new.ops c.args.context e
    c.build_name.result) (sym (c.in-Name.is ∙ ap Name (sym c.bytes.ensures))) c.build_name.ensures

pub build-build_bit-requires : goal.build-build_bit-requires
build-build_bit-requires t c = subst (CanBuild c.args.site.now c.args.ops.now c.args.context.length) (c.in-Bit.is ∙ ap (λ name. Bit name c.in-Bit.place) (sym c.bytes-in-Bit.ensures)) c.requires

pub build-returns-in-Bit : goal.build-returns-in-Bit
build-returns-in-Bit t c = subst (λ e. IsBuilt c.args.site.now c.args.ops.now c.build_bit.new.ops c.args.context e
    c.build_bit.result)
    (sym (c.in-Bit.is ∙ ap (λ name. Bit name c.in-Bit.place) (sym c.bytes-in-Bit.ensures))) c.build_bit.ensures

pub build-build_part-requires : goal.build-build_part-requires
build-build_part-requires t c = subst (CanBuild c.args.site.now c.args.ops.now c.args.context.length)
    (c.in-Part.is ∙ ap (λ name. Part name c.in-Part.high c.in-Part.low) (sym c.bytes-in-Part.ensures)) c.requires

pub build-returns-in-Part : goal.build-returns-in-Part
build-returns-in-Part t c = subst (λ e. IsBuilt c.args.site.now c.args.ops.now c.build_part.new.ops c.args.context e
    c.build_part.result) (sym (c.in-Part.is
    ∙ ap (λ name. Part name c.in-Part.high c.in-Part.low) (sym c.bytes-in-Part.ensures))) c.build_part.ensures

pub build-returns-in-AsSigned : goal.build-returns-in-AsSigned
build-returns-in-AsSigned t c = subst (λ e. IsBuilt c.args.site.now c.args.ops.now c.build_as_signed.new.ops
    c.args.context e c.build_as_signed.result)
    (sym (c.in-AsSigned.is ∙ ap AsSigned (sym c.get-in-AsSigned.ensures))) c.build_as_signed.ensures

pub build-returns-in-Unary : goal.build-returns-in-Unary
build-returns-in-Unary t c = subst (λ e. IsBuilt c.args.site.now c.args.ops.now c.build_unary.new.ops c.args.context
    e c.build_unary.result)
    (sym (c.in-Unary.is ∙ ap (Unary c.in-Unary.op) (sym c.get-in-Unary.ensures))) c.build_unary.ensures

pub build-returns-in-Binary : goal.build-returns-in-Binary
build-returns-in-Binary t c = subst (λ e. IsBuilt c.args.site.now c.args.ops.now c.build_binary.new.ops
    c.args.context e c.build_binary.result)
    (sym (c.in-Binary.is ∙ ap (λ left. Binary c.in-Binary.op left c.in-Binary.right)
    (sym c.get-in-Binary.ensures) ∙ ap (Binary c.in-Binary.op c.get-in-Binary.result.now)
    (sym c.get-in-Binary-2.ensures))) c.build_binary.ensures

pub build-returns-in-Shift : goal.build-returns-in-Shift
build-returns-in-Shift t c = subst (λ e. IsBuilt c.args.site.now c.args.ops.now c.build_shift.new.ops c.args.context
    e c.build_shift.result) (sym (c.in-Shift.is
    ∙ ap (λ part. Shift c.in-Shift.op part c.in-Shift.amount) (sym c.get-in-Shift.ensures)))
    c.build_shift.ensures

pub build-returns-in-Choose : goal.build-returns-in-Choose
build-returns-in-Choose t c = subst (λ e. IsBuilt c.args.site.now c.args.ops.now c.build_choice.new.ops
    c.args.context e c.build_choice.result)
    (sym (c.in-Choose.is ∙ ap (λ test. Choose test c.in-Choose.chosen c.in-Choose.other)
    (sym c.get-in-Choose.ensures) ∙ ap
    (λ chosen. Choose c.get-in-Choose.result.now chosen c.in-Choose.other)
    (sym c.get-in-Choose-2.ensures) ∙ ap
    (Choose c.get-in-Choose.result.now c.get-in-Choose-2.result.now)
    (sym c.get-in-Choose-3.ensures))) c.build_choice.ensures

pub build-build_literal-requires : goal.build-build_literal-requires
build-build_literal-requires t c = subst (CanBuild c.args.site.now c.args.ops.now c.args.context.length) c.in-Literal.is c.requires

pub build_alone-build-slot-requires : goal.build_alone-build-slot-requires
build_alone-build-slot-requires t c = (
  omega arith,
  record {
    by_layer = c.requires.by_layer;
    sound = c.requires.sound;
    longer =
        omega (arith, c.shape_of-shape.ensures.length);
    most =
        c.shape_of-shape.ensures.few;
    placed = c.requires.placed;
  },
)
