use Rattle.std.proofs.Common.{◌≡◌, ◌≤◌, ◌++◌, ◌∷◌, [], true, false, List, length, take, Contains, Vec, Global, refl, sym, subst, ap, ◌∙◌}
use Rattle.std.proofs.lemmas.List.{take_all}
use Rattle.vl_ast.specs.declared.modules.ModItem.{ModItem}
use Rattle.vl_ast.specs.declared.modules.ModItem.TheVariants.{Always}
use Rattle.vl_ast.specs.Conditions.{is_number, is_sound, is_sound_condition}
use Rattle.vl_check.specs.Scope.{names_in, nets_in}
use Rattle.vl_eval.specs.inner.Assigns.{Captures, next_names}
use Rattle.vl_eval.specs.declared.adding.Additions.{Additions}
use Rattle.vl_eval.specs.declared.ops.Op.{Op}
use Rattle.vl_eval.specs.declared.plan.Capture.{Capture}
use Rattle.vl_eval.specs.inner.PlanOperations.{AreCaptured}
use Rattle.vl_eval.specs.inner.Site.{ArePlaced, slot_in}
use Rattle.vl_eval.proofs.Captures.{captured-more, captured-none, captured-same, item-there, items-more, known-placed, next-known, reset-known}
use Rattle.vl_eval.proofs.Sounds.{scope-always, scope-few}
use Rattle.vl_eval.proofs.plan.captures.Goals as goal
use Rattle.vl_eval.proofs.plan.captures.Goals.{In-Always, in-Always, in_default}

-- the item stands in the module, and is sound
there : (c : In-Always) → Contains c.args.source.now.items (Always c.in-Always.name c.in-Always.first c.in-Always.condition c.in-Always.value)
there c = item-there c.as_slice-item-items.result.now c.args.source.now.items c.loop-item.item-index
    c.item-item.result _ c.as_slice-item-items.ensures c.loop-item-test.true c.item-item.is c.in-Always.is

sound : (c : In-Always) → (is_number c.in-Always.first ≡ true)
    × (is_sound_condition (nets_in c.args.site.now.scope.now) c.in-Always.condition ≡ true)
    × (is_sound (nets_in c.args.site.now.scope.now) c.in-Always.value ≡ true)
sound c =
    let a = c.in-Always in
    scope-always c.args.source.now c.requires.sound.narrow c.args.site.now.scope.now c.requires.scope a.name a.first a.condition a.value (there c)

pub build_next-from-requires-clause-number : goal.build_next-from-requires-clause-number
build_next-from-requires-clause-number c = (sound (goal.at.build_next-from-requires-clause-number c).In-Always).0

pub build_next-from-requires-clause-condition : goal.build_next-from-requires-clause-condition
build_next-from-requires-clause-condition c = (sound (goal.at.build_next-from-requires-clause-condition c).In-Always).1

pub build_next-from-requires-clause-value : goal.build_next-from-requires-clause-value
build_next-from-requires-clause-value c = (sound (goal.at.build_next-from-requires-clause-value c).In-Always).2

pub build_next-from-requires-clause-few : goal.build_next-from-requires-clause-few
build_next-from-requires-clause-few c =
    let w = c.requires.sound.acyclic in
    scope-few c.args.source.now c.requires.sound.narrow w.driven w.once c.args.site.now.scope.now c.requires.scope c.bytes.result.now

pub build_next-from-requires-clause-placed : goal.build_next-from-requires-clause-placed
build_next-from-requires-clause-placed c =
    let m = c.args.source.now in
    let site = c.args.site.now in
    let scope = site.scope.now in
    let a = c.in-Always in
    let w = c.requires.sound.acyclic in
    let few = scope-few m c.requires.sound.narrow w.driven w.once scope c.requires.scope in
    λ fine.
    let inv = c.loop-item.invariant fine in
    let wired = c.requires.wired inv.0 in
    subst (λ n. ArePlaced n scope site.slots.now c.loop-item.ops.code (next_names c.bytes.result.now a.condition a.value)) (sym c.requires.base)
    (subst (λ n. ArePlaced (length (names_in scope)) scope site.slots.now c.loop-item.ops.code (next_names n a.condition a.value)) (sym c.bytes.ensures)
    (known-placed c.meaning_by_layer.ensures.value m scope c.requires.scope w.driven w.once few site.slots.now
    c.args.ops.now.code wired c.loop-item.ops.code inv.1.grows (next_names a.name a.condition a.value)
    (next-known c.meaning_by_layer.ensures.value m scope c.requires.scope w.driven w.once few site.slots.now c.args.ops.now.code wired
    (reset-known c.meaning_by_layer.ensures.value m scope c.requires.scope w.driven w.once few site.slots.now
    c.args.ops.now.code wired c.requires.sound.clocked) a.name a.first a.condition a.value
    (there (goal.at.build_next-from-requires-clause-placed c).In-Always))))

pub loop-item-preserved : goal.loop-item-preserved
loop-item-preserved c =
    let m = c.args.source.now in
    let site = c.args.site.now in
    let scope = site.scope.now in
    let slots = site.slots.now in
    let q = c.requires.sound.acyclic in
    let few = scope-few m c.requires.sound.narrow q.driven q.once scope c.requires.scope in
    let before = c.args.ops.now.code in
    let i = c.loop-item.item-index in
    let items = c.as_slice-item-items.result.now in
    elim c.match-item.branch [
      | in-Always w ↦ (λ fine.
          let a = w.in-Always in
          let there = item-there items m.items i c.item-item.result _ c.as_slice-item-items.ensures c.loop-item-test.true c.item-item.is a.is in
          let put = w.put_capture.ensures.put (subst (λ (o : Additions). o.wanting ≡ false) w.ops-is fine) in
          let from = w.build_next-from.ensures put.0 in
          let inv = c.loop-item.invariant from.0 in
          let wired = c.requires.wired inv.0 in
          let reset = reset-known c.meaning_by_layer.ensures.value m scope c.requires.scope q.driven q.once few slots before wired c.requires.sound.clocked in
          let ops : c.match-item.ops.code ≡ w.build_next-from.new.ops.code = ap (λ (o : Additions). o.code) w.ops-is ∙ w.put_capture.ensures.code in
          let captures : c.match-item.captures.items
          ≡ c.loop-item.captures.items ++ record { from = w.build_next-from.result; to = w.slot-to.result }
          ∷ [] = ap (λ (v : Vec Capture Global). v.items) w.captures-is ∙ put.1 in
          let takes =
          subst (λ n. Captures n scope slots c.loop-item.ops.code w.build_next-from.new.ops.code w.build_next-from.result a.name a.first a.condition a.value) c.requires.base
          (subst (λ n. Captures site.base scope slots c.loop-item.ops.code w.build_next-from.new.ops.code w.build_next-from.result n a.first a.condition a.value) w.bytes.ensures from.1) in (
            inv.0,
            subst (λ is. AreCaptured m scope slots is before c.match-item.ops.code c.match-item.captures.items)
                (sym (items-more items m.items i c.item-item.result _ c.as_slice-item-items.ensures
                c.loop-item-test.true c.item-item.is a.is))
                (subst (λ os. AreCaptured m scope slots (take i m.items ++ Always a.name a.first a.condition a.value ∷ []) before os c.match-item.captures.items) (sym ops)
                (subst (λ cs. AreCaptured m scope slots (take i m.items ++ Always a.name a.first a.condition a.value ∷ []) before w.build_next-from.new.ops.code cs) (sym captures)
                (captured-more c.meaning_by_layer.ensures.value m scope c.requires.scope q.driven q.once few slots
                before wired reset (take i m.items) c.loop-item.ops.code w.build_next-from.new.ops.code
                c.loop-item.captures.items
                w.build_next-from.result w.slot-to.result a.name a.first a.condition a.value there (w.slot-to.ensures ∙ ap (slot_in scope slots) w.bytes-in-Always.ensures) takes inv.1))),
          ))
      | in_default w ↦ (λ fine.
          let inv = c.loop-item.invariant (subst (λ (o : Additions). o.wanting ≡ false) w.ops-is fine) in
          let wired = c.requires.wired inv.0 in
          let reset = reset-known c.meaning_by_layer.ensures.value m scope c.requires.scope q.driven q.once few slots before wired c.requires.sound.clocked in (
            inv.0,
            subst (λ is. AreCaptured m scope slots is before c.match-item.ops.code c.match-item.captures.items)
                (sym (items-more items m.items i c.item-item.result c.item-item.result c.as_slice-item-items.ensures
                c.loop-item-test.true c.item-item.is refl))
                (subst (λ (os : List Op). AreCaptured m scope slots (take i m.items ++ c.item-item.result ∷ []) before os c.match-item.captures.items) (sym (ap (λ (o : Additions). o.code) w.ops-is))
                (subst (λ (cs : Vec Capture Global). AreCaptured m scope slots (take i m.items ++ c.item-item.result ∷ []) before c.loop-item.ops.code cs.items) (sym w.captures-is)
                (captured-same c.meaning_by_layer.ensures.value m scope c.requires.scope q.driven q.once few slots
                before wired reset
                (take i m.items) c.item-item.result c.loop-item.ops.code c.loop-item.captures.items
                (λ name first condition value e. w.in_default.not-Always name first condition value e) inv.1))),
          ))
    ]

pub loop-item-init : goal.loop-item-init
loop-item-init c = λ fine.
    let m = c.args.source.now in
    let site = c.args.site.now in
    let q = c.requires.sound.acyclic in
    let few = scope-few m c.requires.sound.narrow q.driven q.once site.scope.now c.requires.scope in
    let wired = c.requires.wired fine in
    let reset = reset-known c.meaning_by_layer.ensures.value m site.scope.now c.requires.scope q.driven q.once few site.slots.now c.args.ops.now.code wired c.requires.sound.clocked in (
      fine,
      subst (λ (cs : List Capture). AreCaptured m site.scope.now site.slots.now [] c.args.ops.now.code c.args.ops.now.code cs) (sym c.requires.none)
          (captured-none c.meaning_by_layer.ensures.value m site.scope.now c.requires.scope q.driven q.once few site.slots.now c.args.ops.now.code wired reset),
    )

pub returns : goal.returns
returns c = λ fine.
    let m = c.args.source.now in
    let site = c.args.site.now in
    let i = c.loop-item.item-index in
    let inv = c.loop-item.invariant fine in
    let end = subst (λ (xs : List ModItem). length xs ≤ i) c.as_slice-item-items.ensures c.loop-item-test.false in
    (inv.0, subst (λ (xs : List ModItem). AreCaptured m site.scope.now site.slots.now xs c.args.ops.now.code c.loop-item.ops.code c.loop-item.captures.items) (take_all i m.items end) inv.1)
