use Rattle.std.proofs.Common.{◌≡◌, ℕ, ◌++◌, ◌∷◌, [], List, Some, length, slice_get, refl, sym, subst, arith}
use Rattle.std.proofs.lemmas.Option.{slice_get_read}
use Rattle.hw_build.specs.declared.wants.Class.{Class}
use Rattle.hw_build.specs.inner.Wants.{AreAnswered}
use Rattle.hw_build.proofs.Classes.{answered_none, class_next, answered_more}
use Rattle.hw_build.proofs.chains.put_classes.Goals as goal

pub loop-class-init : goal.loop-class-init
loop-class-init c = subst (λ (xs : List (List ℕ)). AreAnswered c.args.net.now c.args.net.now c.args.classes.now xs
    0) (sym c.new-answers.ensures.items) (answered_none c.args.net.now c.args.classes.now)

pub put_class-requires-clause-class : goal.put_class-requires-clause-class
put_class-requires-clause-class c =
    let classes : List Class = c.args.classes.now in
    let i : ℕ = c.loop-class.class-index in
    let at : slice_get classes i ≡ Some c.class-item.result = slice_get_read classes (length classes) i c.class-item.result refl c.loop-class-test.true c.class-item.is in
    class_next c.args.net.now c.loop-class.net classes c.loop-class.answers.items i c.class-item.result c.requires.classes c.loop-class.invariant at

pub loop-class-preserved : goal.loop-class-preserved
loop-class-preserved c =
    let classes : List Class = c.args.classes.now in
    let i : ℕ = c.loop-class.class-index in
    let at : slice_get classes i ≡ Some c.class-item.result = slice_get_read classes (length classes) i c.class-item.result refl c.loop-class-test.true c.class-item.is in
    let more : c.push.new.self.items ≡ c.loop-class.answers.items ++ c.in_ok-own.own ∷ [] = c.in_ok-push.ensures.items in
    rw more (answered_more c.args.net.now c.loop-class.net c.put_class.new.net classes c.loop-class.answers.items i
    c.class-item.result c.in_ok-own.own c.requires.classes c.loop-class.invariant at c.in_ok-own.ensures)

pub returns : goal.returns
returns c =
    let all : c.loop-class.class-index ≡ length c.args.classes.now = omega (arith, c.loop-class-test.false, c.loop-class.auto.class-index-end) in
    subst (λ (n : ℕ). AreAnswered c.args.net.now c.loop-class.net c.args.classes.now c.loop-class.answers.items n) all c.loop-class.invariant
