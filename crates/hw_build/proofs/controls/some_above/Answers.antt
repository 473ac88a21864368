use Rattle.std.proofs.Common.{◌≡◌, ◌+◌, ℕ, suc, pos, false, length, [], ◌∷◌, sym, subst, arith}
use Rattle.std.specs.Prelude.{slice_index_or}
use Rattle.std.proofs.lemmas.List.Elements.{Contains-get_or}
use Rattle.std.proofs.lemmas.Option.{slice_get-get_or}
use Rattle.hw_net.specs.declared.netlist.NetKind.TheVariants.{Comb}
use Rattle.hw_net.specs.declared.netlist.NetOp.TheVariants.{Const, Or}
use Rattle.hw_net.specs.Growing.{with_net}
use Rattle.hw_build.specs.inner.Controls.{PutsAny}
use Rattle.hw_build.proofs.AnyAbove.{any_begun, any_next, any_all}
use Rattle.hw_build.proofs.ElementEntries.{typed_net}
use Rattle.hw_build.proofs.controls.some_above.Goals as goal

pub loop-operand-init : goal.loop-operand-init
loop-operand-init c =
    let begun = any_begun c.args.net.now c.put_const.new.net c.put_const-2.new.net c.args.operands.now c.args.kind
    c.requires.kind (typed_net c.args.net.now c.put_const.new.net c.word_of.result c.args.kind
    (Comb (Const (pos 0)) []) c.word_of.ensures c.in_ok-zero.ensures.grown) c.in_ok-some.ensures.grown in
    subst (λ (k : ℕ). PutsAny c.args.net.now c.put_const-2.new.net c.args.operands.now 0 k c.in_ok-some.some) (sym c.in_ok-zero.ensures.number)
    (subst (λ (k : ℕ). PutsAny c.args.net.now c.put_const-2.new.net c.args.operands.now 0 (length c.args.net.now.nets) k) (sym c.in_ok-some.ensures.number) begun)

pub loop-operand-preserved : goal.loop-operand-preserved
loop-operand-preserved c =
    let operand : ℕ = slice_index_or c.args.operands.now c.loop-operand.operand-index 0 in
    let at = slice_get-get_or c.args.operands.now c.loop-operand.operand-index 0 c.loop-operand-test.true in
    let joined = subst (λ (k : ℕ). c.put_comb-in-loop-operand.new.net
    ≡ with_net c.put_comb.new.net (record {
      signed = false;
      width = 1;
      kind =
          Comb Or (c.loop-operand.some ∷ k ∷ []);
    })) c.in_ok-one.ensures.number c.in_ok-some-2.ensures.grown in
    let next = any_next c.args.net.now c.loop-operand.net c.put_comb.new.net c.put_comb-in-loop-operand.new.net
    c.args.operands.now c.loop-operand.operand-index c.in_ok-zero.zero c.loop-operand.some operand
    c.requires.there at
    (Contains-get_or c.args.operands.now c.loop-operand.operand-index 0 c.loop-operand-test.true)
    c.loop-operand.invariant c.in_ok-one.ensures.grown joined in
    let e : suc c.loop-operand.operand-index ≡ c.loop-operand.operand-index + 1 = omega arith in
    subst (λ (k : ℕ). PutsAny c.args.net.now c.put_comb-in-loop-operand.new.net c.args.operands.now (c.loop-operand.operand-index + 1) c.in_ok-zero.zero k) (sym c.in_ok-some-2.ensures.number)
    (subst (λ (k : ℕ). PutsAny c.args.net.now c.put_comb-in-loop-operand.new.net c.args.operands.now k c.in_ok-zero.zero (length c.put_comb.new.net.nets)) e next)

pub returns : goal.returns
returns c =
    let e : c.loop-operand.operand-index ≡ length c.args.operands.now = omega (arith, c.loop-operand-test.false, c.loop-operand.auto.operand-index-end) in
    any_all c.args.net.now c.loop-operand.net c.args.operands.now c.in_ok-zero.zero c.loop-operand.some
    (subst (λ (k : ℕ). PutsAny c.args.net.now c.loop-operand.net c.args.operands.now k c.in_ok-zero.zero
    c.loop-operand.some) e c.loop-operand.invariant)
