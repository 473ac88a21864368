use Rattle.std.proofs.Common.{subst, sym}
use Rattle.std.proofs.lemmas.Result.{IfOk-weaker}
use Rattle.vl_ast.specs.Conditions.{BreaksNone}
use Rattle.st_wrap.specs.Carried.{CarriesTransfers, FollowsCore, ShakesHands}
use Rattle.st_wrap.specs.Header.{HasStreamHeader}
use Rattle.st_wrap.proofs.WrapperHeader.{has-header}
use Rattle.st_wrap.proofs.Whole.{breaks-none, carries-transfers, counts-products, follows-core, is-spelled, shakes-hands}
use Rattle.st_wrap.proofs.wrapping.wrap.Goals as goal

pub returns : goal.returns
returns c =
    let r = c.requires in
    record {
      header = IfOk-weaker c.module_of.result _ _
          (λ m is. subst (HasStreamHeader c.args.core.now c.args.names.now) (sym is.is)
          (has-header c.args.core.now c.args.names.now is.counters)) c.module_of.ensures;
      conditions = IfOk-weaker c.module_of.result _ _
          (λ m is. subst BreaksNone (sym is.is)
          (breaks-none c.args.core.now c.args.names.now is.counters is.counted r.sound r.stallable r.names))
          c.module_of.ensures;
      products = IfOk-weaker c.module_of.result _ _ (λ m is. counts-products c.args.core.now c.args.names.now m is) c.module_of.ensures;
      spelled = IfOk-weaker c.module_of.result _ _ (λ m is. is-spelled c.sound_modules_spell.ensures c.args.core.now c.args.names.now m is r.sound r.stallable r.names) c.module_of.ensures;
      handshake = IfOk-weaker c.module_of.result _ _ (λ m is. subst (ShakesHands c.args.core.now) (sym is.is)
          (shakes-hands c.args.core.now c.args.names.now is.counters is.counted r.sound r.stallable r.names)) c.module_of.ensures;
      transfers = IfOk-weaker c.module_of.result _ _ (λ m is. subst (CarriesTransfers c.args.core.now c.args.names.now) (sym is.is)
          (carries-transfers c.one_run.ensures.one c.counted_rows_run.ensures c.args.core.now c.args.names.now is.counters is.counted r.sound r.stallable r.keeps r.names)) c.module_of.ensures;
      follows = IfOk-weaker c.module_of.result _ _ (λ m is. subst (FollowsCore c.args.core.now c.args.names.now) (sym is.is)
          (follows-core c.one_run.ensures.one c.counted_rows_run.ensures c.args.core.now c.args.names.now is.counters is.counted r.sound r.stallable r.keeps r.names)) c.module_of.ensures;
    }
