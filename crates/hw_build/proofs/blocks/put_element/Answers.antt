use Rattle.std.proofs.Common.{rules, ◌≡◌, ◌∙◌, ◌<◌, ◌^◌, ℕ, length, sym, subst}
use Rattle.std.proofs.lemmas.Option.{slice_get_within}
use Rattle.std.proofs.lemmas.Result.{on_ok_weaker}
use Rattle.hw_net.specs.Growing.{IsConnected, IsResize}
use Rattle.hw_build.specs.inner.DesignTimes.{timing_for}
use Rattle.hw_build.proofs.LoopElement.{hub_fits, element_waits, element_reached}
use Rattle.hw_build.proofs.Stages.{resize_kept}
use Rattle.hw_build.proofs.blocks.put_element.Goals as goal

pub put_one-requires-clause-going : goal.put_one-requires-clause-going
put_one-requires-clause-going c = record { spots = c.requires.before.spots; going = c.requires.before.going }

pub put_pipeline-requires-clause-designed : goal.put_pipeline-requires-clause-designed
put_pipeline-requires-clause-designed c = c.requires.set.designed

pub put_pipeline-requires-clause-there : goal.put_pipeline-requires-clause-there
put_pipeline-requires-clause-there c = slice_get_within c.args.element.setting.design.checked.now.diagram.blocks c.args.element.place.block c.args.element.one.now c.requires.hand.shown.block_is

pub put_pipeline-requires-clause-cycles : goal.put_pipeline-requires-clause-cycles
put_pipeline-requires-clause-cycles c = c.in_ok-entry.ensures.appends.extends.cycles ∙ c.requires.before.going.cycles

pub hub_at-hub-requires-clause-port : goal.hub_at-hub-requires-clause-port
hub_at-hub-requires-clause-port c = c.requires.hand.shown.port_from

pub hub_at-hub-requires-clause-there : goal.hub_at-hub-requires-clause-there
hub_at-hub-requires-clause-there c =
    let shown = c.requires.hand.shown in
    c.requires.set.stood.has.there c.args.element.place.block c.args.element.one.now c.args.element.place.port shown.block_is shown.port_from shown.port_to

pub hub_at-hub-requires-clause-fits : goal.hub_at-hub-requires-clause-fits
hub_at-hub-requires-clause-fits c =
    hub_fits c.args.element.setting c.setting_is_known.ensures.listed c.setting_is_known.ensures.valid c.periods_are_above.ensures.above c.setting_is_known.ensures.ordered c.requires.set
    c.args.element.place.block c.args.element.one.now c.args.element.place.port c.args.element.place.element c.requires.hand.shown c.requires.hand.other

pub connect-requires : goal.connect-requires
connect-requires c =
    let hub : c.hub_at-hub.result ≡ length c.requires.before.spots.entries = c.hub_at-hub.ensures ∙ sym c.requires.before.at in
    subst (λ (k : ℕ). IsResize c.put_pipeline.new.net.nets k) (sym hub)
    (resize_kept c.args.element.setting.design.checked.now.diagram
    (timing_for c.args.element.setting.design) c.put_one.new.net c.put_pipeline.new.net
    c.args.element.place.block c.args.element.place.element c.in_ok-entry.entry.net
    (length c.requires.before.spots.entries) c.in_ok-piped.piped
    (λ p is. c.periods_are_above.ensures.above c.args.element.setting.design.checked.now.diagram c.args.element.place.block p c.requires.set.designed.scheduled.checked is) c.in_ok-piped.ensures
    (element_waits c.args.element.setting c.setting_is_known.ensures.listed c.setting_is_known.ensures.valid c.periods_are_above.ensures.above c.setting_is_known.ensures.ordered c.requires.set
    c.args.element.place.block c.args.element.one.now c.args.element.place.port c.args.element.place.element
    c.requires.hand.shown c.args.net.now c.put_one.new.net c.in_ok-entry.entry c.requires.before
    c.in_ok-entry.ensures))

pub returns : goal.returns
returns c =
    let small_block : c.args.element.place.block < 2 ^ 64 = search rules in
    let small_element : c.args.element.place.element < 2 ^ 64 = search rules in
    let hub : c.hub_at-hub.result ≡ length c.requires.before.spots.entries = c.hub_at-hub.ensures ∙ sym c.requires.before.at in
    on_ok_weaker c.name_product.result
    (λ named. element_reached c.args.element.setting c.setting_is_known.ensures.listed
    c.setting_is_known.ensures.valid c.periods_are_above.ensures.above c.setting_is_known.ensures.ordered
    c.requires.set
    c.args.element.place.block c.args.element.one.now c.args.element.place.port c.args.element.place.element
    c.requires.hand.shown c.requires.hand.other c.args.net.now c.put_one.new.net c.connect.new.self
    c.name_product.new.net c.in_ok-entry.entry c.requires.before c.in_ok-entry.ensures
    (record {
      piped = c.in_ok-piped.piped;
      middle = c.put_pipeline.new.net;
      put = c.in_ok-piped.ensures;
      connected =
          subst (λ (k : ℕ). IsConnected c.put_pipeline.new.net c.connect.new.self k c.in_ok-piped.piped.end) hub
          c.in_ok-connect.ensures.connected;
    })
    named small_block small_element)
    c.name_product.ensures
