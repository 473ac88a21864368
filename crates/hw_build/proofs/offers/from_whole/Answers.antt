use Rattle.std.proofs.Common.{◌≡◌, ◌+◌, ◌-◌, ◌<◌, ◌++◌, ◌∷◌, [], ◌∙◌, ℕ, List, map, sum, ap, sym, subst, arith}
use Rattle.std.specs.Prelude.{slice_index_or}
use Rattle.math_list.specs.Numbers.{numbers_from}
use Rattle.dg_model.specs.declared.kind.Kind.{Kind}
use Rattle.dg_model.specs.Attributes.{attributes_of}
use Rattle.dg_model.specs.Solves.{shown_ports, shown_width}
use Rattle.hw_build.specs.inner.Entries.{AreOffered}
use Rattle.std.proofs.lemmas.Result.{on_ok_weaker}
use Rattle.hw_build.proofs.offers.from_whole.Goals as goal

pub returns : goal.returns
returns c =
    let diagram = c.args.to.setting.design.checked.now.diagram in
    let block = c.args.to.place.block in
    let to = c.requires.shown.port_to in
    let from = c.requires.shown.port_from in
    let below : c.args.to.place.port - 1 < shown_ports c.args.to.one.now.kind c.args.to.one.now.outputs = omega (arith, to, from) in
    let begin : slice_index_or c.args.begins.now (c.args.to.place.port - 1) 0 ≡ sum (map ((attributes_of diagram).width_at block) (numbers_from 1 (c.args.to.place.port - 1))) =
    c.requires.begins.each (c.args.to.place.port - 1) below
    ∙ ap (λ (k : Kind). sum (map (shown_width diagram (attributes_of diagram) k block)
    (numbers_from 1 (c.args.to.place.port - 1)))) c.requires.kind.1 in
    on_ok_weaker c.push.result
    (λ (put : c.push.new.self ≡ c.args.nets.now ++ c.at-net.result ∷ []).
    λ places fits. subst (λ (k : Kind). AreOffered diagram places block c.args.to.one.now c.args.to.place.port c.args.to.place.element k c.push.new.self) (sym c.requires.kind.1)
    (put ∙ ap (λ (nets : List ℕ). nets ++ c.at-net.result ∷ []) c.requires.none ∙ ap (λ (n : ℕ). n ∷ []) (c.at-net.ensures ∙ sym (fits.lines.offered block 1 c.in-Some.element))
    ∙ ap (λ (e : ℕ). places.offered block 1 e ∷ []) (c.in-Some.ensures.1 ∙ ap (λ (n : ℕ). n + c.args.to.place.element) begin)))
    c.push.ensures.appended
