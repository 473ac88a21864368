use Rattle.std.proofs.Common.{◌≡◌, ◌≤◌, ◌<◌, ◌++◌, ◌∷◌, [], ℕ, List, Bor, length, map, take, slice_index_or, sym, ap, subst, ◌∙◌, arith}
use Rattle.std.proofs.lemmas.List.{take_more, take_all, length-map}
use Rattle.vl_ast.specs.Conditions.{mentioned}
use Rattle.vl_check.specs.declared.mentions.Mention.{Mention}
use Rattle.vl_check.specs.inner.Mentions.{shown, texts, mention_of}
use Rattle.vl_check.specs.inner.Marks.{AreFirst, AreNumbers}
use Rattle.vl_check.specs.inner.Names.{Numbered}
use Rattle.vl_check.proofs.ByName.{no-places}
use Rattle.vl_check.proofs.Marks.{numbered-text}
use Rattle.vl_check.proofs.NameNumbers.{name-at, no-names, numbered-apart}
use Rattle.vl_check.proofs.ScopeNames.{scope-is}
use Rattle.vl_check.proofs.checking.known_of.Goals as goal

-- the names of a whole text are numbered
whole-text : (text : List Mention) (i : ℕ) (names : List (List ℕ)) (numbers : List ℕ) → length text ≤ i
    → Numbered (take i (map mentioned (shown text))) names numbers
    → Numbered (map mentioned (shown text)) names numbers
whole-text text i names numbers past n =
    let long = length-map (shown text) mentioned ∙ length-map text mention_of in
    subst (λ ns. Numbered ns names numbers) (take_all i (map mentioned (shown text)) (omega (arith, long, past))) n

pub loop-mention-init : goal.loop-mention-init
loop-mention-init c = record {
  numbers = no-names c.new.result.items c.new-3.result.items c.new.ensures.items c.new-3.ensures.items;
  places = no-places c.new.result.items c.new-2.result c.new.ensures.items c.new-2.ensures.empty;
}

pub loop-mention-preserved : goal.loop-mention-preserved
loop-mention-preserved c =
    let all = map mentioned (shown c.args.text.now) in
    let i = c.loop-mention.mention-index in
    let name = c.mentioned_name.result.now in
    let long : length all ≡ length c.args.text.now = length-map (shown c.args.text.now) mentioned ∙ length-map c.args.text.now mention_of in
    let below : i < length all = omega (arith, long, c.loop-mention-test.true) in
    let here : slice_index_or all i name ≡ name = name-at c.args.text.now i name _ c.loop-mention-test.true ∙ sym c.mentioned_name.ensures in
    record {
      numbers = subst (λ ns. Numbered ns (texts c.add.new.self.names.items) c.add.new.self.numbers.items) (sym (take_more all i name below ∙ ap (λ x. take i all ++ x ∷ []) here))
          (c.in_ok-add.ensures.numbered (take i all) c.loop-mention.invariant.numbers);
      places = c.in_ok-add.ensures.places;
    }

counted : (keys : List (Bor (List ℕ))) (n : ℕ) → n ≡ length keys → length (texts keys) ≡ n
counted keys n e = length-map keys (λ (x : Bor (List ℕ)). x.now) ∙ sym e

pub first_declarations-requires : goal.first_declarations-requires
first_declarations-requires c =
    let names = map mentioned (shown c.args.text.now) in
    let n = numbered-apart names (texts c.loop-mention.known.names.items) c.loop-mention.known.numbers.items
    (whole-text c.args.text.now c.loop-mention.mention-index
    (texts c.loop-mention.known.names.items) c.loop-mention.known.numbers.items c.loop-mention-test.false
    c.loop-mention.invariant.numbers) in
    let ns = c.loop-mention.known.numbers.items in
    let same : c.as_slice.result.now ≡ ns = c.as_slice.ensures.value in
    numbered-text c.args.text.now c.as_slice.result.now c.len.result (subst (λ xs. AreNumbers names xs c.len.result) (sym same)
    (subst (λ k. AreNumbers names ns k) (counted _ c.len.result (c.len.ensures ∙ c.loop-mention.known.names.ok.0)) n))

pub returns : goal.returns
returns c m whole =
    let names = map mentioned (shown c.args.text.now) in
    let ns = c.loop-mention.known.numbers.items in
    let n = numbered-apart names (texts c.loop-mention.known.names.items) ns
    (whole-text c.args.text.now c.loop-mention.mention-index
    (texts c.loop-mention.known.names.items) c.loop-mention.known.numbers.items c.loop-mention-test.false
    c.loop-mention.invariant.numbers) in
    let first = subst (λ xs. AreFirst names xs c.in_ok-declared.declared.items (shown c.args.text.now)) c.as_slice.ensures.value c.in_ok-declared.ensures.first in
    record {
      whole = whole;
      scope = scope-is m _ c.args.text.now ns whole
          (whole-text c.args.text.now c.loop-mention.mention-index
          (texts c.loop-mention.known.names.items) c.loop-mention.known.numbers.items c.loop-mention-test.false
          c.loop-mention.invariant.numbers) first;
      numbers = numbered-text c.args.text.now ns _
          (subst (λ k. AreNumbers names ns k)
          (counted _ c.len.result (c.len.ensures ∙ c.loop-mention.known.names.ok.0)
          ∙ sym c.in_ok-declared.ensures.long) n);
      first = first;
    }
