use Rattle.std.proofs.Common.{◌≡◌, ◌+◌, ◌++◌, ◌∷◌, [], ℕ, List, length, slice_index, ap, refl, ◌∙◌, arith}
use Rattle.std.specs.Vec.{with_item}
use Rattle.std.proofs.lemmas.List.{get_or_default, length-append}
use Rattle.vl_eval.specs.declared.readers.Link.{Link}
use Rattle.vl_eval.specs.declared.readers.Readers.{Readers}
use Rattle.vl_eval.proofs.Chains.{put-grown, put-reads}
use Rattle.vl_eval.proofs.readers.put.Goals as goal
use Rattle.vl_eval.proofs.readers.put.Goals.{After-len}

abbrev before : After-len → Readers
before c = c.args.readers.now

count : (c : After-len) → c.len.result ≡ length (before c).links.items + 1
count c =
    let links = ap (λ (ls : List Link). length ls) c.in_ok-push.ensures.items in
    let long = length-append (before c).links.items (record { reader = c.args.reader; rest = c.index-rest.result.now } ∷ []) in
    omega (arith, c.len.ensures, c.push.new.self.ok.0, links, long)

links : (c : After-len) → c.push.new.self.items ≡ (before c).links.items ++ record { reader = c.args.reader; rest = slice_index (before c).heads.items c.args.place } ∷ []
links c =
    c.in_ok-push.ensures.items
    ∙ ap (λ (r : ℕ). (before c).links.items ++ record { reader = c.args.reader; rest = r } ∷ []) (c.index-rest.ensures ∙ get_or_default (before c).heads.items c.args.place _ 0 c.requires.within)

pub returns-clause-grown : goal.returns-clause-grown
returns-clause-grown c =
    let point = (goal.at.returns-clause-grown c).After-len in
    put-grown c.args.readers.now _ c.args.place c.args.reader c.len.result c.requires.within (count point) (links point) refl

pub returns-clause-reads : goal.returns-clause-reads
returns-clause-reads c =
    let point = (goal.at.returns-clause-reads c).After-len in
    let after : Readers = record { heads = with_item (before point).heads c.args.place c.len.result; links = c.push.new.self } in
    put-reads c.args.readers.now after c.args.place c.args.reader c.len.result c.requires.within (count point) (links point) refl
