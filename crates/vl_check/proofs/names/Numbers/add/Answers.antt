use Rattle.std.proofs.Common.{◌≡◌, ◌∙◌, ℕ, ◌++◌, ◌∷◌, [], List, Bor, Some, length, position, slice_get, bytes_eq, sym, ap, subst}
use Rattle.std.specs.BTreeMap.{Updates}
use Rattle.std.specs.Cmp.Lexicographic.{slice_cmp}
use Rattle.std.proofs.lemmas.Result.{on_ok_weaker}
use Rattle.std.specs.Ordering.{nat_cmp}
use Rattle.vl_check.specs.inner.Mentions.{texts}
use Rattle.vl_check.specs.inner.Names.{HasPlaces, Numbered}
use Rattle.vl_check.proofs.ByName.{known-name, new-name, last-name, one-more-place}
use Rattle.vl_check.proofs.NameNumbers.{one-more}
use Rattle.vl_check.proofs.ScopeNames.{at-number}
use Rattle.vl_check.proofs.names.Numbers.add.Goals as goal
use Rattle.vl_check.proofs.names.Numbers.add.Goals.{After-copied}

-- the place of the name among the names, as the map has it
place : (c : After-copied) → position (λ (key : Bor (List ℕ)). bytes_eq c.args.name.now key.now) c.args.self.now.names.items ≡ c.copied.result
place c = sym (c.requires c.args.name.now) ∙ sym c.get.ensures.value ∙ sym c.copied.ensures

pub returns-in-Some-clause-numbered : goal.returns-in-Some-clause-numbered
returns-in-Some-clause-numbered c =
    let names = c.args.self.now.names.items in
    let here = place (goal.at.returns-in-Some-clause-numbered c).After-copied ∙ c.in-Some.is in
    on_ok_weaker c.put.result
    (λ ends before numbered. subst (Numbered (before ++ c.args.name.now ∷ []) (texts names)) (sym ends)
    (one-more before (texts names) (texts names) c.args.self.now.numbers.items c.in-Some.number c.args.name.now
    (known-name names c.args.name c.in-Some.number here)
    (at-number names c.in-Some.number c.args.name.now here) numbered))
    c.put.ensures

pub returns-in-Some-clause-places : goal.returns-in-Some-clause-places
returns-in-Some-clause-places c = on_ok_weaker c.put.result (λ ends. c.requires) c.put.ensures

pub returns-clause-numbered : goal.returns-clause-numbered
returns-clause-numbered c =
    let names = c.args.self.now.names.items in
    let more = names ++ c.args.name ∷ [] in
    let none = place (goal.at.returns-clause-numbered c).After-copied ∙ c.in_default.is in
    let number : c.len-number.result ≡ length names = c.len-number.ensures ∙ c.args.self.now.names.ok.0 in
    on_ok_weaker c.put-3.result
    (λ ends before numbered. subst (λ (all : List (Bor (List ℕ))). Numbered (before ++ c.args.name.now ∷ []) (texts all) c.put-3.new.items.items) (sym c.in_ok-put.ensures)
    (subst (Numbered (before ++ c.args.name.now ∷ []) (texts more)) (sym ends)
    (one-more before (texts names) (texts more) c.args.self.now.numbers.items c.len-number.result c.args.name.now
    (new-name names c.args.name none)
    (ap (slice_get (texts more)) number ∙ last-name names c.args.name) numbered)))
    c.put-3.ensures

pub returns-clause-places : goal.returns-clause-places
returns-clause-places c =
    let names = c.args.self.now.names.items in
    on_ok_weaker c.put-3.result
    (λ ends. subst (λ (all : List (Bor (List ℕ))). HasPlaces all c.insert.new.self) (sym c.in_ok-put.ensures)
    (one-more-place names c.args.name c.args.self.now.by_name c.insert.new.self c.requires (place (goal.at.returns-clause-places c).After-copied ∙ c.in_default.is)
    (subst (λ (n : ℕ). Updates (λ (x y : Bor (List ℕ)). slice_cmp nat_cmp x.now y.now) c.args.self.now.by_name
    c.insert.new.self c.args.name (Some n))
    (c.len-number.ensures ∙ c.args.self.now.names.ok.0) c.in_ok-insert.ensures.updates)))
    c.put-3.ensures
