use Rattle.std.proofs.Common.{rules, ◌≡◌, ◌++◌, ◌∷◌, [], length, Bool, Some, if◌then◌else◌, ap, sym, ◌∙◌, refl}
use Rattle.hw_build.specs.declared.wants.Class.{Class}
use Rattle.hw_build.specs.inner.Feeds.{number_at_feed}
use Rattle.hw_build.proofs.FeedOrder.{tied_feed}
use Rattle.hw_build.proofs.Seats.{class_found, class_new, indexed_new}
use Rattle.hw_build.proofs.wants.class_for.Goals as goal

pub returns-in-Some-clause-is : goal.returns-in-Some-clause-is
returns-in-Some-clause-is c =
    let has = c.requires.found c.args.feed c.in-Some.found (sym c.get.ensures.value ∙ sym c.copied.ensures ∙ c.in-Some.is) in
    class_found c.args.classes.now.list.items c.args.feed c.in-Some.found has.one has.is has.same

pub returns-clause-is : goal.returns-clause-is
returns-clause-is c =
    let one : Class = record { feed = c.args.feed; uses = c.new.result } in
    let last : c.in-Ok.number ≡ length c.args.classes.now.list.items = search rules in
    let grown : c.push.new.self.items ≡ c.args.classes.now.list.items ++ one ∷ [] = c.in_ok-push.ensures.items in
    class_new c.args.classes.now.list.items c.push.new.self.items c.args.feed c.in-Ok.number one last grown refl
    c.new.ensures.items
    (c.requires.none c.args.feed (sym c.get.ensures.value ∙ sym c.copied.ensures ∙ c.in_default.is))

pub returns-clause-indexed : goal.returns-clause-indexed
returns-clause-indexed c =
    let one : Class = record { feed = c.args.feed; uses = c.new.result } in
    let last : c.in-Ok.number ≡ length c.args.classes.now.list.items = search rules in
    let grown : c.push.new.self.items ≡ c.args.classes.now.list.items ++ one ∷ [] = c.in_ok-push.ensures.items in
    indexed_new c.args.classes.now.list.items c.push.new.self.items c.args.classes.now.numbers.entries c.insert.new.self.entries c.args.feed c.in-Ok.number one c.requires last grown refl
    (λ other. c.in_ok-insert.ensures.updates.0 other ∙ ap (λ (is : Bool). if is then Some c.in-Ok.number else number_at_feed c.args.classes.now.numbers.entries other) (tied_feed c.args.feed other))
