use Rattle.std.proofs.Common.{rules, ◌≡◌, ◌<◌, ◌++◌, ◌∷◌, [], ℕ, List, length, Some, ap, sym, ◌∙◌, slice_get, refl, arith}
use Rattle.std.proofs.lemmas.Option.{same_Some, slice_get_read, slice_get_within}
use Rattle.hw_build.specs.declared.wants.Class.{Class}
use Rattle.hw_build.specs.declared.wants.Feed.{Feed}
use Rattle.hw_build.specs.inner.Wants.{IsClassFor}
use Rattle.hw_build.proofs.Seats.{seat_more, indexed_set}
use Rattle.hw_build.proofs.wants.seat_for.Goals as goal

-- the class of a feed is one of the list
below : (old mid : List Class) (feed : Feed) (number : ℕ) → IsClassFor old mid feed number → number < length mid
below old mid feed number is = slice_get_within mid number is.has.one is.has.is

pub returns-clause-is : goal.returns-clause-is
returns-clause-is c =
    let old : List Class = c.args.classes.now.list.items in
    let mid : List Class = c.class_for.new.classes.list.items in
    let number : ℕ = c.in_ok-class.class in
    let is : IsClassFor old mid c.args.want.feed number = c.in_ok-class.ensures.is in
    let here : number < length mid = below old mid c.args.want.feed number is in
    let read : slice_get mid number ≡ Some c.index.result.now = slice_get_read mid (length mid) number c.index.result.now refl here c.index.ensures in
    let at : slice_get mid number ≡ Some c.index_mut.result.now = slice_get_read mid (length mid) number c.index_mut.result.now refl here c.index_mut.ensures.value in
    let same : ◌≡◌ {A = Class} c.index.result.now c.index_mut.result.now = same_Some c.index.result.now c.index_mut.result.now (sym read ∙ at) in
    let now : Class = record { feed = c.index_mut.result.now.feed; uses = c.push.new.self } in
    let grown : c.push.new.self.items ≡ c.index_mut.result.now.uses.items ++ c.args.want.to ∷ [] = c.in_ok-push.ensures.items in
    let size : c.in-Ok.place ≡ length c.index.result.now.uses.items = search rules in
    seat_more old mid _ c.args.want number c.in-Ok.place c.index_mut.result.now now is at refl refl grown (size ∙ ap (λ (x : Class). length x.uses.items) same)

pub returns-clause-indexed : goal.returns-clause-indexed
returns-clause-indexed c =
    let mid : List Class = c.class_for.new.classes.list.items in
    let number : ℕ = c.in_ok-class.class in
    let is : IsClassFor c.args.classes.now.list.items mid c.args.want.feed number = c.in_ok-class.ensures.is in
    let here : number < length mid = below c.args.classes.now.list.items mid c.args.want.feed number is in
    let at : slice_get mid number ≡ Some c.index_mut.result.now = slice_get_read mid (length mid) number c.index_mut.result.now refl here c.index_mut.ensures.value in
    let now : Class = record { feed = c.index_mut.result.now.feed; uses = c.push.new.self } in
    indexed_set mid c.class_for.new.classes.numbers.entries number c.index_mut.result.now now c.in_ok-class.ensures.indexed at refl

pub overflow_cast-class : goal.overflow_cast-class
overflow_cast-class c =
    let list = c.class_for.new.classes.list in
    record { fits = omega (arith, below _ list.items _ _ c.in_ok-class.ensures.is, list.ok.0, list.ok.1, list.small) }

pub overflow_cast-class-2 : goal.overflow_cast-class-2
overflow_cast-class-2 c =
    let list = c.class_for.new.classes.list in
    record { fits = omega (arith, below _ list.items _ _ c.in_ok-class.ensures.is, list.ok.0, list.ok.1, list.small) }

pub index-requires : goal.index-requires
index-requires c = let list = c.class_for.new.classes.list in omega (arith, below _ list.items _ _ c.in_ok-class.ensures.is, list.ok.0)

pub index_mut-requires : goal.index_mut-requires
index_mut-requires c = let list = c.class_for.new.classes.list in omega (arith, below _ list.items _ _ c.in_ok-class.ensures.is, list.ok.0)
