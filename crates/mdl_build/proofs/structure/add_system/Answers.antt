use Rattle.std.proofs.Common.{◌≡◌, ℕ, ◌<◌, ◌+◌, length, get_or, Some, true, not, sym, ap, ◌∙◌, arith}
use Rattle.std.proofs.lemmas.List.{get_or_default}
use Rattle.mdl_build.specs.Rules.{is_system, is_system_in}
use Rattle.mdl_build.specs.Sections.{holder_of}
use Rattle.mdl_build.proofs.CountLemmas.{count_bound, no_system, no_holder, one_system, none_level, some_level}
use Rattle.mdl_build.proofs.RoleLemmas.{holder_before}
use Rattle.mdl_build.proofs.structure.add_system.Goals as goal

pub returns-then-is_none : goal.returns-then-is_none
returns-then-is_none c =
    no_system c.args.layout.now.items.now c.args.counts.now.items c.args.place c.requires.counted
    (ap (is_system (λ (level : ℕ). true)) c.requires.role ∙ c.level_of.ensures (λ (level : ℕ). true) ∙ none_level c.level_of.result (c.is_none.ensures ∙ ap not c.if-is_none.true))

pub returns-in_default : goal.returns-in_default
returns-in_default c =
    no_holder c.args.layout.now.items.now c.args.counts.now.items c.args.place c.requires.counted (sym c.holder.ensures ∙ c.in_default.is)

pub index-before-requires : goal.index-before-requires
index-before-requires c =
    let h = holder_before c.args.layout.now.items.now c.args.place c.in-Some.holder (sym c.holder.ensures ∙ c.in-Some.is) in
    omega (arith, h, c.requires.within, c.requires.counted.long, c.args.counts.now.ok.0)

pub overflow_add-before : goal.overflow_add-before
overflow_add-before c =
    let items = c.args.layout.now.items.now in
    let counts = c.args.counts.now.items in
    let holder = c.in-Some.holder in
    let h = holder_before items c.args.place holder (sym c.holder.ensures ∙ c.in-Some.is) in
    let inside : holder < length counts = omega (arith, h, c.requires.within, c.requires.counted.long) in
    let in_items : holder < length items = omega (arith, h, c.requires.within) in
    let value : c.index-before.result.now ≡ get_or counts holder 0 = c.index-before.ensures ∙ get_or_default counts holder c.index-before.result.now 0 inside in
    let bound = count_bound (is_system_in items holder) c.args.place in
    record {
      fits = omega (
        arith,
        value,
        c.requires.counted.each holder in_items,
        bound,
        c.requires.within,
        c.requires.counted.long,
        c.args.counts.now.ok.0,
        c.args.counts.now.ok.1,
        c.args.counts.now.small,
      );
    }

pub index_mut-requires : goal.index_mut-requires
index_mut-requires c =
    let h = holder_before c.args.layout.now.items.now c.args.place c.in-Some.holder (sym c.holder.ensures ∙ c.in-Some.is) in
    omega (arith, h, c.requires.within, c.requires.counted.long, c.args.counts.now.ok.0)

pub returns : goal.returns
returns c =
    let items = c.args.layout.now.items.now in
    let counts = c.args.counts.now.items in
    let holder = c.in-Some.holder in
    let there : holder_of items c.args.place ≡ Some holder = sym c.holder.ensures ∙ c.in-Some.is in
    let h = holder_before items c.args.place holder there in
    let inside : holder < length counts = omega (arith, h, c.requires.within, c.requires.counted.long) in
    let in_items : holder < length items = omega (arith, h, c.requires.within) in
    let value : c.index-before.result.now ≡ get_or counts holder 0 = c.index-before.ensures ∙ get_or_default counts holder c.index-before.result.now 0 inside in
    one_system items counts c.args.place c.requires.counted holder (c.index-before.result.now + 1)
    (ap (is_system (λ (level : ℕ). true)) c.requires.role ∙ c.level_of.ensures (λ (level : ℕ). true) ∙ some_level c.level_of.result (c.is_none.ensures ∙ ap not c.if-is_none.false))
    there in_items (ap (λ (n : ℕ). n + 1) value)
