use Rattle.std.proofs.Common.{◌≡◌, ◌<◌, ◌≤◌, ℕ, true, List, length, refl, sym, subst, ◌∙◌}
use Rattle.std.proofs.lemmas.Bool.{le-ltb, lt-ltb}
use Rattle.vl_read.specs.declared.places.Frame.{Frame}
use Rattle.vl_read.specs.inner.Plain.{compound_step, has_room}
use Rattle.vl_read.proofs.places.Reader.compound_step.Goals as goal

room : (frames : List Frame) (count : ℕ) → count ≡ length frames → count < 256 → has_room frames ≡ true
room frames count is few = lt-ltb (length frames) 256 (subst (λ n. n < 256) is few)

pub returns-then-len-ge-DEEPEST : goal.returns-then-len-ge-DEEPEST
unfolding compound_step
returns-then-len-ge-DEEPEST c =
    let frames = c.args.self.now.held.frames in
    rw (le-ltb (length frames.items) 256 (subst (λ n. 256 ≤ n) (c.len.ensures ∙ frames.ok.0) c.if-len-ge-DEEPEST.true)) refl

pub returns-then-is : goal.returns-then-is
unfolding compound_step
returns-then-is c =
    let frames = c.args.self.now.held.frames in
    rw (room frames.items c.len.result (c.len.ensures ∙ frames.ok.0) c.if-len-ge-DEEPEST.false, sym c.is.ensures ∙ c.if-is.true) refl

pub returns-then-is-2 : goal.returns-then-is-2
unfolding compound_step
returns-then-is-2 c =
    let frames = c.args.self.now.held.frames in
    rw (room frames.items c.len.result (c.len.ensures ∙ frames.ok.0) c.if-len-ge-DEEPEST.false, sym c.is.ensures ∙ c.if-is.false, sym c.is-else-is.ensures ∙ c.if-is-2.true) refl

pub returns-then-is-3 : goal.returns-then-is-3
unfolding compound_step
returns-then-is-3 c =
    let frames = c.args.self.now.held.frames in
    rw (
      room frames.items c.len.result (c.len.ensures ∙ frames.ok.0) c.if-len-ge-DEEPEST.false,
      sym c.is.ensures
          ∙ c.if-is.false,
      sym c.is-else-is.ensures ∙ c.if-is-2.false,
      sym c.is-else-is-2.ensures ∙ c.if-is-3.true,
    )
    c.inside.ensures

pub returns-then-is-4 : goal.returns-then-is-4
unfolding compound_step
returns-then-is-4 c =
    let frames = c.args.self.now.held.frames in
    rw (
      room frames.items c.len.result (c.len.ensures ∙ frames.ok.0) c.if-len-ge-DEEPEST.false,
      sym c.is.ensures
          ∙ c.if-is.false,
      sym c.is-else-is.ensures ∙ c.if-is-2.false,
      sym c.is-else-is-2.ensures ∙ c.if-is-3.false,
      sym c.is-else-is-3.ensures ∙ c.if-is-4.true,
    ) c.inside-then-is-4.ensures

pub returns-else-is-4 : goal.returns-else-is-4
unfolding compound_step
returns-else-is-4 c =
    let frames = c.args.self.now.held.frames in
    rw (
      room frames.items c.len.result (c.len.ensures ∙ frames.ok.0) c.if-len-ge-DEEPEST.false,
      sym c.is.ensures
          ∙ c.if-is.false,
      sym c.is-else-is.ensures ∙ c.if-is-2.false,
      sym c.is-else-is-2.ensures ∙ c.if-is-3.false,
      sym c.is-else-is-3.ensures ∙ c.if-is-4.false,
    ) refl
