use Rattle.std.proofs.Common.{◌≡◌, ◌≤◌, ◌+◌, ◌-◌, ◌*◌, ◌%◌, ℕ, ℤ, List, length, take, drop, ap, sym, ◌∙◌, arith}
use Rattle.vl_eval.specs.Machine.{source_of}
use Rattle.vl_replay.specs.Replays.{StandsBefore}
use Rattle.vl_replay.specs.declared.replay.Replay.{Replay}
use Rattle.vl_replay.proofs.Scores.{samplers-many}
use Rattle.vl_replay.proofs.CellSamples.{shown-is, shown-long}
use Rattle.vl_replay.proofs.replay.Replay.row.Goals as goal

-- what is lent is the sample's row of the ring
row-of : (replay : Replay) (sample start outputs : ℕ) (cells : List ℤ) → outputs ≡ length replay.score.samplers.items → start ≡ sample % replay.score.window * outputs → cells ≡ replay.cells.items
    → take (start + outputs - start) (drop start cells) ≡ take (length replay.score.samplers.items) (drop (sample % replay.score.window * length replay.score.samplers.items) replay.cells.items)
row-of replay sample start outputs cells many begins is =
    let all : start + outputs - start ≡ outputs = omega arith in
    λ i. take ((all ∙ many) i) (drop ((begins ∙ ap (λ k. sample % replay.score.window * k) many) i) (is i))

-- and stands in it
row-within : (replay : Replay) (sample : ℕ) → StandsBefore replay sample → (cells : List ℤ) (start outputs : ℕ)
    → cells ≡ replay.cells.items → outputs ≡ length replay.score.samplers.items
    → start + outputs ≤ replay.score.window * outputs → start + outputs ≤ length cells
row-within replay sample stands cells start outputs is many within =
    let long = ap length is ∙ stands.played.have.long ∙ ap (λ (n : ℕ). replay.score.window * n) (sym (many ∙ samplers-many (source_of replay.machine) replay.score stands.played.score_is)) in
    omega (arith, long, within)

pub returns-clause-sampled : goal.returns-clause-sampled
returns-clause-sampled c = λ table is.
    let replay = c.args.self.now in
    let stands = c.requires.stands in
    let played = stands.played in
    row-of replay c.args.sample c.start_of-start.result c.len-outputs.result c.deref.result.now
    (c.len-outputs.ensures ∙ replay.score.samplers.ok.0) c.start_of-start.ensures.start c.deref.ensures.value
    ∙ shown-is c.one_run.ensures.one c.steps_run.ensures
    (source_of replay.machine) replay.score replay.score.window replay.score.delay c.args.sample played.score_is
    played.score_is.delay played.score_is.window played.rows replay.cells.items
    c.requires.within played.steps played.have table is

pub returns-clause-long : goal.returns-clause-long
returns-clause-long c =
    let replay = c.args.self.now in
    let stands = c.requires.stands in
    let played = stands.played in
    ap length (row-of replay c.args.sample c.start_of-start.result c.len-outputs.result c.deref.result.now
    (c.len-outputs.ensures ∙ replay.score.samplers.ok.0) c.start_of-start.ensures.start c.deref.ensures.value)
    ∙ shown-long c.one_run.ensures.one c.steps_run.ensures
    (source_of replay.machine) replay.score replay.score.window replay.score.delay c.args.sample played.score_is
    played.score_is.delay played.score_is.window played.rows replay.cells.items
    c.requires.within played.steps played.have

pub start_of-start-requires-clause-some : goal.start_of-start-requires-clause-some
start_of-start-requires-clause-some c = c.requires.stands.played.some

pub slice_bounds-result-count : goal.slice_bounds-result-count
slice_bounds-result-count c = omega arith

pub slice_bounds-result-start : goal.slice_bounds-result-start
slice_bounds-result-start c = omega arith

pub slice_bounds-result-end : goal.slice_bounds-result-end
slice_bounds-result-end c =
    let replay = c.args.self.now in
    row-within replay (c.args.sample + 1) c.requires.stands c.deref.result.now c.start_of-start.result
    c.len-outputs.result c.deref.ensures.value
    (c.len-outputs.ensures ∙ replay.score.samplers.ok.0) c.start_of-start.ensures.within

pub offset_bounds-deref-start : goal.offset_bounds-deref-start
offset_bounds-deref-start c =
    let replay = c.args.self.now in
    let within = row-within replay (c.args.sample + 1) c.requires.stands c.deref.result.now c.start_of-start.result
    c.len-outputs.result c.deref.ensures.value
    (c.len-outputs.ensures ∙ replay.score.samplers.ok.0) c.start_of-start.ensures.within in
    let low : c.start_of-start.result ≤ length c.deref.result.now = omega (arith, within) in
    omega arith

pub overflow_add-result : goal.overflow_add-result
overflow_add-result c =
    let replay = c.args.self.now in
    let within = row-within replay (c.args.sample + 1) c.requires.stands c.deref.result.now c.start_of-start.result
    c.len-outputs.result c.deref.ensures.value
    (c.len-outputs.ensures ∙ replay.score.samplers.ok.0) c.start_of-start.ensures.within in
    omega arith
