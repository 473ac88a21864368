use Rattle.std.proofs.Common.{◌≡◌, ◌++◌, ℕ, List, IfOk, ap, subst, ◌∙◌, arith}
use Rattle.fx_tables.specs.Response.{response}
use Rattle.fx_tables.specs.RowText.{periods_of}
use Rattle.cmd_replay.proofs.Responses.{goes-on, more-on}
use Rattle.cmd_replay.proofs.response.lines_of.Goals as goal

pub loop-sample-preserved : goal.loop-sample-preserved
loop-sample-preserved c =
    let goes = c.loop-sample.invariant.goes in
    record {
      goes = goes-on goes c.advance.new.self c.advance.ensures.source c.advance.ensures.stimulus _ c.advance.ensures.stands c.line.follows.holds-at-none;
      lines = λ table is.
          c.in_ok-extend_from_slice.ensures.items
          ∙ ap (λ (bytes : List ℕ). bytes ++ c.line.result.now) (c.loop-sample.invariant.lines table is)
          ∙ more-on goes c.advance.new.self c.advance.ensures.source c.advance.ensures.stimulus c.row.result.now c.line.result.now c.row.ensures.sampled c.line.ensures.line table is;
    }

pub returns : goal.returns
returns c = λ table is.
    let done = c.loop-sample-test.false in
    let end = c.loop-sample.auto.sample-end in
    let all : c.loop-sample.sample ≡ c.args.samples = omega (arith, done, end) in
    subst (λ (bytes : List ℕ). IfOk c.from_vec.result (λ (lines : List ℕ). lines ≡ bytes))
    (c.loop-sample.invariant.lines table is ∙ ap (response (periods_of c.args.text.now) table) all)
    c.from_vec.ensures
