use Rattle.std.proofs.Common.{◌≡◌, ℕ, List, Option, length, ap, sym, subst, ◌∙◌, arith}
use Rattle.fx_io.specs.Sink.{TookProperPrefix, also_took}
use Rattle.fx_tables.specs.Response.{response}
use Rattle.fx_tables.specs.RowText.{periods_of}
use Rattle.fx_tables.proofs.ResponseLines.{took-part}
use Rattle.vl_ast.specs.Driven.{output_ports}
use Rattle.vl_ast.specs.declared.modules.Module.{Module}
use Rattle.cmd_replay.proofs.Responses.{goes-on, line-on, more-on}
use Rattle.fx_io.proofs.SinkBytes.{also_took-append}
use Rattle.cmd_replay.proofs.response.put_lines.Goals as goal

pub line-requires : goal.line-requires
line-requires g c =
    let goes = c.loop-sample.invariant.goes in
    c.row.ensures.long ∙ ap (λ (m : Module). length (output_ports m)) (c.advance.ensures.source ∙ goes.source) ∙ c.requires.wide ∙ ap (λ (periods : List ℕ). length periods) (sym goes.periods)

pub returns-in-Err-clause-cause : goal.returns-in-Err-clause-cause
returns-in-Err-clause-cause g c =
    let later = c.loop-sample.invariant.later in
    let rose = c.in-Err.ensures.cause in
    omega (arith, later, rose)

pub returns-in-Err-clause-cut : goal.returns-in-Err-clause-cut
returns-in-Err-clause-cut g c = λ table is.
    let line = line-on c.loop-sample.invariant.goes c.advance.new.self c.advance.ensures.source
    c.advance.ensures.stimulus c.row.result.now c.line.result.now c.row.ensures.sampled c.line.ensures.line
    table is in
    took-part (periods_of c.args.text.now) table c.loop-sample.sample c.args.samples (g.K.Sink.taken c.args.out.now)
    (g.K.Sink.taken c.loop-sample.out) (g.K.Sink.taken c.put_all.new.sink) c.loop-sample-test.true
    (c.loop-sample.invariant.taken table is)
    (subst (λ (bytes : List ℕ). TookProperPrefix (g.K.Sink.taken c.loop-sample.out) (g.K.Sink.taken c.put_all.new.sink) bytes) line c.in-Err.ensures.cut)

pub loop-sample-preserved : goal.loop-sample-preserved
loop-sample-preserved g c =
    let goes = c.loop-sample.invariant.goes in
    record {
      goes = goes-on goes c.advance.new.self c.advance.ensures.source c.advance.ensures.stimulus _ c.advance.ensures.stands c.line.follows.holds-at-none;
      taken = λ table is.
          c.in_default.ensures.whole
          ∙ ap (λ (told : Option (List ℕ)). also_took told c.line.result.now) (c.loop-sample.invariant.taken table is)
          ∙ also_took-append (g.K.Sink.taken c.args.out.now) (response (periods_of c.args.text.now) table c.loop-sample.sample) c.line.result.now
          ∙ ap (also_took (g.K.Sink.taken c.args.out.now))
          (more-on goes c.advance.new.self c.advance.ensures.source c.advance.ensures.stimulus c.row.result.now
          c.line.result.now c.row.ensures.sampled c.line.ensures.line table is);
      later = let now = c.put_all.ensures.later in let then = c.loop-sample.invariant.later in omega (arith, now, then);
    }

pub returns-clause-whole : goal.returns-clause-whole
returns-clause-whole g c = λ table is.
    let done = c.loop-sample-test.false in
    let end = c.loop-sample.auto.sample-end in
    let all : c.loop-sample.sample ≡ c.args.samples = omega (arith, done, end) in
    c.loop-sample.invariant.taken table is ∙ ap (λ samples. also_took (g.K.Sink.taken c.args.out.now) (response (periods_of c.args.text.now) table samples)) all
