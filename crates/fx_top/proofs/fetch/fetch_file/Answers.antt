use Rattle.std.proofs.Common.{inr, Err, Some, refl, ap, ◌∙◌}
use Rattle.fx_top.proofs.fetch.fetch_file.Goals as goal

pub returns-in-Err-TooLong-clause-refused : goal.returns-in-Err-TooLong-clause-refused
returns-in-Err-TooLong-clause-refused g c =
    let reported = c.in-Err-TooLong.length in
    let is = ap Err c.in-Err-TooLong.field-0-is in
    let overlong = c.in-Err-TooLong.ensures.too_long reported is in
    inr (inr (record {
      named = c.args.file;
      reported = reported;
      answer_is = refl;
      same = refl;
      rise = c.in-Err-TooLong.ensures.too_long_cause reported is;
      overlong = overlong;
      held = λ steady.
          let there = (c.in-Err-TooLong.ensures.steadily steady).too_long.0 (reported, is) in
          let own = overlong.held (Some there.0) there.1.0 in
          (own.0, (there.1.0 ∙ ap Some own.1.0, own.1.1));
    }))
