use Rattle.std.proofs.Common.{ℕ, List, Option, inr, subst, sym, arith}
use Rattle.std.specs.Borrow.{Bor}
use Rattle.fx_io.specs.Cause.{Rose}
use Rattle.fx_io.specs.Shelf.{Fetched, Told}
use Rattle.fx_top.specs.Call.{files_in, file_limit}
use Rattle.fx_top.specs.Output.{IsPlanText}
use Rattle.fx_top.specs.inner.Fetch.{IsPairAnswer}
use Rattle.fx_top.specs.inner.Tasks.{word_of}
use Rattle.fx_top.proofs.FetchFaults.{moved, pair-first}
use Rattle.fx_top.proofs.fetch.fetch_both.Goals as goal

pub returns-in-Err-clause-refused : goal.returns-in-Err-clause-refused
returns-in-Err-clause-refused g c = pair-first
    (files_in g.S.Shelf.held g.S.Shelf.steady g.S.Shelf.faults g.S.Shelf.overlong c.args.shelf.now
    c.fetch_file.new.shelf) c.args.first.now c.args.second c.in-Err.answer c.in-Err.ensures.refused

pub returns-in-Ok-fetch_file-clause-says : goal.returns-in-Ok-fetch_file-clause-says
returns-in-Ok-fetch_file-clause-says g c =
    subst (λ (word : Option (Bor (List ℕ))). IsPlanText (g.S.Shelf.held c.args.shelf.now) (word_of word) c.in-Ok-fetch_file.second) (sym c.in-Some.is)
    (subst (λ (held : List ℕ → Told). Fetched (held c.in-Some.second.now) file_limit c.in-Ok-fetch_file.second) c.in-Ok.ensures.kept c.in-Ok-fetch_file.ensures.found)

pub returns-in-Err-fetch_file-clause-refused : goal.returns-in-Err-fetch_file-clause-refused
returns-in-Err-fetch_file-clause-refused g c =
    let old = c.args.shelf.now in
    let mid = c.fetch_file.new.shelf in
    let new = c.fetch_file-2.new.shelf in
    let files = files_in g.S.Shelf.held g.S.Shelf.steady g.S.Shelf.faults g.S.Shelf.overlong old new in
    let failed : Rose (g.S.Shelf.faults mid) (g.S.Shelf.faults new) → Rose (g.S.Shelf.faults old) (g.S.Shelf.faults new) = λ r. (let l = c.in-Ok.ensures.later in omega (arith, r, l)) in
    let overlong : Rose (g.S.Shelf.overlong mid) (g.S.Shelf.overlong new)
    → Rose (g.S.Shelf.overlong old) (g.S.Shelf.overlong new) =
    λ r. (let l = c.in-Ok.ensures.overlong_later in omega (arith, r, l)) in
    subst (λ (word : Option (Bor (List ℕ))). IsPairAnswer files c.args.first.now (word_of word) c.in-Err-fetch_file.answer) (sym c.in-Some.is)
    (inr (
      c.in-Ok.first,
      (
        c.in-Ok.ensures.found,
        moved files (files_in g.S.Shelf.held g.S.Shelf.steady g.S.Shelf.faults g.S.Shelf.overlong mid new)
            c.in-Some.second.now c.in-Err-fetch_file.answer c.in-Ok.ensures.kept c.in-Ok.ensures.stays_steady failed
            overlong c.in-Err-fetch_file.ensures.refused,
      ),
    ))
