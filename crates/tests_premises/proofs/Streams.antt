-- Modules that are one thing wrong are not owed with valid and ready.
use Rattle.std.proofs.Common.{◌≡◌, ℕ, ◌%◌, ◌≤◌, ◌<◌, Bool, true, false, ◌||◌, ◌&&◌, refl, sym, ap, ◌∙◌, codes, arith}
use Rattle.std.specs.Prelude.{◌==◌, not}
use Rattle.st_wrap.specs.Carried.{pace_of, taken_by}
use Rattle.st_wrap.specs.Handshake.{Pace, is_begin, is_due, is_open}
use Rattle.st_wrap.specs.Transfers.{IsTransfer, out_side}
use Rattle.vl_ast.specs.declared.modules.Module.{Module}
use Rattle.vl_ast.specs.Driven.{IsResetLast}
use Rattle.vl_ast.specs.Runs.{Row, Rows, Runs}
use Rattle.vl_ast.specs.Value.{truth}
use Rattle.vl_ast.specs.Windows.{Window, row_at}
use Rattle.tests_premises.specs.Streams.{AreNoStreams, IsNoStream}

begins : (pace : Pace) → is_begin pace 0 ≡ true
begins pace = let none : 0 % pace.cycles ≡ 0 = omega arith in ap (λ (n : ℕ). n == 0) none

or-true : (a b : Bool) → b ≡ true → a || b ≡ true
or-true true b e = refl
or-true false b e = e

open-if : (pace : Pace) (row : Row) → row (codes "out_ready") ≡ 1 → is_open pace 0 row ≡ true
open-if pace row ready = or-true (not (is_due pace 0)) (row (codes "out_ready") == 1) (ap (λ (n : ℕ). n == 1) ready)

ready-first : (pace : Pace) (row : Row) → row (codes "out_ready") ≡ 1 → truth (is_begin pace 0 && is_open pace 0 row) ≡ 1
ready-first pace row ready = ap (λ (b : Bool). truth (b && is_open pace 0 row)) (begins pace) ∙ ap truth (open-if pace row ready)

not-unready : (m : Module) (window : Window) (start : Row) (inputs rows : Rows) → IsResetLast window inputs → Runs m window.rows start inputs rows
    → row_at window 0 < window.rows → rows (row_at window 0) (codes "out_ready") ≡ 1 → rows (row_at window 0) (codes "in_ready") ≡ 0 → IsNoStream m
not-unready m window start inputs rows reset runs within ready unready diagram plan timing stream =
    let shakes = stream.handshake.in_runs window start inputs rows reset runs in
    let shown = shakes.in_ready 0 within in
    let wanted = ready-first (pace_of stream.core) (rows (row_at window 0)) ready in
    let both : 0 ≡ 1 = sym unready ∙ shown ∙ wanted in
    absurd (omega (arith, both))

not-untaken : (m : Module) (window : Window) (start : Row) (inputs rows : Rows) → IsResetLast window inputs → Runs m window.rows start inputs rows
    → (number place : ℕ) → IsTransfer out_side window rows number place → taken_by window rows place ≤ number → IsNoStream m
not-untaken m window start inputs rows reset runs number place transfer few diagram plan timing stream =
    let taken = (stream.answers window start inputs rows reset runs number place transfer).taken in
    absurd (omega (arith, taken, few))

pub are_no_streams : AreNoStreams
are_no_streams = record {
  broken = λ m breaks diagram plan timing stream. breaks stream.sound;
  unready = not-unready;
  untaken = not-untaken;
}
