-- How the program ends by what `run` answered, or by want of memory before it.
use Rattle.std.proofs.Common.{◌≡◌, inl, inr, ℕ, true, false, List, [], Option, Ok, Err, drop, map, refl, sym, ap, ◌∙◌, subst}
use Rattle.std.specs.Prelude.{IfErr, IfOk, IsErr, Result, String, string_bytes}
use Rattle.std.specs.Global.{Global}
use Rattle.std.specs.Vec.Iter.{into_iter_items}
use Rattle.std.specs.declared.vec.IntoIter.{IntoIter}
use Rattle.std.proofs.lemmas.Bool.{false≢true}
use Rattle.io_devices.specs.Ending.{WasPut}
use Rattle.fx_io.specs.Cause.{Rose}
use Rattle.fx_io.specs.Sink.{untold}
use Rattle.fx_prog.specs.Program.{HasWords, IsDone, IsEnded, output_of}
use Rattle.fx_top.specs.Call.{Files, Stream}
use Rattle.fx_top.specs.Caused.{Ends}
use Rattle.fx_top.specs.Messages.{memory_line}

-- an output that had no fault before
pub begun : {words : List (List ℕ)} {files : Files} {err : Stream} {status : ℕ} (old new : ℕ) → old ≡ 0
    → Ends words files (record { before = untold; now = untold; failed = Rose old new }) err status → Ends words files (output_of new) err status
begun {words} {files} {err} {status} old new none ends = subst (λ (faults : ℕ). Ends words files (record { before = untold; now = untold; failed = Rose faults new }) err status) none ends

-- words that are had of arguments
pub has-words : {F : Type 0} (IsWanting : F → Type 0) (args : Result (IntoIter (String Global) Global) F) (words : List (String Global)) → IfOk args (λ all. words ≡ drop 1 (into_iter_items all))
    → IfErr args (λ fault. IsWanting fault → false ≡ true) → IfErr args (λ fault. (IsWanting fault → ⊥) → (true ≡ true) × (words ≡ [])) → HasWords args (map string_bytes words)
has-words IsWanting (Ok all) words found wanting odd = ap (map string_bytes) found
has-words IsWanting (Err fault) words found wanting odd = ap (map string_bytes) (odd (λ wants. false≢true (wanting wants))).1

module _ {E F : Type 0} (taken : E → Option (List ℕ)) (faults : E → ℕ) (old between new : E) (args : Result (IntoIter (String Global) Global) F) (status code : ℕ) where
  -- memory was wanting
  pub wanted : (files : Files) → between ≡ old → status ≡ 1 → WasPut taken faults between new memory_line → code ≡ status → IsEnded taken faults old new args files code
  wanted files same one put is = inr (is ∙ one, subst (λ (before : E). WasPut taken faults before new memory_line) same put)

  ended : {G : Type 0} (files : Files) (words : List (List ℕ)) (answer : Result ℕ G) → HasWords args words → IfOk answer (λ done. IsDone taken faults old between words files done)
      → (IsErr answer → between ≡ old) → IfOk answer (λ done. status ≡ done) → IfOk answer (λ _. new ≡ between)
      → (IsErr answer → status ≡ 1) → (IsErr answer → WasPut taken faults between new memory_line) → code ≡ status → IsEnded taken faults old new args files code
  ended files words (Ok own) has done same answered silent wanting put is =
      inl (words, has, subst (λ (later : E). IsDone taken faults old later words files code) (sym silent) (subst (λ (n : ℕ). IsDone taken faults old between words files n) (sym (is ∙ answered)) done))
  ended files words (Err fault) has done same answered silent wanting put is = wanted files (same refl) (wanting refl) (put refl) is

  -- `run` was called, or memory was wanting before that
  pub called : {G S : Type 0} (files_of : S → Files) (words : List (List ℕ)) (answer own : Result ℕ G) (own_between : E) (shelf own_shelf : S)
      → answer ≡ own → between ≡ own_between → shelf ≡ own_shelf
      → HasWords args words → IfOk own (λ done. IsDone taken faults old own_between words (files_of own_shelf) done) → (IsErr own → own_between ≡ old)
      → IfOk answer (λ done. status ≡ done) → IfOk answer (λ _. new ≡ between)
      → (IsErr answer → status ≡ 1) → (IsErr answer → WasPut taken faults between new memory_line) → code ≡ status → IsEnded taken faults old new args (files_of shelf) code
  called {G} {S} files_of words answer own own_between shelf own_shelf answer_is err_is shelf_is has done same answered silent wanting put is =
      let by_shelf = subst (λ (x : S). IfOk own (λ done. IsDone taken faults old own_between words (files_of x) done)) (sym shelf_is) done in
      let by_err = subst (λ (e : E). IfOk own (λ done. IsDone taken faults old e words (files_of shelf) done)) (sym err_is) by_shelf in
      let by_answer = subst (λ (a : Result ℕ G). IfOk a (λ done. IsDone taken faults old between words (files_of shelf) done)) (sym answer_is) by_err in
      ended (files_of shelf) words answer has by_answer (λ refused. err_is ∙ same (subst (λ (a : Result ℕ G). IsErr a) answer_is refused)) answered silent wanting put is
