-- Ends of calls, worked out by hand.
use Rattle.std.specs.Prelude.{⊤}
use Rattle.std.specs.Borrow.{Bor}
use Rattle.std.proofs.Common.{◌≡◌, ℕ, List, [], ◌∷◌, All, length, take_all, codes, Option, Some, None, refl, ap, sym, subst, ◌∙◌, arith}
use Rattle.std.proofs.lemmas.List.Elements.{All-cons, All-nil}
use Rattle.fx_top.specs.declared.answer.Answer.TheVariants.{Done, Usage, CannotRead}
use Rattle.fx_top.specs.Answer.{status_of}
use Rattle.fx_top.specs.Call.{Files, Stream, Said}
use Rattle.fx_top.specs.Cause.{IsFetched}
use Rattle.fx_top.specs.Caused.{Ends, HasCause, IsCarriedOut}
use Rattle.fx_top.specs.Command.{Asked, Command, OfFiles, Generate, EmptyPlan, Named, asked_of, files_of}
use Rattle.fx_top.specs.Messages.{usage_line, unread_line}
use Rattle.fx_top.specs.Output.{IsOfFiles, IsOutput}

-- a steady shelf that holds nothing, and fails where it is asked
abbrev empty : Files
empty = record { held = λ file. Some None; steady = ⊤; failed = ⊤; met_overlong = ⊥ }

-- a stream that took these bytes in the call
abbrev pub took : List ℕ → Stream
took bytes = record { before = Some []; now = Some bytes; failed = ⊥ }

pub said : (bytes : List ℕ) → Said (took bytes) bytes
said bytes = record { prefix = (length bytes, ap Some (sym (take_all (length bytes) bytes (omega arith)))); whole = λ calm. refl }

-- no words: status 2, with the line of usage, and no other
without-words : Ends [] empty (took []) (took usage_line) 2
without-words = record { answer = Usage; status_is = refl; said = said usage_line; carried_out = (refl, refl) }

only-usage : (files : Files) (out err : Stream) (status : ℕ) → Ends [] files out err status → status ≡ 2
only-usage files out err status ends = ends.status_is ∙ ap status_of ends.carried_out.0

-- `generate m -` where nothing is held: status 3, with the file's line
without-file : (file : Bor (List ℕ)) → file.now ≡ codes "m"
    → Ends (codes "generate" ∷ codes "m" ∷ codes "-" ∷ []) empty (took []) (took (unread_line (codes "m"))) 3
without-file file is = record {
  answer = CannotRead file;
  status_is = refl;
  said = subst (λ (name : List ℕ). Said (took (unread_line (codes "m"))) (unread_line name)) (sym is) (said (unread_line (codes "m")));
  carried_out = (
    subst (λ (name : List ℕ). HasCause empty (Generate name EmptyPlan) (CannotRead file)) is
        (record { rise = tt; asked = (0, omega arith, refl); first = λ steady. refl }),
    refl,
  );
}

-- a command over two files that were fetched, whose text was put whole: status 0
pub done : (IsMade : List ℕ → List ℕ → List ℕ → Type 0) (words : List (List ℕ)) (files : Files) (command : Command)
    (first second bytes numbers text : List ℕ) → asked_of words ≡ Some (OfFiles command)
    → files_of command ≡ first ∷ second ∷ []
    → IsFetched files first bytes → IsFetched files second numbers
    → (IsOfFiles IsMade files.held first (Named second) text → IsOutput command files.held text)
    → IsMade bytes numbers text → Ends words files (took text) (took []) 0
done IsMade words files command first second bytes numbers text asked are fetched given output made =
    let P : List ℕ → Type 0 = λ file. (found : List ℕ) × IsFetched files file found in
    record {
      answer = Done;
      status_is = refl;
      said = said [];
      carried_out = subst (λ (wanted : Option Asked). IsCarriedOut files (took text) wanted Done) (sym asked) (
        subst (λ (names : List (List ℕ)). All P names) (sym are) (All-cons P first (second ∷ []) (bytes, fetched) (All-cons P second [] (numbers, given) (All-nil P))),
        record { text = text; output = output (record { first_bytes = bytes; second_bytes = numbers; fetched = fetched; says = given; made = made }); taken = refl },
      );
    }
