-- Why a command answers as it does where one of its files was not fetched.
use Rattle.std.proofs.Common.{◌≡◌, ◌<◌, ℕ, List, ◌∷◌, length, ⊎_elim, inl, inr, Contains, Option, None, Some, refl, ap, sym, ◌∙◌, subst, arith}
use Rattle.std.proofs.lemmas.Bool.{lt-ltb}
use Rattle.std.specs.Borrow.{Bor}
use Rattle.fx_io.specs.Shelf.{Told, IsOverlong}
use Rattle.fx_top.specs.declared.answer.Answer.{Answer}
use Rattle.fx_top.specs.Call.{Files, Stream, IsUntouched, Trouble, Absent, Overlong, trouble_or, first_trouble, file_limit}
use Rattle.fx_top.specs.Caused.{HasCause, HasWritten}
use Rattle.fx_top.specs.Command.{Command, PlanWord, EmptyPlan, Named, files_of, plan_files}
use Rattle.fx_top.specs.inner.Fetch.{IsUnread, IsUnfit, IsFetchAnswer, IsPairAnswer}
use Rattle.fx_top.specs.inner.Tasks.{word_of}
use Rattle.fx_top.proofs.ShelfFacts.{untroubled}

-- the file is one of the command's, and those before it are in no trouble
module _ (files : Files) (command : Command) (file : List ℕ) (asked : Contains (files_of command) file)
    (later : Option Trouble) (first : first_trouble files.held (files_of command) ≡ trouble_or file (files.held file) later) where
  unread : (answer : Answer) → IsUnread files file answer → HasCause files command answer
  unread answer why =
      subst (λ (a : Answer). HasCause files command a) (sym why.answer_is)
      (record {
        rise = why.rise;
        asked = subst (λ (name : List ℕ). Contains (files_of command) name) (sym why.same) asked;
        first = λ steady. first ∙ ap (λ (t : Told). trouble_or file t later) (why.absent steady) ∙ ap (λ (name : List ℕ). Some (Absent name)) (sym why.same);
      })

  unfit : (answer : Answer) → IsUnfit files file answer → HasCause files command answer
  unfit answer why =
      let same = why.same in
      let overlong = subst (λ (name : List ℕ). IsOverlong (files.held name) file_limit why.reported) (sym same) why.overlong in
      subst (λ (a : Answer). HasCause files command a) (sym why.answer_is)
      (record {
        rise = why.rise;
        asked = subst (λ (name : List ℕ). Contains (files_of command) name) (sym same) asked;
        overlong = overlong;
        first = λ steady.
            let long = why.held steady in
            let above : file_limit < length long.0 = subst (λ (n : ℕ). file_limit < n) (sym long.1.1) why.overlong.above in
            let here : trouble_or file (Some (Some long.0)) later ≡ Some (Overlong file (length long.0)) = simp (lt-ltb file_limit (length long.0) above) in
            first ∙ ap (λ (t : Told). trouble_or file t later) long.1.0 ∙ here
            ∙ ap (λ (n : ℕ). Some (Overlong file n)) long.1.1 ∙ ap (λ (name : List ℕ). Some (Overlong name why.reported)) (sym same);
      })

  pub cause-unfetched : (answer : Answer) → IsFetchAnswer files file answer → HasCause files command answer
  cause-unfetched answer why =
      ⊎_elim (λ is. subst (λ (a : Answer). HasCause files command a) (sym is) tt)
      (λ more. ⊎_elim (unread answer) (unfit answer) more) why

-- with a refused fetch nothing is written
pub written-unfetched : (files : Files) (out : Stream) (command : Command) (file : List ℕ) (answer : Answer) → IsUntouched out → IsFetchAnswer files file answer → HasWritten files out command answer
written-unfetched files out command file answer untouched why =
    ⊎_elim (λ is. subst (λ (a : Answer). HasWritten files out command a) (sym is) untouched)
    (λ later. ⊎_elim (λ (w : IsUnread files file answer). subst (λ (a : Answer). HasWritten files out command a) (sym w.answer_is) untouched)
    (λ (w : IsUnfit files file answer). subst (λ (a : Answer). HasWritten files out command a) (sym w.answer_is) untouched) later) why

-- the first file of a pair was not to be had
pub pair-first : (files : Files) (first : List ℕ) (second : Option (Bor (List ℕ))) (answer : Answer) → IsFetchAnswer files first answer → IsPairAnswer files first (word_of second) answer
pair-first files first None answer why = why
pair-first files first (Some second) answer why = inl why

-- one of the two was not
pub pair-unfetched : (files : Files) (command : Command) (first : List ℕ) (word : PlanWord)
    → files_of command ≡ first ∷ plan_files word → (answer : Answer) → IsPairAnswer files first word answer
    → HasCause files command answer
pair-unfetched files command first EmptyPlan are answer why =
    let asked : Contains (files_of command) first = subst (λ (names : List (List ℕ)). Contains names first) (sym are) (0, omega arith, refl) in
    cause-unfetched files command first asked None (ap (first_trouble files.held) are) answer why
pair-unfetched files command first (Named second) are answer (inl why) =
    let asked : Contains (files_of command) first = subst (λ (names : List (List ℕ)). Contains names first) (sym are) (0, omega arith, refl) in
    cause-unfetched files command first asked (trouble_or second (files.held second) None) (ap (first_trouble files.held) are) answer why
pair-unfetched files command first (Named second) are answer (inr why) =
    let asked : Contains (files_of command) second = subst (λ (names : List (List ℕ)). Contains names second) (sym are) (1, omega arith, refl) in
    cause-unfetched files command second asked None (ap (first_trouble files.held) are ∙ untroubled first (files.held first) why.0 why.1.0 (trouble_or second (files.held second) None)) answer why.1.1

pub pair-unwritten : (files : Files) (out : Stream) (command : Command) (first : List ℕ) (word : PlanWord)
    (answer : Answer) → IsUntouched out → IsPairAnswer files first word answer → HasWritten files out command answer
pair-unwritten files out command first EmptyPlan answer untouched why = written-unfetched files out command first answer untouched why
pair-unwritten files out command first (Named second) answer untouched (inl why) = written-unfetched files out command first answer untouched why
pair-unwritten files out command first (Named second) answer untouched (inr why) = written-unfetched files out command second answer untouched why.1.1

-- a refused fetch that came later in the call
pub moved : (before after : Files) (file : List ℕ) (answer : Answer) → after.held ≡ before.held
    → (before.steady → after.steady) → (after.failed → before.failed) → (after.met_overlong → before.met_overlong)
    → IsFetchAnswer after file answer → IsFetchAnswer before file answer
moved before after file answer held steady failed overlong why =
    ⊎_elim (λ is. inl is) (λ later. inr (⊎_elim (λ w. inl (unread' w)) (λ w. inr (unfit' w)) later)) why
  where
    told : (entry : Told) → after.held file ≡ entry → before.held file ≡ entry
    told entry e = sym (ap (λ (h : List ℕ → Told). h file) held) ∙ e

    unread' : IsUnread after file answer → IsUnread before file answer
    unread' w = record { named = w.named; answer_is = w.answer_is; same = w.same; rise = failed w.rise; absent = λ s. told (Some None) (w.absent (steady s)) }

    unfit' : IsUnfit after file answer → IsUnfit before file answer
    unfit' w = record {
      named = w.named;
      reported = w.reported;
      answer_is = w.answer_is;
      same = w.same;
      rise = overlong w.rise;
      overlong = subst (λ (t : Told). IsOverlong t file_limit w.reported) (ap (λ (h : List ℕ → Told). h file) held) w.overlong;
      held = λ s. let h = w.held (steady s) in (h.0, (told (Some (Some h.0)) h.1.0, h.1.1));
    }
