-- What the cause of an answer to a call that flattens says of its status.
use Rattle.std.proofs.Common.{◌≡◌, ℕ, ◌<◌, List, [], ◌∷◌, ◌++◌, length, Contains, inl, inr, Some, None, refl, sym, ◌∙◌, ap, subst, arith}
use Rattle.std.proofs.lemmas.Bool.{lt-ltb}
use Rattle.std.proofs.lemmas.List.Elements.{Contains-append_right}
use Rattle.fx_io.specs.Shelf.{Told}
use Rattle.fx_top.specs.declared.answer.Answer.{Answer}
use Rattle.fx_top.specs.declared.answer.Answer.TheVariants.{Done, OutOfMemory, Usage, CannotRead, CannotWrite, NotMdl, BadTable, BreaksRule, NotVerilog, Broken, BadInstance, TooLong}
use Rattle.fx_top.specs.Answer.{status_of}
use Rattle.fx_top.specs.Call.{Files, Overlong, Stream, file_limit, first_trouble, trouble_or}
use Rattle.fx_top.specs.Caused.{IsCarriedOut}
use Rattle.fx_top.specs.Command.{Flatten, asked_of}
use Rattle.fx_top.specs.Flattened.{HasBadInstance, HasFetched, HasFlatCause, HasFlatWritten, IfFlatten, IsCompleteFlat, IsDesignOf, IsDueFlat, IsFlatTextOf, IsNotDesign}
use Rattle.fx_top.specs.Outcome.{Tells, Yields}
use Rattle.fx_top.proofs.CarriedOut.{carried}
use Rattle.fx_top.proofs.ShelfFacts.{told-is}
use Rattle.vl_ast.specs.declared.designs.Instance.{Instance}
use Rattle.vl_ast.specs.declared.modules.Module.{Module}
use Rattle.vl_hier.specs.Fault.{IsBadFirst}
use Rattle.vl_hier.specs.Linked.{HasAllLinked, IsLinkedIn}
use Rattle.vl_read.specs.declared.design.Design.{Design}
use Rattle.vl_read.specs.Designs.{IsNoDesign, SpellsDesign}

-- ---- designs

some-behind : {A : Type 0} (xs : List A) (x : A) → [] ≡ xs ++ x ∷ [] → ⊥
some-behind [] x e = let no : ⊥ = cc in no
some-behind (y ∷ xs) x e = let no : ⊥ = cc in no

-- two lists with one behind each are the same parts
same-parts : {A : Type 0} (xs ys : List A) (x y : A) → xs ++ x ∷ [] ≡ ys ++ y ∷ [] → (xs ≡ ys) × (x ≡ y)
same-parts [] [] x y e = let same : x ≡ y = cc in (refl, same)
same-parts [] (b ∷ ys) x y e = let rest : [] ≡ ys ++ y ∷ [] = cc in absurd (some-behind ys y rest)
same-parts (a ∷ xs) [] x y e = let rest : [] ≡ xs ++ x ∷ [] = cc in absurd (some-behind xs x rest)
same-parts (a ∷ xs) (b ∷ ys) x y e =
    let here : a ≡ b = cc in
    let rest : xs ++ x ∷ [] ≡ ys ++ y ∷ [] = cc in
    let same = same-parts xs ys x y rest in
    ((λ k. here k ∷ same.0 k), same.1)

-- not each instance is linked where the first is told that isn't
bad-linked : (design : Design) (name : List ℕ) → IsBadFirst design name → HasAllLinked design → ⊥
bad-linked design name bad all =
    let same = same-parts all.below bad.below all.top bad.top (sym all.parted ∙ bad.parted) in
    let there : Contains design.instances bad.instance =
    subst (λ (instances : List Instance). Contains instances bad.instance) (sym bad.whole) (Contains-append_right bad.before (bad.instance ∷ bad.after) bad.instance (0, omega arith, refl)) in
    bad.bad (subst (λ (parts : List Module × Module). IsLinkedIn design.instances parts.0 parts.1 bad.instance) (λ k. (same.0 k, same.1 k)) (all.linked bad.instance there))

module _ (files : Files) (out : Stream) (unique : (bytes : List ℕ) (one other : Design) → SpellsDesign bytes one → SpellsDesign bytes other → one ≡ other) where
  module _ (file : List ℕ) where
    -- ---- what is fetched of the file is what is told of it

    told-so : (IsSo : List ℕ → Type 0) (bytes : List ℕ) → Tells files file bytes → HasFetched files file IsSo → IsSo bytes
    told-so IsSo bytes tells has = subst IsSo (sym (told-is files file bytes has.bytes has.fetched tells)) has.so

    not-absent : (IsSo : List ℕ → Type 0) → files.held file ≡ Some None → HasFetched files file IsSo → ⊥
    not-absent IsSo is has = let no : None ≡ Some has.bytes = has.fetched.held None is in absurd (cc no)

    not-long : (IsSo : List ℕ → Type 0) (bytes : List ℕ) → Tells files file bytes → file_limit < length bytes → HasFetched files file IsSo → ⊥
    not-long IsSo bytes tells long has = omega (arith, long, has.fetched.within, ap length (told-is files file bytes has.bytes has.fetched tells))

    same-design : (bytes : List ℕ) (one other : Design) → IsDesignOf bytes one → IsDesignOf bytes other → one ≡ other
    same-design bytes one other first second = unique bytes one other first.spelled second.spelled

    -- ---- 3 and 9

    read_fault-due : files.held file ≡ Some None → (answer : Answer) → HasFlatCause files file answer → HasFlatWritten files file out answer → Yields 3 [] (status_of answer)
    read_fault-due is Done why wrote = absurd (not-absent _ is wrote.made)
    read_fault-due is OutOfMemory why wrote = (1, omega arith, refl)
    read_fault-due is Usage why wrote = absurd why
    read_fault-due is (CannotRead named) why wrote = (0, omega arith, refl)
    read_fault-due is CannotWrite why wrote = absurd (not-absent _ is wrote.made)
    read_fault-due is (NotMdl named line) why wrote = absurd why
    read_fault-due is (BadTable named line cause) why wrote = absurd why
    read_fault-due is (BreaksRule line) why wrote = absurd why
    read_fault-due is (NotVerilog named line) why wrote = absurd (not-absent _ is why.1)
    read_fault-due is (Broken named fault) why wrote = absurd why
    read_fault-due is (BadInstance named name) why wrote = absurd (not-absent _ is why.1)
    read_fault-due is (TooLong named length) why wrote = let told = why.overlong.held None is in let no : None ≡ Some told.0 = told.1.0 in absurd (cc no)

    too_long-due : files.steady → (bytes : List ℕ) → Tells files file bytes → file_limit < length bytes
        → (answer : Answer) → HasFlatCause files file answer → HasFlatWritten files file out answer
        → Yields 9 [] (status_of answer)
    too_long-due steady bytes tells long Done why wrote = absurd (not-long _ bytes tells long wrote.made)
    too_long-due steady bytes tells long OutOfMemory why wrote = (1, omega arith, refl)
    too_long-due steady bytes tells long Usage why wrote = absurd why
    too_long-due steady bytes tells long (CannotRead named) why wrote = let absent = why.absent steady in absurd (cc (absent, tells))
    too_long-due steady bytes tells long CannotWrite why wrote = absurd (not-long _ bytes tells long wrote.made)
    too_long-due steady bytes tells long (NotMdl named line) why wrote = absurd why
    too_long-due steady bytes tells long (BadTable named line cause) why wrote = absurd why
    too_long-due steady bytes tells long (BreaksRule line) why wrote = absurd why
    too_long-due steady bytes tells long (NotVerilog named line) why wrote = absurd (not-long _ bytes tells long why.1)
    too_long-due steady bytes tells long (Broken named fault) why wrote = absurd why
    too_long-due steady bytes tells long (BadInstance named name) why wrote = absurd (not-long _ bytes tells long why.1)
    too_long-due steady bytes tells long (TooLong named length) why wrote = (0, omega arith, refl)

    -- ---- 8

    module _ (bytes : List ℕ) (tells : Tells files file bytes) where
      -- where no flat text is made of them
      refused-due : ((text : List ℕ) → IsFlatTextOf bytes text → ⊥) → (answer : Answer)
          → HasFlatCause files file answer → HasFlatWritten files file out answer
          → Yields 8 (3 ∷ 9 ∷ []) (status_of answer)
      refused-due none Done why wrote = absurd (none wrote.text (told-so (λ b. IsFlatTextOf b wrote.text) bytes tells wrote.made))
      refused-due none OutOfMemory why wrote = (1, omega arith, refl)
      refused-due none Usage why wrote = absurd why
      refused-due none (CannotRead named) why wrote = (2, omega arith, refl)
      refused-due none CannotWrite why wrote = absurd (none wrote.text (told-so (λ b. IsFlatTextOf b wrote.text) bytes tells wrote.made))
      refused-due none (NotMdl named line) why wrote = absurd why
      refused-due none (BadTable named line cause) why wrote = absurd why
      refused-due none (BreaksRule line) why wrote = absurd why
      refused-due none (NotVerilog named line) why wrote = (0, omega arith, refl)
      refused-due none (Broken named fault) why wrote = absurd why
      refused-due none (BadInstance named name) why wrote = (0, omega arith, refl)
      refused-due none (TooLong named length) why wrote = (3, omega arith, refl)

      no_design-due : IsNoDesign bytes → (text : List ℕ) → IsFlatTextOf bytes text → ⊥
      no_design-due none text flat = none flat.made.design flat.made.is.spelled flat.made.is.few

      unlinked-due : (design : Design) → IsDesignOf bytes design → ¬ HasAllLinked design → (text : List ℕ) → IsFlatTextOf bytes text → ⊥
      unlinked-due design is unlinked text flat = unlinked (subst HasAllLinked (same-design bytes flat.made.design design flat.made.is is) flat.made.linked)

    is-due : (answer : Answer) → HasFlatCause files file answer → HasFlatWritten files file out answer → IsDueFlat files file (status_of answer)
    is-due answer why wrote = record {
      read_fault = λ steady is. read_fault-due is answer why wrote;
      too_long = λ steady bytes tells long. too_long-due steady bytes tells long answer why wrote;
      no_design = λ bytes tells none. refused-due bytes tells (no_design-due bytes tells none) answer why wrote;
      unlinked = λ bytes design tells is unlinked. refused-due bytes tells (unlinked-due bytes tells design is unlinked) answer why wrote;
    }

    -- ---- 0

    -- a file that is too long is in trouble
    long-troubles : (bytes : List ℕ) → Tells files file bytes → file_limit < length bytes → first_trouble files.held (file ∷ []) ≡ None → ⊥
    long-troubles bytes tells long none =
        let here : trouble_or file (Some (Some bytes)) None ≡ Some (Overlong file (length bytes)) = simp (lt-ltb file_limit (length bytes) long) in
        let same = ap (λ (t : Told). trouble_or file t None) tells in
        absurd (cc (here, same, none))

    is-complete : (answer : Answer) → HasFlatCause files file answer → HasFlatWritten files file out answer → IsCompleteFlat files file out (status_of answer)
    is-complete Done why wrote can gives writes = (0, omega arith, refl)
    is-complete OutOfMemory why wrote can gives writes = (1, omega arith, refl)
    is-complete Usage why wrote can gives writes = absurd why
    is-complete (CannotRead named) why wrote can (inl steady) writes = let absent = why.absent steady.0 in let told = can.told in absurd (cc (absent, told))
    is-complete (CannotRead named) why wrote can (inr quiet) writes = absurd (quiet.0 why.rise)
    is-complete CannotWrite why wrote can gives writes = absurd (writes wrote.rise)
    is-complete (NotMdl named line) why wrote can gives writes = absurd why
    is-complete (BadTable named line cause) why wrote can gives writes = absurd why
    is-complete (BreaksRule line) why wrote can gives writes = absurd why
    is-complete (NotVerilog named line) why wrote can gives writes =
        let so = told-so (λ bytes. IsNotDesign bytes line) can.bytes can.told why.1 in absurd (so.refused can.design can.is.spelled can.is.few)
    is-complete (Broken named fault) why wrote can gives writes = absurd why
    is-complete (BadInstance named name) why wrote can gives writes =
        let so = told-so (λ bytes. HasBadInstance bytes name) can.bytes can.told why.1 in
        absurd (bad-linked so.design name so.bad (subst HasAllLinked (same-design can.bytes can.design so.design can.is so.is) can.linked))
    is-complete (TooLong named reported) why wrote can (inl steady) writes =
        let own = why.held steady.0 in
        absurd (long-troubles own.0 own.1.0 (omega (arith, why.overlong.above, own.1.1)) steady.1)
    is-complete (TooLong named reported) why wrote can (inr quiet) writes = absurd (quiet.1 why.rise)

  pub flat_due-clause : (words : List (List ℕ)) (answer : Answer) → IsCarriedOut files out (asked_of words) answer → IfFlatten words (λ file. IsDueFlat files file (status_of answer))
  flat_due-clause words answer why file shape = let own = carried files out words answer (Flatten file) why shape in is-due file answer own.0 own.1

  pub flat_complete-clause : (words : List (List ℕ)) (answer : Answer) → IsCarriedOut files out (asked_of words) answer → IfFlatten words (λ file. IsCompleteFlat files file out (status_of answer))
  flat_complete-clause words answer why file shape = let own = carried files out words answer (Flatten file) why shape in is-complete file answer own.0 own.1
