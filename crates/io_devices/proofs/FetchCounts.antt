-- What a fetch counted is what a shelf owes that tells nothing of its files.
use Rattle.std.proofs.Common.{◌≡◌, ◌≤◌, ℕ, List, None, Ok, Err, refl, subst, arith}
use Rattle.std.specs.Prelude.{IfOk, IsErrOf, OnOk, Result}
use Rattle.std.proofs.lemmas.Option.{none-some}
use Rattle.fx_io.specs.Cause.{Rose}
use Rattle.fx_io.specs.Shelf.{Fetched, IsOverlong}
use Rattle.fx_io.specs.declared.shelf.FetchFault.{FetchFault}
use Rattle.fx_io.specs.declared.shelf.FetchFault.TheVariants.{Failed, TooLong, OutOfMemory}
use Rattle.io_devices.specs.inner.Fetch.{IsCounted, IsOwed}

module _ (limit faults later overlong longer : ℕ) where
  abbrev Counted : Result (List ℕ) FetchFault → Type 0
  Counted result = IsCounted limit faults later overlong longer result

  found-told : (result : Result (List ℕ) FetchFault) → Counted result → IfOk result (λ bytes. Fetched None limit bytes)
  found-told (Ok bytes) counted = record { within = counted.0; held = λ entry told. absurd (none-some entry told) }
  found-told (Err fault) counted = tt

  failed-told : (result : Result (List ℕ) FetchFault) → Counted result → IsErrOf result Failed → Rose faults later
  failed-told result counted is = (subst Counted is counted).0

  faultless-told : (result : Result (List ℕ) FetchFault) → Counted result → (IsErrOf result Failed → ⊥) → later ≡ faults
  faultless-told (Ok bytes) counted calm = counted.1
  faultless-told (Err Failed) counted calm = absurd (calm refl)
  faultless-told (Err (TooLong reported)) counted calm = counted.1
  faultless-told (Err OutOfMemory) counted calm = counted.0

  overlong-told : (result : Result (List ℕ) FetchFault) → Counted result → (reported : ℕ) → result ≡ Err (TooLong reported) → IsOverlong None limit reported
  overlong-told result counted reported is = record { above = (subst Counted is counted).0; held = λ entry told. absurd (none-some entry told) }

  cause-told : (result : Result (List ℕ) FetchFault) → Counted result → (reported : ℕ) → result ≡ Err (TooLong reported) → Rose overlong longer
  cause-told result counted reported is = (subst Counted is counted).2

  none-told : (result : Result (List ℕ) FetchFault) → Counted result → OnOk result (longer ≡ overlong)
  none-told (Ok bytes) counted = counted.2
  none-told (Err fault) counted = tt

  -- no count falls
  later-told : (result : Result (List ℕ) FetchFault) → Counted result → faults ≤ later
  later-told (Ok bytes) counted = let same = counted.1 in omega (arith, same)
  later-told (Err Failed) counted = counted.1
  later-told (Err (TooLong reported)) counted = let same = counted.1 in omega (arith, same)
  later-told (Err OutOfMemory) counted = let same = counted.0 in omega (arith, same)

  longer-told : (result : Result (List ℕ) FetchFault) → Counted result → overlong ≤ longer
  longer-told (Ok bytes) counted = let same = counted.2 in omega (arith, same)
  longer-told (Err Failed) counted = let same = counted.2 in omega (arith, same)
  longer-told (Err (TooLong reported)) counted = counted.3
  longer-told (Err OutOfMemory) counted = let same = counted.1 in omega (arith, same)

  pub owed : (result : Result (List ℕ) FetchFault) → Counted result → IsOwed limit faults later overlong longer result
  owed result counted = record {
    found = found-told result counted;
    failed = failed-told result counted;
    faultless = faultless-told result counted;
    too_long = overlong-told result counted;
    too_long_cause = cause-told result counted;
    none_too_long = none-told result counted;
    faults_later = later-told result counted;
    overlong_later = longer-told result counted;
  }
