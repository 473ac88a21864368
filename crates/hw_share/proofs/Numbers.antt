-- Numbers cut to a word, and tests of them.
use Rattle.std.proofs.Common.{◌≡◌, ◌≢◌, ℕ, ◌≤◌, Bool, true, false, not, if◌then◌else◌, ℤ, pos, arith}
use Rattle.std.specs.Ordering.{int_eq}
use Rattle.std.proofs.lemmas.Int.{ints}
use Rattle.math_num.specs.Word.{IsWord, InWord, IsWrapped}
use Rattle.math_num.specs.Bits.{truth}
use Rattle.math_num.proofs.Residues.{is-same, not-same}
use Rattle.math_num.proofs.Words.{wrapped-is}

pub bit-word : IsWord 1 false
bit-word = (omega arith, omega arith)

-- a truth as one bit
pub truth-is : (b : Bool) (r : ℤ) → IsWrapped (truth b) 1 false r → r ≡ truth b
truth-is true r is = wrapped-is (pos 1) 1 false r bit-word (record { low = omega (arith, ints); high = omega (arith, ints) }) is
truth-is false r is = wrapped-is (pos 0) 1 false r bit-word (record { low = omega (arith, ints); high = omega (arith, ints) }) is

-- what a Choose gives of two numbers of its word
pub chosen-on : (width : ℕ) (signed : Bool) (test chosen other r : ℤ) → IsWord width signed → InWord width signed chosen → test ≢ pos 0
    → IsWrapped (if not (int_eq test (pos 0)) then chosen else other) width signed r → r ≡ chosen
chosen-on width signed test chosen other r word has any is = wrapped-is chosen width signed r word has (rw (not-same test (pos 0) any) at is)

pub chosen-off : (width : ℕ) (signed : Bool) (test chosen other r : ℤ) → IsWord width signed → InWord width signed other → test ≡ pos 0
    → IsWrapped (if not (int_eq test (pos 0)) then chosen else other) width signed r → r ≡ other
chosen-off width signed test chosen other r word has zero is = wrapped-is other width signed r word has (rw (is-same test (pos 0) zero) at is)

-- a word has 0, and an unsigned one each number below one of its own
pub zero-in : (width : ℕ) (signed : Bool) → IsWord width signed → InWord width signed (pos 0)
zero-in width true word = record { low = omega (arith, ints); high = omega (arith, ints) }
zero-in width false word = record { low = omega (arith, ints); high = omega (arith, ints) }

pub less-in : (width m n : ℕ) → n ≤ m → InWord width false (pos m) → InWord width false (pos n)
less-in width m n h has = record { low = omega (arith, ints); high = omega (arith, ints, has.high) }
