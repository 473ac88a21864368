-- The bits of a number fit their width.
use Rattle.std.proofs.Common.{◌≡◌, ◌<◌, ◌%◌, ℤ, pos, negsuc, true, arith}
use Rattle.std.proofs.lemmas.Nat.{mod_below}
use Rattle.std.proofs.lemmas.Bool.{lt-ltb}
use Rattle.vl_ast.specs.Value.{bits_of}
use Rattle.vl_ast.specs.Conditions.{is_number}

pub bits-fit : (number : ℤ) → bits_of 8 number < 256
bits-fit (pos n) = mod_below n 256 (omega arith)
bits-fit (negsuc n) = let below : n % 256 < 256 = mod_below n 256 (omega arith) in omega arith

pub bits-are_number : (number : ℤ) → is_number (record { width = 8; signed = true; bits = bits_of 8 number }) ≡ true
bits-are_number number = lt-ltb (bits_of 8 number) 256 (bits-fit number)
