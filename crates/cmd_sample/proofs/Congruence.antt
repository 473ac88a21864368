-- A number after a number, as it is computed, and the numbers as they are gone through.
use Rattle.std.proofs.Common.{◌≡◌, ℕ, suc, ◌+◌, ◌*◌, ◌%◌, ◌^◌, ◌∙◌, ap, arith}
use Rattle.std.proofs.Math.Nat.{mod-add-mod, mul_comm}
use Rattle.cmd_sample.specs.Numbers.{number_after, sample_number}

pub after_is : (number : ℕ) → ((number * 6364136223846793005) % 2 ^ 64 + 1442695040888963407) % 2 ^ 64 ≡ (6364136223846793005 * number + 1442695040888963407) % 2 ^ 64
after_is number =
    mod-add-mod (number * 6364136223846793005) (2 ^ 64) 1442695040888963407 ∙ ap (λ (product : ℕ). (product + 1442695040888963407) % 2 ^ 64) (mul_comm number 6364136223846793005)

pub next_is : (count i number : ℕ) → number ≡ sample_number count i → number_after number ≡ sample_number count (i + 1)
next_is count i number is =
    let next : suc i ≡ i + 1 = omega arith in
    ap number_after is ∙ ap (sample_number count) next
