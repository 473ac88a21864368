-- What a sink took in two steps is what it took in one, whole or in part. Crates above may cite it.
use Rattle.std.proofs.Common.{◌≡◌, ◌<◌, ℕ, ◌+◌, ◌-◌, List, ◌++◌, length, length-append, take, drop, Option, None, Some, refl, ap, subst, append_assoc, ◌∙◌, sym, length-drop, arith}
use Rattle.std.proofs.lemmas.List.{take-append-le}
use Rattle.std.proofs.Math.Seq.{take-add, take-append-add, take-length}
use Rattle.fx_io.specs.Sink.{TookProperPrefix, also_took}

pub also_took-append : (told : Option (List ℕ)) (first second : List ℕ) → also_took (also_took told first) second ≡ also_took told (first ++ second)
also_took-append None first second = refl
also_took-append (Some earlier) first second = ap Some (append_assoc earlier first second)

-- the bytes from a place on, as a slice gives them
pub rest-whole : (bytes : List ℕ) (done : ℕ) → take (length bytes - done) (drop done bytes) ≡ drop done bytes
rest-whole bytes done = subst (λ (n : ℕ). take n (drop done bytes) ≡ drop done bytes) (length-drop done bytes) (take-length (drop done bytes))

pub also_took-rest : (told : Option (List ℕ)) (bytes : List ℕ) (done count : ℕ)
    → also_took (also_took told (take done bytes)) (take count (take (length bytes - done) (drop done bytes))) ≡ also_took told (take (done + count) bytes)
also_took-rest told bytes done count =
    ap (λ rest. also_took (also_took told (take done bytes)) (take count rest)) (rest-whole bytes done)
    ∙ also_took-append told (take done bytes) (take count (drop done bytes))
    ∙ ap (also_took told) (sym (take-add done count bytes))

-- part of a piece, after a fault
pub took-more : (told before now : Option (List ℕ)) (done piece rest : List ℕ) → before ≡ also_took told done → TookProperPrefix before now piece → TookProperPrefix told now (done ++ (piece ++ rest))
took-more told before now done piece rest took part =
    let count = part.0 in
    let short : count < length piece = part.1.0 in
    let cut : take (length done + count) (done ++ (piece ++ rest)) ≡ done ++ take count piece =
    take-append-add done (piece ++ rest) count ∙ ap (λ xs. done ++ xs) (take-append-le count piece rest (omega (arith, short))) in (
      length done + count,
      (
        (let a = length-append done (piece ++ rest) in let b = length-append piece rest in omega (arith, a, b, short)),
        part.1.1 ∙ ap (λ state. also_took state (take count piece)) took ∙ also_took-append told done (take count piece) ∙ ap (also_took told) (sym cut),
      ),
    )

-- of a piece behind which the rest of a text stands
pub took-split : (told before now : Option (List ℕ)) (done piece : List ℕ) {text : List ℕ}
    → (rest : List ℕ) × (text ≡ done ++ (piece ++ rest)) → before ≡ also_took told done
    → TookProperPrefix before now piece → TookProperPrefix told now text
took-split told before now done piece split took part = subst (λ bytes. TookProperPrefix told now bytes) (sym split.1) (took-more told before now done piece split.0 took part)
