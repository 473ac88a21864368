-- Bytes said in two steps or more.
use Rattle.std.proofs.Common.{◌≡◌, ◌<◌, ◌≤◌, ◌+◌, ℕ, zero, suc, codes, List, ◌∷◌, get_or, ◌++◌, length, take, Option, ap, [], append_assoc, append-nil, ◌∙◌, subst, sym, arith, Vec, Global}
use Rattle.std.proofs.Math.Seq.{take-append-add}
use Rattle.fx_io.specs.Sink.{TookProperPrefix, also_took}
use Rattle.fx_io.specs.Cause.{Rose}
use Rattle.std.specs.List.{flat_map}
use Rattle.fx_top.specs.Call.{Said, Stream}
use Rattle.fx_top.specs.Messages.{names_end}
use Rattle.fx_io.proofs.SinkBytes.{also_took-append}

-- what was said of one piece
pub said-alone : {stream : Stream} (bytes text : List ℕ) → bytes ≡ text → Said stream (bytes ++ []) → Said stream text
said-alone {stream} bytes text same said = subst (λ (b : List ℕ). Said stream b) (append-nil bytes ∙ same) said

pub said-more : (told before now : Option (List ℕ)) (f0 f1 f2 : ℕ) (piece more : List ℕ) → before ≡ also_took told piece → f0 ≤ f1
    → Said (record { before = before; now = now; failed = Rose f1 f2 }) more
    → Said (record { before = told; now = now; failed = Rose f0 f2 }) (piece ++ more)
said-more told before now f0 f1 f2 piece more took later said =
    let joined : (bytes : List ℕ) → now ≡ also_took before bytes → now ≡ also_took told (piece ++ bytes) =
    λ bytes is. is ∙ ap (λ (state : Option (List ℕ)). also_took state bytes) took ∙ also_took-append told piece bytes in
    record {
      prefix = (length piece + said.prefix.0, joined (take said.prefix.0 more) said.prefix.1 ∙ ap (also_took told) (sym (take-append-add piece more said.prefix.0)));
      whole = λ calm. joined more (said.whole (λ rose. calm (omega arith)));
    }

-- a proper prefix, after a fault
pub said-cut : (told now : Option (List ℕ)) (f0 f1 f2 : ℕ) (bytes : List ℕ) → f0 ≤ f1 → Rose f1 f2
    → TookProperPrefix told now bytes → Said (record { before = told; now = now; failed = Rose f0 f2 }) bytes
said-cut told now f0 f1 f2 bytes later rose part = record { prefix = (part.0, part.1.1); whole = λ calm. absurd (calm (omega (arith, rose, later))) }

-- a name among those of a loop, between those before it and what follows
pub names-split : (names : List (List ℕ)) (k : ℕ) (name : List ℕ) → k < length names → name ≡ get_or names k name
    → (rest : List ℕ) × (names_end names ≡ flat_map (λ name. 32 ∷ name) (take k names) ++ ((32 ∷ name) ++ rest))
names-split [] k name below is = absurd (omega (arith, below))
names-split (x ∷ names) zero name below is =
    (names_end names, ap (λ (n : List ℕ). ((32 ∷ n) ++ flat_map (λ name. 32 ∷ name) names) ++ codes "\n") (sym is) ∙ append_assoc (32 ∷ name) (flat_map (λ name. 32 ∷ name) names) (codes "\n"))
names-split (x ∷ names) (suc k) name below is =
    let more = names-split names k name (omega (arith, below)) is in (
      more.0,
      append_assoc (32 ∷ x) (flat_map (λ name. 32 ∷ name) names) (codes "\n")
          ∙ ap (λ bytes. (32 ∷ x) ++ bytes) more.1
          ∙ sym (append_assoc (32 ∷ x) (flat_map (λ name. 32 ∷ name) (take k names)) ((32 ∷ name) ++ more.0)),
    )

-- a part of a text, between those before it and what follows
pub parts-split : (parts : List (Vec ℕ Global)) (k : ℕ) (part : Vec ℕ Global) → k < length parts → part ≡ get_or parts k part
    → (rest : List ℕ) × (flat_map (λ part. part.items) parts ≡ flat_map (λ part. part.items) (take k parts) ++ (part.items ++ rest))
parts-split [] k part below is = absurd (omega (arith, below))
parts-split (x ∷ parts) zero part below is = (flat_map (λ part. part.items) parts, ap (λ own. own.items ++ flat_map (λ part. part.items) parts) (sym is))
parts-split (x ∷ parts) (suc k) part below is =
    let more = parts-split parts k part (omega (arith, below)) is in
    (more.0, ap (λ bytes. x.items ++ bytes) more.1 ∙ sym (append_assoc x.items (flat_map (λ part. part.items) (take k parts)) (part.items ++ more.0)))
