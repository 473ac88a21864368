-- Bytes are handed over one piece after another.
use Rattle.std.proofs.Common.{◌≡◌, ℕ, ◌+◌, ◌<◌, List, [], ◌++◌, length, length-append, take, Option, Some, None, Result, Ok, Err, append_assoc, append-nil, ap, refl, sym, ◌∙◌, subst, arith}
use Rattle.std.specs.Prelude.{⊤}
use Rattle.std.proofs.lemmas.List.{take-append-le}
use Rattle.std.proofs.Math.Seq.{take-append-add}
use Rattle.fx_io.specs.Cause.{Rose}
use Rattle.fx_io.specs.Sink.{TookProperPrefix, also_took}
use Rattle.fx_io.specs.declared.sink.PutFault.{PutFault}
use Rattle.fx_io.proofs.SinkBytes.{also_took-append}
use Rattle.cmd_check.specs.declared.pending.Pending.{Pending}
use Rattle.cmd_check.specs.Handed.{Adds, HasEnded, HasTaken, IsEnd}

-- a part of a text is one of a longer text
took_longer : (before now : Option (List ℕ)) (bytes more : List ℕ) → TookProperPrefix before now bytes → TookProperPrefix before now (bytes ++ more)
took_longer before now bytes more part =
    let short : part.0 < length bytes = part.1.0 in
    let size = length-append bytes more in
    (part.0, (omega (arith, short, size), part.1.1 ∙ ap (also_took before) (sym (take-append-le part.0 bytes more (omega (arith, short))))))

-- and behind what was taken before it
pub took_behind : (before mid now : Option (List ℕ)) (front put : List ℕ) → mid ≡ also_took before front → TookProperPrefix mid now put → TookProperPrefix before now (front ++ put)
took_behind before mid now front put took part =
    let count = part.0 in
    let short : count < length put = part.1.0 in
    let size = length-append front put in (
      length front + count,
      (
        omega (arith, short, size),
        part.1.1 ∙ ap (λ state. also_took state (take count put)) took ∙ also_took-append before front (take count put) ∙ ap (also_took before) (sym (take-append-add front put count)),
      ),
    )

rest_put : (earlier bytes front waiting put : List ℕ) → earlier ≡ front ++ waiting → waiting ++ bytes ≡ put → earlier ++ bytes ≡ front ++ put
rest_put earlier bytes front waiting put is put_is =
    ap (λ (xs : List ℕ). xs ++ bytes) is ∙ append_assoc front waiting bytes ∙ ap (λ (xs : List ℕ). front ++ xs) put_is

nothing_took : (told : Option (List ℕ)) → told ≡ also_took told []
nothing_took None = refl
nothing_took (Some earlier) = ap (λ (xs : List ℕ). Some xs) (sym (append-nil earlier))

pub none_of : {A : Type 0} (o : Option A) → ((x : A) → o ≡ Some x → ⊥) → o ≡ None
none_of None other = refl
none_of (Some x) other = absurd (other x refl)

module _ {K : Type 0} {taken : K → Option (List ℕ)} {faults : K → ℕ} where
  -- two pieces are one
  pub both : {old mid new : K} {waited middle waits : Pending} {first second : List ℕ}
      → Adds taken faults old waited mid middle first → Adds taken faults mid middle new waits second
      → Adds taken faults old waited new waits (first ++ second)
  both {old} {mid} {new} {waited} {middle} {waits} {first} {second} one two = record {
    adds = λ before count earlier held.
        subst (λ (bytes : List ℕ). HasTaken before count bytes (taken new)
        (faults new) waits.bytes.items waits.fault) (append_assoc earlier first second)
        (two.adds before count (earlier ++ first) (one.adds before count earlier held));
  }

  pub adds_as : {old new : K} {waited waits : Pending} {first second : List ℕ} → first ≡ second → Adds taken faults old waited new waits first → Adds taken faults old waited new waits second
  adds_as {old} {new} {waited} {waits} is one = subst (λ (bytes : List ℕ). Adds taken faults old waited new waits bytes) is one

  -- nothing is one of no bytes
  pub none_added : (out : K) (pending : Pending) → Adds taken faults out pending out pending []
  none_added out pending = record {
    adds = λ before count earlier held. subst (λ (bytes : List ℕ). HasTaken before count bytes (taken out) (faults out) pending.bytes.items pending.fault) (sym (append-nil earlier)) held;
  }

  -- after a fault bytes are passed over
  pub passed_over : (out : K) (pending : Pending) (fault : PutFault) (bytes : List ℕ) → pending.fault ≡ Some fault → Adds taken faults out pending out pending bytes
  passed_over out pending fault bytes is = record {
    adds = λ before count earlier held.
        let part : HasTaken before count earlier (taken out) (faults out) pending.bytes.items (Some fault) =
        subst (λ (f : Option PutFault). HasTaken before count earlier (taken out)
        (faults out) pending.bytes.items f) is held in
        subst (λ (f : Option PutFault). HasTaken before count (earlier ++ bytes) (taken out) (faults out) pending.bytes.items f) (sym is) (took_longer before (taken out) earlier bytes part.0, part.1);
  }

  -- bytes wait
  pub waits_more : (out : K) (waited waits : Pending) (bytes : List ℕ) → waited.fault ≡ None → waits.fault ≡ None
      → waits.bytes.items ≡ waited.bytes.items ++ bytes → Adds taken faults out waited out waits bytes
  waits_more out waited waits bytes calm still is = record {
    adds = λ before count earlier held.
        let kept : HasTaken before count earlier (taken out) (faults out) waited.bytes.items None =
        subst (λ (f : Option PutFault). HasTaken before count earlier (taken out)
        (faults out) waited.bytes.items f) calm held in
        subst (λ (f : Option PutFault). HasTaken before count (earlier ++ bytes) (taken out) (faults out) waits.bytes.items f) (sym still) (
          record {
            front = kept.0.front;
            taken = kept.0.taken;
            whole = rest_put earlier bytes kept.0.front waited.bytes.items waits.bytes.items kept.0.whole (sym is);
          },
          kept.1,
        );
  }

  -- what waited and the bytes are put, all of them
  pub all_put : (old new : K) (waited waits : Pending) (bytes put : List ℕ) → waited.fault ≡ None
      → waits.fault ≡ None → waits.bytes.items ≡ [] → waited.bytes.items ++ bytes ≡ put
      → taken new ≡ also_took (taken old) put → faults new ≡ faults old
      → Adds taken faults old waited new waits bytes
  all_put old new waited waits bytes put calm still empty is took same = record {
    adds = λ before count earlier held.
        let kept : HasTaken before count earlier (taken old) (faults old) waited.bytes.items None =
        subst (λ (f : Option PutFault). HasTaken before count earlier (taken old)
        (faults old) waited.bytes.items f) calm held in
        subst (λ (f : Option PutFault). HasTaken before count (earlier ++ bytes) (taken new) (faults new) waits.bytes.items f) (sym still) (
          record {
            front = kept.0.front ++ put;
            taken = took ∙ ap (λ state. also_took state put) kept.0.taken ∙ also_took-append before kept.0.front put;
            whole = rest_put earlier bytes kept.0.front waited.bytes.items put kept.0.whole is ∙ sym (append-nil (kept.0.front ++ put)) ∙ ap (λ (xs : List ℕ). (kept.0.front ++ put) ++ xs) (sym empty);
          },
          same ∙ kept.1,
        );
  }

  -- or a part of them
  pub part_put : (old new : K) (waited waits : Pending) (fault : PutFault) (bytes put : List ℕ)
      → waited.fault ≡ None → waits.fault ≡ Some fault → waited.bytes.items ++ bytes ≡ put
      → TookProperPrefix (taken old) (taken new) put → Rose (faults old) (faults new)
      → Adds taken faults old waited new waits bytes
  part_put old new waited waits fault bytes put calm failed is part rose = record {
    adds = λ before count earlier held.
        let kept : HasTaken before count earlier (taken old) (faults old) waited.bytes.items None =
        subst (λ (f : Option PutFault). HasTaken before count earlier (taken old)
        (faults old) waited.bytes.items f) calm held in
        subst (λ (f : Option PutFault). HasTaken before count (earlier ++ bytes) (taken new) (faults new) waits.bytes.items f) (sym failed) (
          subst (λ (xs : List ℕ). TookProperPrefix before (taken new) xs) (sym (rest_put earlier bytes kept.0.front waited.bytes.items put kept.0.whole is))
              (took_behind before (taken old) (taken new) kept.0.front put kept.0.taken part),
          subst (λ (n : ℕ). Rose n (faults new)) kept.1 rose,
        );
  }

  -- at the end nothing waits, and all was taken
  pub ended : (old new : K) (waited waits : Pending) → Adds taken faults old waited new waits [] → waits.fault ≡ None → waits.bytes.items ≡ [] → HasEnded taken faults old waited new (Ok tt)
  ended old new waited waits last still empty = record {
    ends = λ before count bytes held.
        let kept : HasTaken before count (bytes ++ []) (taken new) (faults new) waits.bytes.items None =
        subst (λ (f : Option PutFault). HasTaken before count (bytes ++ []) (taken new)
        (faults new) waits.bytes.items f) still (last.adds before count bytes held) in
        let whole : bytes ≡ kept.0.front = sym (append-nil bytes) ∙ kept.0.whole ∙ ap (λ (xs : List ℕ). kept.0.front ++ xs) empty ∙ append-nil kept.0.front in
        kept.0.taken ∙ ap (also_took before) (sym whole);
  }

  -- or there was a fault
  pub ended_short : (old new : K) (waited waits : Pending) (fault : PutFault) → Adds taken faults old waited new waits [] → waits.fault ≡ Some fault → HasEnded taken faults old waited new (Err fault)
  ended_short old new waited waits fault last failed = record {
    ends = λ before count bytes held.
        let part : HasTaken before count (bytes ++ []) (taken new) (faults new) waits.bytes.items (Some fault) =
        subst (λ (f : Option PutFault). HasTaken before count (bytes ++ []) (taken new)
        (faults new) waits.bytes.items f) failed (last.adds before count bytes held) in
        (subst (λ (xs : List ℕ). TookProperPrefix before (taken new) xs) (append-nil bytes) part.0, part.1);
  }

  -- all that was handed over since nothing waited
  pub written : (old mid new : K) (fresh waits : Pending) (text : List ℕ) (result : Result ⊤ PutFault)
      → fresh.bytes.items ≡ [] → fresh.fault ≡ None → Adds taken faults old fresh mid waits text
      → HasEnded taken faults mid waits new result
      → IsEnd (taken old) (faults old) text (taken new) (faults new) result
  written old mid new fresh waits text result empty calm puts last =
      let begun : HasTaken (taken old) (faults old) [] (taken old) (faults old) fresh.bytes.items fresh.fault =
      subst (λ (f : Option PutFault). HasTaken (taken old) (faults old) [] (taken old)
      (faults old) fresh.bytes.items f) (sym calm)
      (record { front = []; taken = nothing_took (taken old); whole = sym empty }, refl) in
      last.ends (taken old) (faults old) text (puts.adds (taken old) (faults old) [] begun)
