-- One net put behind the others.
use Rattle.std.proofs.Common.{◌≡◌, ℕ, ◌<◌, inl, inr, Bool, if◌then◌else◌, List, [], ◌∷◌, length, All, Some, None, slice_get, ap, sym, ◌∙◌, subst, arith, refl}
use Rattle.std.proofs.lemmas.Option.{none-some}
use Rattle.math_num.specs.Word.{IsWord}
use Rattle.hw_net.specs.declared.netlist.Net.{Net}
use Rattle.hw_net.specs.declared.netlist.NetOp.{NetOp}
use Rattle.hw_net.specs.declared.netlist.NetKind.{NetKind}
use Rattle.hw_net.specs.declared.netlist.NetKind.TheVariants.{Comb}
use Rattle.hw_net.specs.Circuit.{Circuit}
use Rattle.hw_net.specs.Frames.{counted_frame, is_register, register_count}
use Rattle.hw_net.specs.Netlist.{IsKind}
use Rattle.hw_net.specs.Growing.{Extends, IsAppended, MayReadNow, with_net}
use Rattle.hw_net.proofs.Growth.{extends-one, one-longer, appends-one, differ-other, count-append}
use Rattle.math_list.proofs.Places.{last_at, split-last}
use Rattle.hw_share.specs.inner.Parts.{Grows}

module _ (a b : Circuit) (one : Net) (grown : b ≡ with_net a one) where
  pub put-extends : Extends a b
  put-extends = extends-one a b one grown

  pub put-there : slice_get b.nets (length a.nets) ≡ Some one
  put-there = ap (λ (x : Circuit). slice_get x.nets (length a.nets)) grown ∙ last_at a.nets one

  pub put-grows : (named : List ℕ) (part : NetKind → Type 0) (count : ℕ) → IsAppended a b named (length a.nets) one → counted_frame one.kind ≡ None → part one.kind
      → (if is_register one.kind then 1 else 0) ≡ count → Grows a b named part count
  put-grows named part count is counts own counted = record {
    appends = appends-one a b one named grown is (differ-other a.nets one counts);
    parts = λ k net past there.
        elim (split-last a.nets one net k (ap (λ (x : Circuit). slice_get x.nets k) (sym grown) ∙ there)) [
          | inl front ↦ absurd (omega (arith, front.0, past))
          | inr last ↦ subst part (ap (λ (x : Net). x.kind) last.1) own
        ];
    registers = ap (λ (x : Circuit). register_count x.nets) grown ∙ count-append a.nets (one ∷ []) ∙ omega (arith, counted);
  }

-- an operation on nets
pub comb-grows : (a b : Circuit) (op : NetOp) (args named : List ℕ) (signed : Bool) (width : ℕ)
    (part : NetKind → Type 0) → b ≡ with_net a (record { signed = signed; width = width; kind = Comb op args })
    → IsWord width signed → IsKind b.nets b.cycles (length b.inputs) width signed (Comb op args)
    → All (λ read. (read < length a.nets) × MayReadNow a b named (length a.nets) read) args
    → part (Comb op args)
    → Grows a b named part 0
comb-grows a b op args named signed width part grown word kind all own =
    put-grows a b (record { signed = signed; width = width; kind = Comb op args }) grown named part 0 (record {
      word = word;
      kind = kind;
      there = λ i d within. omega (arith, (all i d within).0, one-longer a b (record { signed = signed; width = width; kind = Comb op args }) grown);
      allowed = λ i d within.
          elim (all i d within).1 [
            | inl names ↦ inl names
            | inr rest ↦ elim rest [
              | inl put ↦ inr (inl put.0)
              | inr counter ↦ inr (inr counter)
            ]
          ];
      now = λ i d within. (all i d within).1;
      counted = λ frame names. absurd (none-some frame names);
    }) refl own refl
