-- Netlists to which parts are put.
use Rattle.std.proofs.Common.{◌≡◌, ℕ, ◌+◌, ◌<◌, inl, inr, Bool, List, length, Contains, arith, refl}
use Rattle.std.specs.Prelude.{slice_index_or}
use Rattle.std.proofs.lemmas.Bool.{cases_lt}
use Rattle.std.proofs.lemmas.List.Elements.{Contains-get_or}
use Rattle.std.proofs.lemmas.Option.{none-some}
use Rattle.math_num.specs.Word.{IsWord}
use Rattle.hw_net.specs.declared.netlist.Net.{Net}
use Rattle.hw_net.specs.declared.netlist.NetOp.{NetOp}
use Rattle.hw_net.specs.declared.netlist.NetKind.{NetKind}
use Rattle.hw_net.specs.declared.netlist.NetKind.TheVariants.{Comb}
use Rattle.hw_net.specs.Circuit.{Circuit}
use Rattle.hw_net.specs.Netlist.{IsKind, HasWord}
use Rattle.hw_net.specs.Growing.{with_net}
use Rattle.hw_net.proofs.Growth.{one-longer, stood-there, appends-trans}
use Rattle.hw_share.specs.inner.Parts.{Grows, IsNamed}
use Rattle.hw_share.proofs.OneNet.{put-grows, put-there}

pub grows_then : (a b c : Circuit) (named more : List ℕ) (part other : NetKind → Type 0) (m n : ℕ)
    → ((read : ℕ) → Contains more read → IsNamed a b named read) → ((kind : NetKind) → other kind → part kind)
    → Grows a b named part m → Grows b c more other n → Grows a c named part (m + n)
grows_then a b c named more part other m n names wider p q = record {
  appends = appends-trans a b c named more names p.appends q.appends;
  parts = λ k net past there.
      elim (cases_lt k (length b.nets)) [
        | inl less ↦ p.parts k net past (stood-there b c k net q.appends.extends less there)
        | inr beyond ↦ wider net.kind (q.parts k net beyond there)
      ];
  registers = let one = p.registers in let two = q.registers in omega (arith, one, two);
}

-- one net
module _ (a b : Circuit) (one : Net) (grown : b ≡ with_net a one) where
  pub put_word : HasWord b.nets (length a.nets) one.width one.signed
  put_word = record { net = one; is = put-there a b one grown; wide = refl; sign = refl }

-- an operation
pub comb_grows : (a b : Circuit) (op : NetOp) (args : List ℕ) (signed : Bool) (width : ℕ) (part : NetKind → Type 0)
    → b ≡ with_net a (record { signed = signed; width = width; kind = Comb op args }) → IsWord width signed
    → IsKind b.nets b.cycles (length b.inputs) width signed (Comb op args) → ((read : ℕ) → Contains args read → read < length a.nets) → part (Comb op args) → Grows a b args part 0
comb_grows a b op args signed width part grown word kind there own =
    let one : Net = record { signed = signed; width = width; kind = Comb op args } in
    let size = one-longer a b one grown in
    put-grows a b one grown args part 0 (record {
      word = word;
      kind = kind;
      there = λ i d within. let low = there (slice_index_or args i d) (Contains-get_or args i d within) in omega (arith, low, size);
      allowed = λ i d within. inl (Contains-get_or args i d within);
      now = λ i d within. inl (Contains-get_or args i d within);
      counted = λ frame names. absurd (none-some frame names);
    }) refl own refl
