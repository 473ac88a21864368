-- Registers in series that nothing else reads stay so.
use Rattle.std.proofs.Common.{◌≡◌, ℕ, zero, suc, ◌<◌, ◌≤◌, ◌⊎◌, inl, inr, List, [], ◌∷◌, length, Some, Contains, ap, sym, ◌∙◌, arith}
use Rattle.std.specs.Prelude.{slice_get}
use Rattle.std.proofs.lemmas.Bool.{cases_lt}
use Rattle.std.proofs.lemmas.Option.{none-some, same_Some, slice_get-get_or}
use Rattle.hw_net.specs.declared.netlist.Net.{Net}
use Rattle.hw_net.specs.Circuit.{Circuit}
use Rattle.hw_net.specs.Frames.{IsCounter}
use Rattle.hw_net.specs.Growing.{Appends, MayRead, IsConnected}
use Rattle.hw_net.specs.Netlist.{reads}
use Rattle.hw_net.proofs.Growth.{stood-there}
use Rattle.math_list.proofs.Places.{held}
use Rattle.hw_build.specs.inner.Unread.{AreReadInTurn}
use Rattle.hw_build.proofs.Levels.{given, connected_here, connected_elsewhere}

-- by a call that names none of them
pub in_turn_by_call : (before after : Circuit) (named : List ℕ) (first last : ℕ) → Appends before after named
    → last ≤ length before.nets → ((read : ℕ) → Contains named read → (read < first) ⊎ (last ≤ read))
    → ((k : ℕ) → first ≤ k → k < last → ¬ IsCounter after.nets k)
    → AreReadInTurn before.nets first last → AreReadInTurn after.nets first last
in_turn_by_call before after named first last appends there other none are = record {
  by = λ k net i read at reads_it low high. elim (cases_lt k (length before.nets)) [
    | inl inside ↦ are.by k net i read (stood-there before after k net appends.extends inside at) reads_it low high
    | inr past ↦
        let is = appends.each k net past at in
        elim (held (MayRead before after named) (reads net.kind) i read is.allowed reads_it) [
          | inl names ↦ elim (other read names) [ inl below ↦ absurd (omega (arith, below, low)) | inr above ↦ absurd (omega (arith, above, high)) ]
          | inr rest ↦ elim rest [ inl new ↦ absurd (omega (arith, new, high, there)) | inr counter ↦ absurd (none read low high counter) ]
        ]
  ];
}

-- by a hub that gets another argument
pub in_turn_by_connect : (before after : Circuit) (number argument first last : ℕ)
    → IsConnected before after number argument → (argument < first) ⊎ (last ≤ argument)
    → AreReadInTurn before.nets first last → AreReadInTurn after.nets first last
in_turn_by_connect before after number argument first last is other are = record {
  by = λ k net i read at given_read low high. elim (cases_lt k number) [
    | inl less ↦ are.by k net i read (sym (connected_elsewhere before after number argument k is (λ e. absurd (omega (arith, less, e)))) ∙ at) given_read low high
    | inr more ↦ elim (cases_lt number k) [
      | inl past ↦ are.by k net i read (sym (connected_elsewhere before after number argument k is (λ e. absurd (omega (arith, past, e)))) ∙ at) given_read low high
      | inr equal ↦
          let e : k ≡ number = omega (arith, more, equal) in
          let own : ◌≡◌ {A = Net} (given is.net argument) net = same_Some (given is.net argument) net (sym (connected_here before after number argument is) ∙ ap (slice_get after.nets) (sym e) ∙ at) in
          let reads_it : slice_get (argument ∷ []) i ≡ Some read = ap (λ (n : Net). slice_get (reads n.kind) i) own ∙ given_read in
          let same : read ≡ argument = only_one i argument read reads_it in
          elim other [ inl below ↦ absurd (omega (arith, below, low, same)) | inr above ↦ absurd (omega (arith, above, high, same)) ]
    ]
  ];
}
  where
    only_one : (i argument read : ℕ) → slice_get (argument ∷ []) i ≡ Some read → read ≡ argument
    only_one zero argument read at = sym (same_Some argument read at)
    only_one (suc i) argument read at = absurd (none-some read at)

-- so a register of a pipeline alone reads the one before it
pub alone : (nets : List Net) (first last from : ℕ) → AreReadInTurn nets first last → first ≤ from → from < last
    → (k read : ℕ) (other : Net) → slice_get nets k ≡ Some other → Contains (reads other.kind) read → read ≡ from
    → k ≡ suc from
alone nets first last from are low high k read other at contained same =
    let i : ℕ = contained.0 in
    let there : slice_get (reads other.kind) i ≡ Some read = slice_get-get_or (reads other.kind) i read contained.1 ∙ ap (λ (x : ℕ). Some x) contained.2 in
    let by = are.by k other i read at there (omega (arith, low, same)) (omega (arith, high, same)) in
    omega (arith, by, same)
