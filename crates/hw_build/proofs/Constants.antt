-- Nets of constants, put behind others.
use Rattle.std.proofs.Common.{◌≡◌, ℕ, suc, ◌+◌, ◌≤◌, inl, inr, ℤ, if◌then◌else◌, List, [], ◌∷◌, ◌++◌, length, Some, ap, sym, ◌∙◌, refl, arith}
use Rattle.std.specs.Prelude.{slice_get, Contains}
use Rattle.std.proofs.lemmas.Bool.{cases_lt}
use Rattle.std.proofs.lemmas.Option.{none-some, slice_get_within}
use Rattle.fx_type.specs.declared.decimal.Decimal.{Decimal}
use Rattle.fx_type.specs.declared.kind.FxType.{FxType}
use Rattle.fx_type.specs.FxType.{IsType}
use Rattle.dg_model.specs.Equation.{StoresEntry}
use Rattle.hw_net.specs.declared.netlist.Net.{Net}
use Rattle.hw_net.specs.declared.netlist.NetKind.{NetKind}
use Rattle.hw_net.specs.declared.netlist.NetKind.TheVariants.{Comb}
use Rattle.hw_net.specs.declared.netlist.NetOp.TheVariants.{Const}
use Rattle.hw_net.specs.Circuit.{Circuit}
use Rattle.hw_net.specs.Frames.{is_register, register_count}
use Rattle.hw_net.specs.Growing.{Extends, with_net}
use Rattle.hw_net.proofs.Growth.{longer, still-there, stood-there, appends-self, appends-one, appends-trans, differ-other, count-append, IsNamed}
use Rattle.math_list.proofs.Places.{last_at, split-last, get_right}
use Rattle.hw_build.specs.inner.Factors.{AddsConstants, IsCoefficient, constant_net}
use Rattle.fx_type.proofs.Ranges.{type-word}

pub adds_none : (net : Circuit) → AddsConstants net net
adds_none net = record {
  appends = appends-self net [];
  each = λ k one past at. let inside = slice_get_within net.nets k one at in absurd (omega (arith, past, inside));
}

none_named : (a b : Circuit) (read : ℕ) → Contains [] read → IsNamed a b [] read
none_named a b read names = inl names

pub adds_then : (a b c : Circuit) → AddsConstants a b → AddsConstants b c → AddsConstants a c
adds_then a b c p q = record {
  appends = appends-trans a b c [] [] (none_named a b) p.appends q.appends;
  each = λ k one past at. elim (cases_lt k (length b.nets)) [
    | inl less ↦ p.each k one past (stood-there b c k one q.appends.extends less at)
    | inr more ↦ q.each k one more at
  ];
}

pub adds_one : (a b : Circuit) (type : FxType) (value : ℤ) → IsType type → b ≡ with_net a (constant_net type value) → AddsConstants a b
adds_one a b type value valid grown = record {
  appends = appends-one a b (constant_net type value) [] grown (record {
    word = type-word type valid;
    kind = (refl, tt);
    there = λ i d within. absurd (omega (arith, within));
    allowed = λ i d within. absurd (omega (arith, within));
    now = λ i d within. absurd (omega (arith, within));
    counted = λ frame names. absurd (none-some frame names);
  }) (differ-other a.nets (constant_net type value) refl);
  each = λ k one past at. elim (split-last a.nets (constant_net type value) one k (ap (λ (x : Circuit). slice_get x.nets k) (sym grown) ∙ at)) [
    | inl front ↦ let inside = front.0 in absurd (omega (arith, past, inside))
    | inr last ↦ (value, ap (λ (n : Net). n.kind) (sym last.1))
  ];
}

-- a coefficient that was put in
pub coefficient_is : (a b : Circuit) (list : List Decimal) (element : ℕ) (type : FxType) (value : ℤ) (number : ℕ)
    → StoresEntry list element type value → number ≡ length a.nets → b ≡ with_net a (constant_net type value)
    → IsCoefficient a b list element type number
coefficient_is a b list element type value number stored place grown = record {
  value = value;
  stored = stored;
  is = ap (λ (x : Circuit). slice_get x.nets number) grown ∙ ap (slice_get (a.nets ++ constant_net type value ∷ [])) place ∙ last_at a.nets (constant_net type value);
  new = omega (arith, place);
}

-- it stays
pub coefficient_stays : (a b c d : Circuit) (list : List Decimal) (element : ℕ) (type : FxType) (number : ℕ)
    → Extends a b → Extends c d → IsCoefficient b c list element type number
    → IsCoefficient a d list element type number
coefficient_stays a b c d list element type number before after is = record {
  value = is.value;
  stored = is.stored;
  is = still-there c d number (constant_net type is.value) after is.is;
  new = let new = is.new in let more = longer a b before in omega (arith, new, more);
}

-- they are no registers
no_registers : (nets added : List Net) → ((k : ℕ) (net : Net) → length nets ≤ k → slice_get (nets ++ added) k ≡ Some net → (value : ℤ) × (net.kind ≡ Comb (Const value) [])) → register_count added ≡ 0
no_registers nets added each = go added (λ k net at. each (length nets + k) net (omega arith) (get_right nets added k ∙ at))
  where
    go : (xs : List Net) → ((k : ℕ) (net : Net) → slice_get xs k ≡ Some net → (value : ℤ) × (net.kind ≡ Comb (Const value) [])) → register_count xs ≡ 0
    go [] all = refl
    go (x ∷ xs) all =
        let here = all 0 x refl in
        let rest = go xs (λ k net at. all (suc k) net at) in
        let here_none : ◌≡◌ {A = ℕ} (if is_register x.kind then 1 else 0) 0 = ap (λ (kind : NetKind). if is_register kind then 1 else 0) here.1 in
        omega (arith, here_none, rest)

pub same_registers : (a b : Circuit) → AddsConstants a b → register_count b.nets ≡ register_count a.nets
same_registers a b adds =
    let grown = adds.appends.extends in
    let none = no_registers a.nets grown.added (λ k net past at. adds.each k net past (ap (λ (xs : List Net). slice_get xs k) grown.nets ∙ at)) in
    ap register_count grown.nets ∙ count-append a.nets grown.added ∙ omega (arith, none)
