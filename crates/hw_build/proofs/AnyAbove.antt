-- The nets that tell whether one of some nets is above 0.
use Rattle.std.proofs.Common.{◌≡◌, ℕ, zero, suc, ◌<◌, inl, inr, Bool, true, false, pos, List, [], ◌∷◌, length, take, All, Contains, Some, ap, sym, ◌∙◌, subst, refl, arith}
use Rattle.std.specs.Prelude.{slice_get, int_lt, ◌||◌}
use Rattle.std.specs.List.{list_any}
use Rattle.std.proofs.lemmas.List.Elements.{All-contains, Contains-push_cases}
use Rattle.std.proofs.lemmas.Option.{none-some, same_Some, slice_get_within}
use Rattle.math_num.specs.Word.{IsWord}
use Rattle.fx_type.specs.declared.kind.FxType.{FxType}
use Rattle.fx_type.specs.FxType.{IsType, is_signed, width_of}
use Rattle.dg_model.specs.Operation.{stored_truth}
use Rattle.hw_net.specs.declared.netlist.Net.{Net}
use Rattle.hw_net.specs.declared.netlist.NetKind.TheVariants.{Comb}
use Rattle.hw_net.specs.declared.netlist.NetOp.TheVariants.{Const, Less, Or}
use Rattle.hw_net.specs.Circuit.{Circuit}
use Rattle.hw_net.specs.Growing.{with_net}
use Rattle.hw_net.proofs.Growth.{longer, one-longer}
use Rattle.hw_shows.specs.Series.{AreSame, steady}
use Rattle.hw_build.specs.inner.Controls.{IsGate, Tells, any_above, PutsControl, PutsAny}
use Rattle.hw_share.specs.inner.Parts.{Grows, IsNamed}
use Rattle.hw_build.specs.inner.Growth.{GoesOn, InLater}
use Rattle.hw_build.proofs.MoreParts.{comb_grows, grows_then, put_word}
use Rattle.dg_tables.proofs.Equations.{zero_range}
use Rattle.hw_build.proofs.ElementEntries.{const_shows, grows_naming, none_named}
use Rattle.hw_build.proofs.Growth.{goes_appended, goes_then, later_on}
use Rattle.hw_build.proofs.Nets.{constant}
use Rattle.hw_build.proofs.Tests.{above_shows, either_shows, in_bit}
use Rattle.fx_type.proofs.Ranges.{type-word}
use Rattle.hw_share.proofs.OneNet.{put-extends, put-there}

-- ---- one more

or_false : (b : Bool) → (b || false) ≡ b
or_false true = refl
or_false false = refl

or_assoc : (a b c : Bool) → (a || (b || c)) ≡ ((a || b) || c)
or_assoc true b c = refl
or_assoc false b c = refl

any_more : (f : ℕ → Bool) (xs : List ℕ) (k x : ℕ) → slice_get xs k ≡ Some x → list_any f (take (suc k) xs) ≡ (list_any f (take k xs) || f x)
any_more f [] k x at = absurd (none-some x at)
any_more f (y ∷ xs) zero x at = ap (λ (z : ℕ). f z || false) (same_Some y x at) ∙ or_false (f x)
any_more f (y ∷ xs) (suc k) x at = ap (λ (b : Bool). f y || b) (any_more f xs k x at) ∙ or_assoc (f y) (list_any f (take k xs)) (f x)

pub take_all : (xs : List ℕ) → take (length xs) xs ≡ xs
take_all [] = refl
take_all (x ∷ xs) = ap (λ (rest : List ℕ). x ∷ rest) (take_all xs)

one_bit : IsWord 1 false
one_bit = (omega arith, omega arith)

two_are : (a b read : ℕ) (P : ℕ → Type 0) → P a → P b → Contains (a ∷ b ∷ []) read → P read
two_are a b read P p q is = elim (Contains-push_cases (a ∷ []) b read is) [
  | inl first ↦ elim (Contains-push_cases [] a read first) [
    | inl none ↦ absurd (omega (arith, none.1))
    | inr same ↦ subst P same p
  ]
  | inr same ↦ subst P same q
]

-- ---- the first two nets

module _ (before middle after : Circuit) (operands : List ℕ) (type : FxType) (is_type : IsType type)
    (zeroed : middle ≡ with_net before (record {
      signed = is_signed type;
      width = width_of type;
      kind =
          Comb (Const (pos 0)) [];
    }))
    (begun : after ≡ with_net middle (record { signed = false; width = 1; kind = Comb (Const (pos 0)) [] }))
  where
    none_there : (read : ℕ) → Contains [] read → read < length before.nets
    none_there read is = absurd (omega (arith, is.1))

    pub any_begun : PutsAny before after operands 0 (length before.nets) (length middle.nets)
    any_begun =
        let zero_net : Net = record { signed = is_signed type; width = width_of type; kind = Comb (Const (pos 0)) [] } in
        let some_net : Net = record { signed = false; width = 1; kind = Comb (Const (pos 0)) [] } in
        let size = one-longer before middle zero_net zeroed in
        let more = one-longer middle after some_net begun in
        record {
          grows =
              grows_then before middle after operands [] IsGate IsGate 0 0 (λ read is. absurd (omega (arith, is.1))) (λ kind is. is)
              (grows_naming before middle [] operands IsGate 0 (none_named operands)
              (comb_grows before middle (Const (pos 0)) [] (is_signed type) (width_of type) IsGate zeroed
              (type-word type is_type) (refl, tt) none_there (λ e. cc)))
              (comb_grows middle after (Const (pos 0)) [] false 1 IsGate begun one_bit (refl, tt) (λ read is. absurd (omega (arith, is.1))) (λ e. cc));
          word = put_word middle after some_net begun;
          new = omega (arith, size);
          zero_new = omega arith;
          zero_inside = omega (arith, size, more);
          zeros = λ closed hubs small.
              later_on closed closed hubs middle after
              (λ n rows. AreSame n (rows (length before.nets)) (steady (pos 0))) (omega arith)
              (goes_appended closed hubs middle after (put-extends middle after some_net begun))
              (const_shows before middle type (pos 0) is_type (zero_range type is_type) zeroed closed hubs (length before.nets) refl small);
          tells = λ closed hubs small.
              let shows = constant closed hubs after (length middle.nets) (pos 0) some_net
              (record {
                at = put-there middle after some_net begun;
                settled =
                    inr (omega (arith, small, size));
              }) refl one_bit (in_bit false) in
              record { holds = λ later goes n inputs rows are. record { at = λ c below. (shows.holds later goes n inputs rows are).at c below } };
        }

-- ---- one more operand

module _ (a b c d : Circuit) (operands : List ℕ) (count zero_at some operand : ℕ)
    (there : All (λ operand. operand < length a.nets) operands) (is : slice_get operands count ≡ Some operand)
    (among : Contains operands operand) (any : PutsAny a b operands count zero_at some)
    (tested : c ≡ with_net b (record { signed = false; width = 1; kind = Comb Less (zero_at ∷ operand ∷ []) }))
    (joined : d ≡ with_net c (record { signed = false; width = 1; kind = Comb Or (some ∷ length b.nets ∷ []) }))
  where
    pub any_next : PutsAny a d operands (suc count) zero_at (length c.nets)
    any_next =
        let test : Net = record { signed = false; width = 1; kind = Comb Less (zero_at ∷ operand ∷ []) } in
        let join : Net = record { signed = false; width = 1; kind = Comb Or (some ∷ length b.nets ∷ []) } in
        let size = one-longer b c test tested in
        let more = one-longer c d join joined in
        let old = longer a b any.grows.appends.extends in
        let inside = any.zero_inside in
        let zero_new = any.zero_new in
        let new = any.new in
        let some_inside = slice_get_within b.nets some any.word.net any.word.is in
        let low = All-contains (λ (x : ℕ). x < length a.nets) operands operand there among in
        let one : Grows b c (zero_at ∷ operand ∷ []) IsGate 0 =
        comb_grows b c Less (zero_at ∷ operand ∷ []) false 1 IsGate tested one_bit (refl, tt)
        (λ read names. two_are zero_at operand read (λ (x : ℕ). x < length b.nets) inside
        (omega (arith, low, old)) names) (λ e. cc) in
        let two : Grows c d (some ∷ length b.nets ∷ []) IsGate 0 =
        comb_grows c d Or (some ∷ length b.nets ∷ []) false 1 IsGate joined one_bit (refl, tt)
        (λ read names. two_are some (length b.nets) read (λ (x : ℕ). x < length c.nets)
        (omega (arith, some_inside, size)) (omega (arith, size)) names) (λ e. cc) in
        let up_to : Grows a c operands IsGate 0 =
        grows_then a b c operands (zero_at ∷ operand ∷ []) IsGate IsGate 0 0
        (λ read names. two_are zero_at operand read (IsNamed a b operands) (inr (zero_new, inside))
        (inl among) names) (λ kind gate. gate) any.grows one in
        record {
          grows = grows_then a c d operands (some ∷ length b.nets ∷ []) IsGate IsGate 0 0
              (λ read names. two_are some (length b.nets) read (IsNamed a c operands)
              (inr (new, omega (arith, some_inside, size))) (inr (old, omega (arith, size))) names)
              (λ kind gate. gate) up_to two;
          word = put_word c d join joined;
          new = omega (arith, old, size);
          zero_new = zero_new;
          zero_inside = omega (arith, inside, size, more);
          zeros = λ closed hubs small.
              later_on closed closed hubs b d (λ n rows. AreSame n (rows zero_at) (steady (pos 0))) (omega arith) (goes_to closed hubs) (any.zeros closed hubs small);
          tells = λ closed hubs small.
              let zeros = later_on closed closed hubs b c (λ n rows. AreSame n (rows zero_at) (steady (pos 0)))
              (omega arith) (goes_appended closed hubs b c (put-extends b c test tested))
              (any.zeros closed hubs small) in
              let above = above_shows closed hubs c (length b.nets) zero_at operand test (record { at = put-there b c test tested; settled = inr (omega (arith, small, old)) }) refl refl refl zeros in
              let above_d = later_on closed closed hubs c d
              (λ n rows. Tells n (λ clock. int_lt (pos 0) (rows operand clock)) (rows (length b.nets)))
              (omega arith) (goes_appended closed hubs c d (put-extends c d join joined)) above in
              let before_d = later_on closed closed hubs b d (λ n rows. Tells n (any_above (take count operands) rows) (rows some)) (omega arith) (goes_to closed hubs) (any.tells closed hubs small) in
              let either = either_shows closed hubs d (length c.nets) some (length b.nets) join
              (any_above (take count operands)) (λ rows clock. int_lt (pos 0) (rows operand clock))
              (record { at = put-there c d join joined; settled = inr (omega (arith, small, old, size)) })
              refl refl refl before_d above_d in
              record {
                holds = λ later goes n inputs rows are. record {
                  at = λ clock below. (either.holds later goes n inputs rows are).at clock below ∙ ap stored_truth (sym (any_more (λ k. int_lt (pos 0) (rows k clock)) operands count operand is));
                };
              };
        }
      where
        goes_to : (closed hubs : ℕ) → GoesOn closed hubs b d
        goes_to closed hubs =
            goes_then closed hubs b c d (goes_appended closed hubs b c (put-extends b c (record { signed = false; width = 1; kind = Comb Less (zero_at ∷ operand ∷ []) }) tested))
            (goes_appended closed hubs c d (put-extends c d (record { signed = false; width = 1; kind = Comb Or (some ∷ length b.nets ∷ []) }) joined))

-- of all
pub any_all : (before after : Circuit) (operands : List ℕ) (zero_at some : ℕ) → PutsAny before after operands (length operands) zero_at some → PutsControl before after operands some
any_all before after operands zero_at some any = record {
  grows = any.grows;
  word = any.word;
  new = any.new;
  tells = λ closed hubs small. subst (λ (list : List ℕ). InLater closed hubs after (λ n rows. Tells n (any_above list rows) (rows some))) (take_all operands) (any.tells closed hubs small);
}
