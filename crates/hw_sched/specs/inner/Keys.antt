-- Kinds of operations in an order, and numbers by kind (own).
use Rattle.std.specs.Prelude.{ℕ, List, Option, Some, None}
use Rattle.std.specs.declared.cmp.Ordering.{Ordering}
use Rattle.std.specs.Option.{option_cmp}
use Rattle.std.specs.Ordering.{bool_cmp, nat_cmp, int_cmp, then_cmp, on}
use Rattle.std.specs.BTreeMap.{is_at}
use Rattle.std.specs.Map.{lookup}
use Rattle.fx_type.specs.declared.kind.FxType.{FxType}
use Rattle.fx_type.specs.declared.kind.FxType.TheVariants.{Num, Logical}
use Rattle.hw_sched.specs.declared.keys.Word.{Word}
use Rattle.hw_sched.specs.declared.keys.KindKey.{KindKey}
use Rattle.hw_sched.specs.Slots.{OperationKind}

abbrev pub kind_from : ℕ → ℕ → FxType → FxType → OperationKind
kind_from period lat left right = record { period = period; lat = lat; left = left; right = right }

-- the word of a type, none for Logical
abbrev pub word_of : FxType → Option Word
word_of (Num signed width frac) = Some (record { signed = signed; width = width; frac = frac })
word_of Logical = None

-- a kind by these parts
abbrev pub key_of : OperationKind → KindKey
key_of kind =
    record {
      period = kind.period;
      lat = kind.lat;
      left = word_of kind.left;
      right = word_of kind.right;
    }

-- the order in which an index has its kinds
abbrev pub compare_words : Word → Word → Ordering
compare_words =
    then_cmp (on (λ (word : Word). word.signed) bool_cmp)
    (then_cmp (on (λ (word : Word). word.width) nat_cmp)
    (on (λ (word : Word). word.frac) int_cmp))

abbrev pub compare_keys : KindKey → KindKey → Ordering
compare_keys =
    then_cmp (on (λ (key : KindKey). key.period) nat_cmp)
    (then_cmp (on (λ (key : KindKey). key.lat) nat_cmp)
    (then_cmp (on (λ (key : KindKey). key.left) (option_cmp compare_words))
    (on (λ (key : KindKey). key.right) (option_cmp compare_words))))

-- the number of a kind among the entries of an index
abbrev pub number_at : List (KindKey × ℕ) → OperationKind → Option ℕ
number_at entries kind = lookup (is_at (compare_keys (key_of kind))) entries
