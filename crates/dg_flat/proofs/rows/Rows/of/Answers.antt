use Rattle.std.proofs.Common.{◌≡◌, ℕ, ◌+◌, List, [], ◌∷◌, ◌++◌, sum, length, take, get_or, refl, sym, ap, subst, ◌∙◌, arith}
use Rattle.std.specs.Prelude.{fold}
use Rattle.std.proofs.lemmas.List.{take_all, take_more}
use Rattle.dg_flat.specs.inner.Tables.{IsTable}
use Rattle.dg_flat.proofs.Tables.{table_push}
use Rattle.dg_flat.proofs.rows.Rows.of.Goals as goal

-- a sum from any start, with one number more
sum_last : (start : ℕ) (numbers : List ℕ) (last : ℕ) → fold ◌+◌ start (numbers ++ last ∷ []) ≡ fold ◌+◌ start numbers + last
sum_last start [] last = refl
sum_last start (number ∷ numbers) last = sum_last (start + number) numbers last

pub loop-length-preserved : goal.loop-length-preserved
loop-length-preserved c =
    let lengths = c.deref-length-items.result.now in
    let i = c.loop-length.length-index in
    let last = get_or lengths i 0 in
    let before = c.loop-length.invariant in
    let more : sum (take (i + 1) lengths) ≡ sum (take i lengths) + last = ap sum (take_more lengths i 0 c.loop-length-test.true) ∙ sum_last 0 (take i lengths) last in
    let starts : IsTable (i + 1) (λ row. sum (take row lengths)) c.push.new.self.items =
    rw c.in_ok-push.ensures.items (table_push i (λ row. sum (take row lengths)) c.loop-length.starts.items c.loop-length.cells before.cells before.starts) in
    record {
      few = omega (arith, before.few, c.type_inv.length-items i);
      cells = ap (λ n. n + last) before.cells ∙ sym more;
      starts = starts;
    }

pub overflow_add-cells : goal.overflow_add-cells
overflow_add-cells c =
    let few = ap (λ (xs : List ℕ). length xs) c.deref-length-items.ensures.value in
    omega (arith, c.loop-length.invariant.few, c.type_inv.length-items c.loop-length.length-index, c.loop-length-test.true, c.requires, few)

pub returns-clause-rows : goal.returns-clause-rows
returns-clause-rows c =
    let lengths = c.deref-length-items.result.now in
    let i = c.loop-length.length-index in
    let before = c.loop-length.invariant in
    let is : lengths ≡ c.args.lengths.items = c.deref-length-items.ensures.value in
    let all : i ≡ length lengths = omega (arith, c.loop-length-test.false, c.loop-length.auto.length-index-end) in
    record {
      starts = subst (λ (xs : List ℕ). IsTable (length xs) (λ row. sum (take row xs)) c.loop-length.starts.items) is
          (subst
          (λ (n : ℕ). IsTable n (λ row. sum (take row lengths)) c.loop-length.starts.items) all before.starts);
      cells = before.cells ∙ ap sum (take_all i lengths c.loop-length-test.false) ∙ ap sum is;
    }
