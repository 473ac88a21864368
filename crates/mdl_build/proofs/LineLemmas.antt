-- The lines of one more item.
use Rattle.std.proofs.Common.{◌≡◌, ℕ, zero, suc, ◌+◌, ◌<◌, Bool, true, false, cond, List, [], ◌∷◌, ◌++◌, length, map, Option, Some, None, get_or, refl, sym, ap, ◌∙◌, eq-eqb, arith}
use Rattle.std.specs.Prelude.{◌&&◌, filter_map}
use Rattle.std.specs.List.{range_with_len, list_all}
use Rattle.std.proofs.lemmas.List.Elements.{filter_map-append}
use Rattle.std.proofs.lemmas.List.Folds.{list_all-append}
use Rattle.std.proofs.lemmas.List.{map-append}
use Rattle.std.proofs.lemmas.List.FromFn.{length-map-range_with_len, get_or-map-range_with_len}
use Rattle.std.proofs.lemmas.Option.{none-some, same_Some}
use Rattle.dg_model.specs.declared.nested.NestedLine.{NestedLine}
use Rattle.mdl_text.specs.declared.tree.Item.{Item}
use Rattle.mdl_build.specs.declared.lines.Source.{Source}
use Rattle.mdl_build.specs.declared.roles.Role.{Role}
use Rattle.mdl_build.specs.declared.roles.Role.TheVariants.{Other, Model, System, Block, SubSystem, Filter, Branch, Defaults, TypeDefaults}
use Rattle.mdl_build.specs.Lines.{branch_of, source_of, keeps_line, line_at}
use Rattle.mdl_build.specs.Roles.{role_of}
use Rattle.mdl_build.specs.inner.Lines.{source_if, sources_before, are_joined_before, lines_before, line_list}
use Rattle.mdl_build.proofs.Ranges.{range_next}
use Rattle.math_list.proofs.Tests.{and_false}

-- ---- what an item is a branch of

pub branch_is : (role : Role) (line : ℕ) → branch_of role ≡ Some line → role ≡ Branch line
branch_is Other line e = absurd (none-some line e)
branch_is Model line e = absurd (none-some line e)
branch_is (System level) line e = absurd (none-some line e)
branch_is (Block level) line e = absurd (none-some line e)
branch_is (SubSystem level) line e = absurd (none-some line e)
branch_is (Filter level) line e = absurd (none-some line e)
branch_is (Branch other) line e = ap Branch (same_Some other line e)
branch_is Defaults line e = absurd (none-some line e)
branch_is (TypeDefaults section) line e = absurd (none-some line e)

-- ---- the source of a line that stands

pub sources_long : (items : List Item) → length (sources_before items (length items)) ≡ length items
sources_long items = length-map-range_with_len (λ (other : ℕ). source_if items other (branch_of (role_of items other))) 0 (length items)

pub source_found : (items : List Item) (line : ℕ) (d : Option Source) → line < length items
    → role_of items line ≡ Branch line → get_or (sources_before items (length items)) line d ≡ source_of items line
source_found items line d below is =
    let f : 0 + line ≡ line = omega arith in
    get_or-map-range_with_len (λ (other : ℕ). source_if items other (branch_of (role_of items other))) 0 (length items) line line d below f
    ∙ ap (λ (role : Role). source_if items line (branch_of role)) is
    ∙ ap (λ (b : Bool). cond b (source_of items line) None) (eq-eqb line line refl)

pub sources_next : (items : List Item) (place : ℕ) (source : Option Source)
    → source ≡ source_if items place (branch_of (role_of items place))
    → sources_before items place ++ source ∷ [] ≡ sources_before items (place + 1)
sources_next items place source is =
    ap (λ (last : Option Source). sources_before items place ++ last ∷ []) is
    ∙ sym (ap (map (λ (other : ℕ). source_if items other (branch_of (role_of items other)))) (range_next place)
    ∙ map-append (λ (other : ℕ). source_if items other (branch_of (role_of items other)))
    (range_with_len 0 place) (place ∷ []))

-- ---- one more item

one_line : (found : Option NestedLine) (lines : List NestedLine) → lines ++ filter_map (λ (x : Option NestedLine). x) (found ∷ []) ≡ lines ++ line_list found
one_line None lines = refl
one_line (Some line) lines = refl

pub lines_next : (items : List Item) (place : ℕ) (lines : List NestedLine) → lines ≡ lines_before items place
    → lines ++ line_list (line_at items place (role_of items place)) ≡ lines_before items (place + 1)
lines_next items place lines e =
    ap (λ (front : List NestedLine). front ++ line_list (line_at items place (role_of items place))) e
    ∙ sym (one_line (line_at items place (role_of items place)) (lines_before items place))
    ∙ sym (ap (filter_map (λ (other : ℕ). line_at items other (role_of items other))) (range_next place)
    ∙ filter_map-append (λ (other : ℕ). line_at items other (role_of items other)) (range_with_len 0 place) (place ∷ []))

pub joined_next : (items : List Item) (place : ℕ) → are_joined_before items place ≡ true → keeps_line items place (role_of items place) ≡ true → are_joined_before items (place + 1) ≡ true
joined_next items place before here =
    ap (list_all (λ (other : ℕ). keeps_line items other (role_of items other))) (range_next place)
    ∙ list_all-append (λ (other : ℕ). keeps_line items other (role_of items other)) (range_with_len 0 place) (place ∷ [])
    ∙ ap (λ (b : Bool). b && (keeps_line items place (role_of items place) && true)) before
    ∙ ap (λ (b : Bool). b && true) here

fails_from : (p : ℕ → Bool) (a n k place : ℕ) → k < n → place ≡ a + k → p place ≡ false → list_all p (range_with_len a n) ≡ false
fails_from p a zero k place less is fails = absurd (omega (arith, less))
fails_from p a (suc n) zero place less is fails =
    let same : a ≡ place = omega (arith, is) in
    ap (λ (b : Bool). b && list_all p (range_with_len (a + 1) n)) (ap p same ∙ fails)
fails_from p a (suc n) (suc k) place less is fails =
    ap (λ (b : Bool). p a && b) (fails_from p (a + 1) n k place (omega (arith, less)) (omega (arith, is)) fails) ∙ and_false (p a)

-- one that isn't well formed spoils all
pub joined_fails : (items : List Item) (place : ℕ) → place < length items → keeps_line items place (role_of items place) ≡ false → are_joined_before items (length items) ≡ false
joined_fails items place below fails =
    let f : place ≡ 0 + place = omega arith in
    fails_from (λ (other : ℕ). keeps_line items other (role_of items other)) 0 (length items) place place below f fails
