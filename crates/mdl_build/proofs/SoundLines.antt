-- Each line joins blocks of one System, from a port to a port.
use Rattle.std.proofs.Common.{◌≡◌, ℕ, zero, suc, Bool, true, false, cond, List, [], ◌∷◌, length, get_or, Option, Some, None, refl, sym, ap, subst, ◌∙◌, true≢false, eqb-true, arith}
use Rattle.std.specs.Prelude.{◌==◌, ◌&&◌, nat_lt, nat_le, All, MatchOption, slice_get, filter_map, option_map, bytes_eq, codes}
use Rattle.std.specs.List.{AllZip, cons_option, list_all}
use Rattle.std.specs.Char.{is_ascii_digit}
use Rattle.std.specs.Str.Parse.{digits_value}
use Rattle.std.proofs.lemmas.Bool.{leb-true}
use Rattle.std.proofs.lemmas.List.Quantifiers.{position-Some}
use Rattle.std.proofs.lemmas.Option.{none-some, same_Some, slice_get-get_or}
use Rattle.dg_model.specs.declared.nested.NestedBlock.{NestedBlock}
use Rattle.dg_model.specs.declared.nested.NestedLine.{NestedLine}
use Rattle.dg_model.specs.declared.nested.Target.{Target}
use Rattle.dg_model.specs.KindRow.{IsBetween}
use Rattle.dg_model.specs.Sound.{JoinsWithin, IsTarget}
use Rattle.mdl_text.specs.declared.tree.Item.{Item}
use Rattle.mdl_build.specs.declared.lines.Goal.{Goal}
use Rattle.mdl_build.specs.declared.lines.Source.{Source}
use Rattle.mdl_build.specs.declared.roles.Role.{Role}
use Rattle.mdl_build.specs.declared.roles.Role.TheVariants.{Other, Model, System, Block, SubSystem, Filter, Branch, Defaults, TypeDefaults}
use Rattle.mdl_build.specs.Blocks.{at, is_named_in, if_subsystem, number_of, number_at, parent_of}
use Rattle.mdl_build.specs.Lines.{is_port, port_of, to_port, target_of, named_by, source_from, source_of, goal_to, goal_by, goal_of, line_from, line_at, lines_of}
use Rattle.mdl_build.specs.Nested.{IsBlockAt}
use Rattle.mdl_build.specs.Roles.{role_of, blocks_of, says}
use Rattle.mdl_build.specs.Sections.{places_of, holder_of, value_of}
use Rattle.math_list.proofs.Tests.{left_true, right_true}

-- ---- what a line is made of

-- a line from a source to an end
pub record IsFrom (source : Option Source) (goal : Goal) (line : NestedLine) : Type 0 where
  pub own : Source
  pub source_is : source ≡ Some own
  pub to : ℕ
  pub target : Target
  pub goal_is : goal ≡ Goal.To to target
  pub from_is : line.from ≡ own.from
  pub port_is : line.from_port ≡ own.port
  pub to_is : line.to ≡ to
  pub target_is : line.target ≡ target

made_from : (source : Option Source) (goal : Goal) (line : NestedLine) → line_from source goal ≡ Some line → IsFrom source goal line
made_from None goal line e = absurd (none-some line e)
made_from (Some source) Goal.Nowhere line e = absurd (none-some line e)
made_from (Some source) Goal.Wrong line e = absurd (none-some line e)
made_from (Some source) (Goal.To to target) line e =
    let same : record { from = source.from; from_port = source.port; to = to; target = target } ≡ line = same_Some _ line e in
    record {
      own = source;
      source_is = refl;
      to = to;
      target = target;
      goal_is = refl;
      from_is = sym (ap (λ (l : NestedLine). l.from) same);
      port_is = sym (ap (λ (l : NestedLine). l.from_port) same);
      to_is = sym (ap (λ (l : NestedLine). l.to) same);
      target_is = sym (ap (λ (l : NestedLine). l.target) same);
    }

-- it is that of a branch
branch_line_at : (items : List Item) (place : ℕ) (role : Role) (line : NestedLine) → line_at items place role ≡ Some line → (own : ℕ) × IsFrom (source_of items own) (goal_of items own place) line
branch_line_at items place Other line e = absurd (none-some line e)
branch_line_at items place Model line e = absurd (none-some line e)
branch_line_at items place (System level) line e = absurd (none-some line e)
branch_line_at items place (Block level) line e = absurd (none-some line e)
branch_line_at items place (SubSystem level) line e = absurd (none-some line e)
branch_line_at items place (Filter level) line e = absurd (none-some line e)
branch_line_at items place (Branch own) line e = (own, made_from (source_of items own) (goal_of items own place) line e)
branch_line_at items place Defaults line e = absurd (none-some line e)
branch_line_at items place (TypeDefaults section) line e = absurd (none-some line e)

mapped_from : {X Y : Type 0} (h : X → Option Y) (xs : List X) (k : ℕ) (y : Y) → slice_get (filter_map h xs) k ≡ Some y → (x : X) × (h x ≡ Some y)
mapped_from h [] k y e = absurd (none-some y e)
mapped_from {X} {Y} h (x ∷ xs) k y e = by (h x) refl k e (mapped_from h xs)
  where
    by : (found : Option Y) → h x ≡ found → (j : ℕ) → slice_get (cons_option found (filter_map h xs)) j ≡ Some y
        → ((i : ℕ) (z : Y) → slice_get (filter_map h xs) i ≡ Some z → (x' : X) × (h x' ≡ Some z)) → (x' : X) × (h x' ≡ Some y)
    by None there j f rest = rest j y f
    by (Some z) there zero f rest = (x, there ∙ f)
    by (Some z) there (suc j) f rest = rest j y f

-- ---- a block that an end names

-- the block of this number stands in the System
pub record IsNamedBlock (items : List Item) (system number : ℕ) : Type 0 where
  pub place : ℕ
  pub there : slice_get (blocks_of items) number ≡ Some place
  pub inside : holder_of items place ≡ Some system

named_block : (items : List Item) (system : ℕ) (name : List ℕ) (number : ℕ) → number_of items system name ≡ Some number → IsNamedBlock items system number
named_block items system name number e =
    let h = position-Some (is_named_in items system name) (blocks_of items) number 0 e in
    record {
      place = get_or (blocks_of items) number 0;
      there = slice_get-get_or (blocks_of items) number 0 h.0;
      inside = by_holder (holder_of items (get_or (blocks_of items) number 0)) refl h.1;
    }
  where
    by_test : (place holder : ℕ) (b : Bool) → (holder == system) ≡ b → holder_of items place ≡ Some holder → (b && says items place (codes "Name") name) ≡ true → holder_of items place ≡ Some system
    by_test place holder true t there f = there ∙ ap Some (eqb-true holder system t)
    by_test place holder false t there f = absurd (true≢false (sym f))

    by_holder : (found : Option ℕ) → holder_of items (get_or (blocks_of items) number 0) ≡ found
        → is_named_in items system name (get_or (blocks_of items) number 0) ≡ true
        → holder_of items (get_or (blocks_of items) number 0) ≡ Some system
    by_holder None there f = absurd (true≢false
        (sym (sym (ap (λ (o : Option ℕ). elim o [ None ↦ false | Some holder ↦ holder == system ]
        && says items (get_or (blocks_of items) number 0) (codes "Name") name) there) ∙ f)))
    by_holder (Some holder) there f =
        by_test (get_or (blocks_of items) number 0) holder (holder == system) refl there
        (sym (ap (λ (o : Option ℕ). elim o [ None ↦ false | Some other ↦ other == system ] && says items (get_or (blocks_of items) number 0) (codes "Name") name) there) ∙ f)

named_by_block : (items : List Item) (line : ℕ) (name : Option (List ℕ)) (number : ℕ)
    → named_by items line name ≡ Some number
    → (system : ℕ) × (holder_of items line ≡ Some system) × IsNamedBlock items system number
named_by_block items line None number e = absurd (none-some number e)
named_by_block items line (Some name) number e = by (holder_of items line) refl e
  where
    by : (found : Option ℕ) → holder_of items line ≡ found
        → at None (λ system. number_of items system name) found ≡ Some number
        → (system : ℕ) × (holder_of items line ≡ Some system) × IsNamedBlock items system number
    by None there f = absurd (none-some number f)
    by (Some system) there f = (system, there, named_block items system name number f)

-- ---- ports

port_between : (text : Option (List ℕ)) (port : ℕ) → port_of text ≡ Some port → IsBetween 1 20000 port
port_between None port e = let same : 1 ≡ port = same_Some 1 port e in (omega (arith, same), omega (arith, same))
port_between (Some text) port e = by (is_port text) refl e
  where
    by : (b : Bool) → is_port text ≡ b → cond b (Some (digits_value 10 text)) None ≡ Some port → IsBetween 1 20000 port
    by true t f =
        let same : digits_value 10 text ≡ port = same_Some (digits_value 10 text) port f in
        let high = leb-true (digits_value 10 text) 20000
        (right_true (nat_lt 0 (length text) && list_all is_ascii_digit text && nat_le 1 (digits_value 10 text))
        (nat_le (digits_value 10 text) 20000) t) in
        let low = leb-true 1 (digits_value 10 text)
        (right_true (nat_lt 0 (length text) && list_all is_ascii_digit text) (nat_le 1 (digits_value 10 text))
        (left_true (nat_lt 0 (length text) && list_all is_ascii_digit text
        && nat_le 1 (digits_value 10 text)) (nat_le (digits_value 10 text) 20000) t)) in
        (omega (arith, same, low), omega (arith, same, high))
    by false t f = absurd (none-some port f)

target_between : (text : Option (List ℕ)) (target : Target) → target_of text ≡ Some target → IsTarget target
target_between None target e = subst IsTarget (same_Some (Target.Port 1) target e) (omega arith, omega arith)
target_between (Some text) target e = by (bytes_eq text (codes "enable")) e
  where
    by_port : (found : Option ℕ) → port_of (Some text) ≡ found → to_port found ≡ Some target → IsTarget target
    by_port None there f = absurd (none-some target f)
    by_port (Some port) there f = subst IsTarget (same_Some (Target.Port port) target f) (port_between (Some text) port there)

    by : (b : Bool) → cond b (Some Target.Enable) (to_port (port_of (Some text))) ≡ Some target → IsTarget target
    by true f = subst IsTarget (same_Some Target.Enable target f) tt
    by false f = by_port (port_of (Some text)) refl f

-- ---- both ends

pub record IsSourceOf (items : List Item) (line : ℕ) (source : Source) : Type 0 where
  pub system : ℕ
  pub held : holder_of items line ≡ Some system
  pub block : IsNamedBlock items system source.from
  pub port : IsBetween 1 20000 source.port

source_parts : (items : List Item) (line : ℕ) (source : Source) → source_of items line ≡ Some source → IsSourceOf items line source
source_parts items line source e =
    by (named_by items line (value_of items line (codes "SrcBlock"))) refl (port_of (value_of items line (codes "SrcPort"))) refl e
  where
    by : (from : Option ℕ) → named_by items line (value_of items line (codes "SrcBlock")) ≡ from → (port : Option ℕ)
        → port_of (value_of items line (codes "SrcPort")) ≡ port → source_from from port ≡ Some source
        → IsSourceOf items line source
    by None there port is f = absurd (none-some source f)
    by (Some from) there None is f = absurd (none-some source f)
    by (Some from) there (Some port) is f =
        let same : record { from = from; port = port } ≡ source = same_Some _ source f in
        let h = named_by_block items line (value_of items line (codes "SrcBlock")) from there in
        record {
          system = h.0;
          held = h.1;
          block = subst (IsNamedBlock items h.0) (ap (λ (s : Source). s.from) same) h.2;
          port = subst (IsBetween 1 20000) (ap (λ (s : Source). s.port) same) (port_between (value_of items line (codes "SrcPort")) port is);
        }

pub record IsGoalOf (items : List Item) (line to : ℕ) (target : Target) : Type 0 where
  pub system : ℕ
  pub held : holder_of items line ≡ Some system
  pub block : IsNamedBlock items system to
  pub port : IsTarget target

goal_parts : (items : List Item) (line place to : ℕ) (target : Target) → goal_of items line place ≡ Goal.To to target → IsGoalOf items line to target
goal_parts items line place to target e = by (value_of items place (codes "DstBlock")) e
  where
    by_ends : (name : List ℕ) (found : Option ℕ) → named_by items line (Some name) ≡ found → (port : Option Target)
        → target_of (value_of items place (codes "DstPort")) ≡ port → goal_to found port ≡ Goal.To to target
        → IsGoalOf items line to target
    by_ends name None there port is f = let bad : Goal.Wrong ≡ Goal.To to target = f in cc
    by_ends name (Some other) there None is f = let bad : Goal.Wrong ≡ Goal.To to target = f in cc
    by_ends name (Some other) there (Some end) is f =
        let same_to : other ≡ to = cc in
        let same_target : end ≡ target = cc in
        let h = named_by_block items line (Some name) other there in
        record {
          system = h.0;
          held = h.1;
          block = subst (IsNamedBlock items h.0) same_to h.2;
          port = subst IsTarget same_target (target_between (value_of items place (codes "DstPort")) end is);
        }

    by : (name : Option (List ℕ)) → goal_by items line name (value_of items place (codes "DstPort")) ≡ Goal.To to target → IsGoalOf items line to target
    by None f = let bad : Goal.Nowhere ≡ Goal.To to target = f in cc
    by (Some name) f = by_ends name (named_by items line (Some name)) refl (target_of (value_of items place (codes "DstPort"))) refl f

-- ---- a line

zip_to : {X Y : Type 0} (R : X → Y → Type 0) (xs : List X) (ys : List Y) → AllZip R xs ys → (k : ℕ) (x : X) → slice_get xs k ≡ Some x → (y : Y) × (slice_get ys k ≡ Some y) × R x y
zip_to R [] [] all k x at = absurd (none-some x at)
zip_to R [] (y ∷ ys) all k x at = absurd (none-some x at)
zip_to R (z ∷ zs) [] all k x at = absurd all
zip_to R (z ∷ zs) (y ∷ ys) all zero x at = (y, refl, subst (λ w. R w y) (same_Some z x at) all.0)
zip_to R (z ∷ zs) (y ∷ ys) all (suc k) x at = zip_to R zs ys all.1 k x at

module _ (items : List Item) (blocks : List NestedBlock) (all : AllZip (IsBlockAt items) (blocks_of items) blocks) where
  -- blocks of one System have one parent
  joined_parents : (system one other : ℕ) → IsNamedBlock items system one → IsNamedBlock items system other
      → MatchOption (slice_get blocks one) ⊥ (λ source. MatchOption (slice_get blocks other) ⊥ (λ target. source.parent ≡ target.parent))
  joined_parents system one other from to =
      let a = zip_to (IsBlockAt items) (blocks_of items) blocks all one from.place from.there in
      let b = zip_to (IsBlockAt items) (blocks_of items) blocks all other to.place to.there in
      let parent : parent_of items from.place ≡ parent_of items to.place =
      ap (λ (found : Option ℕ). at None (λ s. at None (λ holder. if_subsystem holder (role_of items holder)) (holder_of items s)) found) (from.inside ∙ sym to.inside) in
      let same : (a.0).parent ≡ (b.0).parent = (a.2).parent ∙ ap (option_map (number_at items)) parent ∙ sym (b.2).parent in
      subst (λ (f : Option NestedBlock). MatchOption f ⊥ (λ source. MatchOption (slice_get blocks other) ⊥ (λ target. source.parent ≡ target.parent))) (sym a.1)
      (subst (λ (f : Option NestedBlock). MatchOption f ⊥ (λ target. (a.0).parent ≡ target.parent)) (sym b.1) same)

  line_sound : (own place : ℕ) (line : NestedLine) → IsFrom (source_of items own) (goal_of items own place) line → JoinsWithin blocks line
  line_sound own place line is =
      let source = source_parts items own is.own is.source_is in
      let goal = goal_parts items own place is.to is.target is.goal_is in
      let system : goal.system ≡ source.system = same_Some goal.system source.system (sym goal.held ∙ source.held) in
      let to_block : IsNamedBlock items source.system line.to = subst (IsNamedBlock items source.system) (sym is.to_is) (subst (λ (s : ℕ). IsNamedBlock items s is.to) system goal.block) in
      let from_block : IsNamedBlock items source.system line.from = subst (IsNamedBlock items source.system) (sym is.from_is) source.block in
      record {
        system = joined_parents source.system line.from line.to from_block to_block;
        from_port = subst (IsBetween 1 20000) (sym is.port_is) source.port;
        target = subst IsTarget (sym is.target_is) goal.port;
      }

  -- each line joins blocks of one System
  pub sound_lines : (lines : List NestedLine) → lines ≡ lines_of items → All (JoinsWithin blocks) lines
  sound_lines lines are k d below =
      let there : slice_get (lines_of items) k ≡ Some (get_or lines k d) = ap (λ (list : List NestedLine). slice_get list k) (sym are) ∙ slice_get-get_or lines k d below in
      let h = mapped_from (λ (place : ℕ). line_at items place (role_of items place)) (places_of items) k (get_or lines k d) there in
      let b = branch_line_at items h.0 (role_of items h.0) (get_or lines k d) h.1 in
      line_sound b.0 h.0 (get_or lines k d) b.1
