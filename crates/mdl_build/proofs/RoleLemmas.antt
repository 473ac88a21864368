-- Where the roles of items come from, and what stands above a block.
use Rattle.std.proofs.Common.{◌≡◌, ℕ, zero, suc, ◌+◌, ◌<◌, ◌≤◌, ◌⊎◌, inl, inr, ⊎_elim, Bool, true, false, cond, List, [], ◌++◌, length, Option, Some, None, refl, sym, ap, ◌∙◌, true≢false, eqb-true}
use Rattle.std.proofs.Common.{get_or, arith}
use Rattle.std.specs.Prelude.{◌==◌, nat_lt, codes, is_some}
use Rattle.std.proofs.lemmas.List.FromFn.{length-map-range_with_len, get_or-map-range_with_len}
use Rattle.std.proofs.lemmas.Option.{none-some, same_Some}
use Rattle.mdl_text.specs.declared.tree.Item.{Item}
use Rattle.mdl_build.specs.declared.roles.Role.{Role}
use Rattle.mdl_build.specs.declared.roles.Role.TheVariants.{Other, Model, System, Block, SubSystem, Filter, Branch, Defaults, TypeDefaults}
use Rattle.mdl_build.specs.Blocks.{at, if_subsystem, parent_of, path_name, path_at, path_of}
use Rattle.mdl_build.specs.Roles.{role_of, roles_of, role_at, role_if, role_under, block_role, line_role, deeper, says, is_block}
use Rattle.mdl_build.specs.Sections.{is_section_at, depth_at, last_above, holder_of, value_of}
use Rattle.mdl_build.specs.inner.Paths.{path_above}

-- ---- holders

pub above_before : (items : List Item) (depth k holder : ℕ) → last_above items depth k ≡ Some holder → holder < k
above_before items depth zero holder e = absurd (none-some holder e)
above_before items depth (suc k) holder e = by (above_before items depth k holder) (nat_lt (depth_at items k) depth) e
  where
    by : (last_above items depth k ≡ Some holder → holder < k) → (b : Bool) → cond b (Some k) (last_above items depth k) ≡ Some holder → holder < suc k
    by before true there = let same : k ≡ holder = same_Some k holder there in omega (arith, same)
    by before false there = let less : holder < k = before there in omega (arith, less)

pub holder_before : (items : List Item) (place holder : ℕ) → holder_of items place ≡ Some holder → holder < place
holder_before items place holder e = above_before items (depth_at items place) place holder e

-- ---- roles by the section around

-- an item stands directly in the section at `holder`, whose role gives its own
pub record IsUnder (items : List Item) (place holder : ℕ) : Type 0 where
  pub at_holder : holder_of items place ≡ Some holder
  pub deeper_by : depth_at items place ≡ suc (depth_at items holder)
  pub role_is : role_of items place ≡ role_under items holder (role_of items holder) place

abbrev pub RoleCases : List Item → ℕ → Type 0
RoleCases items place = (role_of items place ≡ Other) ⊎ ((role_of items place ≡ Model) ⊎ ((holder : ℕ) × IsUnder items place holder))

module _ (items : List Item) (place : ℕ) where
  by_outer : depth_at items place ≡ 0 → (b : Bool) → is_section_at items place (codes "Model") ≡ b → RoleCases items place
  by_outer e true t = inr (inl (ap (λ (d : ℕ). role_at items d place) e ∙ ap (λ (b : Bool). cond b Model Other) t))
  by_outer e false t = inl (ap (λ (d : ℕ). role_at items d place) e ∙ ap (λ (b : Bool). cond b Model Other) t)

  by_test : (depth holder : ℕ) → depth_at items place ≡ suc depth → last_above items (suc depth) place ≡ Some holder
      → (b : Bool) → (depth_at items holder == depth) ≡ b → RoleCases items place
  by_test depth holder e there true t =
      let same : depth_at items holder ≡ depth = eqb-true (depth_at items holder) depth t in
      inr (inr (
        holder,
        record {
          at_holder = ap (λ (d : ℕ). last_above items d place) e ∙ there;
          deeper_by = e ∙ ap suc (sym same);
          role_is =
              ap (λ (d : ℕ). role_at items d place) e
              ∙ ap (role_if items depth (role_at items depth) place) there
              ∙ ap (λ (b : Bool). cond b (role_under items holder (role_at items depth holder) place) Other) t
              ∙ ap (λ (d : ℕ). role_under items holder (role_at items d holder) place) (sym same);
        },
      ))
  by_test depth holder e there false t =
      inl (ap (λ (d : ℕ). role_at items d place) e
      ∙ ap (role_if items depth (role_at items depth) place) there
      ∙ ap (λ (b : Bool). cond b (role_under items holder (role_at items depth holder) place) Other) t)

  by_holder : (depth : ℕ) → depth_at items place ≡ suc depth → (found : Option ℕ) → last_above items (suc depth) place ≡ found → RoleCases items place
  by_holder depth e None there = inl (ap (λ (d : ℕ). role_at items d place) e ∙ ap (role_if items depth (role_at items depth) place) there)
  by_holder depth e (Some holder) there = by_test depth holder e there (depth_at items holder == depth) refl

  by_depth : (depth : ℕ) → depth_at items place ≡ depth → RoleCases items place
  by_depth zero e = by_outer e (is_section_at items place (codes "Model")) refl
  by_depth (suc depth) e = by_holder depth e (last_above items (suc depth) place) refl

  pub role_cases : RoleCases items place
  role_cases = by_depth (depth_at items place) refl

choose : (P : Role → Type 0) (b : Bool) (x y : Role) → P x → P y → P (cond b x y)
choose P true x y p q = p
choose P false x y p q = q

module _ (items : List Item) (holder place : ℕ) where
  -- what stands directly in a System alone is a block
  under_block : (role : Role) → is_block (role_under items holder role place) ≡ true → (level : ℕ) × (role ≡ System level)
  under_block Other e = absurd (true≢false (sym e))
  under_block Model e = choose (λ r. is_block r ≡ true → (level : ℕ) × (Model ≡ System level))
      (is_section_at items place (codes "System")) (System 1)
      (cond (is_section_at items place (codes "BlockParameterDefaults")) Defaults Other)
      (λ n. absurd (true≢false (sym n))) (choose (λ r. is_block r ≡ true → (level : ℕ) × (Model ≡ System level))
      (is_section_at items place (codes "BlockParameterDefaults")) Defaults Other
      (λ n. absurd (true≢false (sym n))) (λ n. absurd (true≢false (sym n)))) e
  under_block (System level) e = (level, refl)
  under_block (Block level) e = absurd (true≢false (sym e))
  under_block (SubSystem level) e = choose (λ r. is_block r ≡ true → (l : ℕ) × (SubSystem level ≡ System l))
      (is_section_at items place (codes "System")) (System (deeper level)) Other (λ n. absurd (true≢false (sym n)))
      (λ n. absurd (true≢false (sym n))) e
  under_block (Filter level) e = absurd (true≢false (sym e))
  under_block (Branch line) e = choose (λ r. is_block r ≡ true → (l : ℕ) × (Branch line ≡ System l))
      (is_section_at items place (codes "Branch")) (Branch line) Other (λ n. absurd (true≢false (sym n)))
      (λ n. absurd (true≢false (sym n))) e
  under_block Defaults e = choose (λ r. is_block r ≡ true → (l : ℕ) × (Defaults ≡ System l))
      (is_section_at items place (codes "Block")) (TypeDefaults holder) Other (λ n. absurd (true≢false (sym n)))
      (λ n. absurd (true≢false (sym n))) e
  under_block (TypeDefaults section) e = absurd (true≢false (sym e))

  abbrev BranchGoal : Role → ℕ → Type 0
  BranchGoal role line = (line ≡ place) ⊎ (role ≡ Branch line)

  -- a branch is a line, or a branch of what it stands in
  under_branch : (line : ℕ) (role : Role) → role_under items holder role place ≡ Branch line → BranchGoal role line
  under_branch line Other e = cc
  under_branch line Model e = choose (λ r. r ≡ Branch line → BranchGoal Model line)
      (is_section_at items place (codes "System")) (System 1)
      (cond (is_section_at items place (codes "BlockParameterDefaults")) Defaults Other)
      (λ n. cc) (choose (λ r. r ≡ Branch line → BranchGoal Model line) (is_section_at items place (codes "BlockParameterDefaults")) Defaults Other (λ n. cc) (λ n. cc)) e
  under_branch line (System level) e = choose (λ r. r ≡ Branch line → BranchGoal (System level) line)
      (is_section_at items place (codes "Block")) (block_role items level place)
      (cond (is_section_at items place (codes "Line")) (line_role items place) Other)
      (choose (λ r. r ≡ Branch line → BranchGoal (System level) line)
      (says items place (codes "BlockType") (codes "SubSystem")) (SubSystem level)
      (cond (says items place (codes "BlockType") (codes "DiscreteFir")) (Filter level) (Block level))
      (λ n. cc)
      (choose (λ r. r ≡ Branch line → BranchGoal (System level) line) (says items place (codes "BlockType") (codes "DiscreteFir")) (Filter level) (Block level) (λ n. cc) (λ n. cc)))
      (choose (λ r. r ≡ Branch line → BranchGoal (System level) line) (is_section_at items place (codes "Line")) (line_role items place) Other
      (choose (λ r. r ≡ Branch line → BranchGoal (System level) line)
      (is_some (value_of items place (codes "SrcBlock"))) (Branch place) Other
      (λ n. let same : line ≡ place = cc in inl same) (λ n. cc))
      (λ n. cc)) e
  under_branch line (Block level) e = cc
  under_branch line (SubSystem level) e =
      choose (λ r. r ≡ Branch line → BranchGoal (SubSystem level) line) (is_section_at items place (codes "System"))
      (System (deeper level)) Other (λ n. cc) (λ n. cc) e
  under_branch line (Filter level) e = cc
  under_branch line (Branch other) e = choose (λ r. r ≡ Branch line → BranchGoal (Branch other) line) (is_section_at items place (codes "Branch")) (Branch other) Other (λ n. inr n) (λ n. cc) e
  under_branch line Defaults e = choose (λ r. r ≡ Branch line → BranchGoal Defaults line) (is_section_at items place (codes "Block")) (TypeDefaults holder) Other (λ n. cc) (λ n. cc) e
  under_branch line (TypeDefaults section) e = cc

  abbrev SystemGoal : Role → ℕ → Type 0
  SystemGoal role level = ((role ≡ Model) × (level ≡ 1)) ⊎ ((outer : ℕ) × (role ≡ SubSystem outer) × (level ≡ deeper outer))

  -- a System stands in the Model or in a subsystem
  under_system : (level : ℕ) (role : Role) → role_under items holder role place ≡ System level → SystemGoal role level
  under_system level Other e = cc
  under_system level Model e = choose (λ r. r ≡ System level → SystemGoal Model level)
      (is_section_at items place (codes "System")) (System 1)
      (cond (is_section_at items place (codes "BlockParameterDefaults")) Defaults Other)
      (λ n. let one : level ≡ 1 = cc in inl (refl, one))
      (choose (λ r. r ≡ System level → SystemGoal Model level)
      (is_section_at items place (codes "BlockParameterDefaults")) Defaults Other (λ n. cc) (λ n. cc)) e
  under_system level (System outer) e = choose (λ r. r ≡ System level → SystemGoal (System outer) level)
      (is_section_at items place (codes "Block")) (block_role items outer place)
      (cond (is_section_at items place (codes "Line")) (line_role items place) Other)
      (choose (λ r. r ≡ System level → SystemGoal (System outer) level)
      (says items place (codes "BlockType") (codes "SubSystem")) (SubSystem outer)
      (cond (says items place (codes "BlockType") (codes "DiscreteFir")) (Filter outer) (Block outer))
      (λ n. cc)
      (choose (λ r. r ≡ System level → SystemGoal (System outer) level) (says items place (codes "BlockType") (codes "DiscreteFir")) (Filter outer) (Block outer) (λ n. cc) (λ n. cc)))
      (choose (λ r. r ≡ System level → SystemGoal (System outer) level) (is_section_at items place (codes "Line")) (line_role items place) Other
      (choose (λ r. r ≡ System level → SystemGoal (System outer) level) (is_some (value_of items place (codes "SrcBlock"))) (Branch place) Other (λ n. cc) (λ n. cc))
      (λ n. cc)) e
  under_system level (Block outer) e = cc
  under_system level (SubSystem outer) e =
      choose (λ r. r ≡ System level → SystemGoal (SubSystem outer) level)
      (is_section_at items place (codes "System")) (System (deeper outer)) Other
      (λ n. let same : level ≡ deeper outer = cc in inr (outer, refl, same)) (λ n. cc) e
  under_system level (Filter outer) e = cc
  under_system level (Branch line) e = choose (λ r. r ≡ System level → SystemGoal (Branch line) level) (is_section_at items place (codes "Branch")) (Branch line) Other (λ n. cc) (λ n. cc) e
  under_system level Defaults e = choose (λ r. r ≡ System level → SystemGoal Defaults level) (is_section_at items place (codes "Block")) (TypeDefaults holder) Other (λ n. cc) (λ n. cc) e
  under_system level (TypeDefaults section) e = cc

-- ---- what a block, a System and a branch stand in

-- the System of a block
pub record BlockAbove (items : List Item) (place : ℕ) : Type 0 where
  pub system : ℕ
  pub under : IsUnder items place system
  pub level : ℕ
  pub system_is : role_of items system ≡ System level

pub block_above : (items : List Item) (place : ℕ) → is_block (role_of items place) ≡ true → BlockAbove items place
block_above items place is =
    ⊎_elim
    (λ (other : role_of items place ≡ Other). absurd (true≢false (sym is ∙ ap is_block other)))
    (λ rest. ⊎_elim
    (λ (model : role_of items place ≡ Model). absurd (true≢false (sym is ∙ ap is_block model)))
    (λ u.
    let h = under_block items u.0 place (role_of items u.0) (sym (ap is_block (u.1).role_is) ∙ is) in
    record { system = u.0; under = u.1; level = h.0; system_is = h.1 })
    rest)
    (role_cases items place)

-- the section of a System
pub record SystemAbove (items : List Item) (place level : ℕ) : Type 0 where
  pub holder : ℕ
  pub under : IsUnder items place holder
  pub holder_is : SystemGoal items holder place (role_of items holder) level

pub system_above : (items : List Item) (place level : ℕ) → role_of items place ≡ System level → SystemAbove items place level
system_above items place level is =
    ⊎_elim
    (λ (other : role_of items place ≡ Other). let bad : Other ≡ System level = sym other ∙ is in cc)
    (λ rest. ⊎_elim
    (λ (model : role_of items place ≡ Model). let bad : Model ≡ System level = sym model ∙ is in cc)
    (λ u. record { holder = u.0; under = u.1; holder_is = under_system items u.0 place level (role_of items u.0) (sym (u.1).role_is ∙ is) })
    rest)
    (role_cases items place)

-- the line of a branch stands at or before it
branch_below : (items : List Item) (bound place line : ℕ) → place < bound → role_of items place ≡ Branch line → (line ≤ place) × (role_of items line ≡ Branch line)
branch_below items zero place line less is = absurd (omega (arith, less))
branch_below items (suc bound) place line less is =
    ⊎_elim
    (λ (other : role_of items place ≡ Other). let bad : Other ≡ Branch line = sym other ∙ is in cc)
    (λ rest. ⊎_elim
    (λ (model : role_of items place ≡ Model). let bad : Model ≡ Branch line = sym model ∙ is in cc)
    (λ u. ⊎_elim
    (λ (same : line ≡ place). (omega (arith, same), ap (role_of items) same ∙ is))
    (λ (inner : role_of items u.0 ≡ Branch line).
    let before = holder_before items place u.0 (u.1).at_holder in
    let h = branch_below items bound u.0 line (omega (arith, before, less)) inner in
    (omega (arith, before, h.0), h.1))
    (under_branch items u.0 place line (role_of items u.0) (sym (u.1).role_is ∙ is)))
    rest)
    (role_cases items place)

pub branch_line : (items : List Item) (place line : ℕ) → role_of items place ≡ Branch line → (line ≤ place) × (role_of items line ≡ Branch line)
branch_line items place line is = branch_below items (suc place) place line (omega arith) is

-- ---- the subsystem above, and paths

abbrev holder_part : List Item → Option ℕ → Option ℕ
holder_part items found = at None (λ holder. if_subsystem holder (role_of items holder)) found

if_sub : (items : List Item) (holder parent : ℕ) (role : Role) → role_of items holder ≡ role → if_subsystem holder role ≡ Some parent → (parent ≡ holder) × (is_block (role_of items parent) ≡ true)
if_sub items holder parent Other r e = absurd (none-some parent e)
if_sub items holder parent Model r e = absurd (none-some parent e)
if_sub items holder parent (System level) r e = absurd (none-some parent e)
if_sub items holder parent (Block level) r e = absurd (none-some parent e)
if_sub items holder parent (SubSystem level) r e =
    let same : holder ≡ parent = same_Some holder parent e in
    (sym same, ap (λ (p : ℕ). is_block (role_of items p)) (sym same) ∙ ap is_block r)
if_sub items holder parent (Filter level) r e = absurd (none-some parent e)
if_sub items holder parent (Branch line) r e = absurd (none-some parent e)
if_sub items holder parent Defaults r e = absurd (none-some parent e)
if_sub items holder parent (TypeDefaults section) r e = absurd (none-some parent e)

-- the subsystem above stands before, and is a block
pub parent_before : (items : List Item) (place parent : ℕ) → parent_of items place ≡ Some parent → (parent < place) × (is_block (role_of items parent) ≡ true)
parent_before items place parent e = by (holder_of items place) refl e
  where
    by_holder : (system : ℕ) → system < place → (found : Option ℕ) → holder_of items system ≡ found
        → holder_part items found ≡ Some parent → (parent < place) × (is_block (role_of items parent) ≡ true)
    by_holder system less None there is = absurd (none-some parent is)
    by_holder system less (Some holder) there is =
        let h = if_sub items holder parent (role_of items holder) refl is in
        let before = holder_before items system holder there in
        (omega (arith, less, before, h.0), h.1)

    by : (found : Option ℕ) → holder_of items place ≡ found
        → at None (λ system. holder_part items (holder_of items system)) found ≡ Some parent
        → (parent < place) × (is_block (role_of items parent) ≡ true)
    by None there is = absurd (none-some parent is)
    by (Some system) there is = by_holder system (holder_before items place system there) (holder_of items system) refl is

-- what stands above a name in a path, at a depth
abbrev above_at : List Item → ℕ → Option ℕ → List ℕ
above_at items depth found = at [] (λ parent. path_at items depth parent ++ codes "/") found

-- the path of a block is what stands above it, and its name
pub path_step : (items : List Item) (place : ℕ) → is_block (role_of items place) ≡ true → path_of items place ≡ path_above items place ++ path_name (value_of items place (codes "Name"))
path_step items place is =
    ap (λ (d : ℕ). path_at items d place) deep
    ∙ ap (λ (front : List ℕ). front ++ path_name (value_of items place (codes "Name")))
    (⊎_elim
    (λ model. ap (above_at items (depth_at items above.holder)) (parent_is ∙ ap (if_subsystem above.holder) model.0)
    ∙ sym (ap (λ (found : Option ℕ). at [] (λ parent. path_of items parent ++ codes "/") found) (parent_is ∙ ap (if_subsystem above.holder) model.0)))
    (λ sub. ap (above_at items (depth_at items above.holder)) (parent_is ∙ ap (if_subsystem above.holder) sub.1)
    ∙ sym (ap (λ (found : Option ℕ). at [] (λ parent. path_of items parent ++ codes "/") found) (parent_is ∙ ap (if_subsystem above.holder) sub.1)))
    above.holder_is)
  where
    own : BlockAbove items place
    own = block_above items place is

    above : SystemAbove items (own.system) (own.level)
    above = system_above items own.system own.level own.system_is

    deep : depth_at items place ≡ suc (suc (depth_at items above.holder))
    deep = own.under.deeper_by ∙ ap suc above.under.deeper_by

    parent_is : parent_of items place ≡ if_subsystem above.holder (role_of items above.holder)
    parent_is = ap (λ (found : Option ℕ). at None (λ system. holder_part items (holder_of items system)) found) own.under.at_holder ∙ ap (holder_part items) above.under.at_holder

-- ---- the list of all roles

pub roles_long : (items : List Item) (roles : List Role) → roles ≡ roles_of items → length roles ≡ length items
roles_long items roles e = ap length e ∙ length-map-range_with_len (role_of items) 0 (length items)

-- it has the role of each item
pub role_here : (items : List Item) (roles : List Role) (place : ℕ) (d : Role) → roles ≡ roles_of items → place < length items → role_of items place ≡ get_or roles place d
role_here items roles place d e below =
    let f : 0 + place ≡ place = omega arith in
    sym (ap (λ (list : List Role). get_or list place d) e ∙ get_or-map-range_with_len (role_of items) 0 (length items) place place d below f)

-- an item has the role that stands at its place in the list
pub role_listed : (items : List Item) (roles : List Role) (place : ℕ) (d : Role) → roles ≡ roles_of items → place < length roles → role_of items place ≡ get_or roles place d
role_listed items roles place d e inside = role_here items roles place d e (omega (arith, inside, roles_long items roles e))
