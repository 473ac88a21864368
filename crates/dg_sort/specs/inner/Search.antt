-- The steps of the search in depth, as plain functions of its state (own).
use Rattle.std.specs.Prelude.{◌≡◌, ℕ, ◌-◌, ◌<◌, ◌≤◌, ◌++◌, min, Bool, true, false, if◌then◌else◌, List, [], ◌∷◌, length, take, drop, replicate, slice_get, slice_set, Option, Some, None}
use Rattle.dg_sort.specs.declared.search.Mark.{Mark}
use Rattle.dg_sort.specs.declared.search.Mark.TheVariants.{Unmet, Held, Placed}
use Rattle.dg_sort.specs.declared.search.Group.{Group}
use Rattle.dg_sort.specs.declared.search.Search.{Search}
use Rattle.fx_io.specs.Rows.{row_at}

-- the state of a search, as lists
pub record Walk : Type 0 where
  pub marks : List Mark
  pub held : List ℕ
  pub groups : List Group
  pub edges : List ℕ
  pub order : List ℕ
  pub first : Option ℕ

abbrev pub seen : Search → Walk
seen search = record { marks = search.marks.items; held = search.held.items; groups = search.groups.items; edges = search.edges.items; order = search.order.items; first = search.first }

-- before any block is met
abbrev pub begun : ℕ → Walk
begun count = record { marks = replicate count Unmet; held = []; groups = []; edges = []; order = []; first = None }

-- a block is held, as a group of its own
abbrev pub met : List (List ℕ) → Walk → ℕ → Walk
met rows walk block = record {
  marks = slice_set walk.marks block (Held (length walk.held));
  held = walk.held ++ block ∷ [];
  groups = walk.groups ++ record { start = length walk.held; edges = length walk.edges; is_cycle = false } ∷ [];
  edges = walk.edges ++ row_at rows block;
  order = walk.order;
  first = walk.first;
}

-- the lesser of a block and another, where there is another
abbrev pub lowered : Option ℕ → ℕ → Option ℕ
lowered None block = Some block
lowered (Some other) block = Some (min other block)

-- the least of some blocks and another, where they lie on a cycle
abbrev pub least_of : Bool → List ℕ → Option ℕ → Option ℕ
least_of is_cycle [] first = first
least_of is_cycle (block ∷ blocks) first = least_of is_cycle blocks (if is_cycle then lowered first block else first)

-- the marks once some blocks are placed
abbrev pub placed_marks : ℕ → List ℕ → List Mark → List Mark
placed_marks rank [] marks = marks
placed_marks rank (block ∷ blocks) marks = placed_marks rank blocks (slice_set marks block (Placed rank))

-- the blocks of the last group are placed
abbrev pub placed : Walk → Group → Walk
placed walk group = record {
  marks = placed_marks (length walk.order) (drop group.start walk.held) walk.marks;
  held = take group.start walk.held;
  groups = take (length walk.groups - 1) walk.groups;
  edges = walk.edges;
  order = walk.order ++ drop group.start walk.held;
  first = least_of group.is_cycle (drop group.start walk.held) walk.first;
}

-- a group that lies on a cycle
abbrev pub on_cycle : Group → Group
on_cycle group = record group { is_cycle = true }

-- some group begins no later than this place
pub record CanJoin (groups : List Group) (place : ℕ) : Type 0 where
  pub bottom : Group
  pub there : slice_get groups 0 ≡ Some bottom
  pub low : bottom.start ≤ place

-- the groups from that of a place on are one
pub record IsJoined (groups joined : List Group) (place : ℕ) : Type 0 where
  pub last : ℕ
  pub group : Group
  pub there : slice_get groups last ≡ Some group
  pub low : group.start ≤ place
  pub above : (k : ℕ) (other : Group) → last < k → slice_get groups k ≡ Some other → place < other.start
  pub are : joined ≡ take last groups ++ on_cycle group ∷ []

-- all but the groups stays
pub record KeepsAllButGroups (walk after : Walk) : Type 0 where
  pub marks : after.marks ≡ walk.marks
  pub held : after.held ≡ walk.held
  pub edges : after.edges ≡ walk.edges
  pub order : after.order ≡ walk.order
  pub first : after.first ≡ walk.first
