-- What the search in depth keeps: which blocks lead back to which, and what is left to be looked at
-- (own).
use Rattle.std.specs.Prelude.{◌≡◌, ℕ, suc, ◌+◌, ◌<◌, ◌≤◌, ◌⊎◌, Bool, true, false, List, [], ◌∷◌, length, slice_get, Option, Some, None, MatchOption, ⊤}
use Rattle.dg_sort.specs.declared.search.Mark.{Mark}
use Rattle.dg_sort.specs.declared.search.Mark.TheVariants.{Unmet, Held, Placed}
use Rattle.dg_sort.specs.declared.search.Group.{Group}
use Rattle.dg_sort.specs.Rows.{Reads}
use Rattle.dg_sort.specs.inner.Back.{LeadsBack, IsOnCycle}
use Rattle.dg_sort.specs.inner.Search.{Walk}

-- the block is less than the least one on a cycle, if there is one
abbrev pub IsBelow : Option ℕ → ℕ → Type 0
IsBelow None block = ⊤
IsBelow (Some first) block = block < first

-- the place of the order that a placed block has
pub record IsPlacedAt (order : List ℕ) (first : Option ℕ) (block rank : ℕ) : Type 0 where
  pub place : ℕ
  pub at : slice_get order place ≡ Some block
  pub low : rank ≤ place
  pub exact : IsBelow first block → rank ≡ place

-- the block is placed
pub record IsPlaced (marks : List Mark) (block : ℕ) : Type 0 where
  pub rank : ℕ
  pub at : slice_get marks block ≡ Some (Placed rank)

-- what a placed block reads is placed no later, and before it where it is less than each on a cycle
pub record IsSettled (marks : List Mark) (first : Option ℕ) (block rank source : ℕ) : Type 0 where
  pub other : ℕ
  pub at : slice_get marks source ≡ Some (Placed other)
  pub low : other ≤ rank
  pub lower : IsBelow first block → other < rank

-- from this place on a group's blocks may read each other
abbrev pub floor_of : Bool → ℕ → ℕ
floor_of true start = start
floor_of false start = suc start

-- the block is held at such a place
pub record IsHeldFrom (marks : List Mark) (low block : ℕ) : Type 0 where
  pub place : ℕ
  pub at : slice_get marks block ≡ Some (Held place)
  pub from : low ≤ place

-- the block is left to be looked at
pub record IsLeft (edges : List ℕ) (low block : ℕ) : Type 0 where
  pub place : ℕ
  pub at : slice_get edges place ≡ Some block
  pub from : low ≤ place

-- what a block of a group or after it reads is placed, held after its beginning, or left to be
-- looked at
abbrev pub IsLooked : List Mark → List ℕ → Group → ℕ → Type 0
IsLooked marks edges group source =
    IsPlaced marks source
    ⊎ (IsHeldFrom marks (floor_of group.is_cycle group.start) source
    ⊎ IsLeft edges group.edges source)

-- the block that is held at a place, which is not below another, reads a block
pub record IsReader (rows : List (List ℕ)) (held : List ℕ) (low place source : ℕ) : Type 0 where
  pub block : ℕ
  pub at : slice_get held place ≡ Some block
  pub reads : Reads rows block source
  pub from : low ≤ place

-- what is left to be looked at is read by a block of its group
pub record IsRead (rows : List (List ℕ)) (held : List ℕ) (groups : List Group)
    (low edge source : ℕ) : Type 0 where
  pub place : ℕ
  pub reader : IsReader rows held low place source
  pub before : (k : ℕ) (group : Group) → slice_get groups k ≡ Some group → edge < group.edges
      → place < group.start

-- each group that begins no later than one place begins no later than another
pub record NoneBetween (groups : List Group) (later place : ℕ) : Type 0 where
  pub begins : (k : ℕ) (group : Group) → slice_get groups k ≡ Some group → group.start ≤ later
      → group.start ≤ place

-- a group begins after a place, and no later than another
pub record BeginsAfter (groups : List Group) (low high : ℕ) : Type 0 where
  pub index : ℕ
  pub group : Group
  pub there : slice_get groups index ≡ Some group
  pub after : low < group.start
  pub within : group.start ≤ high

-- the places of marks, of held blocks and of the order
pub record ArePlaced (rows : List (List ℕ)) (marks : List Mark) (held order : List ℕ)
    (first : Option ℕ) : Type 0 where
  pub marked : length marks ≡ length rows
  pub held_at : (block place : ℕ) → slice_get marks block ≡ Some (Held place)
      → slice_get held place ≡ Some block
  pub holds : (place block : ℕ) → slice_get held place ≡ Some block
      → slice_get marks block ≡ Some (Held place)
  pub placed_at : (block rank : ℕ) → slice_get marks block ≡ Some (Placed rank)
      → IsPlacedAt order first block rank
  pub places : (place block : ℕ) → slice_get order place ≡ Some block → IsPlaced marks block
  pub once : (place other block : ℕ) → slice_get order place ≡ Some block
      → slice_get order other ≡ Some block → place ≡ other
  pub settled : (block rank source : ℕ) → slice_get marks block ≡ Some (Placed rank)
      → Reads rows block source → IsSettled marks first block rank source
  pub first_on : MatchOption first ⊤ (IsOnCycle rows)

-- the groups
pub record AreGroups (groups : List Group) (held edges : List ℕ) : Type 0 where
  pub none : groups ≡ [] → (held ≡ []) × (edges ≡ [])
  pub bottom : (group : Group) → slice_get groups 0 ≡ Some group → (group.start ≡ 0)
      × (group.edges ≡ 0)
  pub rising : (k later : ℕ) (group other : Group) → k < later → slice_get groups k ≡ Some group
      → slice_get groups later ≡ Some other → (group.start < other.start)
      × (group.edges ≤ other.edges)
  pub within : (k : ℕ) (group : Group) → slice_get groups k ≡ Some group
      → (group.start < length held) × (group.edges ≤ length edges)
  pub single : (k place : ℕ) (group : Group) → slice_get groups k ≡ Some group
      → group.is_cycle ≡ false → group.start < place → place < length held
      → BeginsAfter groups group.start place

-- what they read
pub record AreLooked (rows : List (List ℕ)) (marks : List Mark) (held : List ℕ)
    (groups : List Group) (edges : List ℕ) : Type 0 where
  pub looked : (k place block source : ℕ) (group : Group) → slice_get groups k ≡ Some group
      → group.start ≤ place → slice_get held place ≡ Some block
      → Reads rows block source → IsLooked marks edges group source
  pub left : (k edge source : ℕ) (group : Group) → slice_get groups k ≡ Some group
      → group.edges ≤ edge → slice_get edges edge ≡ Some source
      → IsRead rows held groups group.start edge source
  pub leads : (place later block source : ℕ) → slice_get held place ≡ Some block
      → slice_get held later ≡ Some source → NoneBetween groups place later
      → LeadsBack rows block source
  pub cycles : (k place block : ℕ) (group : Group) → slice_get groups k ≡ Some group
      → group.is_cycle ≡ true → group.start ≤ place
      → slice_get held place ≡ Some block → NoneBetween groups place group.start
      → IsOnCycle rows block

-- between two steps
pub record IsState (rows : List (List ℕ)) (walk : Walk) : Type 0 where
  pub places : ArePlaced rows walk.marks walk.held walk.order walk.first
  pub groups : AreGroups walk.groups walk.held walk.edges
  pub reads : AreLooked rows walk.marks walk.held walk.groups walk.edges

-- what a search still has to do: for each block that was not met its row and two more, what is left
-- to be looked at, and the groups
abbrev pub unmet_weight : List Mark → List (List ℕ) → ℕ
unmet_weight [] rows = 0
unmet_weight (mark ∷ marks) [] = 0
unmet_weight (Unmet ∷ marks) (row ∷ rows) = length row + 2 + unmet_weight marks rows
unmet_weight (Held place ∷ marks) (row ∷ rows) = unmet_weight marks rows
unmet_weight (Placed rank ∷ marks) (row ∷ rows) = unmet_weight marks rows

abbrev pub work_left : List (List ℕ) → Walk → ℕ
work_left rows walk = unmet_weight walk.marks rows + length walk.edges + length walk.groups

-- a step: the state is kept, less is left to do, and what was met stays so
pub record IsStep (rows : List (List ℕ)) (walk after : Walk) : Type 0 where
  pub state : IsState rows after
  pub less : work_left rows after < work_left rows walk
  pub unmet : (block : ℕ) → slice_get after.marks block ≡ Some Unmet
      → slice_get walk.marks block ≡ Some Unmet

-- a search from a block: nothing is held, and the block is met
pub record IsSearched (rows : List (List ℕ)) (walk after : Walk) (root : ℕ) : Type 0 where
  pub state : IsState rows after
  pub free : after.groups ≡ []
  pub met : slice_get after.marks root ≡ Some Unmet → ⊥
  pub unmet : (block : ℕ) → slice_get after.marks block ≡ Some Unmet
      → slice_get walk.marks block ≡ Some Unmet

-- each block once, each after what it reads, and none lies on a cycle; or the least that does
pub record IsInOrder (rows : List (List ℕ)) (order : List ℕ) : Type 0 where
  pub there : (place block : ℕ) → slice_get order place ≡ Some block → block < length rows
  pub once : (place other block : ℕ) → slice_get order place ≡ Some block
      → slice_get order other ≡ Some block → place ≡ other
  pub all : (block : ℕ) → block < length rows → (place : ℕ) × (slice_get order place ≡ Some block)
  pub after : (place block source : ℕ) → slice_get order place ≡ Some block
      → Reads rows block source → (other : ℕ) × (other < place)
      × (slice_get order other ≡ Some source)
  pub none : (block : ℕ) → ¬ IsOnCycle rows block

-- the least block that lies on a cycle
pub record IsFirst (rows : List (List ℕ)) (first : ℕ) : Type 0 where
  pub there : first < length rows
  pub on : IsOnCycle rows first
  pub least : (block : ℕ) → IsOnCycle rows block → first ≤ block

-- what a search of all blocks found
abbrev pub IsFound : List (List ℕ) → List ℕ → Option ℕ → Type 0
IsFound rows order None = IsInOrder rows order
IsFound rows order (Some first) = IsFirst rows first
