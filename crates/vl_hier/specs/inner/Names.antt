-- Names, as the code keeps them.
use Rattle.std.specs.Prelude.{◌≡◌, ℕ, Bool, true, false, if◌then◌else◌, List, [], ◌∷◌, ◌++◌, flat_map, bytes_eq, Option, Some, None}
use Rattle.std.specs.Borrow.{Bor}
use Rattle.std.specs.BTreeSet.{BTreeSet, contains_by}
use Rattle.std.specs.Cmp.Lexicographic.{slice_cmp}
use Rattle.std.specs.List.{list_any}
use Rattle.std.specs.Ordering.{is_gt, nat_cmp}
use Rattle.vl_ast.specs.declared.designs.Instance.{Instance}
use Rattle.vl_ast.specs.declared.modules.ModItem.{ModItem}
use Rattle.vl_ast.specs.declared.modules.Module.{Module}
use Rattle.vl_ast.specs.declared.modules.Port.{Port}
use Rattle.vl_ast.specs.Conditions.{item_name}
use Rattle.vl_ast.specs.Drivers.{declares}
use Rattle.vl_hier.specs.declared.names.Names.{Names}

-- a name behind a reference
abbrev pub lent : List ℕ → Bor (List ℕ)
lent name = record { ref_ptr = (0, 0); now = name }

-- whether a name is among those of a set
abbrev pub is_among : BTreeSet (Bor (List ℕ)) → List ℕ → Bool
is_among names name = contains_by (λ (key : Bor (List ℕ)). slice_cmp nat_cmp name key.now) names

-- whether a name is among those that are kept
abbrev pub is_kept : Names → List ℕ → Bool
is_kept kept name = is_among kept.in_order name

-- the least name of a set that isn't below a text
abbrev pub IsLeastFrom : BTreeSet (Bor (List ℕ)) → List ℕ → Option (List ℕ) → Type 0
IsLeastFrom names text None =
    (name : List ℕ) → is_gt (slice_cmp nat_cmp text name) ≡ false → is_among names name ≡ false
IsLeastFrom names text (Some least) =
    (is_gt (slice_cmp nat_cmp text least) ≡ false) × (is_among names least ≡ true)
    × ((name : List ℕ) → is_gt (slice_cmp nat_cmp text name) ≡ false
    → is_among names name ≡ true → is_gt (slice_cmp nat_cmp least name) ≡ false)

-- these are the names
abbrev pub AreNames : List (List ℕ) → Names → Type 0
AreNames names kept =
    (name : List ℕ) → is_kept kept name ≡ list_any (λ other. bytes_eq other name) names

-- the name of an instance
abbrev pub instance_names : Instance → List (List ℕ)
instance_names instance = instance.name ∷ []

-- that of a port
abbrev pub port_names : Port → List (List ℕ)
port_names port = port.name ∷ []

-- that of an item, if it declares one
abbrev pub item_names : ModItem → List (List ℕ)
item_names i = if declares i then item_name i ∷ [] else []

-- the names with which none of an instance's nets may begin
abbrev pub names_begun : List Instance → Module → List (List ℕ)
names_begun instances top =
    (flat_map instance_names instances ++ flat_map port_names top.ports)
    ++ flat_map item_names top.items
