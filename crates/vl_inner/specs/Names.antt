-- What the names of a module are called where it stands in another (own).
use Rattle.std.specs.Prelude.{ℕ, ◌||◌, Bool, if◌then◌else◌, List, ◌++◌, bytes_eq, codes}
use Rattle.vl_inner.specs.declared.names.Naming.{Naming}
use Rattle.vl_inner.specs.declared.names.Naming.TheVariants.{Kept, Behind}

-- the module and the other have the name in common
abbrev pub is_shared : List ℕ → Bool
is_shared name = bytes_eq name (codes "clk") || bytes_eq name (codes "reset")

-- a name of the module, behind the name by which it stands in the other
abbrev pub inner_name : List ℕ → List ℕ → List ℕ
inner_name head name = if is_shared name then name else head ++ codes "_" ++ name

-- what a name is called by a naming
abbrev pub name_by : Naming → List ℕ → List ℕ
name_by Kept name = name
name_by (Behind head) name = inner_name head.now name
