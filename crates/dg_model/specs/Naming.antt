-- Names in paths (Simulink reference, subsystems; paths are own).
use Prim.Native.Char.{code}
use Rattle.std.specs.Prelude.{ℕ, ◌==◌, List, [], ◌∷◌, if◌then◌else◌}
use Rattle.std.specs.List.{flat_map}

-- a name in a path: a `/` inside it stands twice
abbrev pub escaped : List ℕ → List ℕ
escaped name =
    flat_map (λ byte. if byte == code "/" then code "/" ∷ code "/" ∷ [] else byte ∷ []) name
