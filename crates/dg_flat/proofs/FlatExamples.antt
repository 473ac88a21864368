-- Flat lists and edges worked by hand: a delay fed back, a subsystem in a subsystem, and a subsystem in an enabled one.
use Rattle.std.proofs.Common.{◌≡◌, ℕ, List, [], ◌∷◌, codes, Option, None, Some, true, false, refl}
use Rattle.std.specs.Prelude.{map}
use Rattle.fx_type.specs.declared.spec.TypeSpec.TheVariants.{Internal}
use Rattle.dg_model.specs.declared.diagram.Block.{Block}
use Rattle.dg_model.specs.declared.kind.Kind.TheVariants.{Inport, Outport, Sum, Gain, Delay, Pass, EnableTest, EnOut}
use Rattle.dg_model.specs.declared.nested.NestedBlock.{NestedBlock}
use Rattle.dg_model.specs.declared.nested.NestedLine.{NestedLine}
use Rattle.dg_model.specs.declared.nested.Part.TheVariants.{Plain, In, Out, SubSystem, Enable}
use Rattle.dg_model.specs.declared.nested.Target.TheVariants.{Port, Enable as ToEnable}
use Rattle.dg_model.specs.declared.diagram.Edge.{Edge}
use Rattle.dg_flat.specs.Flat.{flat_blocks, edge_of}
use Rattle.dg_flat.proofs.Subsystems.{plain, within, flat}

-- a line into an input port, and one into the port of the control
abbrev line : ℕ → ℕ → ℕ → ℕ → NestedLine
line from from_port to port = record { from = from; from_port = from_port; to = to; target = Port port }

abbrev enabling : ℕ → ℕ → ℕ → NestedLine
enabling from from_port to = record { from = from; from_port = from_port; to = to; target = ToEnable }

abbrev edge : ℕ → ℕ → ℕ → ℕ → Option Edge
edge from from_port to to_port = Some (record { from = from; from_port = from_port; to = to; to_port = to_port })

-- ---- a delay fed back, as the usual tool's file has it

abbrev added : List NestedBlock
added = within None (codes "Speed in") (In (plain (Inport 1 0) 0 1) 1)
    ∷ within None (codes "Add") (Plain (plain (Sum (false ∷ false ∷ []) Internal) 2 1))
    ∷ within None (codes "Unit Delay") (Plain (plain (Delay 1 [] false) 1 1))
    ∷ within None (codes "Total") (Out (plain (Outport 1) 1 0) 1)
    ∷ []

added_blocks : flat_blocks added ≡
    flat (codes "Speed in") (Inport 1 0) 0 1 None
    ∷ flat (codes "Add") (Sum (false ∷ false ∷ []) Internal) 2 1 None
    ∷ flat (codes "Unit Delay") (Delay 1 [] false) 1 1 None
    ∷ flat (codes "Total") (Outport 1) 1 0 None
    ∷ []
added_blocks = refl

added_edges : map (edge_of added) (line 0 1 1 1 ∷ line 2 1 1 2 ∷ line 1 1 3 1 ∷ line 1 1 2 1 ∷ [])
    ≡ edge 0 1 1 1 ∷ edge 2 1 1 2 ∷ edge 1 1 3 1 ∷ edge 1 1 2 1 ∷ []
added_edges = refl

-- ---- two inputs and two outputs through `s` and `a/b` in it, whose ports aren't in the order of their numbers

abbrev crossed : List NestedBlock
crossed = within None (codes "u") (In (plain (Inport 1 0) 0 1) 1)
    ∷ within None (codes "v") (In (plain (Inport 2 0) 0 1) 2)
    ∷ within None (codes "s") SubSystem
    ∷ within (Some 2) (codes "p") (In (plain (Pass 0) 1 1) 2)
    ∷ within (Some 2) (codes "q") (In (plain (Pass 0) 1 1) 1)
    ∷ within (Some 2) (codes "a/b") SubSystem
    ∷ within (Some 5) (codes "p") (In (plain (Pass 0) 1 1) 1)
    ∷ within (Some 5) (codes "q") (In (plain (Pass 0) 1 1) 2)
    ∷ within (Some 5) (codes "m") (Out (plain (Pass 0) 1 1) 2)
    ∷ within (Some 5) (codes "n") (Out (plain (Pass 0) 1 1) 1)
    ∷ within (Some 2) (codes "m") (Out (plain (Pass 0) 1 1) 1)
    ∷ within (Some 2) (codes "n") (Out (plain (Pass 0) 1 1) 2)
    ∷ within None (codes "y") (Out (plain (Outport 1) 1 0) 1)
    ∷ within None (codes "z") (Out (plain (Outport 2) 1 0) 2)
    ∷ []

abbrev pass : List ℕ → Block
pass path = flat path (Pass 0) 1 1 None

crossed_blocks : flat_blocks crossed ≡
    flat (codes "u") (Inport 1 0) 0 1 None
    ∷ flat (codes "v") (Inport 2 0) 0 1 None
    ∷ pass (codes "s/p") ∷ pass (codes "s/q")
    ∷ pass (codes "s/a//b/p") ∷ pass (codes "s/a//b/q") ∷ pass (codes "s/a//b/m") ∷ pass (codes "s/a//b/n")
    ∷ pass (codes "s/m") ∷ pass (codes "s/n")
    ∷ flat (codes "y") (Outport 1) 1 0 None
    ∷ flat (codes "z") (Outport 2) 1 0 None
    ∷ []
crossed_blocks = refl

crossed_edges : map (edge_of crossed)
    (line 0 1 2 1 ∷ line 1 1 2 2 ∷ line 2 1 12 1 ∷ line 2 2 13 1 ∷ line 3 1 5 1 ∷ line 4 1 5 2 ∷ line 5 1 10 1 ∷ line 5 2 11 1 ∷ line 6 1 8 1 ∷ line 7 1 9 1 ∷ [])
    ≡ edge 0 1 3 1 ∷ edge 1 1 2 1 ∷ edge 8 1 10 1 ∷ edge 9 1 11 1 ∷ edge 2 1 4 1 ∷ edge 3 1 5 1 ∷ edge 7 1 8 1 ∷ edge 6 1 9 1 ∷ edge 4 1 6 1 ∷ edge 5 1 7 1 ∷ []
crossed_edges = refl

-- ---- an enabled subsystem with a Delay, a Gain and a subsystem with a Delay; a Delay behind it

abbrev enabled : List NestedBlock
enabled = within None (codes "u") (In (plain (Inport 1 0) 0 1) 1)
    ∷ within None (codes "s") SubSystem
    ∷ within (Some 1) (codes "e") (Enable true)
    ∷ within (Some 1) (codes "i") (In (plain (Pass 0) 1 1) 1)
    ∷ within (Some 1) (codes "d") (Plain (plain (Delay 1 [] false) 1 1))
    ∷ within (Some 1) (codes "g") (Plain (plain (Gain [] Internal) 1 1))
    ∷ within (Some 1) (codes "t") SubSystem
    ∷ within (Some 6) (codes "i") (In (plain (Pass 0) 1 1) 1)
    ∷ within (Some 6) (codes "d") (Plain (plain (Delay 1 [] false) 1 1))
    ∷ within (Some 6) (codes "o") (Out (plain (Pass 0) 1 1) 1)
    ∷ within (Some 1) (codes "o") (Out (plain (EnOut false []) 1 1) 1)
    ∷ within None (codes "d") (Plain (plain (Delay 1 [] false) 1 1))
    ∷ within None (codes "y") (Out (plain (Outport 1) 1 0) 1)
    ∷ []

enabled_blocks : flat_blocks enabled ≡
    flat (codes "u") (Inport 1 0) 0 1 None
    ∷ flat (codes "s/e") EnableTest 1 1 None
    ∷ flat (codes "s/i") (Pass 0) 1 1 (Some 1)
    ∷ flat (codes "s/d") (Delay 1 [] true) 1 1 (Some 1)
    ∷ flat (codes "s/g") (Gain [] Internal) 1 1 (Some 1)
    ∷ flat (codes "s/t/i") (Pass 0) 1 1 (Some 1)
    ∷ flat (codes "s/t/d") (Delay 1 [] true) 1 1 (Some 1)
    ∷ flat (codes "s/t/o") (Pass 0) 1 1 (Some 1)
    ∷ flat (codes "s/o") (EnOut false []) 1 1 (Some 1)
    ∷ flat (codes "d") (Delay 1 [] false) 1 1 None
    ∷ flat (codes "y") (Outport 1) 1 0 None
    ∷ []
enabled_blocks = refl

enabled_edges : map (edge_of enabled)
    (line 0 1 1 1 ∷ enabling 0 1 1 ∷ line 1 1 11 1 ∷ line 11 1 12 1 ∷ line 3 1 4 1 ∷ line 4 1 5 1 ∷ line 5 1 6 1 ∷ line 6 1 10 1 ∷ line 7 1 8 1 ∷ line 8 1 9 1 ∷ [])
    ≡ edge 0 1 2 1 ∷ edge 0 1 1 1 ∷ edge 8 1 9 1 ∷ edge 9 1 10 1 ∷ edge 2 1 3 1 ∷ edge 3 1 4 1 ∷ edge 4 1 5 1 ∷ edge 7 1 8 1 ∷ edge 5 1 6 1 ∷ edge 6 1 7 1 ∷ []
enabled_edges = refl
