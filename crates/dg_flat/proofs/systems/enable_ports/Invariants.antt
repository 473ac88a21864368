use Rattle.std.proofs.Common.{suc, length, take}
use Rattle.dg_flat.specs.Parts.{first_in, is_enable_port}
use Rattle.dg_flat.specs.inner.Slots.{system_of}
use Rattle.dg_flat.specs.inner.Tables.{IsTable}
use Rattle.dg_flat.proofs.systems.enable_ports.Given as goal

abbrev pub invariant-loop-place : goal.invariant-loop-place
invariant-loop-place l = IsTable (suc (length l.blocks)) (λ slot. first_in (take l.place l.blocks) (system_of slot) is_enable_port) l.ports.items
