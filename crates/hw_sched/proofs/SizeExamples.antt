-- The size of two small diagrams, worked out by hand.
use Rattle.std.proofs.Common.{◌≡◌, refl}
use Rattle.fx_type.specs.declared.decimal.Decimal.{Decimal}
use Rattle.hw_sched.specs.Storage.{lines_in_all, registers_in_all, storage, greatest_latency}
use Rattle.hw_sched.proofs.ChainExample.{fans, of_fans, fans_plan, fans_timed}
use Rattle.hw_sched.proofs.Models.{late_source, of_late, late_plan, late_timed}

-- 45 of lines, and the pipeline of 8
fans_storage : (one : Decimal) → storage (fans one) of_fans fans_plan fans_timed ≡ 53
fans_storage one = refl

fans_latency : (one : Decimal) → greatest_latency (fans one) of_fans fans_plan fans_timed ≡ 8
fans_latency one = refl

-- of the five lines the second input's and the delay's have one register more
late_lines : (number : Decimal) → lines_in_all (late_source number) of_late late_plan late_timed ≡ 7
late_lines number = refl

late_registers : (number : Decimal) → registers_in_all (late_source number) of_late late_plan ≡ 1
late_registers number = refl

-- two results beside
late_storage : (number : Decimal) → storage (late_source number) of_late late_plan late_timed ≡ 10
late_storage number = refl

late_latency : (number : Decimal) → greatest_latency (late_source number) of_late late_plan late_timed ≡ 4
late_latency number = refl
