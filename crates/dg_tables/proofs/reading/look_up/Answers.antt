use Rattle.std.proofs.Common.{◌+◌, ◌-◌, length, ap, arith}
use Rattle.std.proofs.lemmas.Option.{slice_get_within}
use Rattle.dg_tables.proofs.EntryLayout.{read_there, entry_read}
use Rattle.dg_tables.proofs.reading.look_up.Goals as goal

pub overflow_add-first : goal.overflow_add-first
overflow_add-first c =
    let is = c.requires.finds.entries c.args.place c.requires.entry in
    let first = read_there _ _ c.args.place.block is.first c.place_of-first.result c.as_slice-ports.ensures.value c.place_of-first.ensures is.first_is in
    let within = slice_get_within c.args.starts.now.entries.items (is.first + (c.args.place.port - 1)) is.from is.from_is in
    let size = ap length c.as_slice-entries.ensures.value in
    record { fits = omega (arith, first, within, size) }

pub overflow_add-result : goal.overflow_add-result
overflow_add-result c =
    let read = entry_read (c.requires.finds.entries c.args.place c.requires.entry) c.as_slice-ports.ensures.value c.place_of-first.ensures c.as_slice-entries.ensures.value c.place_of-from.ensures in
    record { fits = omega (arith, slice_get_within c.args.places.now _ c.args.place read, c.requires.finds.few) }

pub overflow_cast-result-2 : goal.overflow_cast-result-2
overflow_cast-result-2 c =
    let read = entry_read (c.requires.finds.entries c.args.place c.requires.entry) c.as_slice-ports.ensures.value c.place_of-first.ensures c.as_slice-entries.ensures.value c.place_of-from.ensures in
    record { fits = omega (arith, slice_get_within c.args.places.now _ c.args.place read, c.requires.finds.few) }

pub returns : goal.returns
returns c = entry_read (c.requires.finds.entries c.args.place c.requires.entry) c.as_slice-ports.ensures.value c.place_of-first.ensures c.as_slice-entries.ensures.value c.place_of-from.ensures
