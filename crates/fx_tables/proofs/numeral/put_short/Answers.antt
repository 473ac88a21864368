use Rattle.std.proofs.Common.{◌+◌, ◌*◌, ◌-◌, ◌/◌}
use Rattle.fx_tables.proofs.NumeralLemmas.{IsPut, put_three, with_three}
use Rattle.fx_tables.proofs.numeral.put_short.Goals as goal

put : (c : goal.After-from-2) → IsPut c.args.number c.args.bytes.now
    (with_three c.args.bytes.now c.args.end (48 + c.args.number / 10 / 10)
    (48 + (c.args.number / 10 - c.args.number / 10 / 10 * 10)) (48 + (c.args.number - c.args.number / 10 * 10)))
    c.args.end (c.args.end - 1 - c.from.result - c.from-2.result)
put c =
    put_three c.args.number c.args.end c.from.result c.from-2.result c.args.bytes.now c.requires.short c.requires.room c.requires.within
    c.from.ensures c.from-2.ensures

pub returns-clause-start : goal.returns-clause-start
returns-clause-start c = (put c).counted

pub returns-clause-text : goal.returns-clause-text
returns-clause-text c = (put c).text
