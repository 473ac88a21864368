-- What an item has after its name, by its kind.
use Rattle.std.specs.Prelude.{ℕ, List}
use Rattle.mdl_text.specs.declared.kind.Kind.{Kind}
use Rattle.mdl_text.specs.declared.kind.Kind.TheVariants.{Section as IsSection, Bare as IsBare, List as IsList, Quoted as IsQuoted}
use Rattle.mdl_text.specs.declared.tree.Value.{Value}
use Rattle.mdl_text.specs.declared.tree.Value.TheVariants.{Section, Bare, List as Brackets, Quoted}

-- the value of an item of a kind with this content, which a section has none of
abbrev pub value_of : Kind → List ℕ → Value
value_of IsSection content = Section
value_of IsBare content = Bare content
value_of IsList content = Brackets content
value_of IsQuoted content = Quoted content
