-- What `wrap` promises of the module that it gives, and what it asks for.
pub use Rattle.vl_ast.specs.Conditions.{BreaksNone}
pub use Rattle.vl_ast.specs.Control.{is_stallable}
pub use Rattle.vl_ast.specs.Grammar.{Spells}
pub use Rattle.vl_ast.specs.Multiplications.{multiplications}
pub use Rattle.vl_ast.specs.Spelling.{spelling}
pub use Rattle.vl_ast.specs.Stalls.{KeepsBits}
pub use Rattle.st_wrap.specs.Carried.{CarriesTransfers, FollowsCore, ShakesHands}
pub use Rattle.st_wrap.specs.Header.{HasStreamHeader}
pub use Rattle.st_wrap.specs.Names.{AreColumnNames}
