-- Links behind a first one.
use Rattle.std.specs.Prelude.{ℕ, List, ◌++◌, codes}
use Rattle.vl_ast.specs.declared.designs.Link.{Link}
use Rattle.vl_hier.specs.Written.{link_text}

-- the text of a link, and what parts it from the one before
abbrev pub next_link : Link → List ℕ
next_link link = codes ", " ++ link_text link
