-- A set as text.
use Rattle.std.specs.Prelude.{ℕ, List, ◌++◌, map, codes, decimal}
use Rattle.std.specs.List.{join_with_byte}
use Rattle.sets.specs.declared.Set.{Set}
use Rattle.sets.specs.Listed.{members}

-- the decimal numbers of the members in rising order, with a comma (44) between each two, in braces
unfoldable pub text_of : Set → List ℕ
text_of s = codes "{" ++ (join_with_byte 44 (map decimal (members s)) ++ codes "}")
