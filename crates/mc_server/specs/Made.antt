-- What a version that was made leaves; private contracts alone cite it.
use Rattle.std.specs.Prelude.{ℕ, Option, Some, None, List}
use Rattle.std.specs.FinMap as finite_map
use Rattle.mc_model.specs.{Contents.Contents, declared.cache.Item.Item}

-- the items with the version that was made, if one was, at the key
abbrev pub with_made : Contents → List ℕ → Option Item → Contents
with_made contents key None = contents
with_made contents key (Some item) = finite_map.insert contents key item
