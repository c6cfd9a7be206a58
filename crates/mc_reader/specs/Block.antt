-- What was read of a hit after its first line.
use Rattle.std.specs.Prelude.{◌≡◌, ℕ, ◌≤◌, List, [], ◌∷◌, ◌++◌, length}
use Rattle.mc_reader.specs.declared.said.HitLine.{HitLine}
use Rattle.mc_reader.specs.{Lines.CR, Lines.LF, Lines.IsLine, declared.block.Block.Block, declared.block.Ending.Ending}
use Rattle.mc_reader.specs.declared.block.Ending.TheVariants as ending

abbrev pub ending_read : Ending → List ℕ
ending_read ending.Unread = []
ending_read ending.Cr = CR ∷ []
ending_read (ending.Line start) = CR ∷ LF ∷ start.items

-- the bytes that were read
abbrev pub block_read : Block → List ℕ
block_read b = b.body.items ++ ending_read b.ending

-- the body is whole before its end is read
abbrev pub IsEnding : ℕ → ℕ → Ending → Type 0
IsEnding body_len read ending.Unread = read ≤ body_len
IsEnding body_len read ending.Cr = read ≡ body_len
IsEnding body_len read (ending.Line start) = (read ≡ body_len) × IsLine start.items

abbrev pub IsBlock : Block → Type 0
IsBlock b = IsEnding b.hit.body_len (length b.body.items) b.ending

-- the block after this first line, where this text was read of it
pub record IsBlockOf (hit : HitLine) (b : Block) (text : List ℕ) : Type 0 where
  pub same : b.hit ≡ hit
  pub valid : IsBlock b
  pub read : block_read b ≡ text
