-- What stands behind the header of a message: its contents and its security block (RFC 6940, 6.3).
use Rattle.std.specs.Prelude.{ℕ, List, ◌++◌}
use Rattle.wire_core.specs.Reading.{Reader, pair_at}
use Rattle.security_block.specs.declared.block.SecurityBlock.{SecurityBlock}
use Rattle.security_block.specs.Block.{block, block_at, IsSpelledBlock, IsBlockInRange}
use Rattle.data_models.specs.declared.config.Config.{Config}
use Rattle.message_bodies.specs.declared.contents.Contents.{Contents}
use Rattle.message_bodies.specs.Contents.{contents, contents_at, IsSpelledContents, IsContentsInRange, IsContentsOf}

-- the bytes of contents and a block
abbrev pub message : Contents → SecurityBlock → List ℕ
message c b = contents c ++ block b

-- Both have a spelling, each number fits its field, and the contents are of this configuration.
pub record IsSpelledMessage (config : Config) (c : Contents) (b : SecurityBlock) : Type 0 where
  pub is_spelled : IsSpelledContents c
  pub in_range : IsContentsInRange c
  pub belongs : IsContentsOf config c
  pub block_is_spelled : IsSpelledBlock b
  pub block_in_range : IsBlockInRange b

-- contents, by the models that a configuration gives their kinds, and a block
abbrev pub message_at : Config → Reader (Contents × SecurityBlock)
message_at config = pair_at (contents_at config) block_at
