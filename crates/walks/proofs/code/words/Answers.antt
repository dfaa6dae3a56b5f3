use Rattle.std.proofs.Common.{◌∙◌}
use Rattle.jump_tables.proofs.Chunks.{words_chunked}
use Rattle.walks.proofs.code.words.Goals as goal

pub returns : goal.returns
returns c = rw c.as_chunks.ensures.front (words_chunked c.code_bytes.result.now ∙ c.code_bytes.ensures.words)
