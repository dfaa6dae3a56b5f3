use Rattle.jump_tables.proofs.Chunks.{words_chunked}
use Rattle.jump_tables.proofs.words.words_of.Goals as goal

pub returns : goal.returns
returns c = rw c.as_chunks.ensures.front (words_chunked c.args.bytes.now)
