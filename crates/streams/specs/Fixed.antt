-- What the reader and the writer with room of a fixed size stand for.
use Rattle.std.specs.Prelude.{ℕ, List, take, drop}
use Rattle.std.specs.Io.KnownBytes.{prepend_known, append_known}
use Rattle.std.specs.declared.option.Option.{Option}
use Rattle.streams.specs.declared.fixed_reader.FixedReader.{FixedReader}
use Rattle.streams.specs.declared.fixed_writer.FixedWriter.{FixedWriter}

-- what was read and is not consumed yet
abbrev pub ahead : {R : Type 0} → FixedReader R → List ℕ
ahead r = drop r.next (take r.end r.space)

-- that, and then what the reader behind has left, where that is known
abbrev pub left : {R : Type 0} → (R → Option (List ℕ)) → FixedReader R → Option (List ℕ)
left remaining r = prepend_known (ahead r) (remaining r.inner)

-- what the writer behind has, and then what is kept, where that is known
abbrev pub written : {W : Type 0} → (W → Option (List ℕ)) → FixedWriter W → Option (List ℕ)
written contents w = append_known (contents w.inner) w.kept.items
