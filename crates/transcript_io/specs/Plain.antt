-- A source of bytes that never fails.
use Rattle.std.specs.Prelude.{ℕ, List, drop}
use Rattle.transcript_io.specs.declared.plain.BytesSource.{BytesSource}

-- The bytes that it has not given.
abbrev pub bytes_after : BytesSource → List ℕ
bytes_after s = drop s.at s.bytes.items
