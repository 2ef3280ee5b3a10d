use Rattle.std.proofs.Common.{◌≡◌, ◌++◌, List, ℕ, length}
use Rattle.transcript_lines.specs.Decoding.{FeedsBatch}
use Rattle.transcript_lines.proofs.batch_reader.BatchReader.feed.Given as goal

abbrev pub invariant-loop-word : goal.invariant-loop-word
invariant-loop-word l = (before : List ℕ) × (l.fn.piece ≡ before ++ l.rest) × FeedsBatch l.fn.self before l.reader

abbrev pub decreases-loop-word : goal.decreases-loop-word
decreases-loop-word l = length l.rest
