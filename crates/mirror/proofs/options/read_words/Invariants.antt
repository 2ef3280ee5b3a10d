use Rattle.std.proofs.Common.{map, take, string_bytes}
use Rattle.mirror.proofs.Choices.{SpellsSome}
use Rattle.mirror.proofs.options.read_words.Given as goal

-- The words so far are those of the options that were taken.
abbrev pub invariant-loop-word : goal.invariant-loop-word
invariant-loop-word l = SpellsSome (map string_bytes (take l.word-index l.choices)) l.chosen.settings l.chosen.taken
