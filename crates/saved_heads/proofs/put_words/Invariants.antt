use Rattle.std.proofs.Common.{take, w32}
use Rattle.std.specs.Int.{to_le_bytes}
use Rattle.std.specs.List.{flat_map}
use Rattle.lists.specs.Over.{Puts}
use Rattle.saved_heads.proofs.put_words.Given as goal

abbrev pub invariant-loop-word : goal.invariant-loop-word
invariant-loop-word l = Puts l.from (flat_map (to_le_bytes w32) (take l.word-index l.words)) l.fn.output l.at l.output
