use Rattle.std.proofs.Common.{[], ◌∷◌, take}
use Rattle.std.specs.List.{flat_map}
use Rattle.lists.specs.Over.{Puts}
use Rattle.library.specs.declared.StoredEntry.{StoredEntry}
use Rattle.library.proofs.put_kinds.Given as goal

abbrev pub invariant-loop-entry : goal.invariant-loop-entry
invariant-loop-entry l = Puts l.from (flat_map (λ (t : StoredEntry). t.kind ∷ []) (take l.entry-index l.entries)) l.fn.output l.at l.output
