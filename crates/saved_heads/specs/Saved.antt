-- What saving and restoring answer (02 k).
use Rattle.std.specs.Prelude.{ℕ, ◌+◌, ◌*◌, cond, List, length, bytes_eq}
use Rattle.filter_core.specs.Refusal.{unless_refused}
use Rattle.lists.specs.Over.{over}
use Rattle.lists.specs.Room.{room_refusal}
use Rattle.heads.specs.declared.Head.{Head}
use Rattle.saved_heads.specs.Bytes.{rows_from, bytes_of, heads_in}

-- ---- saving: `short` of the refusal table, or the saved form and what stood behind it

abbrev pub saved_length : List Head → ℕ
saved_length xs = 2 + 38 * length (rows_from 0 xs)

abbrev pub save_number : List Head → List ℕ → ℕ
save_number xs out = room_refusal (saved_length xs) (length out)

abbrev pub saved_in : List Head → List ℕ → List ℕ
saved_in xs out = unless_refused (save_number xs out) out (over 0 (bytes_of xs) out)

-- ---- restoring: bytes are a saved frame where the heads that they say are saved as these bytes

abbrev pub restore_refusal : List ℕ → ℕ
restore_refusal b = cond (bytes_eq (bytes_of (heads_in b)) b) 0 20
