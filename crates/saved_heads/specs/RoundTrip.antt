-- Heads and their saved form come back from each other (02 k).
use Rattle.std.specs.Prelude.{ℕ, ◌≡◌, List, length}
use Rattle.std.specs.List.{All}
use Rattle.heads.specs.Valid.{ValidHead}
use Rattle.heads.specs.declared.Head.{Head}
use Rattle.saved_heads.specs.Bytes.{bytes_of, heads_in}
use Rattle.saved_heads.specs.Saved.{saved_length, restore_refusal}

-- twelve heads that keep what every head does that calls lead to
pub record ValidHeads (xs : List Head) : Type 0 where
  pub twelve : length xs ≡ 12
  pub heads : All ValidHead xs

-- ---- the statements

pub record HeadsReturn : Type 0 where
  -- what is saved is as long as a save answers, and is restored as these heads
  pub long : (xs : List Head) → length (bytes_of xs) ≡ saved_length xs
  pub restored : (xs : List Head) → ValidHeads xs → (restore_refusal (bytes_of xs) ≡ 0) × (heads_in (bytes_of xs) ≡ xs)
  -- what is restored is saved as these bytes, and keeps what every head keeps
  pub saved : (b : List ℕ) → restore_refusal b ≡ 0 → bytes_of (heads_in b) ≡ b
  pub valid : (b : List ℕ) → restore_refusal b ≡ 0 → ValidHeads (heads_in b)
  -- so heads have one saved form
  pub one_form : (b c : List ℕ) → restore_refusal b ≡ 0 → restore_refusal c ≡ 0 → heads_in b ≡ heads_in c → b ≡ c
