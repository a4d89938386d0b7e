-- What a buffer form is, once for every form and any state S of a filter.
-- A form is two functions: `next k s x` is the state after the sample x at the place k, and `put k s x y` what is written there,
-- where s is the state before the sample and y is what stood in the output.
use Rattle.std.specs.Prelude.{ℕ, suc, ◌%◌, ◌≡◌, Bool, cond, List, [], ◌∷◌, eqb, Float, length, take}

-- the samples that reach a form: those within the shorter of the lengths. Of three buffers, `within (within xs ys) zs`
abbrev pub within : List Float → List Float → List Float
within xs ys = take (length ys) xs

-- the state after the samples, the first of which stands at the place k
abbrev pub state_after : {S : Type 0} → (ℕ → S → Float → S) → ℕ → S → List Float → S
state_after next k s [] = s
state_after next k s (x ∷ xs) = state_after next (suc k) (next k s x) xs

-- the output after them: later places keep their contents
abbrev pub buffer_after : {S : Type 0} → (ℕ → S → Float → S) → (ℕ → S → Float → Float → Float) → ℕ → S → List Float → List Float → List Float
buffer_after next put k s [] ys = ys
buffer_after next put k s (x ∷ xs) [] = []
buffer_after next put k s (x ∷ xs) (y ∷ ys) = put k s x y ∷ buffer_after next put (suc k) (next k s x) xs ys

-- the state r and the buffer zs are what a form leaves of the state s and the buffer ys over the samples xs
pub record Filtered {S : Type 0} (next : ℕ → S → Float → S) (put : ℕ → S → Float → Float → Float) (s : S) (xs ys : List Float) (r : S) (zs : List Float) : Type 0 where
  pub state : r ≡ state_after next 0 s xs
  pub buffer : zs ≡ buffer_after next put 0 s xs ys

-- ---- the forms' functions, from a filter's own: `step s x` is the state after a sample, `out s x` the output for it

-- every sample is filtered
abbrev pub each : {S : Type 0} → (S → Float → S) → ℕ → S → Float → S
each step k s x = step s x

-- every place is written
abbrev pub puts : {S : Type 0} → (S → Float → Float) → ℕ → S → Float → Float → Float
puts out k s x y = out s x

-- the places 0, d, 2d, ..
abbrev pub due : ℕ → ℕ → Bool
due d k = eqb (k % d) 0

-- stride: only the samples there are filtered
abbrev pub each_due : {S : Type 0} → ℕ → (S → Float → S) → ℕ → S → Float → S
each_due d step k s x = cond (due d k) (step s x) s

-- stride and decimate: only the places there are written
abbrev pub puts_due : {S : Type 0} → ℕ → (S → Float → Float) → ℕ → S → Float → Float → Float
puts_due d out k s x y = cond (due d k) (out s x) y
