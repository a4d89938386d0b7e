-- What a call answers and leaves. n is its refusal (0: accepted), `was` the fields of the lent state, `made` those that acceptance makes of
-- them; `old` is what stood in the output, `new` what acceptance puts there.
use Rattle.std.specs.Prelude.{ℕ, ◌≡◌, List, Float}
use Rattle.filter_core.specs.Buffer.{state_after, buffer_after}
use Rattle.filter_core.specs.Refusal.{unless_refused}

-- the number and the output are those of a call that has no state
pub record Gives (n : ℕ) (old new : Float) (number : ℕ) (is : Float) : Type 0 where
  pub refusal : number ≡ n
  pub output : is ≡ unless_refused n old new

-- the number and the fields are those of a setter
pub record Sets (n : ℕ) (was made : List Float) (number : ℕ) (fields : List Float) : Type 0 where
  pub refusal : number ≡ n
  pub state : fields ≡ unless_refused n was made

-- the number, the fields and the output are those of a call for one sample
pub record Answers (n : ℕ) (was made : List Float) (old new : Float) (number : ℕ) (fields : List Float) (is : Float) : Type 0 where
  pub refusal : number ≡ n
  pub state : fields ≡ unless_refused n was made
  pub output : is ≡ unless_refused n old new

-- the number, the fields and the buffer are those of a buffer form over the samples xs into the buffer ys. `read` takes
-- fields for a filter, `write` gives them back
pub record Runs {S : Type 0} (read : List Float → S) (write : S → List Float) (n : ℕ) (next : ℕ → S → Float → S) (put : ℕ → S → Float → Float → Float) (was xs ys : List Float) (number : ℕ) (fields zs : List Float) : Type 0 where
  pub refusal : number ≡ n
  pub state : fields ≡ unless_refused n was (write (state_after next 0 (read was) xs))
  pub buffer : zs ≡ unless_refused n ys (buffer_after next put 0 (read was) xs ys)

-- the fields and the buffer are those of a form that cannot be refused
pub record Filters {S : Type 0} (read : List Float → S) (write : S → List Float) (next : ℕ → S → Float → S) (put : ℕ → S → Float → Float → Float) (was xs ys : List Float) (fields zs : List Float) : Type 0 where
  pub state : fields ≡ write (state_after next 0 (read was) xs)
  pub buffer : zs ≡ buffer_after next put 0 (read was) xs ys
