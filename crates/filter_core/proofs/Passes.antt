-- The laws of a filter's loop, once for every form and any state: each buffer form's proof cites them. Assumes nothing.
use mathlib.Core.Path.{◌≡◌, refl, sym, ap, ◌∙◌}
use mathlib.Core.Bool.{Bool, true, false}
use mathlib.Core.List.{List, [], ◌∷◌, ◌++◌, append_assoc}
use Prim.Native.Nat.{ℕ, zero, suc, ◌+◌, ◌-◌, ◌%◌, ◌≤◌, ◌<◌, min}
use native.Mathlib.Numerals.{add-one}
use native.Mathlib.Omega.{arith}
use native.Mathlib.Nat.{mod-add-mod, mod-eq_of_lt, add-mod_right, add-zero, add-suc, zero-add, zero-mod}
use borrow.Author.Rules.{rules}
use borrow.Author.Tests.{eq-eqb, ne_eqb, ltb-true, ltb-false}
use lib.Dec.{ltb}
use lib.Ieee.{Float, nan}
use lib.ListN.{length, get_or, set, take, drop, length-set, length-take, take-append-drop, drop_of_length-le}
use lib.Seq.{take-take, take-suc-set, take-suc, drop-cons, drop-drop, drop-set-lt, get_or-take, get_or-drop, length-take-le, take_all}
use Rattle.filter_core.specs.Buffer.{within, state_after, buffer_after, Filtered, each, due, each_due, puts_due}

-- the sample at the place k
abbrev pub at : List Float → ℕ → Float
at xs k = get_or xs k nan

-- What holds as a loop over the first n samples of xs comes to the place i: what is left to do comes to what was to do at first.
pub record Going {S : Type 0} (next : ℕ → S → Float → S) (put : ℕ → S → Float → Float → Float) (xs : List Float) (n : ℕ) (s : S) (ys : List Float) (i : ℕ) (f : S) (zs : List Float) : Type 0 where
  pub inside : i ≤ n
  pub samples : n ≤ length xs
  pub places : n ≤ length ys
  pub long : length zs ≡ length ys
  rest : drop i zs ≡ drop i ys
  state : state_after next i f (drop i (take n xs)) ≡ state_after next 0 s (take n xs)
  buffer : take i zs ++ buffer_after next put i f (drop i (take n xs)) (drop i ys) ≡ buffer_after next put 0 s (take n xs) ys

-- ---- lists

-- lists that agree from the place i on agree from the next on, and at i
later : (i : ℕ) (l m : List Float) → drop i l ≡ drop i m → drop (suc i) l ≡ drop (suc i) m
later i l m e = rw (← add-one, ← drop-drop 1 i l, ← drop-drop 1 i m, e) refl

here : (i : ℕ) (l m : List Float) → drop i l ≡ drop i m → at l i ≡ at m i
here i l m e = rw (← add-zero i, ← get_or-drop i l 0 nan, ← get_or-drop i m 0 nan, e) refl

-- the sample at the place i of the first n, and those after it
sample : (xs : List Float) (n i : ℕ) → i < n → n ≤ length xs → drop i (take n xs) ≡ at xs i ∷ drop (suc i) (take n xs)
sample xs n i h l =
    drop-cons (take n xs) i nan (omega (arith, length-take-le n xs l)) ∙ ap (λ (x : Float). x ∷ drop (suc i) (take n xs)) (get_or-take n xs i nan h)

-- the samples within the shortest length, by the count that a loop goes to
within_two : (xs ys : List Float) (n : ℕ) → n ≡ min (length xs) (length ys) → take n xs ≡ within xs ys
within_two xs ys n e = go (length ys) (ltb (length ys) (length xs)) refl e
  where
    go : (m : ℕ) (b : Bool) → ltb m (length xs) ≡ b → n ≡ min (length xs) m → take n xs ≡ take m xs
    go m true q e = let w : n ≡ m = omega (arith, ltb-true m (length xs) q) in rw w refl
    go m false q e =
        let a : length xs ≤ n = omega (arith, ltb-false m (length xs) q) in
        take_all n xs a ∙ sym (take_all m xs (ltb-false m (length xs) q))

within_three : (xs ys zs : List Float) (n : ℕ) → n ≡ min (length xs) (min (length ys) (length zs)) → take n xs ≡ within (within xs ys) zs
within_three xs ys zs n e =
    let w : n ≡ min (length (within xs ys)) (length zs) = rw (length-take (length ys) xs) (omega arith) in
    sym (take-take n (length ys) xs (omega arith)) ∙ within_two (within xs ys) zs n w

-- ---- one place

module _ {S : Type 0} {next : ℕ → S → Float → S} {put : ℕ → S → Float → Float → Float} {xs : List Float} {n : ℕ} {s : S} {ys : List Float} where
  begin : n ≤ length xs → n ≤ length ys → Going next put xs n s ys 0 s ys
  begin a b = record { inside = omega arith; samples = a; places = b; long = refl; rest = refl; state = refl; buffer = refl }

  -- zs' is the buffer with what is put at the place i
  moved : {i : ℕ} {f f' : S} {zs zs' : List Float} → Going next put xs n s ys i f zs → i < n → f' ≡ next i f (at xs i)
      → length zs' ≡ length ys → drop (suc i) zs' ≡ drop (suc i) zs → take (suc i) zs' ≡ take i zs ++ (put i f (at xs i) (at ys i) ∷ [])
      → Going next put xs n s ys (suc i) f' zs'
  moved {i} {f} {f'} {zs} {zs'} g h e l d t =
      record {
        inside = h;
        samples = g.samples;
        places = g.places;
        long = l;
        rest = d ∙ later i zs ys g.rest;
        state = rw e (rw (sample xs n i h g.samples) at g.state);
        buffer = rw (e, t, append_assoc) (rw (sample xs n i h g.samples, drop-cons ys i nan (omega (arith, g.places))) at g.buffer);
      }

  -- written, or kept
  wrote : {i : ℕ} {f f' : S} {zs : List Float} {y : Float} → Going next put xs n s ys i f zs → i < n → f' ≡ next i f (at xs i) → y ≡ put i f (at xs i) (at ys i)
      → Going next put xs n s ys (suc i) f' (set zs i y)
  wrote {i} {f} {f'} {zs} {y} g h e o =
      moved g h e (length-set zs i y ∙ g.long) (drop-set-lt (suc i) zs i y (omega arith))
      (take-suc-set zs i y (omega (arith, g.long, g.places)) ∙ ap (λ (v : Float). take i zs ++ (v ∷ [])) o)

  kept : {i : ℕ} {f f' : S} {zs : List Float} → Going next put xs n s ys i f zs → i < n → f' ≡ next i f (at xs i) → at ys i ≡ put i f (at xs i) (at ys i)
      → Going next put xs n s ys (suc i) f' zs
  kept {i} {f} {f'} {zs} g h e o =
      moved g h e g.long refl
      (take-suc zs i nan (omega (arith, g.long, g.places)) ∙ ap (λ (v : Float). take i zs ++ (v ∷ [])) (here i zs ys g.rest ∙ o))

  -- k places more at which nothing is done
  skipped : (k : ℕ) {i : ℕ} {f : S} {zs : List Float} → i + k ≤ n
      → ((j : ℕ) → i ≤ j → j < i + k → (f ≡ next j f (at xs j)) × (at ys j ≡ put j f (at xs j) (at ys j)))
      → Going next put xs n s ys i f zs → Going next put xs n s ys (i + k) f zs
  skipped zero b idle g = rw add-zero g
  skipped (suc k) {i} b idle g =
      let last = idle (i + k) (omega arith) (omega arith) in
      rw add-suc (kept (skipped k (omega arith) (λ j a c. idle j a (omega arith)) g) (omega arith) last.0 last.1)

  finish : {i : ℕ} {f : S} {zs ws : List Float} → Going next put xs n s ys i f zs → n ≤ i → take n xs ≡ ws → Filtered next put s ws ys f zs
  finish {i} {f} {zs} {ws} g h e =
      let w : n ≡ i = omega (arith, g.inside) in
      let none : drop i (take n xs) ≡ [] = drop_of_length-le (take n xs) {i = i} (omega (arith, length-take-le n xs g.samples)) in
      record {
        state = rw (← e) (rw none at g.state);
        buffer = rw (← e) (sym (take-append-drop i zs) ∙ rw g.rest (rw none at g.buffer));
      }

-- ---- the loop over every place

module _ {S : Type 0} {next : ℕ → S → Float → S} {put : ℕ → S → Float → Float → Float} {xs : List Float} {n : ℕ} {s : S} {ys : List Float} where
  pub start : n ≡ min (length xs) (length ys) → Going next put xs n s ys 0 s ys
  start e = begin (omega arith) (omega arith)

  -- ys is the first of two outputs, or the second
  pub start_first : {m : ℕ} (zs : List Float) → m ≡ min (length ys) (length zs) → n ≡ min (length xs) m → Going next put xs n s ys 0 s ys
  start_first zs d e = begin (omega arith) (omega arith)

  pub start_second : {m : ℕ} (zs : List Float) → m ≡ min (length zs) (length ys) → n ≡ min (length xs) m → Going next put xs n s ys 0 s ys
  start_second zs d e = begin (omega arith) (omega arith)

  pub again : {i : ℕ} {f f' : S} {zs : List Float} {y : Float} → Going next put xs n s ys i f zs → i < n → f' ≡ next i f (at xs i) → y ≡ put i f (at xs i) (at ys i)
      → Going next put xs n s ys (i + 1) f' (set zs i y)
  again g h e o = rw add-one (wrote g h e o)

  pub filtered : {i : ℕ} {f : S} {zs : List Float} → Going next put xs n s ys i f zs → n ≤ i → n ≡ min (length xs) (length ys)
      → Filtered next put s (within xs ys) ys f zs
  filtered g h e = finish g h (within_two xs ys n e)

  pub filtered_first : (ws : List Float) {i m : ℕ} {f : S} {zs : List Float} → Going next put xs n s ys i f zs → n ≤ i → m ≡ min (length ys) (length ws) → n ≡ min (length xs) m
      → Filtered next put s (within (within xs ys) ws) ys f zs
  filtered_first ws g h d e = finish g h (within_three xs ys ws n (rw d at e))

  pub filtered_second : (ws : List Float) {i m : ℕ} {f : S} {zs : List Float} → Going next put xs n s ys i f zs → n ≤ i → m ≡ min (length ws) (length ys) → n ≡ min (length xs) m
      → Filtered next put s (within (within xs ws) ys) ys f zs
  filtered_second ws g h d e = finish g h (within_three xs ws ys n (rw d at e))

-- ---- in place: what is read at the place i is what stood there at first

module _ {S : Type 0} {next : ℕ → S → Float → S} {put : ℕ → S → Float → Float → Float} {n : ℕ} {s : S} {ys : List Float} where
  pub place_start : n ≡ length ys → Going next put ys n s ys 0 s ys
  place_start e = begin (omega arith) (omega arith)

  pub place_again : {i : ℕ} {f f' : S} {zs : List Float} {y : Float} → Going next put ys n s ys i f zs → i < n → f' ≡ next i f (at zs i) → y ≡ put i f (at zs i) (at zs i)
      → Going next put ys n s ys (i + 1) f' (set zs i y)
  place_again {i} {f} {f'} {zs} {y} g h e o = let w = here i zs ys g.rest in again g h (rw w at e) (rw w at o)

  pub place_filtered : {i : ℕ} {f : S} {zs : List Float} → Going next put ys n s ys i f zs → n ≤ i → n ≡ length ys → Filtered next put s ys ys f zs
  place_filtered g h e = finish g h (take_all n ys (omega arith))

-- ---- the places 0, d, 2d, ..: with m places to go to the next of them, i is one where m is 0

due_here : (d i m : ℕ) → (i + m) % d ≡ 0 → m ≡ 0 → due d i ≡ true
due_here d i m e h = eq-eqb (i % d) 0 (rw (h, add-zero) at e)

due_not : (d i m : ℕ) → (i + m) % d ≡ 0 → m < d → (m ≡ 0 → ⊥) → due d i ≡ false
due_not d i m e l h =
    ne_eqb (i % d) 0 λ z.
    h (sym (mod-eq_of_lt l) ∙ ap (λ (k : ℕ). k % d) (sym (zero-add m) ∙ ap (λ (k : ℕ). k + m) (sym z)) ∙ mod-add-mod i d m ∙ e)

-- The loop that leaps from such a place to the next, or to n.
pub record Leaping {S : Type 0} (d : ℕ) (step : S → Float → S) (out : S → Float → Float) (xs : List Float) (n : ℕ) (s : S) (ys : List Float) (i : ℕ) (f : S) (zs : List Float) : Type 0 where
  pub going : Going (each_due d step) (puts_due d out) xs n s ys i f zs
  pub on : i < n → i % d ≡ 0

-- The loop that goes from place to place, with m places to go to the next that is written.
pub record Counting {S : Type 0} (d : ℕ) (step : S → Float → S) (out : S → Float → Float) (xs : List Float) (n : ℕ) (s : S) (ys : List Float) (i m : ℕ) (f : S) (zs : List Float) : Type 0 where
  pub going : Going (each step) (puts_due d out) xs n s ys i f zs
  pub small : m < d
  pub on : (i + m) % d ≡ 0

module _ {S : Type 0} {d : ℕ} {step : S → Float → S} {out : S → Float → Float} {xs : List Float} {n : ℕ} {s : S} {ys : List Float} where
  pub leap_start : n ≡ min (length xs) (length ys) → Leaping d step out xs n s ys 0 s ys
  leap_start e = record { going = start e; on = λ h. zero-mod d }

  leap : {i j : ℕ} {f f' : S} {zs : List Float} {y : Float} → Leaping d step out xs n s ys i f zs → i < n → 0 < d → f' ≡ step f (at xs i) → y ≡ out f (at xs i)
      → j ≡ min n (i + d) → Leaping d step out xs n s ys j f' (set zs i y)
  leap {i} {j} {f} {f'} {zs} {y} l h z e o w =
      let now : due d i ≡ true = eq-eqb (i % d) 0 (l.on h) in
      let one = wrote {f' = f'} {y = y} l.going h (rw now e) (rw now o) in
      let turn : (i + d) % d ≡ 0 = add-mod_right i d ∙ l.on h in
      let end : suc i + (j - suc i) ≡ j = omega arith in
      let idle : (k : ℕ) → suc i ≤ k → k < suc i + (j - suc i) → (f' ≡ each_due d step k f' (at xs k)) × (at ys k ≡ puts_due d out k f' (at xs k) (at ys k)) =
      λ k a b.
      let back : k + (i + d - k) ≡ i + d = omega arith in
      let off : due d k ≡ false = due_not d k (i + d - k) (rw back turn) (omega arith) (λ q. omega arith) in (rw off refl, rw off refl) in
      record {
        going = rw end at (skipped (j - suc i) (omega arith) idle one);
        on = λ q. let w : j ≡ i + d = omega arith in rw w turn;
      }

  pub leap_filtered : {i : ℕ} {f : S} {zs : List Float} → Leaping d step out xs n s ys i f zs → n ≤ i → n ≡ min (length xs) (length ys)
      → Filtered (each_due d step) (puts_due d out) s (within xs ys) ys f zs
  leap_filtered l h e = filtered l.going h e

  -- a leap inside the first n places, and one that leaves them
  pub leap_on : {i : ℕ} {f f' : S} {zs : List Float} {y : Float} → Leaping d step out xs n s ys i f zs → i < n → 0 < d → f' ≡ step f (at xs i) → y ≡ out f (at xs i)
      → d < n - i → Leaping d step out xs n s ys (i + d) f' (set zs i y)
  leap_on {i} l h z e o q = leap {j = i + d} l h z e o (omega arith)

  pub leap_off : {i : ℕ} {f f' : S} {zs : List Float} {y : Float} → Leaping d step out xs n s ys i f zs → i < n → 0 < d → f' ≡ step f (at xs i) → y ≡ out f (at xs i)
      → n - i ≤ d → n ≡ min (length xs) (length ys) → Filtered (each_due d step) (puts_due d out) s (within xs ys) ys f' (set zs i y)
  leap_off {i} l h z e o q w = leap_filtered (leap {j = n} l h z e o (omega arith)) (omega arith) w

  pub count_start : n ≡ min (length xs) (length ys) → 0 < d → Counting d step out xs n s ys 0 0 s ys
  count_start e z = record { going = start e; small = omega arith; on = zero-mod d }

  pub count_write : {i m m' : ℕ} {f f' : S} {zs : List Float} {y : Float} → Counting d step out xs n s ys i m f zs → i < n → m ≤ 0 → m' ≡ d - 1
      → f' ≡ step f (at xs i) → y ≡ out f (at xs i) → Counting d step out xs n s ys (i + 1) m' f' (set zs i y)
  count_write {i} {m} {m'} {f} {f'} {zs} {y} g h z c e o =
      let now : due d i ≡ true = due_here d i m g.on (omega arith) in
      let turn : i + 1 + m' ≡ i + m + d = omega (arith, g.small) in
      record { going = again g.going h e (rw now o); small = omega (arith, g.small); on = rw (turn, add-mod_right) g.on }

  pub count_keep : {i m m' : ℕ} {f f' : S} {zs : List Float} → Counting d step out xs n s ys i m f zs → i < n → 0 < m → m' ≡ m - 1
      → f' ≡ step f (at xs i) → Counting d step out xs n s ys (i + 1) m' f' zs
  count_keep {i} {m} {m'} {f} {f'} {zs} g h z c e =
      let off : due d i ≡ false = due_not d i m g.on g.small (λ q. omega arith) in
      let turn : i + 1 + m' ≡ i + m = omega arith in
      record { going = rw add-one (kept g.going h e (rw off refl)); small = omega (arith, g.small); on = rw turn g.on }

  pub count_filtered : {i m : ℕ} {f : S} {zs : List Float} → Counting d step out xs n s ys i m f zs → n ≤ i → n ≡ min (length xs) (length ys)
      → Filtered (each step) (puts_due d out) s (within xs ys) ys f zs
  count_filtered g h e = filtered g.going h e

-- what `search` is handed at each need of such a loop
pub ruleset passing = (start, start_first, start_second, again, filtered, filtered_first, filtered_second, place_start, place_again, place_filtered, leap_start, leap_on, leap_off, leap_filtered, count_start, count_write, count_keep, count_filtered, rules)
