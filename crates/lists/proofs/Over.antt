-- One list written over another. Assumes nothing.
use Prim.Native.Nat.{ℕ, ◌+◌, ◌≤◌, ◌<◌, min}
use mathlib.Core.Path.{◌≡◌, refl, sym, ap, ◌∙◌}
use mathlib.Core.List.{List, [], ◌∷◌, ◌++◌, append_assoc}
use mathlib.Core.Logic.{⊎_elim}
use native.Mathlib.Nat.{zero-add, add_assoc}
use native.Mathlib.Numerals.{add-one}
use native.Mathlib.Omega.{arith}
use borrow.Rule.Slice.PartMut.{put_mid}
use lib.ListN.{length, set, take, drop, length-append}
use lib.Seq.{paste, paste-zero, length-paste, take-paste, drop-paste, take-append-add, take-append-le, take-length, drop-drop, set_split}
use Rattle.lists.specs.Over.{room, over}
use Rattle.std.proofs.lemmas.Bool.{cases_lt}
use Rattle.std.proofs.lemmas.List.{take_min, drop_min}

module _ {A : Type 0} where
  -- where nothing has room, nothing is written
  over_nothing : (at : ℕ) (xs ys : List A) → room at xs ys ≡ 0 → over at xs ys ≡ ys
  unfolding over
  over_nothing at xs ys e = rw e (sym (paste-zero ys at xs))

  pub over_none : (at : ℕ) (ys : List A) → over at [] ys ≡ ys
  over_none at ys = over_nothing at [] ys (omega arith)

  pub over_past : (at : ℕ) (xs ys : List A) → length ys ≤ at → over at xs ys ≡ ys
  over_past at xs ys h = over_nothing at xs ys (omega arith)

  length_inside : (at : ℕ) (xs ys : List A) → at ≤ length ys → length (over at xs ys) ≡ length ys
  unfolding over
  length_inside at xs ys h = length-paste ys at xs (room at xs ys) (omega arith) (omega arith)

  pub length_over : (at : ℕ) (xs ys : List A) → length (over at xs ys) ≡ length ys
  length_over at xs ys = ⊎_elim (λ h. ap length (over_past at xs ys (omega arith))) (length_inside at xs ys) (cases_lt (length ys) at)

  -- what a part of ys becomes that takes the front of xs
  pub over_part : (at : ℕ) {k n : ℕ} (xs ys : List A) {zs : List A} → n ≡ room at xs ys → k ≡ n → zs ≡ take n xs → put_mid at k ys zs ≡ over at xs ys
  unfolding over
  over_part at xs ys e d z =
      rw (d, z, e, drop-drop (room at xs ys) at ys) (sym (append_assoc (take at ys) (take (room at xs ys) xs) (drop (at + room at xs ys) ys)))

  -- all of it, where it has room
  pub over_all : (xs ys : List A) → length xs ≤ length ys → over 0 xs ys ≡ xs ++ drop (length xs) ys
  unfolding over
  over_all xs ys h =
      let w : room 0 xs ys ≡ length xs = omega arith in
      rw (w, zero-add (length xs), take-length xs) refl

  -- one place
  pub over_one : (at : ℕ) (x : A) (ys : List A) → at < length ys → over at (x ∷ []) ys ≡ set ys at x
  unfolding over
  over_one at x ys h =
      let w : room at (x ∷ []) ys ≡ 1 = omega arith in
      rw (w, add-one at, append_assoc) (sym (set_split ys at x h))

  -- ---- one after the other is both at once

  paste_paste : (xs ws ys : List A) (at n m : ℕ) → at ≤ length ys → n ≤ length xs → take (n + m) (xs ++ ws) ≡ take n xs ++ take m ws
      → paste (paste ys at xs n) (at + n) ws m ≡ paste ys at (xs ++ ws) (n + m)
  paste_paste xs ws ys at n m l h e =
      ap (λ (z : List A). z ++ take m ws ++ drop (at + n + m) (paste ys at xs n)) (take-paste ys at xs n l h)
      ∙ ap (λ (z : List A). take at ys ++ take n xs ++ take m ws ++ z)
      (sym (drop-drop m (at + n) (paste ys at xs n)) ∙ ap (λ (z : List A). drop m z) (drop-paste ys at xs n l h) ∙ drop-drop m (at + n) ys)
      ∙ ap (λ (z : List A). z ++ drop (at + n + m) ys) (append_assoc (take at ys) (take n xs) (take m ws) ∙ ap (λ (z : List A). take at ys ++ z) (sym e))
      ∙ ap (λ (k : ℕ). take at ys ++ take (n + m) (xs ++ ws) ++ drop k ys) (add_assoc at n m)

  room_append : (at : ℕ) (xs ws ys : List A) → at + length xs ≤ length ys → room at (xs ++ ws) ys ≡ length xs + room (at + length xs) ws ys
  room_append at xs ws ys h = rw (length-append xs ws) (omega arith)

  over_inside : (at : ℕ) (xs ws ys : List A) → at + length xs ≤ length ys → over (at + length xs) ws (over at xs ys) ≡ over at (xs ++ ws) ys
  unfolding over
  over_inside at xs ws ys h =
      let n = length xs in
      let a : room at xs ys ≡ n = omega arith in
      let b : room (at + n) ws (paste ys at xs n) ≡ room (at + n) ws ys = rw (length-paste ys at xs n h (omega arith)) refl in
      let m = room (at + n) ws ys in
      let c = room_append at xs ws ys h in
      let t : take (n + m) (xs ++ ws) ≡ take n xs ++ take m ws = take-append-add xs ws m ∙ rw (take-length xs) refl in
      rw (a, b, c) (paste_paste xs ws ys at n m (omega arith) (omega arith) t)

  -- what has no room makes no difference
  over_full : (at : ℕ) (xs ws ys : List A) → length ys ≤ at + length xs → over at (xs ++ ws) ys ≡ over at xs ys
  unfolding over
  over_full at xs ws ys h =
      let a : room at (xs ++ ws) ys ≡ room at xs ys = rw (length-append xs ws) (omega arith) in
      rw (a, take-append-le (room at xs ys) xs ws (omega arith)) refl

  over_lost : (at k : ℕ) (xs ws ys : List A) → length ys ≤ at + length xs → length ys ≤ k → over k ws (over at xs ys) ≡ over at (xs ++ ws) ys
  over_lost at k xs ws ys h l = over_past k ws (over at xs ys) (rw (length_over at xs ys) l) ∙ sym (over_full at xs ws ys h)

  -- from the place behind those that had room
  pub over_behind : (at : ℕ) (xs ws ys : List A) → over (at + room at xs ys) ws (over at xs ys) ≡ over at (xs ++ ws) ys
  over_behind at xs ws ys =
      ⊎_elim
      (λ h. over_lost at (at + room at xs ys) xs ws ys (omega arith) (omega arith))
      (λ h. let a : room at xs ys ≡ length xs = omega arith in rw a (over_inside at xs ws ys h))
      (cases_lt (length ys) (at + length xs))

-- ---- as many as there are

module _ {A : Type 0} where
  -- what had room, and what is left of it
  pub take_room : (xs ys : List A) → take (room 0 xs ys) xs ≡ take (length ys) xs
  take_room xs ys = let e : room 0 xs ys ≡ min (length ys) (length xs) = omega arith in rw e (take_min (length ys) xs)

  pub drop_room : (xs ys : List A) → drop (room 0 xs ys) xs ≡ drop (length ys) xs
  drop_room xs ys = let e : room 0 xs ys ≡ min (length ys) (length xs) = omega arith in rw e (drop_min (length ys) xs)

  -- what was written, and what stands behind it
  pub over_written : (xs ys : List A) → take (room 0 xs ys) (over 0 xs ys) ≡ take (length ys) xs
  unfolding over
  over_written xs ys =
      let n = room 0 xs ys in
      ap (λ (k : ℕ). take k (paste ys 0 xs n)) (sym (zero-add n)) ∙ take-paste ys 0 xs n (omega arith) (omega arith) ∙ take_room xs ys

  pub over_kept : (xs ys : List A) → drop (room 0 xs ys) (over 0 xs ys) ≡ drop (room 0 xs ys) ys
  unfolding over
  over_kept xs ys =
      let n = room 0 xs ys in
      ap (λ (k : ℕ). drop k (paste ys 0 xs n)) (sym (zero-add n)) ∙ drop-paste ys 0 xs n (omega arith) (omega arith) ∙ ap (λ (k : ℕ). drop k ys) (zero-add n)
