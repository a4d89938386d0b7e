-- Which words are NaNs, that every other word comes back from binary32, and words among bytes. Assumes nothing.
use mathlib.Core.Path.{◌≡◌, refl, sym, ap, subst, ◌∙◌}
use mathlib.Core.Bool.{Bool, true, false, not}
use mathlib.Core.List.{List}
use Prim.Native.Nat.{ℕ, ◌+◌, ◌/◌, ◌%◌, ◌≤◌, ◌<◌}
use native.Mathlib.Omega.{arith}
use lib.Dec.{T, eqb, ltb}
use lib.Ieee.{binary32, of_bits, to_bits, is_nan}
use lib.Ieee.Bits.{nan_bits_is, nan_bits_above, to_bits-of_bits}
use lib.ListN.{length, get_or, take, drop, length-take, length-drop, get_or-eq_default}
use lib.Seq.{get_or-take, get_or-drop}
use borrow.Author.Tests.{eqb-true, eq-eqb, ne_eqb, ltb-true, ltb-false}
use Rattle.std.specs.Int.{w32, to_le_bytes}
use Rattle.std.proofs.lemmas.Nat.{le_bytes_4}
use Rattle.words.specs.Word.{word_from, Bytes, written_nan, other_nan}

-- the bits below the sign, against those of the infinity
pub nan_test : (w : ℕ) → is_nan (of_bits binary32 w) ≡ ltb 0x7f80_0000 (w % 0x8000_0000)
nan_test w = sym (nan_bits_is binary32 w) ∙ nan_bits_above binary32 w

pub nan_written : (w : ℕ) → w ≡ 0x7fc0_0000 → false ≡ other_nan w
nan_written w e = rw (eq-eqb w written_nan e) refl

pub any_nan : (w : ℕ) → (w ≡ 0x7fc0_0000 → ⊥) → ltb 0x7f80_0000 (w % 0x8000_0000) ≡ other_nan w
any_nan w d = rw (ne_eqb w written_nan d) (sym (nan_test w))

-- a word that is no other NaN comes back when converted to binary32 and back
pub comes_back : (w : ℕ) → w < 0x1_0000_0000 → other_nan w ≡ false → to_bits binary32 (of_bits binary32 w) ≡ w
unfolding of_bits to_bits
comes_back w h e = go (eqb w written_nan) refl e
  where
    clear : (b : Bool) → b ≡ false → T (not b)
    clear true z = subst T z tt
    clear false z = tt

    go : (b : Bool) → eqb w written_nan ≡ b → other_nan w ≡ false → to_bits binary32 (of_bits binary32 w) ≡ w
    go true q z = let v = eqb-true w written_nan q in rw v refl
    go false q z = to_bits-of_bits binary32 w h (clear (is_nan (of_bits binary32 w)) (rw q at z))

-- ---- words among bytes

pub bytes_drop : (n : ℕ) (s : List ℕ) → Bytes s → Bytes (drop n s)
bytes_drop n s b i = rw get_or-drop (b (n + i))

pub bytes_take : (n : ℕ) (s : List ℕ) → Bytes s → Bytes (take n s)
bytes_take n s b i = go (ltb i n) refl
  where
    go : (t : Bool) → ltb i n ≡ t → get_or (take n s) i 0 < 256
    go true q = rw (get_or-take n s i 0 (ltb-true i n q)) (b i)
    go false q =
        let e : get_or (take n s) i 0 ≡ 0 = get_or-eq_default (take n s) 0 (omega (arith, length-take n s, ltb-false i n q)) in
        omega arith

pub word_small : (s : List ℕ) (i : ℕ) → Bytes s → word_from s i < 0x1_0000_0000
word_small s i b =
    let p = b i in
    let q = b (i + 1) in
    let r = b (i + 2) in
    let t = b (i + 3) in
    omega arith

-- the word whose bytes stand at a place
pub word_at_place : (b : List ℕ) (q w : ℕ) → w < 0x1_0000_0000 → ((m : ℕ) → m < 4 → get_or b (q + m) 0 ≡ get_or (to_le_bytes w32 w) m 0) → word_from b q ≡ w
word_at_place b q w s h =
    let z : q ≡ q + 0 = omega arith in
    let h0 : get_or b q 0 ≡ w % 256 = ap (λ (k : ℕ). get_or b k 0) z ∙ h 0 (omega arith) in
    let h1 : get_or b (q + 1) 0 ≡ w / 256 % 256 = h 1 (omega arith) in
    let h2 : get_or b (q + 2) 0 ≡ w / 65536 % 256 = h 2 (omega arith) in
    let h3 : get_or b (q + 3) 0 ≡ w / 16777216 % 256 = h 3 (omega arith) in
    omega arith

-- place m of a part
part_at : (b : List ℕ) (n q m : ℕ) → m < n → get_or (take n (drop q b)) m 0 ≡ get_or b (q + m) 0
part_at b n q m l = get_or-take n (drop q b) m 0 l ∙ get_or-drop q b m 0

-- the bytes of the word at a place
pub bytes_at_place : (b : List ℕ) (q : ℕ) → Bytes b → q + 4 ≤ length b → to_le_bytes w32 (word_from b q) ≡ take 4 (drop q b)
bytes_at_place b q h l =
    let z : q + 0 ≡ q = omega arith in
    let p0 : get_or (take 4 (drop q b)) 0 0 ≡ get_or b q 0 = part_at b 4 q 0 (omega arith) ∙ ap (λ (k : ℕ). get_or b k 0) z in
    let p1 = part_at b 4 q 1 (omega arith) in
    let p2 = part_at b 4 q 2 (omega arith) in
    let p3 = part_at b 4 q 3 (omega arith) in
    le_bytes_4 (take 4 (drop q b)) (word_from b q) (omega (arith, length-take 4 (drop q b), length-drop q b)) (bytes_take 4 (drop q b) (bytes_drop q b h)) (omega arith)
