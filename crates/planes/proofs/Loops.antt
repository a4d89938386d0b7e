-- The loops over the samples: what stands in a plane, and in the output, as they come to a sample. Assumes nothing.
use Prim.Native.Nat.{ℕ, suc, ◌+◌, ◌*◌, ◌≤◌, ◌<◌}
use mathlib.Core.Path.{◌≡◌, refl, sym, ap, subst, ◌∙◌}
use mathlib.Core.List.{List, [], ◌∷◌, ◌++◌, append_assoc}
use native.Mathlib.Omega.{arith}
use lib.ListN.{length, get_or, set, take, drop, length-append, drop_of_length-le}
use lib.Seq.{drop-cons, set-append_seam, append_snoc, get_or-take, get_or-drop, drop-drop}
use Rattle.std.proofs.lemmas.List.{append-nil}
use Rattle.lists.specs.Table.{table}
use Rattle.lists.proofs.Tables.{length_table, table_none, table_more}
use Rattle.planes.specs.Grid.{rows, cell}
use Rattle.planes.specs.Planes.{planes_of, samples_of}
use Rattle.planes.proofs.Grid.{length_rows, rows_more}

-- zs is ys with xs over its front
pub record Fills (xs ys zs : List ℕ) : Type 0 where
  pub list : zs ≡ xs ++ drop (length xs) ys
  pub room : length xs ≤ length ys

pub fills_none : (ys : List ℕ) → Fills [] ys ys
fills_none ys = record { list = refl; room = omega arith }

-- one place more
pub fills_more : {xs ys zs : List ℕ} {k : ℕ} (a : ℕ) → Fills xs ys zs → k ≡ length xs → k < length ys → Fills (xs ++ a ∷ []) ys (set zs k a)
fills_more {xs} {ys} {zs} {k} a f e h =
    let m : length (xs ++ a ∷ []) ≡ suc (length xs) = length-append xs (a ∷ []) ∙ omega arith in
    let d = f.list ∙ ap (λ (l : List ℕ). xs ++ l) (drop-cons ys (length xs) 0 (omega arith)) in
    record {
      list =
          ap (λ (j : ℕ). set zs j a) e ∙ ap (λ (l : List ℕ). set l (length xs) a) d
          ∙ set-append_seam xs (get_or ys (length xs) 0) (drop (suc (length xs)) ys) a ∙ sym (append_snoc xs a (drop (suc (length xs)) ys))
          ∙ ap (λ (j : ℕ). (xs ++ a ∷ []) ++ drop j ys) (sym m);
      room = omega arith;
    }

-- four places more
pub fills_four : {xs ys zs : List ℕ} {k : ℕ} (a b c d : ℕ) → Fills xs ys zs → k ≡ length xs → k + 4 ≤ length ys
    → Fills (xs ++ a ∷ b ∷ c ∷ d ∷ []) ys (set (set (set (set zs k a) (k + 1) b) (k + 2) c) (k + 3) d)
fills_four {xs} {ys} {zs} {k} a b c d f e h =
    let la = length-append xs (a ∷ []) in
    let lb = length-append (xs ++ a ∷ []) (b ∷ []) in
    let lc = length-append ((xs ++ a ∷ []) ++ b ∷ []) (c ∷ []) in
    let p = fills_more a f e (omega arith) in
    let q = fills_more {k = k + 1} b p (omega arith) (omega arith) in
    let r = fills_more {k = k + 2} c q (omega arith) (omega arith) in
    let s = fills_more {k = k + 3} d r (omega arith) (omega arith) in
    subst (λ (l : List ℕ). Fills l ys (set (set (set (set zs k a) (k + 1) b) (k + 2) c) (k + 3) d))
    (append_assoc ((xs ++ a ∷ []) ++ b ∷ []) (c ∷ []) (d ∷ []) ∙ append_assoc (xs ++ a ∷ []) (b ∷ []) (c ∷ d ∷ [])
    ∙ append_assoc xs (a ∷ []) (b ∷ c ∷ d ∷ [])) s

-- as many as there are
pub fills_all : {xs ys zs : List ℕ} → Fills xs ys zs → length xs ≡ length ys → zs ≡ xs
fills_all {xs} {ys} f e = f.list ∙ ap (λ (l : List ℕ). xs ++ l) (drop_of_length-le ys (omega arith)) ∙ append-nil xs

-- byte p of the sample i, as the loop reads it
byte_read : (s bs : List ℕ) (i p : ℕ) {q : ℕ} → bs ≡ take 4 (drop (4 * i) s) → q ≡ p → p < 4 → get_or bs q 0 ≡ cell 4 s i p
byte_read s bs i p {q} e h l =
    ap (λ (t : List ℕ). get_or t q 0) e ∙ get_or-take 4 (drop (4 * i) s) q 0 (omega arith) ∙ get_or-drop (4 * i) s q 0
    ∙ ap (λ (k : ℕ). get_or s k 0) {x = 4 * i + q} {y = i * 4 + p} (omega arith)

-- ---- samples to planes

-- plane p, which was y, has byte p of the samples before i
pub record Plane (n : ℕ) (s : List ℕ) (p : ℕ) (y : List ℕ) (i : ℕ) (z : List ℕ) : Type 0 where
  pub places : length y ≡ n
  pub filled : Fills (table i (λ j. cell 4 s j p)) y z

plane_none : {n : ℕ} (s : List ℕ) (p : ℕ) {y : List ℕ} → length y ≡ n → Plane n s p y 0 y
plane_none s p {y} l = record { places = l; filled = rw (table_none (λ j. cell 4 s j p)) (fills_none y) }

plane_more : {n i p a : ℕ} {s y z : List ℕ} → Plane n s p y i z → i < n → a ≡ cell 4 s i p → Plane n s p y (i + 1) (set z i a)
plane_more {n} {i} {p} {a} {s} {y} {z} f h e =
    let k = length_table i (λ j. cell 4 s j p) in
    record {
      places = f.places;
      filled = rw (e, table_more i (λ j. cell 4 s j p)) (fills_more (cell 4 s i p) f.filled (sym k) (omega (arith, f.places)));
    }

plane_all : {n i p : ℕ} {s y z : List ℕ} → i ≡ n → Plane n s p y i z → z ≡ table n (λ j. cell 4 s j p)
plane_all {n} {i} {p} {s} e f =
    rw (← e) (fills_all f.filled (length_table i (λ j. cell 4 s j p) ∙ e ∙ sym f.places))

-- as the loop comes to the sample i
pub record Spread (n : ℕ) (s y0 y1 y2 y3 : List ℕ) (i : ℕ) (z0 z1 z2 z3 : List ℕ) : Type 0 where
  pub whole : 4 * n ≤ length s
  pub inside : i ≤ n
  pub first : Plane n s 0 y0 i z0
  pub second : Plane n s 1 y1 i z1
  pub third : Plane n s 2 y2 i z2
  pub fourth : Plane n s 3 y3 i z3

module _ {n : ℕ} {s y0 y1 y2 y3 : List ℕ} where
  pub spread_start : 4 * n ≤ length s → length y0 ≡ n → length y1 ≡ n → length y2 ≡ n → length y3 ≡ n → Spread n s y0 y1 y2 y3 0 y0 y1 y2 y3
  spread_start w a b c d =
      record {
        whole = w;
        inside = omega arith;
        first = plane_none s 0 a;
        second = plane_none s 1 b;
        third = plane_none s 2 c;
        fourth = plane_none s 3 d;
      }

  pub spread_more : {i p0 p1 p2 p3 : ℕ} {z0 z1 z2 z3 bs ws : List ℕ} → Spread n s y0 y1 y2 y3 i z0 z1 z2 z3 → i < n
      → bs ≡ ws → ws ≡ take 4 (drop (4 * i) s) → p0 ≡ 0 → p1 ≡ 1 → p2 ≡ 2 → p3 ≡ 3
      → Spread n s y0 y1 y2 y3 (i + 1) (set z0 i (get_or bs p0 0)) (set z1 i (get_or bs p1 0)) (set z2 i (get_or bs p2 0)) (set z3 i (get_or bs p3 0))
  spread_more {i} {bs = bs} g h d e q0 q1 q2 q3 =
      let b = d ∙ e in
      record {
        whole = g.whole;
        inside = omega arith;
        first = plane_more g.first h (byte_read s bs i 0 b q0 (omega arith));
        second = plane_more g.second h (byte_read s bs i 1 b q1 (omega arith));
        third = plane_more g.third h (byte_read s bs i 2 b q2 (omega arith));
        fourth = plane_more g.fourth h (byte_read s bs i 3 b q3 (omega arith));
      }

  -- what stands behind the planes was cut off plane by plane
  pub spread_end : {i : ℕ} {z0 z1 z2 z3 r0 r1 r2 r3 : List ℕ} (out : List ℕ) → Spread n s y0 y1 y2 y3 i z0 z1 z2 z3 → (i < n → ⊥)
      → r0 ≡ drop n out → r1 ≡ drop n r0 → r2 ≡ drop n r1 → r3 ≡ drop n r2
      → z0 ++ (z1 ++ (z2 ++ (z3 ++ r3))) ≡ planes_of n s ++ drop (4 * n) out
  unfolding rows
  spread_end {i} {z0} {z1} {z2} {z3} {r0} {r1} {r2} {r3} out g h a b c d =
      let e : i ≡ n = omega (arith, g.inside) in
      let q : drop n (drop n (drop n (drop n out))) ≡ drop (4 * n) out =
      drop-drop n n (drop n (drop n out)) ∙ drop-drop (n + n) n (drop n out) ∙ drop-drop (n + (n + n)) n out
      ∙ ap (λ (k : ℕ). drop k out) {x = n + (n + (n + n))} {y = 4 * n} (omega arith) in
      rw (plane_all e g.first, plane_all e g.second, plane_all e g.third, plane_all e g.fourth, d, c, b, a, q, append_assoc, append_assoc, append_assoc, append_assoc) refl

-- ---- planes to samples

-- byte p of the sample i, among the planes
abbrev pub byte_of : ℕ → List ℕ → ℕ → ℕ → ℕ
byte_of n t i p = cell n t p i

-- as the loop comes to the sample i, the output z has those before it
pub record Joined (n : ℕ) (t y : List ℕ) (i : ℕ) (z : List ℕ) : Type 0 where
  pub whole : 4 * n ≤ length t
  pub room : 4 * n ≤ length y
  pub inside : i ≤ n
  pub filled : Fills (rows i 4 (byte_of n t)) y z

module _ {n : ℕ} {t y : List ℕ} where
  pub join_start : 4 * n ≤ length t → 4 * n ≤ length y → Joined n t y 0 y
  unfolding rows
  join_start w r = record { whole = w; room = r; inside = omega arith; filled = fills_none y }

  pub join_more : {i k0 k1 k2 k3 q0 q1 q2 q3 : ℕ} {z : List ℕ} → Joined n t y i z → i < n
      → k0 ≡ 4 * i → k1 ≡ 4 * i + 1 → k2 ≡ 4 * i + 2 → k3 ≡ 4 * i + 3 → q0 ≡ 0 * n + i → q1 ≡ 1 * n + i → q2 ≡ 2 * n + i → q3 ≡ 3 * n + i
      → Joined n t y (i + 1) (set (set (set (set z k0 (get_or t q0 0)) k1 (get_or t q1 0)) k2 (get_or t q2 0)) k3 (get_or t q3 0))
  unfolding table
  join_more {i} g h a b c d e0 e1 e2 e3 =
      let k : length (rows i 4 (byte_of n t)) ≡ 4 * i = length_rows i 4 (byte_of n t) ∙ omega arith in
      let q = g.room in
      record {
        whole = g.whole;
        room = g.room;
        inside = omega arith;
        filled = rw (rows_more i 4 (byte_of n t), a, b, c, d, e0, e1, e2, e3) (fills_four _ _ _ _ g.filled (sym k) (omega arith));
      }

  pub join_end : {i : ℕ} {z : List ℕ} → Joined n t y i z → (i < n → ⊥) → z ≡ samples_of n t ++ drop (4 * n) y
  join_end {i} {z} g h =
      let e : i ≡ n = omega (arith, g.inside) in
      let k : length (rows i 4 (byte_of n t)) ≡ 4 * i = length_rows i 4 (byte_of n t) ∙ omega arith in
      g.filled.list ∙ rw (k, e) refl
