-- Parts written one after the other. Assumes nothing.
use Prim.Native.Nat.{ℕ, ◌+◌, ◌<◌}
use mathlib.Core.Path.{◌≡◌, ap, ◌∙◌}
use mathlib.Core.List.{List, [], ◌++◌}
use native.Mathlib.Omega.{arith}
use lib.ListN.{length, get_or, take, length-append}
use Rattle.std.proofs.lemmas.List.{take_more, flat_map_more}
use Rattle.std.specs.List.{flat_map}
use Rattle.lists.specs.Over.{Puts}
use Rattle.lists.proofs.Over.{over_behind, length_over}

-- one after the other is both at once
pub puts_more : {at r q : ℕ} {p xs ys zs vs : List ℕ} → Puts at p ys r zs → Puts r xs zs q vs → Puts at (p ++ xs) ys q vs
puts_more {at} {r} {q} {p} {xs} {ys} {zs} {vs} a b =
    let l : length zs ≡ length ys = ap length a.list ∙ length_over at p ys in
    let e : length (p ++ xs) ≡ length p + length xs = length-append p xs in
    let h = a.place in
    let k = b.place in
    record { list = b.list ∙ rw (h, a.list) (over_behind at p xs ys); place = omega arith }

-- the parts of the first so many elements, and one element's more
pub parts_more : {A : Type 0} (part : A → List ℕ) {at r q : ℕ} {ys zs vs : List ℕ} (l : List A) (i : ℕ) (d : A) → Puts at (flat_map part (take i l)) ys r zs
    → i < length l → Puts r (part (get_or l i d)) zs q vs → Puts at (flat_map part (take (i + 1) l)) ys q vs
parts_more part l i d a h b = rw (take_more l i d h, ← flat_map_more part [] (take i l) (get_or l i d)) (puts_more a b)
