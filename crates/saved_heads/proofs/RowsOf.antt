-- The rows of heads, one head after the other. Assumes nothing.
use Prim.Native.Nat.{ℕ, suc, ◌+◌, ◌<◌}
use mathlib.Core.Path.{◌≡◌, refl, sym, ap, ◌∙◌}
use mathlib.Core.List.{List, [], ◌∷◌, ◌++◌, append_assoc, append-nil}
use native.Mathlib.Omega.{arith}
use lib.ListN.{length, get_or, take, length-take}
use Rattle.std.proofs.lemmas.List.{take_more}
use Rattle.heads.specs.declared.Head.{Head}
use Rattle.saved_heads.specs.Bytes.{head_rows, rows_from}
use Rattle.saved_heads.specs.declared.Row.{Row}

pub rows_none : (h : ℕ) → rows_from h [] ≡ []
unfolding rows_from
rows_none h = refl

rows_push : (h : ℕ) (xs : List Head) (x : Head) → rows_from h (xs ++ x ∷ []) ≡ rows_from h xs ++ head_rows (h + length xs) x
unfolding rows_from
rows_push h [] x = append-nil (head_rows h x) ∙ ap (λ (k : ℕ). head_rows k x) (omega arith)
rows_push h (y ∷ xs) x =
    ap (λ (l : List Row). head_rows h y ++ l) (rows_push (suc h) xs x)
    ∙ sym (append_assoc (head_rows h y) (rows_from (suc h) xs) (head_rows (suc h + length xs) x))
    ∙ ap (λ (k : ℕ). (head_rows h y ++ rows_from (suc h) xs) ++ head_rows k x) (omega arith)

-- those of one head more
pub rows_more : (xs : List Head) (i : ℕ) (d : Head) {rs : List Row} → i < length xs → rs ≡ rows_from 0 (take i xs) ++ head_rows i (get_or xs i d) → rs ≡ rows_from 0 (take (i + 1) xs)
rows_more xs i d h e =
    let l : 0 + length (take i xs) ≡ i = omega (arith, length-take i xs) in
    e ∙ ap (λ (k : ℕ). rows_from 0 (take i xs) ++ head_rows k (get_or xs i d)) (sym l) ∙ sym (rows_push 0 (take i xs) (get_or xs i d)) ∙ ap (rows_from 0) (sym (take_more xs i d h))
