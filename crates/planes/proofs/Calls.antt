-- What a call leaves of its output, and calls that undo each other. Assumes nothing.
use Prim.Native.Nat.{ℕ, ◌*◌, ◌/◌}
use mathlib.Core.Path.{◌≡◌, refl, sym, ap, ◌∙◌}
use mathlib.Core.List.{List, ◌++◌}
use mathlib.Core.Logic.{◌⊎◌, inl, inr}
use native.Mathlib.Omega.{arith}
use lib.ListN.{length, take, drop, length-append, length-drop}
use lib.Seq.{take-append_seam, drop-append_seam}
use Rattle.filter_core.proofs.Refusals.{stays}
use Rattle.std.proofs.lemmas.Bool.{cases_eq}
use Rattle.planes.specs.Planes.{planes_of, samples_of, arrange_number, arranged}
use Rattle.planes.specs.Rows.{Kept, KeepsTheRest}
use Rattle.planes.specs.RoundTrip.{Undoes, RoundTrip}
use Rattle.planes.proofs.Grid.{length_rows, transposed_twice}
use Rattle.planes.proofs.Rows.{taken, accepted, arranged_is}

module _ (f : ℕ → List ℕ → List ℕ) (long : (n : ℕ) (s : List ℕ) → length (f n s) ≡ 4 * n) where
  keeps : (s out : List ℕ) → Kept f s out
  keeps s out = go (cases_eq (arrange_number s out) 0)
    where
      go : (arrange_number s out ≡ 0) ⊎ (arrange_number s out ≡ 0 → ⊥) → Kept f s out
      go (inl z) =
          let t = taken (length s) (length out) z in
          let e = arranged_is f s out z in
          let k : length (f (length s / 4) s) ≡ length s = long (length s / 4) s ∙ sym t.whole in
          record {
            places =
                ap length e ∙ length-append (f (length s / 4) s) (drop (length s) out)
                ∙ rw (k, length-drop (length s) out) (omega (arith, t.room));
            behind =
                ap (drop (length s)) e ∙ ap (λ (j : ℕ). drop j (f (length s / 4) s ++ drop (length s) out)) (sym k)
                ∙ drop-append_seam (f (length s / 4) s) (drop (length s) out);
            refused = λ w. absurd (w z);
          }
      go (inr z) =
          let e : arranged f s out ≡ out = sym (stays out (f (length s / 4) s ++ drop (length s) out) refl z) in
          record { places = rw e refl; behind = rw e refl; refused = λ w. e }

  module _ (g : ℕ → List ℕ → List ℕ) (back : (n : ℕ) (s : List ℕ) → length s ≡ 4 * n → g n (f n s) ≡ s) where
    undoes : Undoes f g
    undoes s out more w h l =
        let n = length s / 4 in
        let k : length s ≡ 4 * n = omega arith in
        let i : length (f n s) ≡ length s = long n s ∙ sym k in
        let z = accepted (length s) (length out) w h in
        let a : take (length s) (arranged f s out) ≡ f n s =
        ap (take (length s)) (arranged_is f s out z) ∙ ap (λ (j : ℕ). take j (f n s ++ drop (length s) out)) (sym i)
        ∙ take-append_seam (f n s) (drop (length s) out) in
        let y : arrange_number (f n s) more ≡ 0 = rw i (accepted (length s) (length more) w l) in
        record {
          accepted = z;
          back_accepted = ap (λ (t : List ℕ). arrange_number t more) a ∙ y;
          bytes = ap (λ (t : List ℕ). arranged g t more) a ∙ arranged_is g (f n s) more y ∙ rw (i, back n s k) refl;
        }

length_planes : (n : ℕ) (s : List ℕ) → length (planes_of n s) ≡ 4 * n
length_planes n s = length_rows 4 n _

length_samples : (n : ℕ) (s : List ℕ) → length (samples_of n s) ≡ 4 * n
length_samples n s = length_rows n 4 _ ∙ omega arith

pub keeps_the_rest : KeepsTheRest
keeps_the_rest = record { planes = keeps planes_of length_planes; samples = keeps samples_of length_samples }

pub round_trip : RoundTrip
round_trip =
    record {
      planes_and_back = undoes planes_of length_planes samples_of (λ n s e. transposed_twice n 4 s (omega arith));
      samples_and_back = undoes samples_of length_samples planes_of (λ n s e. transposed_twice 4 n s e);
    }
