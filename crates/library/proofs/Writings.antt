-- Writing a library, part by part. Assumes nothing.
use Prim.Native.Nat.{ℕ}
use mathlib.Core.Path.{◌≡◌, refl, ◌∙◌}
use mathlib.Core.List.{List, [], ◌∷◌}
use lib.ListN.{length}
use Rattle.std.proofs.lemmas.List.Concat.{flat_map_single}
use Rattle.std.specs.List.{flat_map}
use Rattle.lists.specs.Over.{over, Puts}
use Rattle.lists.proofs.Puts.{puts_more}
use Rattle.sheets.specs.Edition.{edition_byte}
use Rattle.library.specs.Library.{bytes_of}
use Rattle.library.specs.declared.Library.{Library}
use Rattle.library.specs.declared.StoredEntry.{StoredEntry}

-- the sheet of a library: n and the edition, the kind bytes, the settings
pub put_together : (l : Library) {xs : List StoredEntry} {b p q r : ℕ} {out w x y : List ℕ} → xs ≡ l.entries.items → b ≡ edition_byte l.edition
    → Puts 0 (length xs ∷ b ∷ []) out p w → Puts p (flat_map (λ (t : StoredEntry). t.kind ∷ []) xs) w q x → Puts q (flat_map (λ (t : StoredEntry). t.setting) xs) x r y
    → y ≡ over 0 (bytes_of l) out
put_together l {xs} e d f g h = (puts_more (puts_more f g) h).list ∙ rw (flat_map_single (λ (t : StoredEntry). t.kind) xs, e, d) refl
