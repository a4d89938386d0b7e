-- A rota is the picture of its history, and each call keeps that: what demand 3 says of the rota and one call.
use Rattle.std.specs.Prelude.{◌≡◌, List, []}
use Rattle.lists.specs.Table.{table}
use Rattle.rota.specs.Call.{Call, refused}
use Rattle.rota.specs.Rota.{fresh_rota, perform}
use Rattle.rota.specs.History.{Event, owed, last_served, reply_to, call_number, advance}
use Rattle.rota.specs.declared.Rota.{Rota}

-- the rota of a history: each head has left what is owed to it
abbrev pub rota_for : List Event → Rota
rota_for l = record { left = table 12 (owed l); last = last_served l }

pub record RotaFollows : Type 0 where
  pub fresh : fresh_rota ≡ rota_for []
  pub call : (l : List Event) (c : Call) → perform (rota_for l) c ≡ record { reply = reply_to l c; rota = rota_for (advance l c) }
  -- a refused call replies its number alone, and adds nothing
  pub refused : (l : List Event) (c : Call) → (call_number l c ≡ 0 → ⊥) → (reply_to l c ≡ refused (call_number l c) c) × (advance l c ≡ l)
