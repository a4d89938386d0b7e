-- What a run, a rest and a load do to what a head holds.
use Rattle.std.specs.Prelude.{ℕ, ◌+◌, cond, List, ltb, length, Float, Option, None, Some, Result}
use Rattle.filter_core.specs.Buffer.{within}
use Rattle.filter_core.specs.Refusal.{number_in, unless_refused}
use Rattle.filter_core.specs.Rows.{◌then◌}
use Rattle.filter_core.specs.declared.refusal.Refusal.{Refusal}
use Rattle.sheets.specs.declared.entry.Entry.{Entry}
use Rattle.any_filter.specs.Cases.{type_of, rested}
use Rattle.any_filter.specs.declared.Filter.{Filter}
use Rattle.runs.specs.Form.{run_refusal, run_two_refusal}
use Rattle.runs.specs.Run.{through, first_output, second_output}
use Rattle.runs.specs.declared.form.RunForm.{RunForm}
use Rattle.loads.specs.Load.{filter_of}
use Rattle.heads.specs.Act.{Act, run, run_two, rest, HeadReply, answered, ran, ran_two, refused_act}
use Rattle.heads.specs.declared.Snapshot.{Snapshot}

abbrev pub empty_snapshot : Snapshot
empty_snapshot = record { filter = None; count = 0 }

abbrev pub holds : Filter → ℕ → Snapshot
holds f n = record { filter = Some f; count = n }

abbrev pub loaded_with : Entry → Snapshot
loaded_with e = holds (filter_of e) 0

-- ---- the count (02 i)

-- the greatest number of 32 bits
abbrev pub greatest_count : ℕ
greatest_count = 0xffff_ffff

-- 18 where a run over n samples would take the count above it
abbrev pub count_refusal : ℕ → ℕ → ℕ
count_refusal count n = cond (ltb greatest_count (count + n)) 18 0

-- the number of such a run, where byForm is what its form is refused with: 18 comes last
abbrev pub run_number : ℕ → ℕ → ℕ → ℕ
run_number byForm count n = byForm then count_refusal count n

-- ---- what a call comes to

-- what the caller sees, and what the head holds then
pub record Sewn : Type 0 where
  pub reply : HeadReply
  pub now : Snapshot

-- a refused call leaves what the head holds
abbrev pub left : Snapshot → Act → ℕ → Sewn
left s a n = record { reply = refused_act n a; now = s }

-- by the filter that is held; where none is, the call is refused
abbrev pub on_filter : Option Filter → Sewn → (Filter → Sewn) → Sewn
on_filter None bare t = bare
on_filter (Some f) bare t = t f

abbrev pub run_by : Snapshot → RunForm → List Float → List Float → Filter → Sewn
run_by s form us ys f =
    let xs = within us ys in
    let number = run_number (run_refusal (type_of f) form) s.count (length xs) in
    unless_refused number (left s (run form us ys) number)
    (record { reply = ran 0 (first_output f form xs ys); now = holds (through f form xs) (s.count + length xs) })

unfoldable pub run_sewn : Snapshot → RunForm → List Float → List Float → Sewn
run_sewn s form us ys = on_filter s.filter (left s (run form us ys) 6) (run_by s form us ys)

abbrev pub run_two_by : Snapshot → RunForm → List Float → List Float → List Float → Filter → Sewn
run_two_by s form us ys zs f =
    let xs = within (within us ys) zs in
    let number = run_number (run_two_refusal (type_of f) form) s.count (length xs) in
    unless_refused number (left s (run_two form us ys zs) number)
    (record { reply = ran_two 0 (first_output f form xs ys) (second_output f form xs zs); now = holds (through f form xs) (s.count + length xs) })

unfoldable pub run_two_sewn : Snapshot → RunForm → List Float → List Float → List Float → Sewn
run_two_sewn s form us ys zs = on_filter s.filter (left s (run_two form us ys zs) 6) (run_two_by s form us ys zs)

abbrev pub rest_by : Snapshot → Filter → Sewn
rest_by s f = record { reply = answered 0; now = holds (rested f) s.count }

unfoldable pub rest_sewn : Snapshot → Sewn
rest_sewn s = on_filter s.filter (left s rest 6) (rest_by s)

-- ---- the answers of the code, what the head holds then, and the lent outputs as they are left

abbrev pub sewn_plainly : {A : Type 0} → Result A Refusal → Snapshot → Sewn
sewn_plainly r s = record { reply = answered (number_in r); now = s }

abbrev pub sewn_with : {A : Type 0} → Result A Refusal → Snapshot → List Float → Sewn
sewn_with r s ys = record { reply = ran (number_in r) ys; now = s }

abbrev pub sewn_with_two : {A : Type 0} → Result A Refusal → Snapshot → List Float → List Float → Sewn
sewn_with_two r s ys zs = record { reply = ran_two (number_in r) ys zs; now = s }
