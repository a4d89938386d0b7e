-- A whole line of the text of calls.
use Rattle.std.specs.Prelude.{ℕ, Bool, true, cond, List, [], ◌∷◌, Option, Some, None, Result, Ok, Err, eqb, ltb, length, get_or, option_map, option_and_then}
use Rattle.std.proofs.Common.{Bor}
use Rattle.digits.specs.Decimal.{number_of}
use Rattle.form_text.specs.Field.{fields_of, of_two, of_three, of_four, of_five}
use Rattle.form_text.specs.Form.{form_of}
use Rattle.call_text.specs.Buffer.{bytes_field, samples_field}
use Rattle.call_text.specs.Edition.{edition_of}
use Rattle.call_text.specs.Keyword.{keyword_of}
use Rattle.call_text.specs.declared.keyword.Keyword.{Keyword}
use Rattle.call_text.specs.declared.keyword.Keyword.TheVariants as keyword
use Rattle.call_text.specs.declared.keyword.Alone.{Alone}
use Rattle.call_text.specs.declared.keyword.Alone.TheVariants as alone
use Rattle.call_text.specs.declared.keyword.OfHead.{OfHead}
use Rattle.call_text.specs.declared.keyword.OfHead.TheVariants as of_head
use Rattle.call_text.specs.declared.keyword.OfHeadNumber.{OfHeadNumber}
use Rattle.call_text.specs.declared.keyword.OfHeadNumber.TheVariants as of_head_number
use Rattle.call_text.specs.declared.keyword.OfBuffer.{OfBuffer}
use Rattle.call_text.specs.declared.keyword.OfBuffer.TheVariants as of_buffer
use Rattle.call_text.specs.declared.keyword.OfBufferNumber.{OfBufferNumber}
use Rattle.call_text.specs.declared.keyword.OfBufferNumber.TheVariants as of_buffer_number
use Rattle.call_text.specs.declared.keyword.OfTwoBuffers.{OfTwoBuffers}
use Rattle.call_text.specs.declared.keyword.OfTwoBuffers.TheVariants as of_two_buffers
use Rattle.call_text.specs.declared.line.Call.{Call}
use Rattle.call_text.specs.declared.line.Call.TheVariants.{Open, Load, Run, Two, Rest, Mark, Back, Drop, Write, Check, Lookup, Head, Check1, Lookup1, Convert, Count, Begin, Take, Tell, Turn, Save, Restore, Planes, Samples, Trial}
use Rattle.call_text.specs.declared.bad_line.BadLine.{BadLine}
use Rattle.call_text.specs.declared.bad_line.BadLine.TheVariants.{NoCall, Words}

-- a call by the texts of its buffers and sheets
abbrev pub CallOf : Type 0
CallOf = Call (List ℕ)

-- n, unless it takes more than 16 bits
abbrev pub small : ℕ → Option ℕ
small n = cond (ltb 65535 n) None (Some n)

-- NUMBER, at most 65535
abbrev pub small_number : List ℕ → Option ℕ
small_number s = option_and_then small (number_of s)

-- HEAD, or the NUMBER of `trial`
abbrev pub one_number : List (List ℕ) → Option ℕ
one_number (h ∷ []) = number_of h
one_number _ = None

-- HEAD ENTRY, HEAD MARK
abbrev pub two_numbers : List (List ℕ) → Option (ℕ × ℕ)
two_numbers (h ∷ n ∷ []) = of_two (λ h n. (h, n)) (number_of h) (number_of n)
two_numbers _ = None

-- HEAD NUMBER, the second at most 65535
abbrev pub tell_call : List (List ℕ) → Option CallOf
tell_call (h ∷ n ∷ []) = of_two Tell (number_of h) (small_number n)
tell_call _ = None

-- BYTES
abbrev pub one_buffer : List (List ℕ) → Option (List ℕ)
one_buffer (b ∷ []) = bytes_field b
one_buffer _ = None

-- BYTES ENTRY
abbrev pub buffer_and_number : List (List ℕ) → Option (List ℕ × ℕ)
buffer_and_number (b ∷ n ∷ []) = of_two (λ b n. (b, n)) (bytes_field b) (number_of n)
buffer_and_number _ = None

-- BYTES BYTES
abbrev pub two_buffers : List (List ℕ) → Option (List ℕ × List ℕ)
two_buffers (i ∷ o ∷ []) = of_two (λ i o. (i, o)) (bytes_field i) (bytes_field o)
two_buffers _ = None

-- EDITION BYTES BYTES
abbrev pub convert_call : List (List ℕ) → Option CallOf
convert_call (v ∷ s ∷ o ∷ []) = of_three Convert (edition_of v) (bytes_field s) (bytes_field o)
convert_call _ = None

-- HEAD FORM IN OUT
abbrev pub run_call : List (List ℕ) → Option CallOf
run_call (h ∷ f ∷ i ∷ o ∷ []) = of_four Run (number_of h) (form_of f) (samples_field i) (samples_field o)
run_call _ = None

-- HEAD FORM IN OUT1 OUT2
abbrev pub two_call : List (List ℕ) → Option CallOf
two_call (h ∷ f ∷ i ∷ o ∷ p ∷ []) = of_five Two (number_of h) (form_of f) (samples_field i) (samples_field o) (samples_field p)
two_call _ = None

-- ---- the calls of the keywords behind which the same words stand

abbrev pub alone_call : Alone → List (List ℕ) → Option CallOf
alone_call alone.Begin [] = Some Begin
alone_call alone.Turn [] = Some Turn
alone_call _ _ = None

abbrev pub head_call : OfHead → ℕ → CallOf
head_call of_head.Rest h = Rest h
head_call of_head.Mark h = Mark h
head_call of_head.Head h = Head h
head_call of_head.Count h = Count h

abbrev pub head_number_call : OfHeadNumber → ℕ → ℕ → CallOf
head_number_call of_head_number.Load h n = Load h n
head_number_call of_head_number.Back h n = Back h n
head_number_call of_head_number.Drop h n = Drop h n

abbrev pub buffer_call : OfBuffer → List ℕ → CallOf
buffer_call of_buffer.Open b = Open b
buffer_call of_buffer.Write b = Write b
buffer_call of_buffer.Take b = Take b
buffer_call of_buffer.Save b = Save b
buffer_call of_buffer.Restore b = Restore b

abbrev pub buffer_number_call : OfBufferNumber → List ℕ → ℕ → CallOf
buffer_number_call of_buffer_number.Check b n = Check b n
buffer_number_call of_buffer_number.Lookup b n = Lookup b n
buffer_number_call of_buffer_number.Check1 b n = Check1 b n
buffer_number_call of_buffer_number.Lookup1 b n = Lookup1 b n

abbrev pub two_buffers_call : OfTwoBuffers → List ℕ → List ℕ → CallOf
two_buffers_call of_two_buffers.Planes i o = Planes i o
two_buffers_call of_two_buffers.Samples i o = Samples i o

-- what the fields behind a keyword make
abbrev pub call_for : Keyword → List (List ℕ) → Option CallOf
call_for (keyword.Alone k) fields = alone_call k fields
call_for (keyword.OfHead k) fields = option_map (head_call k) (one_number fields)
call_for (keyword.OfHeadNumber k) fields = option_map (λ p. head_number_call k p.0 p.1) (two_numbers fields)
call_for (keyword.OfBuffer k) fields = option_map (buffer_call k) (one_buffer fields)
call_for (keyword.OfBufferNumber k) fields = option_map (λ p. buffer_number_call k p.0 p.1) (buffer_and_number fields)
call_for (keyword.OfTwoBuffers k) fields = option_map (λ p. two_buffers_call k p.0 p.1) (two_buffers fields)
call_for keyword.Run fields = run_call fields
call_for keyword.Two fields = two_call fields
call_for keyword.Tell fields = tell_call fields
call_for keyword.Convert fields = convert_call fields
call_for keyword.Trial fields = option_map Trial (one_number fields)

-- an answer of `call_of`: none for a silent line
abbrev pub Answer : Type 0 → Type 0
Answer B = Result (Option (Call B)) BadLine

abbrev pub answer_for : Keyword → List (List ℕ) → Answer (List ℕ)
answer_for k fields = elim (call_for k fields) [ None ↦ Err Words | Some call ↦ Ok (Some call) ]

abbrev pub call_in : List (List ℕ) → Answer (List ℕ)
call_in [] = Err NoCall
call_in (word ∷ fields) = elim (keyword_of word) [ Err why ↦ Err why | Ok k ↦ answer_for k fields ]

-- an empty line or a comment; 35 is `#`
abbrev pub is_silent : List ℕ → Bool
is_silent s = cond (ltb (length s) 1) true (eqb (get_or s 0 0) 35)

-- 32 is the space
abbrev pub call_of : List ℕ → Answer (List ℕ)
call_of s = cond (is_silent s) (Ok None) (call_in (fields_of 32 s))

-- ---- the texts of what is lent

abbrev pub text_pair : Bor (List ℕ) × ℕ → List ℕ × ℕ
text_pair p = (p.0.now, p.1)

abbrev pub text_buffers : Bor (List ℕ) × Bor (List ℕ) → List ℕ × List ℕ
text_buffers p = (p.0.now, p.1.now)

abbrev pub text_call : Call (Bor (List ℕ)) → CallOf
text_call (Open s) = Open s.now
text_call (Load h e) = Load h e
text_call (Run h f i o) = Run h f i.now o.now
text_call (Two h f i o p) = Two h f i.now o.now p.now
text_call (Rest h) = Rest h
text_call (Mark h) = Mark h
text_call (Back h m) = Back h m
text_call (Drop h m) = Drop h m
text_call (Write o) = Write o.now
text_call (Check s e) = Check s.now e
text_call (Lookup s e) = Lookup s.now e
text_call (Head h) = Head h
text_call (Check1 s e) = Check1 s.now e
text_call (Lookup1 s e) = Lookup1 s.now e
text_call (Convert v s o) = Convert v s.now o.now
text_call (Count h) = Count h
text_call Begin = Begin
text_call (Take o) = Take o.now
text_call (Tell h n) = Tell h n
text_call Turn = Turn
text_call (Save o) = Save o.now
text_call (Restore b) = Restore b.now
text_call (Planes s o) = Planes s.now o.now
text_call (Samples p o) = Samples p.now o.now
text_call (Trial n) = Trial n

abbrev pub text_answer : Answer (Bor (List ℕ)) → Answer (List ℕ)
text_answer (Ok call) = Ok (option_map text_call call)
text_answer (Err why) = Err why
