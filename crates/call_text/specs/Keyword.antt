-- The keywords of lines.
use Rattle.std.specs.Prelude.{ℕ, List, [], ◌∷◌, Result, map, ok_or, codes}
use Rattle.std.proofs.Common.{Bor}
use Rattle.form_text.specs.Name.{look_up}
use Rattle.call_text.specs.declared.keyword.Keyword.{Keyword}
use Rattle.call_text.specs.declared.keyword.Keyword.TheVariants.{Alone, OfHead, OfHeadNumber, OfBuffer, OfBufferNumber, OfTwoBuffers, Run, Two, Tell, Convert, Trial}
use Rattle.call_text.specs.declared.keyword.Alone.TheVariants.{Begin, Turn}
use Rattle.call_text.specs.declared.keyword.OfHead.TheVariants.{Rest, Mark, Head, Count}
use Rattle.call_text.specs.declared.keyword.OfHeadNumber.TheVariants.{Load, Back, Drop}
use Rattle.call_text.specs.declared.keyword.OfBuffer.TheVariants.{Open, Write, Take, Save, Restore}
use Rattle.call_text.specs.declared.keyword.OfBufferNumber.TheVariants.{Check, Lookup, Check1, Lookup1}
use Rattle.call_text.specs.declared.keyword.OfTwoBuffers.TheVariants.{Planes, Samples}
use Rattle.call_text.specs.declared.bad_line.BadLine.{BadLine}
use Rattle.call_text.specs.declared.bad_line.BadLine.TheVariants.{NoCall}

abbrev pub keywords : List (List ℕ × Keyword)
keywords =
    (codes "run", Run)
    ∷ (codes "two", Two)
    ∷ (codes "turn", Alone Turn)
    ∷ (codes "tell", Tell)
    ∷ (codes "load", OfHeadNumber Load)
    ∷ (codes "rest", OfHead Rest)
    ∷ (codes "mark", OfHead Mark)
    ∷ (codes "back", OfHeadNumber Back)
    ∷ (codes "drop", OfHeadNumber Drop)
    ∷ (codes "open", OfBuffer Open)
    ∷ (codes "write", OfBuffer Write)
    ∷ (codes "begin", Alone Begin)
    ∷ (codes "take", OfBuffer Take)
    ∷ (codes "save", OfBuffer Save)
    ∷ (codes "restore", OfBuffer Restore)
    ∷ (codes "head", OfHead Head)
    ∷ (codes "count", OfHead Count)
    ∷ (codes "check", OfBufferNumber Check)
    ∷ (codes "lookup", OfBufferNumber Lookup)
    ∷ (codes "check1", OfBufferNumber Check1)
    ∷ (codes "lookup1", OfBufferNumber Lookup1)
    ∷ (codes "convert", Convert)
    ∷ (codes "planes", OfTwoBuffers Planes)
    ∷ (codes "samples", OfTwoBuffers Samples)
    ∷ (codes "trial", Trial)
    ∷ []

abbrev pub keyword_of : List ℕ → Result Keyword BadLine
keyword_of s = ok_or (look_up s keywords) NoCall

-- the names of a table that are lent, as texts
abbrev pub texts : List (Bor (List ℕ) × Keyword) → List (List ℕ × Keyword)
texts rows = map (λ row. (row.0.now, row.1)) rows
