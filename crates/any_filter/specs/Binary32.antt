-- Float has numbers that binary32 does not hold. It holds a filter if it holds each of its fields.
use Rattle.std.specs.Prelude.{T, List, Float}
use Rattle.std.specs.List.{All}
use Rattle.std.specs.Float.{binary32}
use Rattle.std.specs.Float.Ieee.{fits}
use Rattle.any_filter.specs.Fields.{fields_of}
use Rattle.any_filter.specs.declared.Filter.{Filter}

abbrev pub IsBinary32 : Float → Type 0
IsBinary32 x = T (fits binary32 x)

abbrev pub AllBinary32 : List Float → Type 0
AllBinary32 = All IsBinary32

abbrev pub Representable : Filter → Type 0
Representable f = AllBinary32 (fields_of f)
