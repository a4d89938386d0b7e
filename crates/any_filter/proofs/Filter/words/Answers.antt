use mathlib.Core.Path.{◌∙◌, ap}
use mathlib.Core.List.{map}
use lib.Ieee.{binary32, to_bits}
use lib.ListN.{length}
use Rattle.any_filter.proofs.Laws.{eight, map_is}
use Rattle.any_filter.proofs.Filter.words.Goals as goal

pub returns : goal.returns
returns c =
    map_is (to_bits binary32) (λ p q x y t. t.met) (ap length c.fields.ensures ∙ eight c.args.self.now) c.map.ensures.items
    ∙ ap (map (to_bits binary32)) c.fields.ensures
