-- No plainer: named by `using`, the law does not prove this, since a premise of it speaks of every place.
use Rattle.sheets.proofs.Returns.{words_return}
use Rattle.sheets.proofs.words_return.Goals as goal

pub returns : goal.returns
returns c = words_return
