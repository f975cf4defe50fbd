use Rattle.std.proofs.Common.{rules}
use Rattle.xm_price_maps.specs.Words.{word}
use Rattle.xm_price_maps.proofs.words.word.Goals as goal

pub returns : goal.returns
unfolding word
returns g c = search rules
