use Rattle.std.proofs.Common.{◌≡◌, ◌==◌, ℕ, ◌∙◌, ◌%◌, ap, sym}
use Rattle.std.specs.Int.{bit_at}
use Rattle.std.proofs.lemmas.Nat.Bits.{shr_and_one}
use Rattle.xm_price_maps.proofs.Members.{has_inside}
use Rattle.xm_price_maps.proofs.set.PriceSet.contains.Goals as goal

pub returns : goal.returns
returns g c =
    let pages : c.deref.result.now ≡ c.args.self.now.pages = cc in
    let stored = rw pages at c.word.ensures in
    ap (λ (x : ℕ). x == 1) (shr_and_one c.word.result (c.args.price % 64) ∙ ap (λ (x : ℕ). bit_at x (c.args.price % 64)) stored) ∙ sym (has_inside c.args.self.now c.args.price c.requires)
