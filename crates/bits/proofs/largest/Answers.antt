-- `bits::largest` is right: it folds by `max`, from 0.
use Rattle.std.proofs.Common.{◌≡◌, ◌∙◌, max, fold, rules}
use Rattle.std.proofs.Math.Nat.{zero-max}
use Rattle.bits.specs.Bits.{largest}
use Rattle.bits.proofs.laws.Check.{largest_fold}
use Rattle.bits.proofs.largest.Goals as goal

pub returns : goal.returns
returns c =
    let w = c.args.w.now in
    let e : c.fold.result ≡ fold max 0 w = search rules in
    e ∙ largest_fold 0 w ∙ zero-max (largest w)
