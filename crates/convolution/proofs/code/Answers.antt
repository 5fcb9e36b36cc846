-- `convolution::code` is right: before bit k it has written the k pairs before, each by its two formulas.
use mathlib.Core.Path.{sym, ◌∙◌}
use Prim.Native.Nat.{◌+◌, ◌*◌, ◌<◌}
use native.Mathlib.Omega.{arith}
use lib.ListN.{length}
use Rattle.convolution.specs.Pairs.{coded, coded_at}
use Rattle.convolution.proofs.laws.Pairs.{coded_even, coded_odd}
use Rattle.bits.proofs.laws.Tab.{filled_pair, filled_all}
use Rattle.convolution.proofs.code.Goals as goal

pub loop-k-preserved : goal.loop-k-preserved
loop-k-preserved c =
    let u = c.args.u.now in
    let l = c.loop-k in
    let k = l.k in
    let lt : 2 * k + 1 < 2 * length u = omega arith in
    filled_pair (coded_at u) (2 * length u) k c.first-x.result c.second.result l.c l.invariant lt
    (c.first-x.ensures ∙ sym (coded_even u k)) (c.second.ensures ∙ sym (coded_odd u k))

pub returns : goal.returns
unfolding coded
returns c =
    let u = c.args.u.now in
    let l = c.loop-k in
    filled_all (coded_at u) (2 * length u) (2 * l.k) l.c l.invariant (omega arith)
