-- `trellis::search::search` is right: after k pairs it holds the row there, and the choices of the k pairs before are kept.
use mathlib.Core.List.{List, []}
use mathlib.Core.Path.{refl, ◌∙◌}
use Prim.Native.Nat.{ℕ}
use Rattle.std.proofs.Common.{arith, below_more, subst}
use lib.ListN.{get_or}
use Rattle.trellis.specs.laws.Memory.{word_of}
use Rattle.trellis.proofs.laws.Memory.{row_none, row_more, costs_of, word_is}
use Rattle.trellis.proofs.search.search.Goals as goal

pub loop-k-init : goal.loop-k-init
loop-k-init g c = record {
  places = c.requires.2;
  row = c.first_row-row.ensures ∙ row_none c.args.c.now;
  kept = λ i h. absurd (omega (arith, h));
}

pub loop-k-preserved : goal.loop-k-preserved
loop-k-preserved g c =
    let l = c.loop-k in
    let all = c.all_costs-costs in
    let at = c.cost_place in
    let r = c.args.c.now in
    let w : List ℕ = get_or all.result at.result [] in
    let found = costs_of r c.requires.1 all.result all.ensures l.k at.result at.ensures.0 in
    record {
      places = λ i h. c.keep.ensures.places i (l.invariant.places i h);
      row = row_more r l.row c.step-next.result w l.k l.invariant.row found c.step-next.ensures;
      kept = below_more (λ (i : ℕ). g.M.Memory.holds c.keep.new.self i (word_of r i)) l.k
          (λ i h. c.keep.ensures.before i (word_of r i) h (l.invariant.kept i h))
          (subst (g.M.Memory.holds c.keep.new.self l.k) (word_is r l.row w l.k _ l.invariant.row found refl) c.keep.ensures.kept);
    }
