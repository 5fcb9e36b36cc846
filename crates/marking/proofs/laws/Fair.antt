-- What a class may rely on, once over the channel's numbers: from 01's words of a candidate and the fewest alone, and from the distance of the code where
-- few bytes are altered or missing.
use Rattle.std.specs.Prelude.{List, ◌≡◌, ℕ, ◌+◌, ◌*◌, ◌≤◌, ◌<◌, length, Ok, Err}
use Rattle.std.proofs.Common.{⊎_elim, ap, subst, arith}
use Rattle.bits.specs.Bits.{Symbols, missing}
use Rattle.bits.proofs.laws.Cases.{lt_or_le}
use Rattle.convolution.specs.Pairs.{coded}
use Rattle.trellis.specs.Nearest.{disagreements, Candidate, Nearest, nearest, nearest_count}
use Rattle.trellis.proofs.laws.Distance.{corrects}
use Rattle.trellis.proofs.laws.Nearest.{nearest_is, nearest_once}
use Rattle.marking.specs.Marks.{Mark, HasCount, IsFewest, Deserves, counting, Marks}
use Rattle.marking.specs.Fair.{Channel, number_in, MarkSays, GetsYes, NearestGetsYes, DecoderGetsYes, TiedGetsYes, OneCount, OnlyBlock, Nearer, NoFewestIsTrue, SentAlone, borne}
use Rattle.marking.specs.declared.Fault.TheVariants.{Length, Tail, Count, Fewest}
use Rattle.marking.specs.declared.No.TheVariants.{Wrong}
use Rattle.marking.proofs.laws.Counted.{counting_long}
use Rattle.marking.proofs.laws.Marks.{at_most_fewest, deserves_once, marks_deserved, by_tests, yes_refused, no_refused}

-- ---- a block that gets yes, by the names of what it has
record Passed (reads n : ℕ) (r u : List ℕ) (count : ℕ) : Type 0 where
  long : length r ≡ reads
  received : Symbols r
  candidate : Candidate n u
  counts : HasCount (counting n r) u count
  fewest : IsFewest (counting n r) n count

module _ (reads n : ℕ) (r u : List ℕ) (count : ℕ) where
  passes : Passed reads n r u count → GetsYes reads n r u count
  unfolding Deserves
  passes p = marks_deserved reads n r u count (Ok tt) p.long p.received p.candidate.bits (p.candidate.long, p.candidate.ends, p.counts, p.fewest)

  -- it was not refused
  passed : GetsYes reads n r u count → Passed reads n r u count
  unfolding Deserves
  passed m = by_tests reads n r u count (Passed reads n r u count)
      (λ h. absurd (yes_refused (m.one h)))
      (λ l h. absurd (yes_refused (m.two l h)))
      (λ l h.
      let d = m.marked l h.0 h.1 in
      record { long = l; received = h.0; candidate = record { bits = h.1; long = d.0; ends = d.1 }; counts = d.2; fewest = d.3 })

-- ---- what is said, in 01's numbers and in the request's order
pub mark_says : (reads n : ℕ) → Channel reads n → (r u : List ℕ) (count : ℕ) (m : Mark) → Marks reads n r u count m → MarkSays reads n r u count m
unfolding Deserves
mark_says reads n ch r u count m x =
    let once = deserves_once n ch.tail ch.short (counting n r) u count m in
    record {
      one = λ h. ap number_in (x.one h);
      two = λ l h. ap number_in (x.two l h);
      no_length = λ l s b h. once (Err (Wrong Length)) (x.marked l s b) h;
      no_tail = λ l s b long h. once (Err (Wrong Tail)) (x.marked l s b) (long, h);
      no_count = λ l s b long tail h. once (Err (Wrong Count)) (x.marked l s b) (long, tail, h);
      no_fewest = λ l s b long tail k h. once (Err (Wrong Fewest)) (x.marked l s b) (long, tail, k, h);
      then_yes = λ l s cu k f. once (Ok tt) (x.marked l s cu.bits) (cu.long, cu.ends, k, f);
      only_then = λ e. let p = passed reads n r u count (subst (Marks reads n r u count) e x) in (p.long, p.received, p.candidate, p.counts, p.fewest);
    }

-- ---- what gets yes
pub nearest_gets_yes : (reads n : ℕ) → NearestGetsYes reads n
nearest_gets_yes reads n r u count lr sr near =
    passes reads n r u count (record { long = lr; received = sr; candidate = near.candidate; counts = near.counts; fewest = near.fewest })

pub tied_gets_yes : (reads n : ℕ) → TiedGetsYes reads n
tied_gets_yes reads n r u v count y cv e =
    let p = passed reads n r u count y in
    passes reads n r v count (record { long = p.long; received = p.received; candidate = cv; counts = e; fewest = p.fewest })

pub one_count : (reads n : ℕ) → OneCount reads n
one_count reads n r u v k l y z =
    let p = passed reads n r u k y in
    let q = passed reads n r v l z in
    omega (arith, p.fewest v q.candidate, q.counts, q.fewest u p.candidate, p.counts)

-- ---- the code's distance
module _ (reads n : ℕ) (channel : Channel reads n) where
  -- a block with so small a count is THE nearest
  near : (r u : List ℕ) (k : ℕ) → 2 * k + missing (counting n r) ≤ 6 → GetsYes reads n r u k → Nearest (counting n r) n u k
  near r u k few y =
      let p = passed reads n r u k y in
      let c : List ℕ = counting n r in
      let few' : 2 * disagreements c (coded u) + missing c ≤ 6 = omega (arith, few, p.counts) in
      subst (Nearest c n u) p.counts (corrects n c u p.candidate (counting_long n r reads p.long channel.room) few')

  pub only_block : OnlyBlock reads n
  only_block r u v k l few y z =
      let e : k ≡ l = one_count reads n r u v k l y z in
      (nearest_once (counting n r) n v u l k (near r v l (omega (arith, few, e)) z) (near r u k few y)).0

  -- the block that was sent
  pub sent_alone : (r u : List ℕ) (t : ℕ) → length r ≡ reads → Symbols r → Candidate n u → disagreements (counting n r) (coded u) ≡ t → borne t (missing (counting n r))
      → SentAlone reads n r u t
  sent_alone r u t lr sr cu e few =
      let c : List ℕ = counting n r in
      let few' : 2 * disagreements c (coded u) + missing c ≤ 6 = omega (arith, few, e) in
      let found : Nearest c n u t = subst (Nearest c n u) e (corrects n c u cu (counting_long n r reads lr channel.room) few') in
      let y : GetsYes reads n r u t = nearest_gets_yes reads n r u t lr sr found in
      record {
        sent = y;
        alone = λ v count z. (only_block r u v t count few y z, one_count reads n r v u count t z y);
      }

  pub decoder_gets_yes : DecoderGetsYes reads n
  decoder_gets_yes r lr sr =
      nearest_gets_yes reads n r (nearest (counting n r) n) (nearest_count (counting n r) n) lr sr (nearest_is (counting n r) n channel.tail channel.short)

  -- ---- where a no says that another is nearer, the decoder's answer is
  nearer : (c : List ℕ) (count : ℕ) → (IsFewest c n count → ⊥) → Nearer c n count
  nearer c count h =
      let is = nearest_is c n channel.tail channel.short in
      ⊎_elim (λ (l : nearest_count c n < count). record { block = nearest c n; candidate = is.candidate; fewer = omega (arith, l, is.counts) })
      (λ (l : count ≤ nearest_count c n). absurd (h (at_most_fewest c n count channel.tail channel.short l)))
      (lt_or_le (nearest_count c n) count)

  pub no_fewest_is_true : NoFewestIsTrue reads n
  unfolding Deserves
  no_fewest_is_true r u count m =
      by_tests reads n r u count (Nearer (counting n r) n count)
      (λ h. absurd (no_refused (m.one h)))
      (λ l h. absurd (no_refused (m.two l h)))
      (λ l h. nearer (counting n r) count (m.marked l h.0 h.1).3)
