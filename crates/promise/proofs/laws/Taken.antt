-- What the receiver holds before burst b is the last eight bursts that arrived; so the answer for block n is made of what stands at its places.
use mathlib.Core.List.{List}
use Rattle.std.proofs.Common.{⊎_elim, ◌∙◌, arith, lit<, lt-ltb, le-ltb}
use Rattle.std.specs.Prelude.{◌≡◌, refl, ltb, drop, Ok, Option}
use Rattle.std.proofs.Math.Path.{sym, ap, ap₂}
use Prim.Native.Nat.{ℕ, zero, suc, ◌+◌, ◌*◌, ◌%◌, ◌≤◌, ◌<◌}
use Rattle.std.proofs.Math.ListN.{length, get_or}
use Rattle.std.proofs.Math.Seq.{get_or-take, get_or-drop}
use Rattle.answers.specs.Answers.{Answer}
use Rattle.bits.specs.Bits.{Symbols, pick, value}
use Rattle.bits.proofs.laws.Cases.{lt_or_le}
use Rattle.bits.proofs.laws.Parts.{length_lent}
use Rattle.bits.proofs.laws.Sum.{over_take, over_drop, length_zeros}
use Rattle.bits.proofs.laws.Tab.{at_tab, tab_same}
use Rattle.burst.specs.Held.{held_block_at, held_block, held_flag_at, held_flags, saying, sayers}
use Rattle.burst.specs.Numbers.{first_burst}
use Rattle.places.specs.Places.{e_at, hl, hu}
use Rattle.burst.specs.Ring.{held_bit, kept}
use Rattle.burst.proofs.laws.Numbers.{ended_block, ended_none}
use Rattle.places.proofs.laws.Places.{every_bit}
use Rattle.burst.proofs.laws.Ring.{kept_long, kept_same, kept_other}
use Rattle.burst.specs.declared.numbers.BlockNumber.{BlockNumber}
use Rattle.kinds.specs.Kinds.{vote, by_kind}
use Rattle.stream.specs.Receiving.{block_answer, at_ending, burst_answer, fresh_receiver, taken_next, take_answer}
use Rattle.chart.specs.declared.Kind.{Kind}
use Rattle.chart.specs.Answers.{Take}
use Rattle.chart.specs.declared.Taken.TheVariants.{Waiting}
use Rattle.stream.specs.declared.receiver.Received.{Received}
use Rattle.stream.specs.declared.receiver.Receiver.{Receiver}
use Rattle.stream.proofs.laws.Receiving.{takes_on}
use Rattle.promise.specs.Promise.{Arrives, burst_of, after, taken_at, block_bits, block_flags, Answers, flags_that, answer_for}

pub flag_in_lem : (i : ℕ) → pick (ltb i 4) hu hl < 116
flag_in_lem i = ⊎_elim (λ (l : i < 4). rw (lt-ltb i 4 l) (lit< tt)) (λ (l : 4 ≤ i). rw (le-ltb i 4 l) (lit< tt)) (lt_or_le i 4)

module _ (M : ℕ) (few : M ≤ 65536) (rx : List ℕ) (out : ℕ → List ℕ) (here : Arrives M rx out) where
  burst_long : (b : ℕ) → b < M → length (burst_of rx b) ≡ 116
  unfolding burst_of
  burst_long b h = length_lent rx (116 * b) 116 (omega (arith, here.long))

  burst_bits : (b : ℕ) → Symbols (burst_of rx b)
  unfolding burst_of
  burst_bits b = over_take 2 116 (drop (116 * b) rx) (over_drop 2 (116 * b) rx here.bits)

  burst_at : (b x : ℕ) → x < 116 → get_or (burst_of rx b) x 0 ≡ get_or rx (116 * b + x) 0
  unfolding burst_of
  burst_at b x h = get_or-take 116 (drop (116 * b) rx) x 0 h ∙ get_or-drop (116 * b) rx x 0

  -- ---- what is held before burst b
  record Along (s : Receiver) (b : ℕ) : Type 0 where
    next : s.next.0 ≡ b
    long : length s.held ≡ 928
    holds : (a x : ℕ) → a < b → b ≤ a + 8 → x < 116 → held_bit s.held a x ≡ get_or rx (116 * a + x) 0

  module _ (s : Receiver) (b : ℕ) (h : b < M) (l : Along s b) where
    taken : take_answer s b (burst_of rx b) (out b)
        ≡ record {
          result = record { told = (burst_answer (kept s.held b (burst_of rx b)) b (out b)).result; next = taken_next s (burst_of rx b) (burst_answer (kept s.held b (burst_of rx b)) b (out b)).result };
          left = (burst_answer (kept s.held b (burst_of rx b)) b (out b)).left;
        }
    taken = takes_on s b (burst_of rx b) (out b) (record { reads = burst_long b h; writes = here.lent b; bits = burst_bits b; room = omega (arith, few, l.next); turn = sym l.next })

    -- the newest burst, and the seven before it
    now_holds : (a x : ℕ) → a < suc b → suc b ≤ a + 8 → x < 116 → held_bit (kept s.held b (burst_of rx b)) a x ≡ get_or rx (116 * a + x) 0
    now_holds a x p q r = ⊎_elim older newest (lt_or_le a b)
      where
        older : a < b → held_bit (kept s.held b (burst_of rx b)) a x ≡ get_or rx (116 * a + x) 0
        older m =
            kept_other s.held (burst_of rx b) b l.long (burst_long b h) a x r (λ (z : a % 8 ≡ b % 8). omega (arith, m, q, z))
            ∙ l.holds a x m (omega (arith, q)) r

        newest : b ≤ a → held_bit (kept s.held b (burst_of rx b)) a x ≡ get_or rx (116 * a + x) 0
        newest m =
            let same : a ≡ b = omega (arith, m, p) in
            ap (λ (k : ℕ). held_bit (kept s.held b (burst_of rx b)) k x) same
            ∙ kept_same s.held (burst_of rx b) b l.long (burst_long b h) x r (burst_bits b x)
            ∙ burst_at b x r
            ∙ ap (λ (k : ℕ). get_or rx (116 * k + x) 0) (sym same)

    on : Along (take_answer s b (burst_of rx b) (out b)).result.next (suc b)
    unfolding taken_next
    on = rw taken (record {
      next = omega (arith, l.next);
      long = ap (λ (k : ℕ). length (kept s.held k (burst_of rx b))) l.next ∙ kept_long s.held (burst_of rx b) b l.long (burst_long b h);
      holds = λ a x p q r. ap (λ (k : ℕ). held_bit (kept s.held k (burst_of rx b)) a x) l.next ∙ now_holds a x p q r;
    })

  along : (b : ℕ) → b ≤ M → Along (after rx out b) b
  unfolding after fresh_receiver
  along zero h = record { next = refl; long = length_zeros 928; holds = λ a x p q r. let z : ⊥ = omega (arith, p) in absurd z }
  along (suc b) h = on (after rx out b) b h (along b (omega (arith, h)))

  -- ---- what is said at burst b is what the held bursts say
  held_at : ℕ → List ℕ
  held_at b = kept (after rx out b).held b (burst_of rx b)

  said : (b : ℕ) → b < M → (a : Answer Take) → burst_answer (held_at b) b (out b) ≡ a → Answers rx out b a
  unfolding taken_at held_at
  said b h a e =
      let t = taken (after rx out b) b h (along b (omega (arith, h))) in
      record {
        result = ap (λ (x : Answer Received). x.result.told) t ∙ ap (λ (x : Answer Take). x.result) e;
        left = ap (λ (x : Answer Received). x.left) t ∙ ap (λ (x : Answer Take). x.left) e;
      }

  -- ---- the eight bursts of block n, when the last of them is taken
  module _ (n : ℕ) (h : 4 * n + 7 < M) where
    abbrev held : List ℕ
    held = held_at (4 * n + 7)

    stands : (r x : ℕ) → r < 8 → x < 116 → held_bit held (4 * n + r) x ≡ get_or rx (116 * (4 * n + r) + x) 0
    unfolding held_at
    stands r x hr hx = now_holds (after rx out (4 * n + 7)) (4 * n + 7) h (along (4 * n + 7) (omega (arith, h))) (4 * n + r) x (omega (arith, hr)) (omega arith) hx

    bits_are : held_block held n ≡ block_bits rx n
    unfolding held_block held_block_at block_bits first_burst
    bits_are = tab_same 456 (held_block_at held n) (λ k. get_or rx (116 * (4 * n + k % 8) + e_at k) 0) (λ k l. stands (k % 8) (e_at k) (omega arith) (every_bit k l).within)

    flag_is : (i : ℕ) → i < 8 → held_flag_at held n i ≡ get_or (block_flags rx n) i 0
    unfolding held_flag_at block_flags first_burst
    flag_is i l = stands i (pick (ltb i 4) hu hl) l (flag_in_lem i) ∙ sym (at_tab 8 (λ j. get_or rx (116 * (4 * n + j) + pick (ltb j 4) hu hl) 0) i l)

    flags_are : (b : ℕ) → held_flags b held n ≡ flags_that b rx n
    unfolding held_flags sayers
    flags_are b = ap value (tab_same 8 (λ i. saying b (held_flag_at held n i)) (λ i. saying b (get_or (block_flags rx n) i 0)) (λ i l. ap (saying b) (flag_is i l)))

    pub brings_block : Answers rx out (4 * n + 7) (answer_for rx n (out (4 * n + 7)))
    unfolding answer_for burst_answer at_ending block_answer
    brings_block =
        let d : List ℕ = out (4 * n + 7) in
        said (4 * n + 7) h (answer_for rx n d)
        (ap (λ (x : Option BlockNumber). at_ending x held d) (ended_block n) ∙ ap₂ (λ (k : Kind) (c : List ℕ). by_kind k n c d) (ap₂ vote (flags_are 1) (flags_are 0)) bits_are)

  -- ---- and every other burst
  pub brings_nothing : (b : ℕ) → b < M → ((n : ℕ) → b ≡ 4 * n + 7 → ⊥) → Answers rx out b (record { result = Ok Waiting; left = out b })
  unfolding burst_answer at_ending
  brings_nothing b h other = said b h (record { result = Ok Waiting; left = out b }) (ap (λ (x : Option BlockNumber). at_ending x (held_at b) (out b)) (ended_none b other))
