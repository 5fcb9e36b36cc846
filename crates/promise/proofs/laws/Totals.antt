-- The totals that a receiver carries are those of all its answers: each call adds what its answer says, and no number comes near its limit, since only
-- every fourth burst brings a block and there are 65,536 bursts.
use Rattle.std.specs.Prelude.{Bool, List, [], ◌∷◌, ◌++◌, ◌≡◌, eqb, leb, Ok, Err, Option, Some, None}
use Rattle.std.proofs.Math.Bool.{true, false}
use Rattle.std.proofs.Math.Path.{refl, sym, ap, subst}
use Rattle.std.proofs.Common.{ap₂, ◌∙◌, arith, eqb-true, leb-true, leb-false}
use Prim.Native.Nat.{ℕ, zero, suc, ◌+◌, ◌-◌, ◌*◌, ◌/◌, ◌%◌, ◌≤◌}
use Rattle.std.proofs.Math.Dec.{lit≤}
use Rattle.std.proofs.Math.ListN.{drop}
use Rattle.std.proofs.lemmas.Bool.{eqb-false}
use Rattle.answers.specs.Answers.{Answer, Told}
use Rattle.bits.specs.Bits.{pick}
use Rattle.answers.specs.Calls.{handed_back, Happened}
use Rattle.answers.specs.declared.Refusal.{Refusal}
use Rattle.parity.specs.Division.{control_g}
use Rattle.burst.specs.Numbers.{ended}
use Rattle.burst.specs.Ring.{kept}
use Rattle.burst.specs.declared.numbers.BlockNumber.{BlockNumber}
use Rattle.burst.proofs.laws.Numbers.{ended_none}
use Rattle.burst.specs.Held.{held_flags, held_block}
use Rattle.coder.specs.Received.{Hearing, block_heard, speech_heard}
use Rattle.coder.proofs.laws.Counts.{control_most, speech_most}
use Rattle.chart.specs.Answers.{Take, of_taken}
use Rattle.chart.specs.Says.{said, together, totals_of}
use Rattle.chart.specs.Totals.{four, adds, more, counted}
use Rattle.chart.proofs.laws.Totals.{adds_says}
use Rattle.chart.specs.declared.Kind.{Kind}
use Rattle.chart.specs.declared.Kind.TheVariants as kind
use Rattle.chart.specs.declared.Taken.TheVariants as taken
use Rattle.chart.specs.declared.Untaken.TheVariants as untaken
use Rattle.chart.specs.declared.totals.Totals.{Totals}
use Rattle.stream.specs.Calls.{TakeCall, receiver_answer}
use Rattle.kinds.specs.Kinds.{vote, good_or_bad, speech_of, facch_of, tied, by_kind}
use Rattle.stream.specs.Receiving.{fresh_receiver, take_told, block_answer, at_ending, burst_answer, taken_next, after_taking, take_answer}
use Rattle.stream.specs.Says.{Takeable}
use Rattle.stream.specs.declared.receiver.Received.{Received}
use Rattle.stream.specs.declared.receiver.Receiver.{Receiver}
use Rattle.stream.proofs.laws.Receiving.{take_able}
use Rattle.promise.specs.Promise.{burst_of, after, taken_at}
use Rattle.promise.specs.Totals.{receiver_after, answered, TotalsPromise}

-- ---- what one answer adds: at most so many blocks, and the count of a good one, which is at most 456
record Adds (most : ℕ) (m : Totals) : Type 0 where
  blocks : m.speech + m.facch + m.refused ≤ most
  counts : m.counts ≤ 456 * (m.speech + m.facch)

good_or_bad_lem : (b : Bool) (t u : Take) (x y : List ℕ) → Adds 1 (adds t) → Adds 1 (adds u) → Adds 1 (adds (good_or_bad b t x u y).result)
unfolding good_or_bad
good_or_bad_lem true t u x y p q = p
good_or_bad_lem false t u x y p q = q

module _ (n : ℕ) (c d : List ℕ) where
  abbrev speech : Hearing
  speech = speech_heard c

  abbrev control : Hearing
  control = block_heard control_g 0 184 c

  of_speech : Adds 1 (adds (speech_of n speech d).result)
  unfolding speech_of adds
  of_speech =
      good_or_bad_lem speech.good (Ok (taken.Speech (record { 0 = n }) speech.count)) (Err (untaken.Bad (record { 0 = n }) speech.count)) speech.bits d
      (record { blocks = lit≤ tt; counts = omega (arith, speech_most c) }) (record { blocks = lit≤ tt; counts = lit≤ tt })

  of_facch : Adds 1 (adds (facch_of n control d).result)
  unfolding facch_of adds
  of_facch =
      good_or_bad_lem control.good (Ok (taken.Facch (record { 0 = n }) control.count)) (Err (untaken.Bad (record { 0 = n }) control.count)) (control.bits ++ drop 184 d) d
      (record { blocks = lit≤ tt; counts = omega (arith, control_most c) }) (record { blocks = lit≤ tt; counts = lit≤ tt })

  of_tie : (b b' : Bool) → Adds 1 (adds (pick b (facch_of n control d) (pick b' (speech_of n speech d) (record { result = Err (untaken.Tie (record { 0 = n })); left = d }))).result)
  unfolding adds
  of_tie true b' = of_facch
  of_tie false true = of_speech
  of_tie false false = record { blocks = lit≤ tt; counts = lit≤ tt }

  of_kind : (k : Kind) → Adds 1 (adds (by_kind k n c d).result)
  unfolding by_kind tied
  of_kind kind.Speech = of_speech
  of_kind kind.Facch = of_facch
  of_kind kind.Neither = of_tie control.good speech.good

-- what burst b brings: one block where b is 4n+7, else nothing
of_ending : (x : Option BlockNumber) (held d : List ℕ) → Adds 1 (adds (at_ending x held d).result)
unfolding at_ending block_answer adds
of_ending (Some n) held d = of_kind n.0 (held_block held n.0) d (vote (held_flags 1 held n.0) (held_flags 0 held n.0))
of_ending None held d = record { blocks = lit≤ tt; counts = lit≤ tt }

no_block : (b : ℕ) → ((n : ℕ) → b ≡ 4 * n + 7 → ⊥) → (held d : List ℕ) → adds (burst_answer held b d).result ≡ four 0 0 0 0
unfolding burst_answer at_ending adds
no_block b other held d = ap (λ (x : Option BlockNumber). adds (at_ending x held d).result) (ended_none b other)

-- so many blocks are brought before burst b
abbrev before : ℕ → ℕ
before b = b / 4 - 1

of_burst : (held d : List ℕ) (b : ℕ) → Adds (before (b + 1) - before b) (adds (burst_answer held b d).result)
unfolding burst_answer
of_burst held d b = by_tests (leb 7 b) (eqb (b % 4) 3) refl refl
  where
    none : ((n : ℕ) → b ≡ 4 * n + 7 → ⊥) → Adds (before (b + 1) - before b) (adds (at_ending (ended b) held d).result)
    none other = subst (Adds (before (b + 1) - before b)) (sym (no_block b other held d)) (record { blocks = omega arith; counts = lit≤ tt })

    by_tests : (l e : Bool) → leb 7 b ≡ l → eqb (b % 4) 3 ≡ e → Adds (before (b + 1) - before b) (adds (at_ending (ended b) held d).result)
    by_tests true true hl he =
        let one : before (b + 1) - before b ≡ 1 = omega (arith, leb-true 7 b hl, eqb-true (b % 4) 3 he) in
        subst (λ (k : ℕ). Adds k (adds (at_ending (ended b) held d).result)) (sym one) (of_ending (ended b) held d)
    by_tests true false hl he = none (λ n z. omega (arith, z, eqb-false (b % 4) 3 he))
    by_tests false e hl he = none (λ n z. omega (arith, z, leb-false 7 b hl))

-- ---- sums of totals
same : (s t : Totals) → s.speech ≡ t.speech → s.facch ≡ t.facch → s.refused ≡ t.refused → s.counts ≡ t.counts → s ≡ t
same s t a b c d = ap₂ (λ (x y : ℕ). four x y s.refused s.counts) a b ∙ ap₂ (λ (x y : ℕ). four t.speech t.facch x y) c d

none_after : (s : Totals) → together s (four 0 0 0 0) ≡ s
unfolding together
none_after s = same (together s (four 0 0 0 0)) s (omega arith) (omega arith) (omega arith) (omega arith)

none_before : (s : Totals) → together (four 0 0 0 0) s ≡ s
unfolding together
none_before s = same (together (four 0 0 0 0) s) s (omega arith) (omega arith) (omega arith) (omega arith)

one_after_another : (s t m : Totals) → together (together s t) m ≡ together s (together t m)
unfolding together
one_after_another s t m = same (together (together s t) m) (together s (together t m)) (omega arith) (omega arith) (omega arith) (omega arith)

-- no number is full where there are few blocks
plain : (s m : Totals) → s.speech + s.facch + s.refused + (m.speech + m.facch + m.refused) ≤ 16383 → s.counts + m.counts ≤ 7470648
    → more s m ≡ together s m
unfolding more together
plain s m few least = same (more s m) (together s m) (omega (arith, few)) (omega (arith, few)) (omega (arith, few)) (omega (arith, least))

-- ---- the numbers of a stream that calls have made, n bursts being taken: at most so many blocks, and of each good one at most 456
record Far (n : ℕ) (t : Totals) : Type 0 where
  within : n ≤ 65536
  blocks : t.speech + t.facch + t.refused ≤ before n
  counts : t.counts ≤ 456 * (t.speech + t.facch)

-- a call adds what its answer says, and leaves the numbers far from full
record Step (s : Receiver) (r : Received) : Type 0 where
  adds_up : r.next.totals ≡ together s.totals (said (of_taken r.told))
  far : Far r.next.next.0 r.next.totals

module _ (s : Receiver) (b : ℕ) (e d : List ℕ) (far : Far s.next.0 s.totals) where
  done : Takeable s b e d → Step s (after_taking (Ok tt) s e d).result
  unfolding after_taking taken_next counted together
  done able =
      let n : ℕ = s.next.0 in
      let x : Totals = s.totals in
      let t : Take = (burst_answer (kept s.held n e) n d).result in
      let m : Totals = adds t in
      let a = of_burst (kept s.held n e) d n in
      let few : x.speech + x.facch + x.refused + (m.speech + m.facch + m.refused) ≤ before (n + 1) = omega (arith, far.blocks, a.blocks) in
      let least : x.counts + m.counts ≤ 456 * (x.speech + m.speech + (x.facch + m.facch)) = omega (arith, far.counts, a.counts) in
      let most : before (n + 1) ≤ 16383 = omega (arith, able.room) in
      let sums : more x m ≡ together x m = plain x m (omega (arith, few, most)) (omega (arith, few, least, most)) in
      record {
        adds_up = sums ∙ ap (together x) (adds_says t);
        far = subst (Far (n + 1)) (sym sums) (record { within = omega (arith, able.room); blocks = omega (arith, few); counts = least });
      }

  refused : (r : Refusal) → Step s (after_taking (Err r) s e d).result
  unfolding after_taking said
  refused r = record { adds_up = sym (none_after s.totals); far = far }

  step : Step s (take_answer s b e d).result
  unfolding take_answer
  step = by_told (take_told s b e d) refl
    where
      by_told : (t : Told) → take_told s b e d ≡ t → Step s (after_taking t s e d).result
      by_told (Ok tt) h = done (take_able s b e d (take_told s b e d) refl h)
      by_told (Err r) h = refused r

-- ---- bursts in order from a fresh receiver: each adds what it is answered
fresh_far : Far fresh_receiver.next.0 fresh_receiver.totals
unfolding fresh_receiver
fresh_far = record { within = lit≤ tt; blocks = lit≤ tt; counts = lit≤ tt }

module _ (rx : List ℕ) (out : ℕ → List ℕ) where
  after_far : (b : ℕ) → Far (after rx out b).next.0 (after rx out b).totals
  unfolding after
  after_far zero = fresh_far
  after_far (suc b) = (step (after rx out b) b (burst_of rx b) (out b) (after_far b)).far

  pub take_adds : (b : ℕ) → (taken_at rx out b).result.next.totals ≡ together (after rx out b).totals (said (of_taken (taken_at rx out b).result.told))
  unfolding taken_at
  take_adds b = (step (after rx out b) b (burst_of rx b) (out b) (after_far b)).adds_up

-- ---- any calls, one after another
record Sums (s : Receiver) (given : List (Answer Received)) : Type 0 where
  adds_up : (receiver_after s given).totals ≡ together s.totals (totals_of (answered given))
  far : Far (receiver_after s given).next.0 (receiver_after s given).totals

sums : (s : Receiver) → Far s.next.0 s.totals → (calls : List TakeCall) (given : List (Answer Received)) → Happened receiver_answer (λ r. r.next) s calls given → Sums s given
unfolding Happened handed_back totals_of receiver_answer
sums s far [] [] h = record { adds_up = sym (none_after s.totals); far = far }
sums s far [] (a ∷ given) h = absurd h
sums s far (c ∷ calls) [] h = absurd h
sums s far (c ∷ calls) (a ∷ given) h =
    let met = subst (Step s) (sym h.0.result) (step s c.number c.burst c.lent far) in
    let rest = sums a.result.next met.far calls given h.1 in
    let t : Totals = said (of_taken a.result.told) in
    record {
      adds_up = rest.adds_up ∙ ap (λ (x : Totals). together x (totals_of (answered given))) met.adds_up ∙ one_after_another s.totals t (totals_of (answered given));
      far = rest.far;
    }

pub totals_promise : TotalsPromise
unfolding fresh_receiver
totals_promise calls given h =
    let all = sums fresh_receiver fresh_far calls given h in
    let is : (receiver_after fresh_receiver given).totals ≡ totals_of (answered given) = all.adds_up ∙ none_before (totals_of (answered given)) in
    let far = subst (Far (receiver_after fresh_receiver given).next.0) is all.far in
    (is, record { blocks = omega (arith, far.blocks, far.within); counts = far.counts })
