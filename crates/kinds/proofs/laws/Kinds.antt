-- The vote, what coder's entries say of a block, and the rule for as many ones as zeros.
use Rattle.std.specs.Prelude.{Bool, ◌≡◌, ℕ, ◌<◌, take, Ok, Err, is_ok}
use Rattle.std.proofs.Math.Bool.{true, false}
use mathlib.Core.List.{List, ◌++◌}
use Rattle.std.proofs.Math.Path.{refl, ap, subst}
use Rattle.std.proofs.Common.{sym, ◌∙◌, arith, lit≤, take-append-drop}
use Rattle.std.proofs.Math.ListN.{length, drop}
use Rattle.std.proofs.Math.Seq.{length-take-le}
use borrow.Author.Tests.{lt-ltb, le-ltb}
use Rattle.bits.specs.Bits.{Symbols, pick}
use Rattle.answers.specs.Answers.{Answer, Meets, Heard}
use Rattle.coder.specs.Entries.{Given}
use Rattle.coder.specs.Received.{Hearing, block_heard, speech_heard, reception, speech_received, control_received}
use Rattle.coder.proofs.laws.Heard.{hears_good, hears_bad}
use Rattle.parity.specs.Division.{control_g}
use Rattle.chart.specs.declared.Kind.{Kind}
use Rattle.chart.specs.declared.Kind.TheVariants.{Speech, Facch, Neither}
use Rattle.chart.specs.Answers.{Take}
use Rattle.kinds.specs.Kinds.{vote, good_or_bad, speech_of, facch_of, tied, by_kind}
use Rattle.std.specs.Int.Count as count
use Rattle.chart.specs.declared.Taken.TheVariants as taken
use Rattle.chart.specs.declared.Untaken.TheVariants as untaken
use Rattle.kinds.specs.laws.Kinds.{good_as, is_good, as_taken}

-- ---- the vote, by how many of the flags are 1 and how many are 0
module _ (ones zeros : ℕ) where
  abbrev for_facch : ℕ
  for_facch = count.ones ones

  abbrev for_speech : ℕ
  for_speech = count.ones zeros

  pub vote_even : for_facch ≡ for_speech → vote ones zeros ≡ Neither
  unfolding vote
  vote_even h = simp (le-ltb for_speech for_facch (omega (arith, h)), le-ltb for_facch for_speech (omega (arith, h)))

  pub vote_few : for_facch < for_speech → vote ones zeros ≡ Speech
  unfolding vote
  vote_few h = simp (le-ltb for_speech for_facch (omega (arith, h)), lt-ltb for_facch for_speech h)

  pub vote_many : for_speech < for_facch → vote ones zeros ≡ Facch
  unfolding vote
  vote_many h = simp (lt-ltb for_speech for_facch h)

-- the way of an entry that is given what it should be
module _ (n m : ℕ) (c d : List ℕ) (g : Given 2 n m c d) (h : Hearing) (r : Heard) (after : List ℕ) (said : Meets (reception n m 0 c h d) r after) where
  heard_as : (facch : Bool) (block : ℕ) (b : Bool) → h.good ≡ b
      → (as_taken facch block r ≡ pick b (good_as facch block h.count) (Err (untaken.Bad (record { 0 = block }) h.count))) × (after ≡ pick b h.bits d)
  unfolding as_taken
  heard_as facch block true e =
      let all = hears_good n m 0 c d (lit≤ tt) g h h.count refl h.bits e refl in
      (ap (as_taken facch block) (said.result ∙ ap (λ (a : Answer Heard). a.result) all), said.left ∙ ap (λ (a : Answer Heard). a.left) all)
  heard_as facch block false e =
      let all = hears_bad n m 0 c d (lit≤ tt) g h h.count refl e in
      (ap (as_taken facch block) (said.result ∙ ap (λ (a : Answer Heard). a.result) all), said.left ∙ ap (λ (a : Answer Heard). a.left) all)

picked_told : (b : Bool) (t u : Take) (x y : List ℕ) → pick b t u ≡ (good_or_bad b t x u y).result
unfolding good_or_bad
picked_told true t u x y = refl
picked_told false t u x y = refl

picked_left : (b : Bool) (t u : Take) (x y : List ℕ) → pick b x y ≡ (good_or_bad b t x u y).left
unfolding good_or_bad
picked_left true t u x y = refl
picked_left false t u x y = refl

module _ (c d : List ℕ) (n : ℕ) (lc : length c ≡ 456) (bc : Symbols c) (ld : length d ≡ 260) (r : Heard) (after : List ℕ) where
  given : {m : ℕ} (out : List ℕ) → length out ≡ m → Given 2 456 m c out
  given out l = record { reads = lc; bits = bc; lends = l }

  pub speech_brought : Meets (speech_received c d) r after
      → Meets (by_kind Speech n c d) (as_taken false n r) after
  unfolding speech_received by_kind speech_of
  speech_brought said =
      let h : Hearing = speech_heard c in
      let good : Take = Ok (taken.Speech (record { 0 = n }) h.count) in
      let bad : Take = Err (untaken.Bad (record { 0 = n }) h.count) in
      let both-are = heard_as 456 260 c d (given d ld) h r after said false n h.good refl in
      record { result = both-are.0 ∙ picked_told h.good good bad h.bits d; left = both-are.1 ∙ picked_left h.good good bad h.bits d }

  rest : (b : Bool) (bits : List ℕ) → pick b bits (take 184 d) ++ drop 184 d ≡ pick b (bits ++ drop 184 d) d
  rest true bits = refl
  rest false bits = take-append-drop 184 d

  pub facch_brought : Meets (control_received c (take 184 d)) r after
      → Meets (by_kind Facch n c d) (as_taken true n r) (after ++ drop 184 d)
  unfolding control_received by_kind facch_of
  facch_brought said =
      let h : Hearing = block_heard control_g 0 184 c in
      let good : Take = Ok (taken.Facch (record { 0 = n }) h.count) in
      let bad : Take = Err (untaken.Bad (record { 0 = n }) h.count) in
      let l : length (take 184 d) ≡ 184 = length-take-le 184 d (omega (arith, ld)) in
      let both-are = heard_as 456 184 c (take 184 d) (given (take 184 d) l) h r after said true n h.good refl in
      record {
        result = both-are.0 ∙ picked_told h.good good bad (h.bits ++ drop 184 d) d;
        left =
            ap (λ (x : List ℕ). x ++ drop 184 d) both-are.1
            ∙ rest h.good h.bits
            ∙ picked_left h.good good bad (h.bits ++ drop 184 d) d;
      }

-- ---- what a good block brings
pub facch_good : (n : ℕ) (h : Hearing) (d : List ℕ) → h.good ≡ true → facch_of n h d ≡ record { result = Ok (taken.Facch (record { 0 = n }) h.count); left = h.bits ++ drop 184 d }
unfolding facch_of good_or_bad
facch_good n h d e = rw e refl

pub speech_good : (n : ℕ) (h : Hearing) (d : List ℕ) → h.good ≡ true → speech_of n h d ≡ record { result = Ok (taken.Speech (record { 0 = n }) h.count); left = h.bits }
unfolding speech_of good_or_bad
speech_good n h d e = rw e refl

-- ---- 02, M-101: the rule for as many ones as zeros, by the two verdicts
module _ (n : ℕ) (control speech : Hearing) (d : List ℕ) where
  pub rule_facch : control.good ≡ true → tied n control speech d ≡ facch_of n control d
  unfolding tied
  rule_facch e = rw e refl

  pub rule_speech : control.good ≡ false → speech.good ≡ true → tied n control speech d ≡ speech_of n speech d
  unfolding tied
  rule_speech e e' = rw (e, e') refl

  pub rule_neither : control.good ≡ false → speech.good ≡ false → tied n control speech d ≡ record { result = Err (untaken.Tie (record { 0 = n })); left = d }
  unfolding tied
  rule_neither e e' = rw (e, e') refl

judged_good : (b : Bool) (t u : Take) (x y : List ℕ) → is_good t ≡ true → is_good u ≡ false → is_good (good_or_bad b t x u y).result ≡ b
unfolding good_or_bad
judged_good true t u x y e f = e
judged_good false t u x y e f = f

bad_leaves : (b : Bool) (t u : Take) (x y : List ℕ) → b ≡ false → (good_or_bad b t x u y).left ≡ y
bad_leaves b t u x y e = sym (picked_left b t u x y) ∙ ap (λ (z : Bool). pick z x y) e

-- the block is received as FACCH, and where that is bad, as speech
module _ (n : ℕ) (c d : List ℕ) where
  abbrev control : Hearing
  control = block_heard control_g 0 184 c

  abbrev speech : Hearing
  speech = speech_heard c

  facch_verdict : is_good (by_kind Facch n c d).result ≡ control.good
  unfolding by_kind facch_of is_good
  facch_verdict = judged_good control.good (Ok (taken.Facch (record { 0 = n }) control.count)) (Err (untaken.Bad (record { 0 = n }) control.count)) (control.bits ++ drop 184 d) d refl refl

  speech_verdict : is_good (by_kind Speech n c d).result ≡ speech.good
  unfolding by_kind speech_of is_good
  speech_verdict = judged_good speech.good (Ok (taken.Speech (record { 0 = n }) speech.count)) (Err (untaken.Bad (record { 0 = n }) speech.count)) speech.bits d refl refl

  module _ (r : Take) (after : List ℕ) (as_facch : Meets (by_kind Facch n c d) r after) where
    control_is : control.good ≡ is_good r
    control_is = sym facch_verdict ∙ sym (ap is_good as_facch.result)

    pub tied_facch : is_good r ≡ true → Meets (by_kind Neither n c d) r after
    unfolding by_kind
    tied_facch e = subst (λ (a : Answer Take). Meets a r after) (sym (rule_facch n control speech d (control_is ∙ e))) as_facch

    pub tied_left : is_good r ≡ false → after ≡ d
    unfolding by_kind facch_of
    tied_left e =
        as_facch.left
        ∙ bad_leaves control.good (Ok (taken.Facch (record { 0 = n }) control.count)) (Err (untaken.Bad (record { 0 = n }) control.count)) (control.bits ++ drop 184 d) d (control_is ∙ e)

    module _ (bad : is_good r ≡ false) (s : Take) (last : List ℕ) (then : Meets (by_kind Speech n c after) s last) where
      as_speech : Meets (by_kind Speech n c d) s last
      as_speech = subst (λ (x : List ℕ). Meets (by_kind Speech n c x) s last) (tied_left bad) then

      speech_is : speech.good ≡ is_good s
      speech_is = sym speech_verdict ∙ sym (ap is_good as_speech.result)

      pub tied_speech : is_good s ≡ true → Meets (by_kind Neither n c d) s last
      unfolding by_kind
      tied_speech e = subst (λ (a : Answer Take). Meets a s last) (sym (rule_speech n control speech d (control_is ∙ bad) (speech_is ∙ e))) as_speech

      speech_left : is_good s ≡ false → last ≡ d
      unfolding by_kind speech_of
      speech_left e =
          as_speech.left
          ∙ bad_leaves speech.good (Ok (taken.Speech (record { 0 = n }) speech.count)) (Err (untaken.Bad (record { 0 = n }) speech.count)) speech.bits d (speech_is ∙ e)

      pub tied_neither : is_good s ≡ false → Meets (by_kind Neither n c d) (Err (untaken.Tie (record { 0 = n }))) last
      unfolding by_kind
      tied_neither e =
          subst (λ (a : Answer Take). Meets a (Err (untaken.Tie (record { 0 = n }))) last) (sym (rule_neither n control speech d (control_is ∙ bad) (speech_is ∙ e)))
          (record { result = refl; left = speech_left e })

-- ---- the same by std's is_ok: of what a kind brings, is_ok says what is_good says
good_is_ok : (b : Bool) (t u : Take) (x y : List ℕ) → is_ok t ≡ is_good t → is_ok u ≡ is_good u → is_ok (good_or_bad b t x u y).result ≡ is_good (good_or_bad b t x u y).result
unfolding good_or_bad
good_is_ok true t u x y e f = e
good_is_ok false t u x y e f = f

module _ (n : ℕ) (c d : List ℕ) (r : Take) (after : List ℕ) where
  facch_ok : Meets (by_kind Facch n c d) r after → is_ok r ≡ is_good r
  unfolding by_kind facch_of is_good
  facch_ok m =
      let h : Hearing = block_heard control_g 0 184 c in
      ap is_ok m.result
      ∙ good_is_ok h.good (Ok (taken.Facch (record { 0 = n }) h.count)) (Err (untaken.Bad (record { 0 = n }) h.count)) (h.bits ++ drop 184 d) d refl refl
      ∙ sym (ap is_good m.result)

  speech_ok : Meets (by_kind Speech n c d) r after → is_ok r ≡ is_good r
  unfolding by_kind speech_of is_good
  speech_ok m =
      let h : Hearing = speech_heard c in
      ap is_ok m.result
      ∙ good_is_ok h.good (Ok (taken.Speech (record { 0 = n }) h.count)) (Err (untaken.Bad (record { 0 = n }) h.count)) h.bits d refl refl
      ∙ sym (ap is_good m.result)

module _ (n : ℕ) (c d : List ℕ) (r : Take) (after : List ℕ) (as_facch : Meets (by_kind Facch n c d) r after) where
  pub tied_facch_ok : is_ok r ≡ true → Meets (by_kind Neither n c d) r after
  tied_facch_ok e = tied_facch n c d r after as_facch (sym (facch_ok n c d r after as_facch) ∙ e)

  module _ (bad : is_ok r ≡ false) (s : Take) (last : List ℕ) (then : Meets (by_kind Speech n c after) s last) where
    not_facch : is_good r ≡ false
    not_facch = sym (facch_ok n c d r after as_facch) ∙ bad

    pub tied_speech_ok : is_ok s ≡ true → Meets (by_kind Neither n c d) s last
    tied_speech_ok e = tied_speech n c d r after as_facch not_facch s last then (sym (speech_ok n c after s last then) ∙ e)

    pub tied_neither_ok : is_ok s ≡ false → Meets (by_kind Neither n c d) (Err (untaken.Tie (record { 0 = n }))) last
    tied_neither_ok e = tied_neither n c d r after as_facch not_facch s last then (sym (speech_ok n c after s last then) ∙ e)

-- ---- as the kind that the flags say
pub by_vote : (n ones zeros : ℕ) (c d : List ℕ) (k k' : Kind) → k ≡ vote ones zeros → k ≡ k' → (r : Take) (after : List ℕ)
    → Meets (by_kind k' n c d) r after → Meets (by_kind (vote ones zeros) n c d) r after
by_vote n ones zeros c d k k' ek e r after = subst (λ (x : Kind). Meets (by_kind x n c d) r after) (sym e ∙ ek)
