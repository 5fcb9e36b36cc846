-- What a block bears it bears, and so the promise of demand 3 is kept; and the locality that carries it, by itself.
use Rattle.std.specs.Prelude.{Bool, not, ◌≡◌, refl, ℕ, ◌+◌, ◌*◌, ◌/◌, ◌%◌, ◌≤◌, ◌<◌, ltb, eqb, length, drop, Ok}
use Rattle.std.proofs.Math.Bool.{true, false}
use mathlib.Core.List.{List, [], ◌++◌}
use Rattle.std.proofs.Common.{⊎_elim, ◌∙◌, subst, arith, lit≤, length-take-le, eqb-true}
use Rattle.std.proofs.Math.Path.{sym, ap, ap₂}
use Rattle.std.proofs.Math.ListN.{get_or, take}
use Rattle.std.specs.Int.Count.{ones}
use Rattle.answers.specs.Answers.{Answer, Meets}
use Rattle.bits.specs.Bits.{Symbols, given_bits, is_missing, lost, missing, pick, total, differ}
use Rattle.bits.proofs.laws.Cases.{lt_or_le, false_true, each_symbol}
use Rattle.bits.proofs.laws.Missing.{given_same, given_drop, missing_take}
use Rattle.bits.proofs.laws.Tab.{at_tab, length_tab, is_tab, tab_same, over_tab}
use Rattle.bits.proofs.laws.Total.{total_same, total_add}
use Rattle.burst.specs.Numbers.{first_burst}
use Rattle.places.specs.Places.{e_at, hl, hu}
use Rattle.burst.specs.Held.{saying, sayers}
use Rattle.burst.proofs.laws.Held.{sayers_ones}
use Rattle.places.proofs.laws.Places.{every_bit}
use Rattle.coder.specs.Blocks.{speech_u, speech_block, control_u, control_block}
use Rattle.coder.specs.Received.{Hearing, block_heard, speech_heard}
use Rattle.coder.proofs.laws.Blocks.{control_size, speech_size, speech_pairs}
use Rattle.coder.proofs.laws.Hearings.{control_candidate, control_found, speech_found}
use Rattle.coder.proofs.laws.SpeechRestored.{speech_candidate}
use Rattle.parity.specs.Division.{control_g}
use Rattle.convolution.specs.Pairs.{coded}
use Rattle.trellis.specs.Nearest.{disagreements, Candidate, Found, longest}
use Rattle.trellis.proofs.laws.Distance.{corrected}
use Rattle.chart.specs.Answers.{Take, of_taken}
use Rattle.kinds.specs.Kinds.{vote, by_kind, speech_of, facch_of, good_or_bad}
use Rattle.kinds.proofs.laws.Kinds.{vote_few, vote_many, vote_even}
use Rattle.kinds.proofs.laws.Says.{block_says}
use Rattle.stream.specs.Sending.{is_facch, is_block, block_of, flag_of, fresh_sender}
use Rattle.chart.specs.declared.Taken.TheVariants.{Speech, Facch}
use Rattle.chart.specs.declared.Kind.{Kind}
use Rattle.chart.specs.declared.Kind.TheVariants as kind
use Rattle.stream.specs.declared.receiver.Received.{Received}
use Rattle.promise.specs.Promise.{Valid, Lesson, made, Arrives, block_bits, block_flags, protected, pairs_of, bits_altered, bits_missing, flags_altered, flags_missing, kind_of, bits_out, taken_at, Brings, flags_that, answer_for, flags_saying, StreamBears, StreamPromise, BurstsMade, IdleHalves, Locality, StreamNearest, NeverAThird}
use Rattle.promise.proofs.laws.Sent.{fresh_able, sent_bit, sent_flag, all_done, first_idle, last_idle}
use Rattle.promise.proofs.laws.Taken.{flag_in_lem, brings_block, brings_nothing}

pub locality : Locality
locality M few rx out here = (brings_block M few rx out here, brings_nothing M few rx out here)

pub stream_nearest : StreamNearest
unfolding answer_for
stream_nearest M few rx out here n h =
    let met = brings_block M few rx out here n h in
    let flag : ℕ → ℕ = λ (i : ℕ). get_or (block_flags rx n) i 0 in
    block_says (flags_that 1 rx n) (flags_that 0 rx n) n (block_bits rx n) (out (4 * n + 7))
    (λ v left. (of_taken (taken_at rx out (4 * n + 7)).result.told ≡ v) × ((taken_at rx out (4 * n + 7)).left ≡ left))
    (λ t left e. (ap of_taken (met.result ∙ ap (λ (a : Answer Take). a.result) e), met.left ∙ ap (λ (a : Answer Take). a.left) e))
    (flags_saying 1 rx n) (flags_saying 0 rx n) (sayers_ones 1 flag) (sayers_ones 0 flag)

pub bursts_made : BurstsMade
unfolding made
bursts_made ds l lent ll = all_done fresh_sender lent ll ds (fresh_able (length ds) l.some l.most) l.each

pub idle_halves : IdleHalves
unfolding made
idle_halves ds l lent ll i x hi hx =
    let able = fresh_able (length ds) l.some l.most in
    (first_idle lent ll ds able l.each i x hi hx, last_idle fresh_sender lent ll ds able l.each i x hi hx)

-- ---- a third block
module _ (rx rx' : List ℕ) (B n : ℕ) (same : (i : ℕ) → (i / 116 ≡ B → ⊥) → get_or rx i 0 ≡ get_or rx' i 0) (first : n ≡ B / 4 → ⊥) (last : n + 1 ≡ B / 4 → ⊥) where
  not_here : (r x : ℕ) → r < 8 → x < 116 → (116 * (4 * n + r) + x) / 116 ≡ B → ⊥
  not_here r x hr hx e =
      let burst : (116 * (4 * n + r) + x) / 116 ≡ 4 * n + r = omega (arith, hx) in
      let is : B ≡ 4 * n + r = sym e ∙ burst in
      ⊎_elim (λ (l : r < 4). first (omega (arith, is, l))) (λ (l : 4 ≤ r). last (omega (arith, is, l, hr))) (lt_or_le r 4)

  elsewhere : (r x : ℕ) → r < 8 → x < 116 → get_or rx (116 * (4 * n + r) + x) 0 ≡ get_or rx' (116 * (4 * n + r) + x) 0
  elsewhere r x hr hx = same (116 * (4 * n + r) + x) (not_here r x hr hx)

  bits_stand : block_bits rx n ≡ block_bits rx' n
  unfolding block_bits first_burst
  bits_stand = tab_same 456 (λ k. get_or rx (116 * (4 * n + k % 8) + e_at k) 0) (λ k. get_or rx' (116 * (4 * n + k % 8) + e_at k) 0)
      (λ k h. elsewhere (k % 8) (e_at k) (omega arith) (every_bit k h).within)

  flags_stand : block_flags rx n ≡ block_flags rx' n
  unfolding block_flags first_burst
  flags_stand = tab_same 8 (λ i. get_or rx (116 * (4 * n + i) + pick (ltb i 4) hu hl) 0) (λ i. get_or rx' (116 * (4 * n + i) + pick (ltb i 4) hu hl) 0)
      (λ i h. elsewhere i (pick (ltb i 4) hu hl) h (flag_in_lem i))

  heard_stands : (out : List ℕ) → answer_for rx n out ≡ answer_for rx' n out
  unfolding answer_for
  heard_stands out =
      ap₂ (λ (f c : List ℕ). by_kind (vote (sayers 1 (λ i. get_or f i 0)) (sayers 0 (λ i. get_or f i 0))) n c out) flags_stand bits_stand

pub never_a_third : NeverAThird
never_a_third M few rx rx' out here here' B same n h first last =
    let one = brings_block M few rx out here n h in
    let two = brings_block M few rx' out here' n h in
    let is = heard_stands rx rx' B n same first last (out (4 * n + 7)) in
    (one.result ∙ ap (λ (x : Answer Take). x.result) is ∙ sym two.result, one.left ∙ ap (λ (x : Answer Take). x.left) is ∙ sym two.left)

-- ---- how many flags are 1 and how many are 0, by how many are altered and how many are missing
-- a flag that was p says p, or is altered, or is missing; and where it is altered it says the other
one_of_three : (b : Bool) (r : ℕ) → r ≤ 2 → saying (flag_of b) r + differ (flag_of b) r + lost r ≡ 1
unfolding saying differ is_missing
one_of_three true = each_symbol (λ r. saying 1 r + differ 1 r + lost r ≡ 1) refl refl refl
one_of_three false = each_symbol (λ r. saying 0 r + differ 0 r + lost r ≡ 1) refl refl refl

says_other : (b : Bool) (r : ℕ) → r ≤ 2 → saying (flag_of (not b)) r ≡ differ (flag_of b) r
unfolding saying differ is_missing
says_other true = each_symbol (λ r. saying 0 r ≡ differ 1 r) refl refl refl
says_other false = each_symbol (λ r. saying 1 r ≡ differ 0 r) refl refl refl

-- once over the flags as they arrive
module _ (flag : ℕ → ℕ) (symbols : (i : ℕ) → flag i ≤ 2) (b : Bool) where
  abbrev flipped : ℕ
  flipped = total 8 (λ i. differ (flag_of b) (flag i))

  abbrev gone : ℕ
  gone = total 8 (λ i. lost (flag i))

  for_it : ones (sayers (flag_of b) flag) + flipped + gone ≡ 8
  unfolding total
  for_it =
      ap (λ (k : ℕ). k + flipped + gone) (sayers_ones (flag_of b) flag)
      ∙ ap (λ (k : ℕ). k + gone) (sym (total_add 8 (λ i. saying (flag_of b) (flag i)) (λ i. differ (flag_of b) (flag i))))
      ∙ sym (total_add 8 (λ i. saying (flag_of b) (flag i) + differ (flag_of b) (flag i)) (λ i. lost (flag i)))
      ∙ total_same 8 (λ i. saying (flag_of b) (flag i) + differ (flag_of b) (flag i) + lost (flag i)) (λ i. 1) (λ i l. one_of_three b (flag i) (symbols i))

  against : ones (sayers (flag_of (not b)) flag) ≡ flipped
  against = sayers_ones (flag_of (not b)) flag ∙ total_same 8 (λ i. saying (flag_of (not b)) (flag i)) (λ i. differ (flag_of b) (flag i)) (λ i l. says_other b (flag i) (symbols i))

  -- 02, M-102: f altered and g missing with 2f + g at most 7 leave more that say the kind; with 8 as many
  more : 2 * flipped + gone ≤ 7 → ones (sayers (flag_of (not b)) flag) < ones (sayers (flag_of b) flag)
  more h = omega (arith, h, for_it, against)

  even : 2 * flipped + gone ≡ 8 → ones (sayers (flag_of b) flag) ≡ ones (sayers (flag_of (not b)) flag)
  even h = omega (arith, h, for_it, against)

module _ (flag : ℕ → ℕ) (symbols : (i : ℕ) → flag i ≤ 2) where
  as_sent_lem : (b : Bool) → 2 * flipped flag symbols b + gone flag symbols b ≤ 7 → vote (sayers 1 flag) (sayers 0 flag) ≡ pick b kind.Facch kind.Speech
  as_sent_lem true h = vote_many (sayers 1 flag) (sayers 0 flag) (more flag symbols true h)
  as_sent_lem false h = vote_few (sayers 1 flag) (sayers 0 flag) (more flag symbols false h)

  as_neither : (b : Bool) → 2 * flipped flag symbols b + gone flag symbols b ≡ 8 → vote (sayers 1 flag) (sayers 0 flag) ≡ kind.Neither
  as_neither true h = vote_even (sayers 1 flag) (sayers 0 flag) (even flag symbols true h)
  as_neither false h = vote_even (sayers 1 flag) (sayers 0 flag) (sym (even flag symbols false h))

-- ---- what burst 4n+7 brings where block n comes back, and what that is in 01's values
abbrev facch_back : List ℕ → ℕ → ℕ → List ℕ → Answer Take
facch_back d n count out = record { result = Ok (Facch (record { 0 = n }) count); left = d ++ drop 184 out }

abbrev speech_back : List ℕ → ℕ → ℕ → List ℕ → Answer Take
speech_back d n count c = record { result = Ok (Speech (record { 0 = n }) count); left = take 182 d ++ drop 378 c }

unfoldable comes_out : List ℕ → ℕ → ℕ → List ℕ → List ℕ → Answer Take
comes_out d n count c out = pick (is_facch (length d)) (facch_back d n count out) (speech_back d n count c)

module _ (d : List ℕ) (n k : ℕ) (c out : List ℕ) (a : Answer Received) where
  by_kind_lem : (b : Bool) → Meets (pick b (facch_back d n k out) (speech_back d n k c)) a.result.told a.left
      → Brings a (pick b kind.Facch kind.Speech) n k (pick b (d ++ drop 184 out) (take 182 d ++ drop 378 c))
  by_kind_lem true m = record { told = ap of_taken m.result; left = m.left }
  by_kind_lem false m = record { told = ap of_taken m.result; left = m.left }

  comes_back : Meets (comes_out d n k c out) a.result.told a.left → Brings a (kind_of d) n k (bits_out d c out)
  unfolding comes_out kind_of bits_out
  comes_back m = by_kind_lem (is_facch (length d)) m

-- ---- what was sent stands at block n's places
is_speech_lem : (d : List ℕ) → is_block (length d) ≡ true → is_facch (length d) ≡ false → length d ≡ 260
is_speech_lem d block e = by_test (eqb (length d) 260) refl
  where
    by_test : (b : Bool) → eqb (length d) 260 ≡ b → length d ≡ 260
    by_test true f = eqb-true (length d) 260 f
    by_test false f = let z : ⊥ = false_true (sym e ∙ sym (ap (λ (b : Bool). pick b true (is_facch (length d))) f) ∙ block) in absurd z

block_size : (d : List ℕ) → Valid d → length (block_of d) ≡ 456
unfolding block_of
block_size d v = by_kind_lem (is_facch (length d)) refl
  where
    by_kind_lem : (b : Bool) → is_facch (length d) ≡ b → length (pick b (control_block d) (speech_block d)) ≡ 456
    by_kind_lem true e = control_size d (eqb-true (length d) 184 e) v.bits
    by_kind_lem false e = speech_size d (is_speech_lem d v.kind e) v.bits

-- ---- of FACCH every bit is protected, of speech the first 378
pub protected_facch : (d c : List ℕ) → is_facch (length d) ≡ true → protected d c ≡ c
unfolding protected
protected_facch d c e = rw e refl

pub protected_speech : (d c : List ℕ) → is_facch (length d) ≡ false → protected d c ≡ take 378 c
unfolding protected
protected_speech d c e = rw e refl

-- the length of what is protected
protected_long : (d c : List ℕ) → length c ≡ 456 → length (protected d c) ≡ 2 * pairs_of d
unfolding pairs_of
protected_long d c l = by_kind_lem (is_facch (length d)) refl
  where
    by_kind_lem : (b : Bool) → is_facch (length d) ≡ b → length (protected d c) ≡ 2 * pick b 228 189
    by_kind_lem true e = ap length (protected_facch d c e) ∙ l
    by_kind_lem false e = ap length (protected_speech d c e) ∙ length-take-le 378 c (omega (arith, l))

-- ---- u of a block, a candidate; the protected bits of what is sent are its pairs
unfoldable pub u_of : List ℕ → List ℕ
u_of d = pick (is_facch (length d)) (control_u d) (speech_u d)

pub pairs_short : (d : List ℕ) → pairs_of d ≤ longest
unfolding pairs_of
pairs_short d = by_kind_lem (is_facch (length d))
  where
    by_kind_lem : (b : Bool) → pick b 228 189 ≤ longest
    by_kind_lem true = lit≤ tt
    by_kind_lem false = lit≤ tt

pub candidate_of : (d : List ℕ) → Valid d → Candidate (pairs_of d) (u_of d)
unfolding pairs_of u_of
candidate_of d v = by_kind_lem (is_facch (length d)) refl
  where
    by_kind_lem : (b : Bool) → is_facch (length d) ≡ b → Candidate (pick b 228 189) (pick b (control_u d) (speech_u d))
    by_kind_lem true e = control_candidate d (eqb-true (length d) 184 e) v.bits
    by_kind_lem false e = speech_candidate d (is_speech_lem d v.kind e) v.bits

protected_coded : (d : List ℕ) → Valid d → protected d (block_of d) ≡ coded (u_of d)
unfolding block_of u_of control_block
protected_coded d v = by_kind_lem (is_facch (length d)) refl
  where
    by_kind_lem : (b : Bool) → is_facch (length d) ≡ b → protected d (pick b (control_block d) (speech_block d)) ≡ coded (pick b (control_u d) (speech_u d))
    by_kind_lem true e = protected_facch d (control_block d) e
    by_kind_lem false e = protected_speech d (speech_block d) e ∙ speech_pairs d (is_speech_lem d v.kind e) v.bits

-- the search finds the block in what arrived of its protected bits
abbrev pub FoundAs : List ℕ → List ℕ → Type 0
FoundAs d c = Found (protected d c) (pairs_of d) (u_of d)

found_facch : (d c : List ℕ) → is_facch (length d) ≡ true → FoundAs d c → Found c 228 (control_u d)
unfolding pairs_of u_of
found_facch d c e f =
    subst (λ (x : List ℕ). Found x 228 (control_u d)) (protected_facch d c e) (subst (λ (b : Bool). Found (protected d c) (pick b 228 189) (pick b (control_u d) (speech_u d))) e f)

found_speech : (d c : List ℕ) → is_facch (length d) ≡ false → FoundAs d c → Found (take 378 c) 189 (speech_u d)
unfolding pairs_of u_of
found_speech d c e f =
    subst (λ (x : List ℕ). Found x 189 (speech_u d)) (protected_speech d c e) (subst (λ (b : Bool). Found (protected d c) (pick b 228 189) (pick b (control_u d) (speech_u d))) e f)

module _ (ds : List (List ℕ)) (lesson : Lesson ds) (lent : ℕ → List ℕ) (ll : (i : ℕ) → length (lent i) ≡ 464) (n : ℕ) (h : n < length ds) where
  abbrev d : List ℕ
  d = get_or ds n []

  abbrev sent : List ℕ
  sent = made lent ds

  pub valid : Valid d
  valid = lesson.each n h

  pub sent_own : block_bits sent n ≡ block_of d
  unfolding block_bits first_burst made
  sent_own =
      sym (is_tab 456 (λ k. get_or sent (116 * (4 * n + k % 8) + e_at k) 0) (block_of d) (block_size d valid)
      (λ k l. sym (sent_bit fresh_sender lent ll ds (fresh_able (length ds) lesson.some lesson.most) lesson.each n k h l)))

  pub sent_flags : (i : ℕ) → i < 8 → get_or (block_flags sent n) i 0 ≡ flag_of (is_facch (length d))
  unfolding block_flags first_burst made
  sent_flags i l =
      at_tab 8 (λ i. get_or sent (116 * (4 * n + i) + pick (ltb i 4) hu hl) 0) i l
      ∙ sent_flag fresh_sender lent ll ds (fresh_able (length ds) lesson.some lesson.most) lesson.each n i h l

  flags_differ : (rx : List ℕ) → flags_altered sent rx n ≡ total 8 (λ i. differ (flag_of (is_facch (length d))) (get_or (block_flags rx n) i 0))
  unfolding flags_altered disagreements block_flags
  flags_differ rx =
      ap (λ (m : ℕ). total m (λ i. differ (get_or (block_flags sent n) i 0) (get_or (block_flags rx n) i 0))) (length_tab 8 (λ i. get_or sent (116 * (first_burst n + i) + pick (ltb i 4) hu hl) 0))
      ∙ total_same 8 (λ i. differ (get_or (block_flags sent n) i 0) (get_or (block_flags rx n) i 0)) (λ i. differ (flag_of (is_facch (length d))) (get_or (block_flags rx n) i 0))
      (λ i l. ap (λ (x : ℕ). differ x (get_or (block_flags rx n) i 0)) (sent_flags i l))

  pub flags_lost : (rx : List ℕ) → flags_missing rx n ≡ total 8 (λ i. lost (get_or (block_flags rx n) i 0))
  unfolding flags_missing missing block_flags
  flags_lost rx = ap (λ (m : ℕ). total m (λ i. lost (get_or (block_flags rx n) i 0))) (length_tab 8 (λ i. get_or rx (116 * (first_burst n + i) + pick (ltb i 4) hu hl) 0))

  -- ---- what its flags say: few altered or missing ones don't change the vote, and so many leave it open
  module _ (rx : List ℕ) (symbols : Symbols rx) where
    abbrev flag : ℕ → ℕ
    flag i = get_or (block_flags rx n) i 0

    flag_symbols : (i : ℕ) → flag i ≤ 2
    unfolding block_flags
    flag_symbols = over_tab 2 8 (λ i. get_or rx (116 * (first_burst n + i) + pick (ltb i 4) hu hl) 0) (λ i. symbols (116 * (first_burst n + i) + pick (ltb i 4) hu hl))

    harmed : 2 * flags_altered sent rx n + flags_missing rx n ≡ 2 * total 8 (λ i. differ (flag_of (is_facch (length d))) (flag i)) + total 8 (λ i. lost (flag i))
    harmed = ap₂ (λ (f g : ℕ). 2 * f + g) (flags_differ rx) (flags_lost rx)

    vote_as_sent : 2 * flags_altered sent rx n + flags_missing rx n ≤ 7 → vote (flags_that 1 rx n) (flags_that 0 rx n) ≡ pick (is_facch (length d)) kind.Facch kind.Speech
    vote_as_sent few = as_sent_lem flag flag_symbols (is_facch (length d)) (subst (λ (x : ℕ). x ≤ 7) harmed few)

    pub vote_ties : 2 * flags_altered sent rx n + flags_missing rx n ≡ 8 → vote (flags_that 1 rx n) (flags_that 0 rx n) ≡ kind.Neither
    vote_ties eight = as_neither flag flag_symbols (is_facch (length d)) (sym harmed ∙ eight)

  -- ---- what is heard of it where the search finds it: the block as sent, good, and the number altered
  module _ (rx : List ℕ) where
    abbrev arrived : List ℕ
    arrived = block_bits rx n

    arrived_long : length arrived ≡ 456
    unfolding block_bits
    arrived_long = length_tab 456 (λ k. get_or rx (116 * (first_burst n + k % 8) + e_at k) 0)

    -- what is sent of its protected bits are the pairs of u
    pub sent_pairs : protected d (block_bits sent n) ≡ coded (u_of d)
    sent_pairs = ap (protected d) sent_own ∙ protected_coded d valid

    arrived_pairs : length (protected d arrived) ≡ 2 * pairs_of d
    arrived_pairs = protected_long d arrived arrived_long

    -- 02, M-102: few altered and missing bits
    pub few_found : 2 * bits_altered d sent rx n + bits_missing d rx n ≤ 6 → FoundAs d arrived
    unfolding bits_altered bits_missing
    few_found few =
        corrected (pairs_of d) (protected d arrived) (u_of d) (candidate_of d valid) arrived_pairs (pairs_short d)
        (subst (λ (c : List ℕ). 2 * disagreements (protected d arrived) c + missing (protected d arrived) ≤ 6) sent_pairs few)

    module _ (found : FoundAs d arrived) where
      pub facch_heard : is_facch (length d) ≡ true → block_heard control_g 0 184 arrived ≡ record { bits = d; good = true; count = bits_altered d sent rx n }
      unfolding bits_altered block_of
      facch_heard e =
          let block : block_bits sent n ≡ control_block d = sent_own ∙ ap (λ (b : Bool). pick b (control_block d) (speech_block d)) e in
          let count : bits_altered d sent rx n ≡ disagreements arrived (control_block d) =
          ap₂ disagreements (protected_facch d arrived e) (protected_facch d (block_bits sent n) e ∙ block) in
          control_found d arrived (eqb-true (length d) 184 e) valid.bits (found_facch d arrived e found)
          ∙ ap (λ (k : ℕ). record { bits = d; good = true; count = k }) (sym count)

      pub speech_heard_lem : is_facch (length d) ≡ false → speech_heard arrived ≡ record { bits = take 182 d ++ drop 378 (given_bits arrived); good = true; count = bits_altered d sent rx n }
      unfolding bits_altered block_of
      speech_heard_lem e =
          let block : block_bits sent n ≡ speech_block d = sent_own ∙ ap (λ (b : Bool). pick b (control_block d) (speech_block d)) e in
          let count : bits_altered d sent rx n ≡ disagreements (take 378 arrived) (take 378 (speech_block d)) =
          ap₂ disagreements (protected_speech d arrived e) (protected_speech d (block_bits sent n) e ∙ ap (take 378) block) in
          speech_found d arrived (is_speech_lem d valid.kind e) valid.bits (found_speech d arrived e found)
          ∙ ap₂ (λ (w : List ℕ) (k : ℕ). record { bits = take 182 d ++ w; good = true; count = k }) (sym (given_drop 378 arrived)) (sym count)

  -- ---- what comes out
  module _ (rx : List ℕ) (symbols : Symbols rx) (out : List ℕ) (found : FoundAs d (block_bits rx n)) (flags : 2 * flags_altered sent rx n + flags_missing rx n ≤ 7) where
    abbrev k : ℕ
    k = bits_altered d sent rx n

    abbrev c : List ℕ
    c = given_bits (block_bits rx n)

    comes : (b : Bool) → is_facch (length d) ≡ b → answer_for rx n out ≡ comes_out d n k c out
    unfolding answer_for comes_out by_kind speech_of facch_of good_or_bad
    comes true e =
        ap (λ (x : Kind). by_kind x n (block_bits rx n) out) (vote_as_sent rx symbols flags ∙ ap (λ (b : Bool). pick b kind.Facch kind.Speech) e)
        ∙ ap (λ (x : Hearing). facch_of n x out) (facch_heard rx found e)
        ∙ sym (ap (λ (b : Bool). pick b (facch_back d n k out) (speech_back d n k c)) e)
    comes false e =
        ap (λ (x : Kind). by_kind x n (block_bits rx n) out) (vote_as_sent rx symbols flags ∙ ap (λ (b : Bool). pick b kind.Facch kind.Speech) e)
        ∙ ap (λ (x : Hearing). speech_of n x out) (speech_heard_lem rx found e)
        ∙ sym (ap (λ (b : Bool). pick b (facch_back d n k out) (speech_back d n k c)) e)

-- ---- a block that is found comes back
pub brought : (ds : List (List ℕ)) → Lesson ds → (lent : ℕ → List ℕ) → ((i : ℕ) → length (lent i) ≡ 464)
    → (rx : List ℕ) (out : ℕ → List ℕ) → Arrives (4 * length ds + 4) rx out
    → (n : ℕ) → n < length ds
    → FoundAs (get_or ds n []) (block_bits rx n) → 2 * flags_altered (made lent ds) rx n + flags_missing rx n ≤ 7
    → Brings (taken_at rx out (4 * n + 7)) (kind_of (get_or ds n [])) n (bits_altered (get_or ds n []) (made lent ds) rx n)
    (bits_out (get_or ds n []) (given_bits (block_bits rx n)) (out (4 * n + 7)))
brought ds lesson lent ll rx out here n h found flags =
    let M : ℕ = 4 * length ds + 4 in
    let d : List ℕ = get_or ds n [] in
    let said = brings_block M (omega (arith, lesson.most)) rx out here n (omega (arith, h)) in
    let is = comes ds lesson lent ll n h rx here.bits (out (4 * n + 7)) found flags (is_facch (length d)) refl in
    comes_back d n (bits_altered d (made lent ds) rx n) (given_bits (block_bits rx n)) (out (4 * n + 7)) (taken_at rx out (4 * n + 7))
    (subst (λ (a : Answer Take). Meets a (taken_at rx out (4 * n + 7)).result.told (taken_at rx out (4 * n + 7)).left) is said)

-- ---- 02, M-102: what a block bears
pub stream_bears : StreamBears
stream_bears ds lesson lent ll rx out here n h few flags = brought ds lesson lent ll rx out here n h (few_found ds lesson lent ll n h rx few) flags

-- ---- demand 3: nothing is missing, and so the others are as received
none_protected : (d c : List ℕ) → missing c ≡ 0 → missing (protected d c) ≡ 0
none_protected d c none = by_kind_lem (is_facch (length d)) refl
  where
    by_kind_lem : (b : Bool) → is_facch (length d) ≡ b → missing (protected d c) ≡ 0
    by_kind_lem true e = ap missing (protected_facch d c e) ∙ none
    by_kind_lem false e = ap missing (protected_speech d c e) ∙ omega (arith, missing_take 378 c, none)

none_missing : (d rx : List ℕ) (n : ℕ) → missing (block_bits rx n) ≡ 0 → bits_missing d rx n ≡ 0
unfolding bits_missing
none_missing d rx n none = none_protected d (block_bits rx n) none

pub stream_promise : StreamPromise
stream_promise ds lesson lent ll rx out here n h bits flags few few-flags =
    let d : List ℕ = get_or ds n [] in
    subst (λ (c : List ℕ). Brings (taken_at rx out (4 * n + 7)) (kind_of d) n (bits_altered d (made lent ds) rx n) (bits_out d c (out (4 * n + 7)))) (given_same (block_bits rx n) bits)
    (stream_bears ds lesson lent ll rx out here n h (omega (arith, few, none_missing d rx n bits)) (omega (arith, few-flags, flags)))
