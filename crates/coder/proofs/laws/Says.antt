-- What each entry answers is what Says has: the refusals by their numbers, what is sent, and THE nearest block of what is received.
use Rattle.std.specs.Prelude.{Bool, false, List, ◌++◌, ℕ, ◌+◌, ◌/◌, ◌%◌, ◌≤◌, ◌<◌, eqb, leb, length, take, drop, None, Some, Ok, Err}
use Rattle.std.proofs.Math.Bool.{true}
use Rattle.std.proofs.Math.Path.{◌≡◌, refl, ap}
use Rattle.std.proofs.Common.{sym, ◌∙◌, subst, lit≤}
use native.Mathlib.Omega.{arith}
use borrow.Author.Tests.{eqb-true, leb-true, eq-eqb, le-leb, lt-leb}
use Rattle.bits.specs.Bits.{Bits, NoneOver, given_bits, none_over, add, digits, ones}
use Rattle.bits.proofs.laws.Cases.{both_first, both_second, not_true}
use Rattle.bits.proofs.laws.Check.{none_over_lem, over_none}
use Rattle.bits.proofs.laws.Parts.{length_lent}
use Rattle.bits.proofs.laws.Sum.{length_add, bits_add, bits_take, bits_drop}
use Rattle.bits.proofs.laws.Value.{length_digits, bits_digits}
use Rattle.parity.specs.Division.{remainder, speech_g, control_g, access_g, sch_g}
use Rattle.parity.proofs.laws.Generators.{speech_number}
use Rattle.trellis.specs.Nearest.{Nearest, nearest, nearest_count, longest, row}
use Rattle.trellis.proofs.laws.Nearest.{nearest_is}
use Rattle.places.specs.Places.{gathered}
use Rattle.answers.specs.Answers.{Answer, Refuses, number_of, returned, of_told, of_heard, sent_or, tells, heard_or, hears, Told, Heard}
use Rattle.answers.specs.declared.Refusal.{Refusal}
use Rattle.answers.specs.declared.Refusal.TheVariants.{Length, NotBits, Identity}
use Rattle.answers.specs.declared.Returned.{Returned}
use Rattle.coder.specs.Blocks.{speech_block, control_block, sacch_message, access_burst, sch_burst}
use Rattle.coder.specs.Entries.{judged, lengths, Given, entry, view_length, unreached, speech_sent, control_sent, sacch_sent, access_sent, sch_sent, trellis_viewed}
use Rattle.coder.specs.Received.{Hearing, block_heard, speech_heard, judged_hearing, reception, speech_received, control_received, sacch_received, access_received, sch_received}
use Rattle.coder.specs.Says.{Refusing, Sends, SpeechSends, ControlSends, SacchSends, AccessSends, SchSends, Decodes, block_word, BlockDecodes, speech_d, speech_word, SpeechDecodes, Accepts, FindsBad, Receives, SpeechReceives, ControlReceives, SacchReceives, AccessReceives, SchReceives, Views}
use Rattle.parity.proofs.laws.Generators.{control_long}
use Rattle.coder.proofs.laws.Blocks.{access_long, sch_long}
use Rattle.coder.proofs.laws.Entries.{done_held, done_given, done_identity, sends, view_fewest}
use Rattle.coder.proofs.laws.Heard.{hears_good, hears_bad}
use Rattle.coder.proofs.laws.SpeechHeard.{bits_d}
use Rattle.coder.proofs.laws.Restored.{ones_good, good_ones}

-- ---- the first that applies
module _ (most n m i : ℕ) (d c : List ℕ) where
  abbrev pub told : Told
  told = judged (lengths d n c m) (none_over most d) (leb i 63)

  pub is_one : ((length d ≡ n) × (length c ≡ m) → ⊥) → told ≡ Err Length
  unfolding judged
  is_one h =
      let both_right : lengths d n c m ≡ true → ⊥ = λ (e : lengths d n c m ≡ true).
      h (eqb-true (length d) n (both_first (eqb (length d) n) (eqb (length c) m) e), eqb-true (length c) m (both_second (eqb (length d) n) (eqb (length c) m) e)) in
      rw (not_true (lengths d n c m) both_right) refl

  pub is_two : length d ≡ n → length c ≡ m → (NoneOver most d → ⊥) → told ≡ Err NotBits
  unfolding judged
  is_two reads lends h = rw (eq-eqb (length d) n reads, eq-eqb (length c) m lends, not_true (none_over most d) (λ (e : none_over most d ≡ true). h (none_over_lem most d e))) refl

  is_three : Given most n m d c → 63 < i → told ≡ Err Identity
  unfolding judged
  is_three g h = rw (eq-eqb (length d) n g.reads, eq-eqb (length c) m g.lends, over_none most d g.bits, lt-leb i 63 h) refl

  pub refusing : {A : Type 0} (of : A → Returned) (a : Answer A) → ((x : Refusal) → told ≡ Err x → Refuses of a (number_of x) c) → Refusing of a most n m i d c
  refusing of a says = record {
    one = λ h. says Length (is_one h);
    two = λ reads lends h. says NotBits (is_two reads lends h);
    three = λ g h. says Identity (is_three g h);
  }

-- ---- sending
pub told_done : (t : Told) → of_told t ≡ returned None None → t ≡ (Ok tt)
told_done (Ok tt) e = refl
told_done (Err x) e = let f : Some (number_of x) ≡ None = ap (λ (r : Returned). r.number) e in let z : ◌≡◌ {A = ℕ} 0 1 = cc in let w : ⊥ = omega arith in absurd w

pub sends_as : (n m i : ℕ) (d sent c : List ℕ) → Sends (entry n m i d sent c) n m i d sent c
unfolding entry tells sent_or
sends_as n m i d sent c =
    let t : Told = told 1 n m i d c in
    record {
      refused = refusing 1 n m i d c of_told (entry n m i d sent c) (λ x e. (ap of_told e, ap (λ (y : Told). sent_or y sent c) e));
      done = λ g h. let e = sends n m i d c h g sent in (ap (λ (a : Answer Told). of_told a.result) e, ap (λ (a : Answer Told). a.left) e);
      only = λ e. let f : t ≡ (Ok tt) = told_done t e in (done_given 1 d c n m i t refl f, done_identity 1 d c n m i t refl f);
    }

pub speech_sends : SpeechSends
unfolding speech_sent
speech_sends d c = sends_as 260 456 0 d (speech_block d) c

pub control_sends : ControlSends
unfolding control_sent
control_sends d c = sends_as 184 456 0 d (control_block d) c

pub sacch_sends : SacchSends
unfolding sacch_sent
sacch_sends d e = sends_as 184 464 0 d (sacch_message d) e

pub access_sends : AccessSends
unfolding access_sent
access_sends i d e = sends_as 8 36 i d (access_burst i d) e

pub sch_sends : SchSends
unfolding sch_sent
sch_sends d e = sends_as 25 78 0 d (sch_burst d) e

-- ---- what is heard is the nearest block: its bits, its count, its verdict
pub record HeardOf (h : Hearing) (c : List ℕ) (pairs : ℕ) (g : List ℕ) (word handed : List ℕ → List ℕ) : Type 0 where
  pub u : List ℕ
  pub nearest : Nearest c pairs u h.count
  pub bits : h.bits ≡ handed u
  pub good : remainder g (word u) ≡ ones (length g) → h.good ≡ true
  pub only : h.good ≡ true → remainder g (word u) ≡ ones (length g)

-- once over the generator, the identity and the length
pub block_heard_lem : (g : List ℕ) (i n pairs : ℕ) (c : List ℕ) → n + length g + 4 ≡ pairs → pairs ≤ longest → HeardOf (block_heard g i n c) c pairs g (block_word g i n) (take n)
unfolding block_heard
block_heard_lem g i n pairs c size short =
    let u : List ℕ = nearest c (n + length g + 4) in
    let is : Nearest c (n + length g + 4) u (nearest_count c (n + length g + 4)) = nearest_is c (n + length g + 4) (omega arith) (omega (arith, size, short)) in
    let p : List ℕ = take (length g) (drop n u) in
    let b : List ℕ = digits (length g) i in
    let lq : length (add p b) ≡ length g = length_add p b ∙ length_digits (length g) i in
    let bd : Bits (take n u) = bits_take n u is.candidate.bits in
    let bq : Bits (add p b) = bits_add p b (bits_digits (length g) i) in
    record {
      u = u;
      nearest = subst (λ (k : ℕ). Nearest c k u (nearest_count c (n + length g + 4))) size is;
      bits = refl;
      good = λ e. ones_good g (take n u) (add p b) lq bd bq e;
      only = λ e. good_ones g (take n u) (add p b) lq bd bq e;
    }

pub speech_heard_lem : (c : List ℕ) → HeardOf (speech_heard c) (take 378 c) 189 speech_g speech_word (λ u. speech_d u ++ given_bits (drop 378 c))
unfolding speech_heard
speech_heard_lem c =
    let u : List ℕ = nearest (take 378 c) 189 in
    let is : Nearest (take 378 c) 189 u (nearest_count (take 378 c) 189) = nearest_is (take 378 c) 189 (lit≤ tt) (lit≤ tt) in
    let w : List ℕ = take 50 (speech_d u) in
    let q : List ℕ = take 3 (drop 91 u) in
    let long : length speech_g ≡ 3 = ap length (sym speech_number) ∙ length_digits 3 0b011 in
    let lq : length q ≡ length speech_g = length_lent u 91 3 (omega (arith, is.candidate.long)) ∙ sym long in
    let bd : Bits w = bits_take 50 (speech_d u) (bits_d u is.candidate.bits) in
    let bq : Bits q = bits_take 3 (drop 91 u) (bits_drop 91 u is.candidate.bits) in
    record {
      u = u;
      nearest = is;
      bits = refl;
      good = λ e. ones_good speech_g w q lq bd bq e;
      only = λ e. good_ones speech_g w q lq bd bq e;
    }

-- ---- ONE LAW: what is told of a hearing is told of the nearest block
pub decodes : (h : Hearing) (c : List ℕ) (pairs : ℕ) (g : List ℕ) (word handed : List ℕ → List ℕ) → HeardOf h c pairs g word handed
    → (accepts : ℕ → List ℕ → Type 0) (finds_bad : ℕ → Type 0) → (h.good ≡ true → accepts h.count h.bits) → (h.good ≡ false → finds_bad h.count)
    → Decodes c pairs g word handed accepts finds_bad
decodes h c pairs g word handed x accepts finds_bad if-good if-bad = record {
  u = x.u;
  count = h.count;
  nearest = x.nearest;
  good = λ e. subst (accepts h.count) x.bits (if-good (x.good e));
  bad = λ e. if-bad (not_true h.good (λ (t : h.good ≡ true). e (x.only t)));
}

-- of 456 bits as a control block, and as a speech block
abbrev ByVerdict : Hearing → ((ℕ → List ℕ → Type 0) → (ℕ → Type 0) → Type 0) → Type 1
ByVerdict h decoded =
    (accepts : ℕ → List ℕ → Type 0) (finds_bad : ℕ → Type 0) → (h.good ≡ true → accepts h.count h.bits) → (h.good ≡ false → finds_bad h.count) → decoded accepts finds_bad

pub control_decodes : (c : List ℕ) → ByVerdict (block_heard control_g 0 184 c) (BlockDecodes control_g 0 184 228 c)
control_decodes c = decodes (block_heard control_g 0 184 c) c 228 control_g (block_word control_g 0 184) (take 184) (block_heard_lem control_g 0 184 228 c (omega (arith, control_long)) (lit≤ tt))

pub speech_decodes : (c : List ℕ) → ByVerdict (speech_heard c) (SpeechDecodes c)
speech_decodes c = decodes (speech_heard c) (take 378 c) 189 speech_g speech_word (λ u. speech_d u ++ given_bits (drop 378 c)) (speech_heard_lem c)

-- ---- receiving
module _ (n m i : ℕ) (c d : List ℕ) (h : Hearing) where
  refused_as : (x : Refusal) → told 2 n m i c d ≡ Err x → Refuses of_heard (reception n m i c h d) (number_of x) d
  unfolding reception judged_hearing hears heard_or
  refused_as x e = (ap (λ (y : Told). of_heard (judged_hearing y h)) e, ap (λ (y : Told). heard_or (judged_hearing y h) h.bits d) e)

  -- a refusal has no count
  counted : (t : Told) (k : ℕ) → (of_heard (judged_hearing t h)).count ≡ Some k → t ≡ (Ok tt)
  unfolding judged_hearing
  counted (Ok tt) k e = refl
  counted (Err x) k e = let z : ◌≡◌ {A = ℕ} 0 1 = cc in let w : ⊥ = omega arith in absurd w

  count_only : (k : ℕ) → (of_heard (reception n m i c h d).result).count ≡ Some k → told 2 n m i c d ≡ (Ok tt)
  unfolding reception hears
  count_only k e = counted (told 2 n m i c d) k e

  module _ (p : List ℕ) (pairs : ℕ) (g : List ℕ) (word handed : List ℕ → List ℕ) (x : HeardOf h p pairs g word handed) where
    pub receives_as : Receives (reception n m i c h d) n m i c d (Decodes p pairs g word handed)
    receives_as =
        let a : Answer Heard = reception n m i c h d in
        let t : Told = told 2 n m i c d in
        record {
          refused = refusing 2 n m i c d of_heard a refused_as;
          heard = λ gi l.
              decodes h p pairs g word handed x (Accepts a) (λ k. FindsBad a k d)
              (λ good. let e = hears_good n m i c d l gi h h.count refl h.bits good refl in (ap (λ (y : Answer Heard). of_heard y.result) e, ap (λ (y : Answer Heard). y.left) e))
              (λ bad. let e = hears_bad n m i c d l gi h h.count refl bad in (ap (λ (y : Answer Heard). of_heard y.result) e, ap (λ (y : Answer Heard). y.left) e));
          only = λ k e. let f = count_only k e in (done_given 2 c d n m i t refl f, done_identity 2 c d n m i t refl f);
        }

pub speech_receives : SpeechReceives
unfolding speech_received
speech_receives c d = receives_as 456 260 0 c d (speech_heard c) (take 378 c) 189 speech_g speech_word (λ u. speech_d u ++ given_bits (drop 378 c)) (speech_heard_lem c)

pub control_receives : ControlReceives
unfolding control_received
control_receives c d = receives_as 456 184 0 c d (block_heard control_g 0 184 c) c 228 control_g (block_word control_g 0 184) (take 184) (block_heard_lem control_g 0 184 228 c (omega (arith, control_long)) (lit≤ tt))

pub sacch_receives : SacchReceives
unfolding sacch_received
sacch_receives e d =
    receives_as 464 184 0 e d (block_heard control_g 0 184 (gathered e)) (gathered e) 228 control_g (block_word control_g 0 184) (take 184)
    (block_heard_lem control_g 0 184 228 (gathered e) (omega (arith, control_long)) (lit≤ tt))

pub access_receives : AccessReceives
unfolding access_received
access_receives i e d = receives_as 36 8 i e d (block_heard access_g i 8 e) e 18 access_g (block_word access_g i 8) (take 8) (block_heard_lem access_g i 8 18 e (omega (arith, access_long)) (lit≤ tt))

pub sch_receives : SchReceives
unfolding sch_received
sch_receives e d = receives_as 78 25 0 e d (block_heard sch_g 0 25 e) e 39 sch_g (block_word sch_g 0 25) (take 25) (block_heard_lem sch_g 0 25 39 e (omega (arith, sch_long)) (lit≤ tt))

-- ---- the trellis view
pub views : (r : List ℕ) → Views r
unfolding trellis_viewed tells sent_or judged unreached
views r =
    let shown : Bool → Bool → Answer Told = λ (l b : Bool). tells (judged l b true) (row r (length r / 2)) unreached in
    let long : length r % 2 ≡ 0 → length r ≤ 456 → view_length r ≡ true = λ (even : length r % 2 ≡ 0) (short : length r ≤ 456). rw (eq-eqb (length r % 2) 0 even, le-leb (length r) 456 short) refl in
    record {
      one = λ h.
          let e : view_length r ≡ false = not_true (view_length r) (λ (e : view_length r ≡ true).
          h (eqb-true (length r % 2) 0 (both_first (eqb (length r % 2) 0) (leb (length r) 456) e), leb-true (length r) 456 (both_second (eqb (length r % 2) 0) (leb (length r) 456) e))) in
          (ap (λ (l : Bool). of_told (shown l (none_over 2 r)).result) e, ap (λ (l : Bool). (shown l (none_over 2 r)).left) e);
      two = λ even short h. rw (long even short, not_true (none_over 2 r) (λ (e : none_over 2 r ≡ true). h (none_over_lem 2 r e))) (refl, refl);
      done = λ even short bits. rw (long even short, over_none 2 r bits) refl;
      only = λ e.
          let held = done_held (view_length r) (none_over 2 r) true (told_done (judged (view_length r) (none_over 2 r) true) e) in (
            eqb-true (length r % 2) 0 (both_first (eqb (length r % 2) 0) (leb (length r) 456) held.lengths),
            leb-true (length r) 456 (both_second (eqb (length r % 2) 0) (leb (length r) 456) held.lengths),
            none_over_lem 2 r held.bits,
          );
      fewest = λ even short bits s h. view_fewest r (trellis_viewed r).left (record { result = rw (long even short, over_none 2 r bits) refl; left = refl }) s h;
    }
