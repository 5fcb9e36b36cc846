-- What 02, M-101 buys is so: with as many flags altered as not the vote is open, and the block is heard as FACCH, then as speech.
use Rattle.std.specs.Prelude.{Bool, true, false, List, [], ◌++◌, ◌≡◌, refl, ℕ, ◌+◌, ◌*◌, ◌≤◌, ◌<◌, get_or, take, Ok}
use Rattle.std.proofs.Common.{⊎_elim, ap, ◌∙◌, arith, eq-eqb, ne_eqb}
use Rattle.std.proofs.Math.Path.{subst}
use Rattle.std.proofs.Math.ListN.{length, drop}
use Rattle.answers.specs.Answers.{Answer, Meets}
use Rattle.bits.specs.Bits.{given_bits, pick}
use Rattle.bits.proofs.laws.Cases.{lt_or_le}
use Rattle.coder.specs.Received.{Hearing, block_heard, speech_heard}
use Rattle.coder.proofs.laws.Says.{control_decodes}
use Rattle.parity.specs.Division.{control_g}
use Rattle.chart.specs.Answers.{Take, of_taken}
use Rattle.chart.specs.declared.Kind.{Kind}
use Rattle.chart.specs.declared.Kind.TheVariants as kind
use Rattle.chart.specs.declared.Taken.TheVariants.{Speech, Facch}
use Rattle.kinds.specs.Kinds.{tied, by_kind}
use Rattle.stream.specs.Sending.{is_facch}
use Rattle.kinds.proofs.laws.Kinds.{facch_good, speech_good, rule_facch, rule_speech}
use Rattle.promise.specs.Promise.{Lesson, made, Arrives, taken_at, block_bits, bits_altered, bits_missing, flags_altered, flags_missing, kind_of, bits_out, Brings, answer_for}
use Rattle.promise.specs.Ties.{FacchTies, SpeechTies}
use Rattle.promise.proofs.laws.Promise.{vote_ties, few_found, facch_heard, speech_heard_lem, stream_bears}
use Rattle.promise.proofs.laws.Taken.{brings_block}

module _ (ds : List (List ℕ)) (lesson : Lesson ds) (lent : ℕ → List ℕ) (ll : (i : ℕ) → length (lent i) ≡ 464)
    (rx : List ℕ) (out : ℕ → List ℕ) (here : Arrives (4 * length ds + 4) rx out) (n : ℕ) (h : n < length ds)
    (few : 2 * bits_altered (get_or ds n []) (made lent ds) rx n + bits_missing (get_or ds n []) rx n ≤ 6) where
  abbrev d : List ℕ
  d = get_or ds n []

  abbrev c : List ℕ
  c = block_bits rx n

  abbrev k : ℕ
  k = bits_altered d (made lent ds) rx n

  abbrev before : List ℕ
  before = out (4 * n + 7)

  abbrev harm : ℕ
  harm = 2 * flags_altered (made lent ds) rx n + flags_missing rx n

  -- ---- the vote is open: burst 4n+7 brings what the rule says of the two hearings
  module _ (four : harm ≡ 8) where
    by_rule : Meets (tied n (block_heard control_g 0 184 c) (speech_heard c) before) (taken_at rx out (4 * n + 7)).result.told (taken_at rx out (4 * n + 7)).left
    unfolding answer_for by_kind
    by_rule =
        subst (λ (a : Answer Take). Meets a (taken_at rx out (4 * n + 7)).result.told (taken_at rx out (4 * n + 7)).left)
        (ap (λ (x : Kind). by_kind x n c before) (vote_ties ds lesson lent ll n h rx here.bits four))
        (brings_block (4 * length ds + 4) (omega (arith, lesson.most)) rx out here n (omega (arith, h)))

    brings : (a : Answer Take) → tied n (block_heard control_g 0 184 c) (speech_heard c) before ≡ a
        → (of_taken (taken_at rx out (4 * n + 7)).result.told ≡ of_taken a.result) × ((taken_at rx out (4 * n + 7)).left ≡ a.left)
    brings a e = (ap of_taken (by_rule.result ∙ ap (λ (x : Answer Take). x.result) e), by_rule.left ∙ ap (λ (x : Answer Take). x.left) e)

    as_facch : (control : Hearing) → block_heard control_g 0 184 c ≡ control → control.good ≡ true → Brings (taken_at rx out (4 * n + 7)) kind.Facch n control.count (control.bits ++ drop 184 before)
    as_facch control e good =
        let so = brings (record { result = Ok (Facch (record { 0 = n }) control.count); left = control.bits ++ drop 184 before })
        (ap (λ (x : Hearing). tied n x (speech_heard c) before) e ∙ rule_facch n control (speech_heard c) before good ∙ facch_good n control before good) in
        record { told = so.0; left = so.1 }

    as_speech : (block_heard control_g 0 184 c).good ≡ false → (speech : Hearing) → speech_heard c ≡ speech → speech.good ≡ true
        → Brings (taken_at rx out (4 * n + 7)) kind.Speech n speech.count speech.bits
    as_speech bad speech e good =
        let control : Hearing = block_heard control_g 0 184 c in
        let so = brings (record { result = Ok (Speech (record { 0 = n }) speech.count); left = speech.bits })
        (ap (λ (x : Hearing). tied n control x before) e ∙ rule_speech n control speech before bad good ∙ speech_good n speech before good) in
        record { told = so.0; left = so.1 }

  -- ---- with fewer, what a block bears
  fewer : is_facch (length d) ≡ true → harm ≤ 7 → Brings (taken_at rx out (4 * n + 7)) kind.Facch n k (d ++ drop 184 before)
  unfolding kind_of bits_out
  fewer e flags =
      subst (λ (b : Bool). Brings (taken_at rx out (4 * n + 7)) (pick b kind.Facch kind.Speech) n k (pick b (d ++ drop 184 before) (take 182 d ++ drop 378 (given_bits c)))) e
      (stream_bears ds lesson lent ll rx out here n h few flags)

pub facch_ties : FacchTies
facch_ties ds lesson lent ll rx out here n h long few flags =
    let d : List ℕ = get_or ds n [] in
    let is : is_facch (length d) ≡ true = eq-eqb (length d) 184 long in
    let harm : ℕ = 2 * flags_altered (made lent ds) rx n + flags_missing rx n in
    ⊎_elim (λ (l : harm < 8). fewer ds lesson lent ll rx out here n h few is (omega (arith, l)))
    (λ (l : 8 ≤ harm).
    as_facch ds lesson lent ll rx out here n h few (omega (arith, l, flags)) (record { bits = d; good = true; count = bits_altered d (made lent ds) rx n })
    (facch_heard ds lesson lent ll n h rx (few_found ds lesson lent ll n h rx few) is) refl)
    (lt_or_le harm 8)

pub speech_ties : SpeechTies
speech_ties ds lesson lent ll rx out here n h long few four =
    let d : List ℕ = get_or ds n [] in
    let c : List ℕ = block_bits rx n in
    let is : is_facch (length d) ≡ false = ne_eqb (length d) 184 (λ (z : length d ≡ 184). omega (arith, z, long)) in
    control_decodes c
    (λ count bits. Brings (taken_at rx out (4 * n + 7)) kind.Facch n count (bits ++ drop 184 (out (4 * n + 7))))
    (λ count. Brings (taken_at rx out (4 * n + 7)) kind.Speech n (bits_altered d (made lent ds) rx n) (take 182 d ++ drop 378 (given_bits c)))
    (λ good. as_facch ds lesson lent ll rx out here n h few four (block_heard control_g 0 184 c) refl good)
    (λ bad. as_speech ds lesson lent ll rx out here n h few four bad (record { bits = take 182 d ++ drop 378 (given_bits c); good = true; count = bits_altered d (made lent ds) rx n }) (speech_heard_lem ds lesson lent ll n h rx (few_found ds lesson lent ll n h rx few) is) refl)
