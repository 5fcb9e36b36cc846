-- What the sender makes: bit k of block n stands in burst 4n + (k mod 8) at its e-index, and its flags beside it. By induction over the blocks.
use Rattle.std.specs.Prelude.{Bool, true, false, ◌≡◌, refl, ℕ, zero, suc, ◌+◌, ◌-◌, ◌*◌, ◌%◌, ◌≤◌, ◌<◌, ltb, eqb, length, Ok}
use mathlib.Core.List.{List, [], ◌∷◌, ◌++◌}
use Rattle.std.proofs.Common.{⊎_elim, sym, ◌∙◌, subst, length-append, lt-ltb, le-ltb, eqb-true, eq-eqb, ne_eqb}
use Rattle.std.proofs.Math.Path.{ap}
use native.Mathlib.Omega.{arith}
use Rattle.std.proofs.Math.ListN.{get_or}
use Rattle.bits.specs.Bits.{pick, zeros}
use Rattle.bits.proofs.laws.Cases.{lt_or_le}
use Rattle.bits.proofs.laws.Sum.{at_zeros}
use Rattle.bits.proofs.laws.Tab.{at_left, at_right}
use Rattle.answers.specs.Answers.{Answer, of_told}
use Rattle.places.specs.Places.{e_at, place_at, bit_at, hl, hu, cell, four, flag_in, flags_of}
use Rattle.places.proofs.laws.Four.{cell_bit, cell_hl, cell_hu, length_four, four_at, flag_hl, flag_hu}
use Rattle.places.proofs.laws.Places.{every_bit}
use Rattle.stream.specs.Sending.{is_facch, block_of, flag_of, fresh_sender, sent_bursts, sent_next, send_answer, end_bursts, end_next, end_answer}
use Rattle.stream.specs.declared.sender.Sender.{Sender}
use Rattle.stream.specs.declared.sender.Sent.{Sent}
use Rattle.stream.proofs.laws.Sending.{sends_on, ends_on}
use Rattle.promise.specs.Promise.{Valid, send_all, AllDone}

-- a sender that may send N blocks more, and then end
pub record Able (s : Sender) (N : ℕ) : Type 0 where
  pub unended : s.ended ≡ false
  pub room : s.sent.0 + N ≤ 16383
  pub some : 0 < s.sent.0 + N

abbrev pub AllValid : List (List ℕ) → Type 0
AllValid ds = (n : ℕ) → n < length ds → Valid (get_or ds n [])

abbrev pub Lent : (ℕ → List ℕ) → Type 0
Lent lent = (i : ℕ) → length (lent i) ≡ 464

-- the block that begins in the first four bursts, and its flag
abbrev beginning : List (List ℕ) → List ℕ
beginning [] = zeros 456
beginning (d ∷ ds) = block_of d

abbrev beginning_flag : List (List ℕ) → ℕ
beginning_flag [] = 0
beginning_flag (d ∷ ds) = flag_of (is_facch (length d))

pub flag_fits : (b : Bool) → flag_of b ≤ 1
flag_fits true = omega arith
flag_fits false = omega arith

beginning_fits : (ds : List (List ℕ)) → beginning_flag ds ≤ 1
beginning_fits [] = omega arith
beginning_fits (d ∷ ds) = flag_fits (is_facch (length d))

-- ---- one call
module _ (s : Sender) (lent : ℕ → List ℕ) (ll : Lent lent) where
  last_call : Able s 0 → end_answer s (lent 0) ≡ record { result = record { told = (Ok tt); next = end_next s }; left = end_bursts s }
  last_call a = ends_on s (lent 0) (record { writes = ll 0; unended = a.unended; some = omega (arith, a.some) })

  module _ (d : List ℕ) (ds : List (List ℕ)) (a : Able s (length (d ∷ ds))) (v : AllValid (d ∷ ds)) where
    call : send_answer s d (lent 0) ≡ record { result = record { told = (Ok tt); next = sent_next s d }; left = sent_bursts s d }
    call = sends_on s d (lent 0) (record { reads = (v 0 (omega arith)).kind; writes = ll 0; bits = (v 0 (omega arith)).bits; unended = a.unended; room = omega (arith, a.room) })

    able_next : Able (sent_next s d) (length ds)
    unfolding sent_next
    able_next = record { unended = a.unended; room = omega (arith, a.room); some = omega arith }

    goes_on : send_all s lent (d ∷ ds) ≡ sent_bursts s d ++ send_all (sent_next s d) (λ i. lent (suc i)) ds
    unfolding send_all
    goes_on = ap (λ (x : Answer Sent). x.left ++ send_all x.result.next (λ i. lent (suc i)) ds) call

    -- the bytes after the first four bursts
    later : (j i : ℕ) → i ≡ 464 + j → get_or (send_all s lent (d ∷ ds)) i 0 ≡ get_or (send_all (sent_next s d) (λ i. lent (suc i)) ds) j 0
    unfolding sent_bursts
    later j i e =
        ap (λ (w : List ℕ). get_or w i 0) goes_on
        ∙ at_right (sent_bursts s d) (send_all (sent_next s d) (λ i. lent (suc i)) ds) 464 j i (length_four (block_of d) s.last (flags_of (flag_of (is_facch (length d))) (flag_of s.facch))) e

-- the first four bursts
first_four : (s : Sender) (lent : ℕ → List ℕ) → Lent lent → (ds : List (List ℕ)) → Able s (length ds) → AllValid ds → (i x : ℕ) → i < 4 → x < 116
    → get_or (send_all s lent ds) (116 * i + x) 0 ≡ cell i (beginning ds) s.last (flags_of (beginning_flag ds) (flag_of s.facch)) x
unfolding send_all end_bursts sent_bursts
first_four s lent ll [] a v i x hi hx =
    ap (λ (y : Answer Sent). get_or y.left (116 * i + x) 0) (last_call s lent ll a)
    ∙ four_at (zeros 456) s.last (flags_of 0 (flag_of s.facch)) i x hi hx
first_four s lent ll (d ∷ ds) a v i x hi hx =
    let flags : ℕ = flags_of (flag_of (is_facch (length d))) (flag_of s.facch) in
    ap (λ (w : List ℕ). get_or w (116 * i + x) 0) (goes_on s lent ll d ds a v)
    ∙ at_left (four (block_of d) s.last flags) (send_all (sent_next s d) (λ j. lent (suc j)) ds) (116 * i + x) (rw (length_four (block_of d) s.last flags) (omega (arith, hi, hx)))
    ∙ four_at (block_of d) s.last flags i x hi hx

late : (k : ℕ) → 4 ≤ k % 8 → k % 8 - 4 ≡ k % 4
late k h =
    let e : k % 8 % 4 ≡ k % 4 = omega arith in
    let f : k % 8 - 4 ≡ k % 8 % 4 = omega (arith, h) in
    f ∙ e

-- ---- bit k of block n
pub sent_bit : (s : Sender) (lent : ℕ → List ℕ) → Lent lent → (ds : List (List ℕ)) → Able s (length ds) → AllValid ds → (n k : ℕ) → n < length ds → k < 456
    → get_or (send_all s lent ds) (116 * (4 * n + k % 8) + e_at k) 0 ≡ get_or (block_of (get_or ds n [])) k 0
unfolding sent_next
sent_bit s lent ll [] a v n k h hk = let z : ⊥ = omega (arith, h) in absurd z
sent_bit s lent ll (d ∷ ds) a v zero k h hk = ⊎_elim begins goes (lt_or_le (k % 8) 4)
  where
    begins : k % 8 < 4 → get_or (send_all s lent (d ∷ ds)) (116 * (4 * 0 + k % 8) + e_at k) 0 ≡ get_or (block_of d) k 0
    begins l =
        let e : 4 * 0 + k % 8 ≡ k % 8 = omega arith in
        ap (λ (i : ℕ). get_or (send_all s lent (d ∷ ds)) (116 * i + e_at k) 0) e
        ∙ first_four s lent ll (d ∷ ds) a v (k % 8) (e_at k) l (every_bit k hk).within
        ∙ cell_bit (block_of d) s.last (flags_of (flag_of (is_facch (length d))) (flag_of s.facch)) (k % 8) k hk (omega (arith, l))
        ∙ rw (lt-ltb (k % 8) 4 l) refl

    goes : 4 ≤ k % 8 → get_or (send_all s lent (d ∷ ds)) (116 * (4 * 0 + k % 8) + e_at k) 0 ≡ get_or (block_of d) k 0
    goes l =
        let i : ℕ = k % 8 - 4 in
        let less : i < 4 = omega arith in
        let e : 116 * (4 * 0 + k % 8) + e_at k ≡ 464 + (116 * i + e_at k) = omega (arith, l) in
        later s lent ll d ds a v (116 * i + e_at k) (116 * (4 * 0 + k % 8) + e_at k) e
        ∙ first_four (sent_next s d) (λ j. lent (suc j)) (λ j. ll (suc j)) ds (able_next s lent ll d ds a v) (λ j r. v (suc j) (omega (arith, r))) i (e_at k) less (every_bit k hk).within
        ∙ cell_bit (beginning ds) (block_of d) (flags_of (beginning_flag ds) (flag_of (is_facch (length d)))) i k hk (late k l)
        ∙ rw (le-ltb (k % 8) 4 l) refl
sent_bit s lent ll (d ∷ ds) a v (suc n) k h hk =
    let e : 116 * (4 * suc n + k % 8) + e_at k ≡ 464 + (116 * (4 * n + k % 8) + e_at k) = omega arith in
    later s lent ll d ds a v (116 * (4 * n + k % 8) + e_at k) (116 * (4 * suc n + k % 8) + e_at k) e
    ∙ sent_bit (sent_next s d) (λ j. lent (suc j)) (λ j. ll (suc j)) ds (able_next s lent ll d ds a v) (λ j r. v (suc j) (omega (arith, r))) n k (omega (arith, h)) hk

-- ---- its flag i
pub sent_flag : (s : Sender) (lent : ℕ → List ℕ) → Lent lent → (ds : List (List ℕ)) → Able s (length ds) → AllValid ds → (n i : ℕ) → n < length ds → i < 8
    → get_or (send_all s lent ds) (116 * (4 * n + i) + pick (ltb i 4) hu hl) 0 ≡ flag_of (is_facch (length (get_or ds n [])))
unfolding sent_next
sent_flag s lent ll [] a v n i h hi = let z : ⊥ = omega (arith, h) in absurd z
sent_flag s lent ll (d ∷ ds) a v zero i h hi = ⊎_elim begins goes (lt_or_le i 4)
  where
    begins : i < 4 → get_or (send_all s lent (d ∷ ds)) (116 * (4 * 0 + i) + pick (ltb i 4) hu hl) 0 ≡ flag_of (is_facch (length d))
    begins l =
        let e : 116 * (4 * 0 + i) + 58 ≡ 116 * i + 58 = omega arith in
        ap (λ (b : Bool). get_or (send_all s lent (d ∷ ds)) (116 * (4 * 0 + i) + pick b hu hl) 0) (lt-ltb i 4 l)
        ∙ ap (λ (j : ℕ). get_or (send_all s lent (d ∷ ds)) j 0) e
        ∙ first_four s lent ll (d ∷ ds) a v i 58 l (omega arith)
        ∙ cell_hu (block_of d) s.last (flags_of (flag_of (is_facch (length d))) (flag_of s.facch)) i
        ∙ flag_hu i (flag_of (is_facch (length d))) (flag_of s.facch) l (flag_fits (is_facch (length d))) (flag_fits s.facch)

    goes : 4 ≤ i → get_or (send_all s lent (d ∷ ds)) (116 * (4 * 0 + i) + pick (ltb i 4) hu hl) 0 ≡ flag_of (is_facch (length d))
    goes l =
        let e : 116 * (4 * 0 + i) + 57 ≡ 464 + (116 * (i - 4) + 57) = omega (arith, l) in
        ap (λ (b : Bool). get_or (send_all s lent (d ∷ ds)) (116 * (4 * 0 + i) + pick b hu hl) 0) (le-ltb i 4 l)
        ∙ later s lent ll d ds a v (116 * (i - 4) + 57) (116 * (4 * 0 + i) + 57) e
        ∙ first_four (sent_next s d) (λ j. lent (suc j)) (λ j. ll (suc j)) ds (able_next s lent ll d ds a v) (λ j r. v (suc j) (omega (arith, r))) (i - 4) 57 (omega (arith, hi)) (omega arith)
        ∙ cell_hl (beginning ds) (block_of d) (flags_of (beginning_flag ds) (flag_of (is_facch (length d)))) (i - 4)
        ∙ flag_hl (i - 4) (beginning_flag ds) (flag_of (is_facch (length d))) (omega (arith, hi)) (beginning_fits ds) (flag_fits (is_facch (length d)))
sent_flag s lent ll (d ∷ ds) a v (suc n) i h hi =
    let x : ℕ = pick (ltb i 4) hu hl in
    let e : 116 * (4 * suc n + i) + x ≡ 464 + (116 * (4 * n + i) + x) = omega arith in
    later s lent ll d ds a v (116 * (4 * n + i) + x) (116 * (4 * suc n + i) + x) e
    ∙ sent_flag (sent_next s d) (λ j. lent (suc j)) (λ j. ll (suc j)) ds (able_next s lent ll d ds a v) (λ j r. v (suc j) (omega (arith, r))) n i (omega (arith, h)) hi

-- ---- every call is done, and how many bursts there are
pub all_done : (s : Sender) (lent : ℕ → List ℕ) → Lent lent → (ds : List (List ℕ)) → Able s (length ds) → AllValid ds
    → AllDone s lent ds × (length (send_all s lent ds) ≡ 116 * (4 * length ds + 4))
unfolding AllDone send_all end_bursts sent_bursts
all_done s lent ll [] a v =
    let done = last_call s lent ll a in
    (ap (λ (x : Answer Sent). of_told x.result.told) done, ap (λ (x : Answer Sent). length x.left) done ∙ length_four (zeros 456) s.last (flags_of 0 (flag_of s.facch)))
all_done s lent ll (d ∷ ds) a v =
    let done = call s lent ll d ds a v in
    let rest = all_done (sent_next s d) (λ j. lent (suc j)) (λ j. ll (suc j)) ds (able_next s lent ll d ds a v) (λ j r. v (suc j) (omega (arith, r))) in
    let l = length_four (block_of d) s.last (flags_of (flag_of (is_facch (length d))) (flag_of s.facch)) in
    let sum = length-append (sent_bursts s d) (send_all (sent_next s d) (λ j. lent (suc j)) ds) in (
      (ap (λ (x : Answer Sent). of_told x.result.told) done, subst (λ (x : Answer Sent). AllDone x.result.next (λ j. lent (suc j)) ds) (sym done) rest.0),
      ap length (goes_on s lent ll d ds a v) ∙ sum ∙ omega (arith, l, rest.1),
    )

-- ---- what is idle: no block goes on at the odd places and hl, or none begins at the even places and hu
even_58 : place_at 58 % 2 ≡ 1 → ⊥
unfolding place_at
even_58 e = omega (arith, e)

idle_odd : (a : List ℕ) (p i x : ℕ) → p ≤ 1 → i < 4 → place_at x % 2 ≡ 1 → cell i a (zeros 456) (flags_of p 0) x ≡ 0
unfolding cell
idle_odd a p i x hp hi odd = by_tests (eqb x hl) (eqb x hu) refl
  where
    by_tests : (f g : Bool) → eqb x hu ≡ g
        → pick f (flag_in (flags_of p 0) (2 * i)) (pick g (flag_in (flags_of p 0) (2 * i + 1)) (pick (eqb (place_at x % 2) 0) (get_or a (bit_at i (place_at x)) 0) (get_or (zeros 456) (bit_at i (place_at x)) 0))) ≡ 0
    by_tests true g e = flag_hl i p 0 hi hp (omega arith)
    by_tests false true e =
        let here : x ≡ 58 = eqb-true x 58 e in
        let z : ⊥ = even_58 (sym (ap (λ (y : ℕ). place_at y % 2) here) ∙ odd) in
        absurd z
    by_tests false false e = rw (ne_eqb (place_at x % 2) 0 (λ (z : place_at x % 2 ≡ 0). omega (arith, odd, z))) (at_zeros 456 (bit_at i (place_at x)))

odd_57 : place_at 57 % 2 ≡ 0 → ⊥
unfolding place_at
odd_57 e = omega (arith, e)

idle_even : (b : List ℕ) (q i x : ℕ) → q ≤ 1 → i < 4 → place_at x % 2 ≡ 0 → cell i (zeros 456) b (flags_of 0 q) x ≡ 0
unfolding cell
idle_even b q i x hq hi even = by_tests (eqb x hl) (eqb x hu) refl
  where
    by_tests : (f g : Bool) → eqb x hl ≡ f
        → pick f (flag_in (flags_of 0 q) (2 * i)) (pick g (flag_in (flags_of 0 q) (2 * i + 1)) (pick (eqb (place_at x % 2) 0) (get_or (zeros 456) (bit_at i (place_at x)) 0) (get_or b (bit_at i (place_at x)) 0))) ≡ 0
    by_tests true g e =
        let here : x ≡ 57 = eqb-true x 57 e in
        let z : ⊥ = odd_57 (sym (ap (λ (y : ℕ). place_at y % 2) here) ∙ even) in
        absurd z
    by_tests false true e = flag_hu i 0 q hi (omega arith) hq
    by_tests false false e = rw (eq-eqb (place_at x % 2) 0 even) (at_zeros 456 (bit_at i (place_at x)))

-- a fresh sender
pub fresh_able : (N : ℕ) → 1 ≤ N → N ≤ 16383 → Able fresh_sender N
unfolding fresh_sender
fresh_able N some most = record { unended = refl; room = omega (arith, most); some = omega (arith, some) }

pub first_idle : (lent : ℕ → List ℕ) → Lent lent → (ds : List (List ℕ)) → Able fresh_sender (length ds) → AllValid ds → (i x : ℕ) → i < 4 → x < 116
    → place_at x % 2 ≡ 1 → get_or (send_all fresh_sender lent ds) (116 * i + x) 0 ≡ 0
unfolding fresh_sender
first_idle lent ll ds a v i x hi hx odd = first_four fresh_sender lent ll ds a v i x hi hx ∙ idle_odd (beginning ds) (beginning_flag ds) i x (beginning_fits ds) hi odd

pub last_idle : (s : Sender) (lent : ℕ → List ℕ) → Lent lent → (ds : List (List ℕ)) → Able s (length ds) → AllValid ds → (i x : ℕ) → i < 4 → x < 116
    → place_at x % 2 ≡ 0 → get_or (send_all s lent ds) (116 * (4 * length ds + i) + x) 0 ≡ 0
last_idle s lent ll [] a v i x hi hx even =
    let e : 116 * (4 * 0 + i) + x ≡ 116 * i + x = omega arith in
    ap (λ (j : ℕ). get_or (send_all s lent []) j 0) e ∙ first_four s lent ll [] a v i x hi hx ∙ idle_even s.last (flag_of s.facch) i x (flag_fits s.facch) hi even
last_idle s lent ll (d ∷ ds) a v i x hi hx even =
    let e : 116 * (4 * suc (length ds) + i) + x ≡ 464 + (116 * (4 * length ds + i) + x) = omega arith in
    later s lent ll d ds a v (116 * (4 * length ds + i) + x) (116 * (4 * suc (length ds) + i) + x) e
    ∙ last_idle (sent_next s d) (λ j. lent (suc j)) (λ j. ll (suc j)) ds (able_next s lent ll d ds a v) (λ j r. v (suc j) (omega (arith, r))) i x hi hx even
