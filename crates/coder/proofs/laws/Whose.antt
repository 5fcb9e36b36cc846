-- The identity that a block names is the one under which its parity is good, once over the generator and the length. So the access entry accepts under it and
-- under no other, and it is the sender's where few bits are altered or missing.
use Rattle.std.specs.Prelude.{Bool, false, leb, drop, None, Some, Ok, Err}
use Rattle.std.proofs.Math.Bool.{true}
use mathlib.Core.List.{List, ◌++◌}
use Rattle.std.proofs.Math.Path.{◌≡◌, refl, sym, ap, ap₂, subst}
use Rattle.std.proofs.Common.{◌∙◌, lit≤, pow_mono, take-add, eqb-true, eq-eqb, le-leb}
use Prim.Native.Nat.{ℕ, ◌+◌, ◌-◌, ◌≤◌, ◌<◌, ◌^◌}
use native.Mathlib.Omega.{arith}
use Rattle.std.specs.Int.Bits.{bit_xor}
use Rattle.std.proofs.Math.Dec.{eqb}
use Rattle.std.proofs.Math.ListN.{length, take}
use Rattle.bits.specs.Bits.{Bits, Symbols, none_over, both, add, digits, value, ones, zeros}
use Rattle.bits.proofs.laws.Cases.{not_true, false_true}
use Rattle.bits.proofs.laws.Check.{none_over_lem, over_none}
use Rattle.bits.proofs.laws.Parts.{length_lent}
use Rattle.bits.proofs.laws.Sum.{length_add, bits_add, add_assoc, add_swap, add_self, add_nothing, bits_take, bits_drop, length_ones, bits_ones, length_zeros}
use Rattle.bits.proofs.laws.Value.{length_digits, bits_digits, digits_value, value_digits, value_lt, value_add}
use Rattle.parity.specs.Division.{parity, remainder, access_g}
use Rattle.parity.proofs.laws.Division.{length_parity, bits_parity, parity_turned, remainder_after}
use Rattle.parity.proofs.laws.Generators.{access_number}
use Rattle.trellis.specs.Nearest.{Candidate, Nearest, nearest, nearest_count, longest}
use Rattle.trellis.proofs.laws.Nearest.{nearest_is}
use Rattle.answers.specs.Answers.{Answer, Meets, number_of, or_none, of_heard, Told}
use Rattle.answers.specs.declared.Refusal.{Refusal}
use Rattle.answers.specs.declared.Refusal.TheVariants.{Length, NotBits}
use Rattle.answers.specs.declared.Returned.{Returned}
use Rattle.coder.specs.Entries.{judged, lengths, Given, access_sent}
use Rattle.coder.specs.Received.{all_ones, block_heard, access_received}
use Rattle.coder.specs.Says.{Accepts}
use Rattle.coder.specs.Promises.{altered, whole}
use Rattle.coder.specs.Whose.{Naming, block_named, naming, access_whose, any_access_received, Whose, named, of_whose, identity_of, Tells, Names, NearestNames, WhoseSays, Hands, HandsOver, AnyAccessSays, TheOne, ReasonIsTrue, WhoAcceptsIsNamed, SenderPromise, SenderBears}
use Rattle.coder.specs.declared.format.Format.{Format}
use Rattle.coder.proofs.laws.Blocks.{access_long}
use Rattle.coder.proofs.laws.Entries.{done_held, done_given, done}
use Rattle.coder.specs.laws.Format.{size, generator_of}
use Rattle.coder.proofs.laws.Heard.{value_ones, found, front, divided, same_size, reception_refused, hears_good, hears_bad}
use Rattle.coder.proofs.laws.Promises.{accepts, finds_bad, access_bears}
use Rattle.coder.proofs.laws.Restored.{same_colour, other_colour}
use Rattle.coder.proofs.laws.Says.{told, is_one, is_two, access_receives}
use Rattle.coder.specs.laws.Whose.{block_bits}
use Rattle.answers.specs.declared.Unheard.TheVariants as unheard

-- ---- the parity bits q after d, to which a colour is added: the colour that they name is theirs
module _ (g d q : List ℕ) (lq : length q ≡ length g) (bd : Bits d) (bq : Bits q) where
  abbrev p : List ℕ
  p = parity g d

  abbrev a : List ℕ
  a = add q p

  long : length a ≡ length g
  long = length_add q p ∙ length_parity g d bd

  bits : Bits a
  bits = bits_add q p (bits_parity g d bd)

  carried : q ≡ add p a
  carried =
      sym (add_swap p q p ∙ ap (add q) (add_self p (bits_parity g d bd)) ∙ ap (λ (k : ℕ). add q (zeros k)) (length_parity g d bd) ∙ add_nothing (length g) q lq bq)

  under_it : all_ones g (d ++ add q a) ≡ true
  under_it = ap (λ (w : List ℕ). all_ones g (d ++ add w a)) carried ∙ same_colour g d bd a long bits

  under_other : (b : List ℕ) → length b ≡ length g → Bits b → (a ≡ b → ⊥) → all_ones g (d ++ add q b) ≡ false
  under_other b lb bb other = ap (λ (w : List ℕ). all_ones g (d ++ add w b)) carried ∙ other_colour g d bd a b long lb bits bb other

  -- what division leaves of both, turned over, is its number
  turned : bit_xor (value (remainder g (d ++ q))) (2 ^ length g - 1) ≡ value a
  turned =
      let x : List ℕ = remainder g (d ++ zeros (length g)) in
      let o : List ℕ = ones (length g) in
      let after : remainder g (d ++ q) ≡ add x q = remainder_after g d q lq bd bq in
      let lr : length (remainder g (d ++ q)) ≡ length o = ap length after ∙ length_add x q ∙ lq ∙ sym (length_ones (length g)) in
      let br : Bits (remainder g (d ++ q)) = subst Bits (sym after) (bits_add x q bq) in
      ap (bit_xor (value (remainder g (d ++ q)))) (sym (value_ones (length g)))
      ∙ sym (value_add (remainder g (d ++ q)) o lr br (bits_ones (length g)))
      ∙ ap value (ap (λ (w : List ℕ). add w o) after ∙ sym (add_assoc x q o (lq ∙ sym (length_ones (length g)))) ∙ add_swap x q o ∙ ap (add q) (sym (parity_turned g d bd)))

-- ---- the nearest block: once over the generator and the length
module _ (g : List ℕ) (n : ℕ) (c : List ℕ) (short : n + length g + 4 ≤ longest) where
  abbrev r : ℕ
  r = length g

  abbrev u : List ℕ
  u = nearest c (n + r + 4)

  candidate : Candidate (n + r + 4) u
  candidate = (nearest_is c (n + r + 4) (omega arith) short).candidate

  checks_long : length (take r (drop n u)) ≡ r
  checks_long = length_lent u n r (omega (arith, candidate.long))

  d_bits : Bits (take n u)
  d_bits = bits_take n u candidate.bits

  checks_bits : Bits (take r (drop n u))
  checks_bits = bits_take r (drop n u) (bits_drop n u candidate.bits)

  abbrev colour : List ℕ
  colour = add (take r (drop n u)) (parity g (take n u))

  colour_long : length colour ≡ r
  colour_long = long g (take n u) (take r (drop n u)) checks_long d_bits checks_bits

  colour_bits : Bits colour
  colour_bits = bits g (take n u) (take r (drop n u)) checks_long d_bits checks_bits

  pub named_digits : digits r (block_named g n c).identity ≡ colour
  unfolding block_named
  named_digits = ap (λ (k : ℕ). digits k (value colour)) (sym colour_long) ∙ digits_value colour colour_bits

  pub named_below : (block_named g n c).identity < 2 ^ r
  unfolding block_named
  named_below = subst (λ (k : ℕ). value colour < 2 ^ k) colour_long (value_lt colour colour_bits)

  pub named_good : (block_heard g (block_named g n c).identity n c).good ≡ true
  unfolding block_heard
  named_good =
      ap (λ (b : List ℕ). all_ones g (take n u ++ add (take r (drop n u)) b)) named_digits
      ∙ under_it g (take n u) (take r (drop n u)) checks_long d_bits checks_bits

  pub other_bad : (j : ℕ) → j < 2 ^ r → (j ≡ (block_named g n c).identity → ⊥) → (block_heard g j n c).good ≡ false
  unfolding block_heard
  other_bad j h other =
      under_other g (take n u) (take r (drop n u)) checks_long d_bits checks_bits (digits r j) (length_digits r j) (bits_digits r j)
      (λ (e : colour ≡ digits r j). other (sym (value_digits r j h) ∙ ap value (sym e ∙ sym named_digits) ∙ value_digits r (block_named g n c).identity named_below))

  pub named_count : (j : ℕ) → (block_heard g j n c).count ≡ (block_named g n c).count
  unfolding block_heard block_named
  named_count j = refl

-- ---- what `coder::block::name` works out of the nearest block, which stands at the front of v
module _ (f : Format) (c rest v : List ℕ) (ev : v ≡ nearest c (size f) ++ rest) where
  pub name_is : (k x : ℕ) → k ≡ f.bits + f.degree → x ≡ bit_xor (value (remainder (generator_of f) (take k v))) (2 ^ f.degree - 1)
      → x ≡ (block_named (generator_of f) f.bits c).identity
  unfolding block_named
  name_is k x ek e =
      let g : List ℕ = generator_of f in
      let n = f.bits in
      let u : List ℕ = nearest c (size f) in
      let q : List ℕ = take (length g) (drop n u) in
      let is = found f c rest v ev in
      let lg : length g ≡ f.degree = length_digits f.degree f.generator in
      let lq : length q ≡ length g = length_lent u n (length g) (omega (arith, is.long, lg)) in
      let both-parts : take n u ++ q ≡ take k v = sym (take-add n (length g) u) ∙ ap (λ (j : ℕ). take (n + j) u) lg ∙ sym (divided f c rest v ev k ek) in
      e
      ∙ ap₂ (λ (w : List ℕ) (j : ℕ). bit_xor (value (remainder g w)) (2 ^ j - 1)) (sym both-parts) (sym lg)
      ∙ turned g (take n u) q lq (bits_take n u is.bits) (bits_take (length g) (drop n u) (bits_drop n u is.bits))
      ∙ ap (λ (j : ℕ). value (add (take (length g) (drop n (nearest c j))) (parity g (take n (nearest c j))))) (sym (same_size f))

  -- a colour of at most eight bits is a byte
  pub name_fits : f.degree ≤ 8 → (x : ℕ) → x ≡ (block_named (generator_of f) f.bits c).identity → x < 256
  name_fits narrow x e =
      let g : List ℕ = generator_of f in
      let short : f.bits + length g + 4 ≤ longest = omega (arith, same_size f, f.short) in
      let below : x < 2 ^ f.degree = subst (λ (n : ℕ). x < 2 ^ n) (length_digits f.degree f.generator) (subst (λ (y : ℕ). y < 2 ^ length g) (sym e) (named_below g f.bits c short)) in
      let most : 2 ^ f.degree ≤ 2 ^ 8 = pow_mono narrow in
      omega (arith, below, most)

  pub name_count : (k : ℕ) → k ≡ nearest_count c (size f) → k ≡ (block_named (generator_of f) f.bits c).count
  unfolding block_named
  name_count k e = e ∙ ap (nearest_count c) (sym (same_size f))

  pub front_bits : take f.bits v ≡ block_bits (generator_of f) f.bits c
  unfolding block_bits
  front_bits = front f c rest v ev f.bits (omega arith) ∙ ap (λ (j : ℕ). take f.bits (nearest c j)) (sym (same_size f))

pub same_bits : (g : List ℕ) (j n : ℕ) (c : List ℕ) → (block_heard g j n c).bits ≡ block_bits g n c
unfolding block_heard block_bits
same_bits g j n c = refl

-- ---- access: the answer as it is judged, and where neither refusal applies
both_true : (b : Bool) → both b true ≡ b
both_true true = refl
both_true false = refl

module _ (e : List ℕ) (t : Told) (f : t ≡ judged (both (eqb (length e) 36) true) (none_over 2 e) true) where
  whose_as : naming t (block_named access_g 8 e) ≡ access_whose e
  unfolding access_whose
  whose_as = ap (λ (x : Told). naming x (block_named access_g 8 e)) (f ∙ ap (λ (b : Bool). judged b (none_over 2 e) true) (both_true (eqb (length e) 36)))

  pub whose_done : t ≡ (Ok tt) → (w : Whose) → w ≡ naming (Ok tt) (block_named (digits 6 0b101111) 8 e) → w ≡ access_whose e
  whose_done q w x =
      x ∙ ap (λ (g : List ℕ). naming (Ok tt) (block_named g 8 e)) access_number ∙ ap (λ (y : Told). naming y (block_named access_g 8 e)) (sym q) ∙ whose_as

  pub whose_refused : (r : Refusal) → t ≡ Err r → Err r ≡ access_whose e
  unfolding naming
  whose_refused r q = ap (λ (y : Told). naming y (block_named access_g 8 e)) (sym q) ∙ whose_as

access_short : 8 + length access_g + 4 ≤ longest
access_short = omega (arith, access_long)

pub identity_within : (e : List ℕ) → (block_named access_g 8 e).identity ≤ 63
identity_within e =
    let h : (block_named access_g 8 e).identity < 2 ^ 6 = subst (λ (k : ℕ). (block_named access_g 8 e).identity < 2 ^ k) access_long (named_below access_g 8 e access_short) in
    omega (arith, h)

module _ (e : List ℕ) (le : length e ≡ 36) (se : Symbols e) where
  named_as : access_whose e ≡ Ok (named (block_named access_g 8 e).identity (block_named access_g 8 e).count)
  unfolding access_whose naming judged
  named_as = rw (eq-eqb (length e) 36 le, over_none 2 e se) refl

  names_it : Names e (block_named access_g 8 e).identity (block_named access_g 8 e).count
  names_it = (ap of_whose named_as, ap identity_of named_as)

-- ---- 02, M-112: what is handed over for whichever identity it is
module _ (e out : List ℕ) where
  abbrev i : ℕ
  i = (block_named access_g 8 e).identity

  module _ (t : Told) (f : t ≡ judged (lengths e 36 out 8) (none_over 2 e) true) where
    any_as : naming t (block_named access_g 8 e) ≡ (any_access_received e out).result
    unfolding any_access_received
    any_as = ap (λ (x : Told). naming x (block_named access_g 8 e)) f

    -- as the access entry judges the identity that is named
    judged_so : t ≡ judged (lengths e 36 out 8) (none_over 2 e) (leb i 63)
    judged_so = f ∙ ap (judged (lengths e 36 out 8) (none_over 2 e)) (sym (le-leb i 63 (identity_within e)))

    any_left_refused : (r : Refusal) → t ≡ Err r → out ≡ (any_access_received e out).left
    unfolding any_access_received access_received
    any_left_refused r q = (reception_refused 36 8 i e out (block_heard access_g i 8 e) t judged_so r q).left

    pub any_refused : (r : Refusal) → t ≡ Err r → Meets (any_access_received e out) (Err r) out
    unfolding naming
    any_refused r q = record { result = ap (λ (y : Told). naming y (block_named access_g 8 e)) (sym q) ∙ any_as; left = any_left_refused r q }

  module _ (g : Given 2 36 8 e out) where
    takes_it : access_received i e out ≡ record { result = Ok (block_named access_g 8 e).count; left = block_bits access_g 8 e }
    unfolding access_received
    takes_it =
        hears_good 36 8 i e out (identity_within e) g (block_heard access_g i 8 e) (block_named access_g 8 e).count (named_count access_g 8 e access_short i)
        (block_bits access_g 8 e) (named_good access_g 8 e access_short) (same_bits access_g i 8 e)

    refuses_it : (j : ℕ) → j ≤ 63 → (j ≡ i → ⊥) → access_received j e out ≡ record { result = Err (unheard.Bad (block_named access_g 8 e).count); left = out }
    unfolding access_received
    refuses_it j h other =
        hears_bad 36 8 j e out h g (block_heard access_g j 8 e) (block_named access_g 8 e).count (named_count access_g 8 e access_short j)
        (other_bad access_g 8 e access_short j (subst (λ (n : ℕ). j < 2 ^ n) (sym access_long) (omega arith)) other)

    pub hands_it : any_access_received e out ≡ record { result = Ok (named i (block_named access_g 8 e).count); left = block_bits access_g 8 e }
    unfolding any_access_received naming
    hands_it = rw (done 2 36 8 0 e out (lit≤ tt) g, takes_it) refl

    pub any_done : (w : Whose) (after : List ℕ) → w ≡ naming (Ok tt) (block_named (digits 6 0b101111) 8 e) → after ≡ block_bits (digits 6 0b101111) 8 e
        → Meets (any_access_received e out) w after
    unfolding naming
    any_done w after x y = record {
      result = x ∙ ap (λ (p : List ℕ). naming (Ok tt) (block_named p 8 e)) access_number ∙ ap (λ (a : Answer Whose). a.result) (sym hands_it);
      left = y ∙ ap (λ (p : List ℕ). block_bits p 8 e) access_number ∙ ap (λ (a : Answer Whose). a.left) (sym hands_it);
    }

-- ---- the reason is true
pub reason_is_true : ReasonIsTrue
reason_is_true e out g =
    let i : ℕ = (block_named access_g 8 e).identity in
    let k : ℕ = (block_named access_g 8 e).count in
    let b : List ℕ = block_bits access_g 8 e in
    record {
      identity = i;
      count = k;
      bits = b;
      within = identity_within e;
      names = names_it e g.reads g.bits;
      accepted = accepts (access_received i e out) k b (takes_it e out g);
      refused = λ j h other. finds_bad (access_received j e out) k out (refuses_it e out g j h other);
    }

-- whoever accepts is the one that is named: under another the same bytes get 8
module _ (i : ℕ) (e out : List ℕ) (count : ℕ) (bits : List ℕ) (taken : Accepts (access_received i e out) count bits) (h : i ≤ 63) (x : TheOne e out) where
  who : (b : Bool) → eqb i x.identity ≡ b → Names e i count
  who true q =
      let same : i ≡ x.identity = eqb-true i x.identity q in
      let counts : x.count ≡ count = ap (λ (y : Returned). or_none y.count) (sym x.accepted.0 ∙ ap (λ (j : ℕ). of_heard (access_received j e out).result) (sym same) ∙ taken.0) in
      subst (λ (k : ℕ). Names e i k) counts (subst (λ (j : ℕ). Names e j x.count) (sym same) x.names)
  who false q =
      let eight : ◌≡◌ {A = ℕ} 8 0 = ap (λ (y : Returned). or_none y.number) (sym (x.refused i h (λ (same : i ≡ x.identity). false_true (sym q ∙ eq-eqb i x.identity same))).0 ∙ taken.0) in
      let z : ⊥ = omega (arith, eight) in
      absurd z

pub who_accepts_is_named : WhoAcceptsIsNamed
who_accepts_is_named i e out count bits taken =
    let asked = (access_receives i e out).only count (ap (λ (y : Returned). y.count) taken.0) in
    let x = reason_is_true e out asked.0 in
    who i e out count bits taken asked.1 x (eqb i x.identity) refl

-- ---- the sender is named: under its identity the request comes back, and whoever accepts is named
pub sender_bears : SenderBears
sender_bears i h d c e gd le se few =
    let lent : Given 2 36 8 e (zeros 8) = record { reads = le; bits = se; lends = length_zeros 8 } in
    who_accepts_is_named i e (zeros 8) (altered whole (access_sent i d c).left e) d ((access_bears i h).0 d c e (zeros 8) gd lent few).1

pub sender_promise : SenderPromise
sender_promise i h d c e gd le se few = sender_bears i h d c e gd le se (omega (arith, few.0, few.1))

-- ---- in 01's numbers
module _ (e : List ℕ) where
  counted : Nearest e (8 + length access_g + 4) (nearest e (8 + length access_g + 4)) (block_named access_g 8 e).count
  unfolding block_named
  counted = nearest_is e (8 + length access_g + 4) (omega arith) access_short

  eighteen : 8 + length access_g + 4 ≡ 18
  eighteen = omega (arith, access_long)

  six : digits 6 (block_named access_g 8 e).identity ≡ add (take 6 (drop 8 (nearest e 18))) (parity access_g (take 8 (nearest e 18)))
  six =
      ap (λ (k : ℕ). digits k (block_named access_g 8 e).identity) (sym access_long)
      ∙ named_digits access_g 8 e access_short
      ∙ ap₂ (λ (k n : ℕ). add (take k (drop 8 (nearest e n))) (parity access_g (take 8 (nearest e n)))) access_long eighteen

  nearest_names : length e ≡ 36 → Symbols e → NearestNames e
  nearest_names le se = record {
    u = nearest e 18;
    identity = (block_named access_g 8 e).identity;
    count = (block_named access_g 8 e).count;
    nearest = subst (λ (k : ℕ). Nearest e k (nearest e k) (block_named access_g 8 e).count) eighteen counted;
    within = identity_within e;
    bits = six;
    names = names_it e le se;
  }

  -- a refusal has a number
  unnumbered : (t : Told) (x : Naming) → (of_whose (naming t x)).number ≡ None → t ≡ (Ok tt)
  unfolding naming
  unnumbered (Ok tt) x h = refl
  unnumbered (Err r) x h = let z : ◌≡◌ {A = ℕ} 0 1 = cc in let w : ⊥ = omega arith in absurd w

  told_as : (r : Refusal) → access_whose e ≡ Err r → Tells (access_whose e) (Some (number_of r)) None None
  told_as r f = (ap of_whose f, ap identity_of f)

  whose_one : (length e ≡ 36 → ⊥) → access_whose e ≡ Err Length
  unfolding access_whose naming judged
  whose_one h = rw (not_true (eqb (length e) 36) (λ (t : eqb (length e) 36 ≡ true). h (eqb-true (length e) 36 t))) refl

  whose_two : length e ≡ 36 → (Symbols e → ⊥) → access_whose e ≡ Err NotBits
  unfolding access_whose naming judged
  whose_two le h = rw (eq-eqb (length e) 36 le, not_true (none_over 2 e) (λ (t : none_over 2 e ≡ true). h (none_over_lem 2 e t))) refl

  is_done : (of_whose (access_whose e)).number ≡ None → (length e ≡ 36) × Symbols e
  unfolding access_whose
  is_done h =
      let held = done_held (eqb (length e) 36) (none_over 2 e) true (unnumbered (judged (eqb (length e) 36) (none_over 2 e) true) (block_named access_g 8 e) h) in
      (eqb-true (length e) 36 held.lengths, none_over_lem 2 e held.bits)

  pub whose_says : WhoseSays e
  whose_says = record {
    one = λ h. told_as Length (whose_one h);
    two = λ le h. told_as NotBits (whose_two le h);
    named = nearest_names;
    only = is_done;
  }

-- ---- 02, M-112: the same of what is handed over for whichever identity it is
pub hands_over : (e : List ℕ) → length e ≡ 36 → Symbols e → HandsOver e
hands_over e le se =
    let i : ℕ = (block_named access_g 8 e).identity in
    let k : ℕ = (block_named access_g 8 e).count in
    let b : List ℕ = block_bits access_g 8 e in
    let given : (out : List ℕ) → length out ≡ 8 → Given 2 36 8 e out = λ out l. record { reads = le; bits = se; lends = l } in
    record {
      identity = i;
      count = k;
      bits = b;
      within = identity_within e;
      handed = λ out l.
          let h = hands_it e out (given out l) in
          ((ap (λ (a : Answer Whose). of_whose a.result) h, ap (λ (a : Answer Whose). identity_of a.result) h), ap (λ (a : Answer Whose). a.left) h);
      accepted = λ out l. accepts (access_received i e out) k b (takes_it e out (given out l));
      refused = λ out l j h other. finds_bad (access_received j e out) k out (refuses_it e out (given out l) j h other);
    }

module _ (e out : List ℕ) where
  refused_with : (r : Refusal) → told 2 36 8 0 e out ≡ Err r → Hands (any_access_received e out) (Some (number_of r)) None None out
  refused_with r f =
      let m = any_refused e out (told 2 36 8 0 e out) refl r f in
      ((ap of_whose (sym m.result), ap identity_of (sym m.result)), sym m.left)

  handed_given : (of_whose (any_access_received e out).result).number ≡ None → Given 2 36 8 e out
  unfolding any_access_received
  handed_given h =
      done_given 2 e out 36 8 0 (told 2 36 8 0 e out) refl (unnumbered e (told 2 36 8 0 e out) (block_named access_g 8 e) h)

  pub any_access_says : AnyAccessSays e out
  any_access_says = record {
    one = λ h. refused_with Length (is_one 2 36 8 0 e out h);
    two = λ le lo h. refused_with NotBits (is_two 2 36 8 0 e out le lo h);
    handed = hands_over e;
    only = handed_given;
  }
