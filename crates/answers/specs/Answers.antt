-- What is said of a call, in 01's numbers; a whole answer; and what it is to meet one.
use Rattle.std.specs.Prelude.{List, Option, None, Some, Result, Ok, Err, ◌≡◌, ℕ}
use Rattle.answers.specs.declared.Refusal.{Refusal}
use Rattle.answers.specs.declared.Refusal.TheVariants.{Length, NotBits, Identity, OutOfTurn, Full, NothingSent, Ended, Parity, Flags, Crc, Taken, AllInUse, EmptyPlace, NoneAccepts, FixedBit, FrameType}
use Rattle.answers.specs.declared.Unheard.{Unheard}
use Rattle.answers.specs.declared.Unheard.TheVariants.{Refused, Bad}
use Rattle.answers.specs.declared.Returned.{Returned}

-- what is said of a send, or of the end of a stream: done, or why not
abbrev pub Told : Type 0
Told = Result (Unit {0}) Refusal

-- what is said of a block that is received: in how many places it disagrees with what was received, or why it isn't handed over
abbrev pub Heard : Type 0
Heard = Result ℕ Unheard

-- 01, Numbers given for a no; 10 is of 02, M-103, 14 to 17 are of M-112, and 18 and 19 of M-113
abbrev pub number_of : Refusal → ℕ
number_of Length = 1
number_of NotBits = 2
number_of Identity = 3
number_of OutOfTurn = 4
number_of Full = 5
number_of NothingSent = 6
number_of Ended = 7
number_of Parity = 8
number_of Flags = 9
number_of Crc = 10
number_of Taken = 14
number_of AllInUse = 15
number_of EmptyPlace = 16
number_of NoneAccepts = 17
number_of FixedBit = 18
number_of FrameType = 19

-- ---- what is returned: the number, if one is given, and the count, if 01 says that it is returned besides
abbrev pub returned : Option ℕ → Option ℕ → Returned
returned number count = record { number = number; count = count }

-- a number that is returned, 0 for none
abbrev pub or_none : Option ℕ → ℕ
or_none None = 0
or_none (Some n) = n

-- a call that is done gives no number
abbrev pub of_told : Told → Returned
of_told (Ok done) = returned None None
of_told (Err r) = returned (Some (number_of r)) None

-- a good block gives its count, a bad parity 8 and the count
abbrev pub of_heard : Heard → Returned
of_heard (Ok k) = returned None (Some k)
of_heard (Err (Refused r)) = returned (Some (number_of r)) None
of_heard (Err (Bad k)) = returned (Some (number_of Parity)) (Some k)

-- ---- a whole answer: the result of a call, and what the lent buffer then holds
pub record Answer (A : Type 0) : Type 0 where
  pub result : A
  pub left : List ℕ

-- a contract: the result, and the buffer at the return, are the answer's
pub record Meets {A : Type 0} (a : Answer A) (r : A) (after : List ℕ) : Type 0 where
  pub result : r ≡ a.result
  pub left : after ≡ a.left

-- what a call returns, in 01's number and count, and what the buffer then holds
abbrev pub Returns : {A : Type 0} → (A → Returned) → Answer A → Option ℕ → Option ℕ → List ℕ → Type 0
Returns of a number count left = (of a.result ≡ returned number count) × (a.left ≡ left)

-- refused: this number and nothing besides, the buffer as before
abbrev pub Refuses : {A : Type 0} → (A → Returned) → Answer A → ℕ → List ℕ → Type 0
Refuses of a number before = Returns of a (Some number) None before

-- done: what is sent stands in the buffer; refused: the buffer stands as before
unfoldable pub sent_or : Told → List ℕ → List ℕ → List ℕ
sent_or (Ok done) sent before = sent
sent_or (Err r) sent before = before

unfoldable pub tells : Told → List ℕ → List ℕ → Answer Told
tells t sent before = record { result = t; left = sent_or t sent before }

-- good: the block's bits stand in the buffer; else the buffer stands as before
unfoldable pub heard_or : Heard → List ℕ → List ℕ → List ℕ
heard_or (Ok k) bits before = bits
heard_or (Err (Refused r)) bits before = before
heard_or (Err (Bad k)) bits before = before

unfoldable pub hears : Heard → List ℕ → List ℕ → Answer Heard
hears h bits before = record { result = h; left = heard_or h bits before }
