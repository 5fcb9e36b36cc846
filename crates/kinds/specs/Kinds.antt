-- What a block brings, of its flags, its coded bits and what the lent buffer held before.
use Rattle.std.specs.Prelude.{Bool, List, ◌++◌, ℕ, ltb, drop, Ok, Err}
use Rattle.std.specs.Int.Count as count
use Rattle.bits.specs.Bits.{pick}
use Rattle.parity.specs.Division.{control_g}
use Rattle.answers.specs.Answers.{Answer}
use Rattle.coder.specs.Received.{Hearing, block_heard, speech_heard}
use Rattle.chart.specs.declared.Kind.{Kind}
use Rattle.chart.specs.declared.Kind.TheVariants as kind
use Rattle.chart.specs.Answers.{Take}
use Rattle.chart.specs.declared.Taken.TheVariants as taken
use Rattle.chart.specs.declared.Untaken.TheVariants as untaken

-- 02, M-102, in the place of 01's "0 to 3 mean speech, 5 to 8 FACCH": those flags that are 1 and those that are 0 are counted, each as one number's ones. A
-- missing one is among neither. More ones mean FACCH, more zeros speech; as many, none at all included, say neither
unfoldable pub vote : ℕ → ℕ → Kind
vote ones zeros =
    pick (ltb (count.ones zeros) (count.ones ones)) kind.Facch (pick (ltb (count.ones ones) (count.ones zeros)) kind.Speech kind.Neither)

-- good: the bits are written; bad: the buffer stands as before
unfoldable pub good_or_bad : Bool → Take → List ℕ → Take → List ℕ → Answer Take
good_or_bad good t bits u d = pick good (record { result = t; left = bits }) (record { result = u; left = d })

-- block n as speech, 260 bytes; as FACCH, 184, and the last 76 are left
unfoldable pub speech_of : ℕ → Hearing → List ℕ → Answer Take
speech_of n h d = good_or_bad h.good (Ok (taken.Speech (record { 0 = n }) h.count)) h.bits (Err (untaken.Bad (record { 0 = n }) h.count)) d

unfoldable pub facch_of : ℕ → Hearing → List ℕ → Answer Take
facch_of n h d = good_or_bad h.good (Ok (taken.Facch (record { 0 = n }) h.count)) (h.bits ++ drop 184 d) (Err (untaken.Bad (record { 0 = n }) h.count)) d

-- 02, M-101, in the place of 01's "4 gives refusal 9": where the flags say neither, block n is FACCH where its parity as control is good; else speech where its parity
-- as speech is; else refusal 9, and the buffer stands as before
unfoldable pub tied : ℕ → Hearing → Hearing → List ℕ → Answer Take
tied n control speech d =
    pick control.good (facch_of n control d) (pick speech.good (speech_of n speech d) (record { result = Err (untaken.Tie (record { 0 = n })); left = d }))

-- of the coded bits c of block n, received as the kind that its flags say
unfoldable pub by_kind : Kind → ℕ → List ℕ → List ℕ → Answer Take
by_kind kind.Speech n c d = speech_of n (speech_heard c) d
by_kind kind.Facch n c d = facch_of n (block_heard control_g 0 184 c) d
by_kind kind.Neither n c d = tied n (block_heard control_g 0 184 c) (speech_heard c) d
