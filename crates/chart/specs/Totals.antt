-- 02, M-100: the four numbers that the receiving stream carries: good speech blocks, good FACCH blocks, blocks refused with 8 or 9, and the summed
-- counts of the good ones.
use Rattle.std.specs.Prelude.{ℕ, ◌+◌, min, Ok, Err}
use Rattle.chart.specs.Answers.{Take}
use Rattle.chart.specs.declared.Taken.TheVariants.{Waiting, Speech, Facch}
use Rattle.chart.specs.declared.Untaken.TheVariants.{Refused, Bad, Tie}
use Rattle.chart.specs.declared.totals.Totals.{Totals}

abbrev pub four : ℕ → ℕ → ℕ → ℕ → Totals
four speech facch refused counts = record { speech = speech; facch = facch; refused = refused; counts = counts }

-- what one answer adds to them: a row for each case
unfoldable pub adds : Take → Totals
adds (Ok Waiting) = four 0 0 0 0
adds (Ok (Speech n k)) = four 1 0 0 k
adds (Ok (Facch n k)) = four 0 1 0 k
adds (Err (Refused r)) = four 0 0 0 0
adds (Err (Bad n k)) = four 0 0 1 0
adds (Err (Tie n)) = four 0 0 1 0

-- number by number; one that would pass the highest stays there
abbrev pub highest : ℕ
highest = 4294967295

unfoldable pub more : Totals → Totals → Totals
more s t =
    four (min (s.speech + t.speech) highest) (min (s.facch + t.facch) highest) (min (s.refused + t.refused) highest) (min (s.counts + t.counts) highest)

-- the totals after one answer more
unfoldable pub counted : Totals → Take → Totals
counted s t = more s (adds t)
