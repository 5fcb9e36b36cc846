-- What an answer adds to the totals (02, M-100) a second time, by what 01 returns of it: its number, its kind, its block and its count. Proved in proofs/laws/Totals.
use Rattle.std.specs.Prelude.{List, [], ◌∷◌, ℕ, ◌+◌, eqb, Option, None, Some}
use Rattle.answers.specs.Answers.{or_none}
use Rattle.bits.specs.Bits.{pick}
use Rattle.chart.specs.Totals.{four}
use Rattle.chart.specs.declared.Kind.{Kind}
use Rattle.chart.specs.declared.Kind.TheVariants.{Speech, Facch, Neither}
use Rattle.chart.specs.declared.Values.{Values}
use Rattle.chart.specs.declared.totals.Totals.{Totals}

-- an answer has a kind exactly when its block is good: one number for speech, one for FACCH, and 0 where there is no good block
abbrev pub of_good : ℕ → ℕ → Kind → ℕ
of_good s f Speech = s
of_good s f Facch = f
of_good s f Neither = 0

-- a block is refused where an answer that names it has the number 8 or 9
abbrev pub of_refused : Option ℕ → Option ℕ → ℕ
of_refused (Some number) (Some n) = pick (eqb number 8) 1 (pick (eqb number 9) 1 0)
of_refused (Some number) None = 0
of_refused None block = 0

unfoldable pub said : Values → Totals
said v = four (of_good 1 0 v.kind) (of_good 0 1 v.kind) (of_refused v.number v.block) (of_good (or_none v.count) (or_none v.count) v.kind)

-- ---- the totals taken over all answers: each number's plain sum
unfoldable pub together : Totals → Totals → Totals
together s t = four (s.speech + t.speech) (s.facch + t.facch) (s.refused + t.refused) (s.counts + t.counts)

unfoldable pub totals_of : List Values → Totals
totals_of [] = four 0 0 0 0
totals_of (v ∷ vs) = together (said v) (totals_of vs)
