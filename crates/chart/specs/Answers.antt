-- What take says of its call, in 01's number and values.
use Rattle.std.specs.Prelude.{ℕ, Option, None, Some, Result, Ok, Err}
use Rattle.answers.specs.Answers.{number_of}
use Rattle.answers.specs.declared.Refusal.TheVariants.{Parity, Flags}
use Rattle.chart.specs.declared.Taken.{Taken}
use Rattle.chart.specs.declared.Taken.TheVariants.{Waiting, Speech, Facch}
use Rattle.chart.specs.declared.Untaken.{Untaken}
use Rattle.chart.specs.declared.Untaken.TheVariants.{Refused, Bad, Tie}
use Rattle.chart.specs.declared.Kind.{Kind}
use Rattle.chart.specs.declared.Kind.TheVariants as kind
use Rattle.chart.specs.declared.Values.{Values}

-- what is said of a take: what the burst brings, or why no block is handed over
abbrev pub Take : Type 0
Take = Result Taken Untaken

-- the number that is given, if one is; the kind, the block's number n and the count, where 01 says that they are returned; Neither is no kind
abbrev pub values : Option ℕ → Kind → Option ℕ → Option ℕ → Values
values number kind block count = record { number = number; kind = kind; block = block; count = count }

-- 01, Numbers given for a no, and Bursts and streams: a row for each case
abbrev pub of_taken : Take → Values
of_taken (Ok Waiting) = values None kind.Neither None None
of_taken (Ok (Speech n k)) = values None kind.Speech (Some n.0) (Some k)
of_taken (Ok (Facch n k)) = values None kind.Facch (Some n.0) (Some k)
of_taken (Err (Refused r)) = values (Some (number_of r)) kind.Neither None None
of_taken (Err (Bad n k)) = values (Some (number_of Parity)) kind.Neither (Some n.0) (Some k)
of_taken (Err (Tie n)) = values (Some (number_of Flags)) kind.Neither (Some n.0) None
