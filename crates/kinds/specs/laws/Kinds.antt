-- What the code says of a block that was heard as one kind.
use Rattle.std.specs.Prelude.{Bool, ℕ, Ok, Err}
use Rattle.std.proofs.Math.Bool.{true, false}
use Rattle.bits.specs.Bits.{pick}
use Rattle.chart.specs.Answers.{Take}
use Rattle.chart.specs.declared.Taken.TheVariants as taken
use Rattle.chart.specs.declared.Untaken.{Untaken}
use Rattle.chart.specs.declared.Untaken.TheVariants as untaken
use Rattle.answers.specs.Answers.{Heard}
use Rattle.answers.specs.declared.Unheard.{Unheard}
use Rattle.answers.specs.declared.Unheard.TheVariants as unheard

-- ---- what coder's entry says, as take says it
abbrev pub good_as : Bool → ℕ → ℕ → Take
good_as facch n k = pick facch (Ok (taken.Facch (record { 0 = n }) k)) (Ok (taken.Speech (record { 0 = n }) k))

abbrev pub as_untaken : ℕ → Unheard → Untaken
as_untaken n (unheard.Bad k) = untaken.Bad (record { 0 = n }) k
as_untaken n (unheard.Refused r) = untaken.Refused r

unfoldable pub as_taken : Bool → ℕ → Heard → Take
as_taken facch n (Ok k) = good_as facch n k
as_taken facch n (Err why) = Err (as_untaken n why)

-- what brings a good block
unfoldable pub is_good : Take → Bool
is_good (Ok taken.Waiting) = false
is_good (Ok (taken.Speech n k)) = true
is_good (Ok (taken.Facch n k)) = true
is_good (Err why) = false
