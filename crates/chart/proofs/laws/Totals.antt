-- What one answer adds is what its values say.
use Rattle.std.specs.Prelude.{◌≡◌, refl, Ok, Err}
use Rattle.chart.specs.Answers.{Take, of_taken}
use Rattle.chart.specs.Says.{said}
use Rattle.chart.specs.Totals.{adds}
use Rattle.chart.specs.declared.Taken.TheVariants.{Waiting, Speech, Facch}
use Rattle.chart.specs.declared.Untaken.TheVariants.{Refused, Bad, Tie}

pub adds_says : (t : Take) → adds t ≡ said (of_taken t)
unfolding adds said
adds_says (Ok Waiting) = refl
adds_says (Ok (Speech n k)) = refl
adds_says (Ok (Facch n k)) = refl
adds_says (Err (Refused r)) = refl
adds_says (Err (Bad n k)) = refl
adds_says (Err (Tie n)) = refl
