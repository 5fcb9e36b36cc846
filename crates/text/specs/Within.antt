-- What the contracts of lines cite. Assumes nothing.
use Rattle.std.specs.Prelude.{ℕ, ◌≤◌, List, length}
use Rattle.std.specs.declared.ops.Range.{Range}

-- the range's bytes are bytes of the chunk
abbrev pub Within : Range ℕ → List ℕ → Type 0
Within s chunk = (s.start ≤ s.end) × (s.end ≤ length chunk)
