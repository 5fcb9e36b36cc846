-- Each contract settles what is answered: no two results, and no two contents of the lent buffers, meet it.
use Rattle.std.specs.Prelude.{List, ◌≡◌, ℕ}
use Rattle.std.proofs.Common.{sym, ◌∙◌}
use Rattle.answers.proofs.laws.Answers.{Settled, meets_once}
use Rattle.frames.specs.Answers.{frame_written, FrameMeets, frame_read}
use Rattle.answers.specs.Answers.{Told}

pub write_settled : (c d x : List ℕ) → Settled (frame_written c d x)
write_settled c d x = meets_once (frame_written c d x)

pub read_settled : (x c d : List ℕ) (r s : Told) (u v w z : List ℕ) → FrameMeets (frame_read x c d) r u v → FrameMeets (frame_read x c d) s w z → (r ≡ s) × (u ≡ w) × (v ≡ z)
read_settled x c d r s u v w z m n = (m.told ∙ sym n.told, m.first ∙ sym n.first, m.second ∙ sym n.second)
