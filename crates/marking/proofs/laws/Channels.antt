-- The four channels: they have what every channel has; so each entry's contract settles what it says, which is what the request says in its order.
use Rattle.std.specs.Prelude.{List, ◌≡◌, ℕ}
use Rattle.std.proofs.Common.{lit≤}
use Rattle.marking.specs.Marks.{Mark, SpeechMarks, ControlMarks, AccessMarks, SchMarks, reads_of, bits_of, BlockMarks}
use Rattle.marking.specs.declared.Block.{Block}
use Rattle.marking.specs.declared.Block.TheVariants as block
use Rattle.marking.specs.Fair.{Channel, MarkSays}
use Rattle.marking.proofs.laws.Fair.{mark_says}
use Rattle.marking.proofs.laws.Marks.{marks_once}

pub speech_channel : Channel 456 189
speech_channel = record { tail = lit≤ tt; short = lit≤ tt; room = lit≤ tt }

pub control_channel : Channel 456 228
control_channel = record { tail = lit≤ tt; short = lit≤ tt; room = lit≤ tt }

pub access_channel : Channel 36 18
access_channel = record { tail = lit≤ tt; short = lit≤ tt; room = lit≤ tt }

pub sch_channel : Channel 78 39
sch_channel = record { tail = lit≤ tt; short = lit≤ tt; room = lit≤ tt }

-- by the channel
pub channel : (b : Block) → Channel (reads_of b) (bits_of b)
channel block.Speech = speech_channel
channel block.Control = control_channel
channel block.Access = access_channel
channel block.Sch = sch_channel

-- the mark of a channel's block is that of the channel
module _ (r u : List ℕ) (count : ℕ) (m : Mark) where
  pub speech_marks : BlockMarks block.Speech r u count m → SpeechMarks r u count m
  speech_marks x = x

  pub control_marks : BlockMarks block.Control r u count m → ControlMarks r u count m
  control_marks x = x

  pub access_marks : BlockMarks block.Access r u count m → AccessMarks r u count m
  access_marks x = x

  pub sch_marks : BlockMarks block.Sch r u count m → SchMarks r u count m
  sch_marks x = x

module _ (b : Block) (r u : List ℕ) (count : ℕ) (m : Mark) where
  pub block_settled : (o : Mark) → BlockMarks b r u count m → BlockMarks b r u count o → m ≡ o
  block_settled o = marks_once (reads_of b) (bits_of b) r u count (channel b) m o

  pub block_says : BlockMarks b r u count m → MarkSays (reads_of b) (bits_of b) r u count m
  block_says = mark_says (reads_of b) (bits_of b) (channel b) r u count m

module _ (r u : List ℕ) (count : ℕ) (m o : Mark) where
  pub speech_settled : SpeechMarks r u count m → SpeechMarks r u count o → m ≡ o
  speech_settled = marks_once 456 189 r u count speech_channel m o

  pub control_settled : ControlMarks r u count m → ControlMarks r u count o → m ≡ o
  control_settled = marks_once 456 228 r u count control_channel m o

  pub access_settled : AccessMarks r u count m → AccessMarks r u count o → m ≡ o
  access_settled = marks_once 36 18 r u count access_channel m o

  pub sch_settled : SchMarks r u count m → SchMarks r u count o → m ≡ o
  sch_settled = marks_once 78 39 r u count sch_channel m o

module _ (r u : List ℕ) (count : ℕ) (m : Mark) where
  pub speech_says : SpeechMarks r u count m → MarkSays 456 189 r u count m
  speech_says = mark_says 456 189 speech_channel r u count m

  pub control_says : ControlMarks r u count m → MarkSays 456 228 r u count m
  control_says = mark_says 456 228 control_channel r u count m

  pub access_says : AccessMarks r u count m → MarkSays 36 18 r u count m
  access_says = mark_says 36 18 access_channel r u count m

  pub sch_says : SchMarks r u count m → MarkSays 78 39 r u count m
  sch_says = mark_says 78 39 sch_channel r u count m
