-- `frames::read_frame` is right: each way in which it ends.
use Rattle.std.proofs.Common.{List, ◌++◌, ℕ, take, drop, sym, ap, ◌∙◌}
use Rattle.std.proofs.lemmas.Result.{err_from_is_err_and}
use Rattle.answers.specs.declared.Refusal.TheVariants.{Length, FixedBit, FrameType}
use Rattle.frames.specs.Answers.{sized}
use Rattle.frames.specs.Frame.{fixed_right, is_speech}
use Rattle.frames.specs.Octets.{unpacked}
use Rattle.frames.proofs.laws.Entries.{sizes_right, sizes_wrong, read_1, read_18, read_19, read_0, read_refused, read_done, same_type}
use Rattle.frames.specs.laws.Layout.{taken_out}
use Rattle.frames.proofs.laws.Layout.{control_taken, speech_taken}
use Rattle.order.specs.Order.{fetched}
use Rattle.tables.specs.FullRate.{importance}
use Rattle.frames.proofs.read_frame.Goals as goal

pub returns-in_err-check_sizes : goal.returns-in_err-check_sizes
returns-in_err-check_sizes c =
    let k = c.args.c.now in
    let d = c.args.d.now in
    let x = c.args.octets.now in
    let wrong = sizes_wrong (sized k d x) c.in_err-check_sizes.field-0.0 (sym c.check_sizes.ensures ∙ c.in_err-check_sizes.was) in
    let p = err_from_is_err_and c.from_residual.result c.from_residual.ensures.1 in
    rw (p.1, p.2, wrong.1) (read_refused k d x Length (read_1 k d x wrong.0))

pub returns-then-not-is_framed : goal.returns-then-not-is_framed
returns-then-not-is_framed c =
    let k = c.args.c.now in
    let d = c.args.d.now in
    let x = c.args.octets.now in
    let size = sizes_right (sized k d x) (sym c.check_sizes.ensures ∙ c.in_ok-check_sizes.was) in
    let fixed = sym (c.is_framed.ensures ∙ ap fixed_right c.unpack.ensures) ∙ c.if-not-is_framed.true in
    read_refused k d x FixedBit (read_18 k d x size fixed)

pub returns-then-not-is_speech : goal.returns-then-not-is_speech
returns-then-not-is_speech c =
    let k = c.args.c.now in
    let d = c.args.d.now in
    let x = c.args.octets.now in
    let size = sizes_right (sized k d x) (sym c.check_sizes.ensures ∙ c.in_ok-check_sizes.was) in
    let fixed = sym (c.is_framed.ensures ∙ ap fixed_right c.unpack.ensures) ∙ c.if-not-is_framed.false in
    let carried = c.take_out.ensures ∙ ap taken_out c.unpack.ensures in
    let type = sym (c.is_speech.ensures ∙ ap is_speech carried ∙ same_type (unpacked x)) ∙ c.if-not-is_speech.true in
    read_refused k d x FrameType (read_19 k d x size fixed type)

pub returns : goal.returns
returns c =
    let k = c.args.c.now in
    let d = c.args.d.now in
    let x = c.args.octets.now in
    let size = sizes_right (sized k d x) (sym c.check_sizes.ensures ∙ c.in_ok-check_sizes.was) in
    let fixed = sym (c.is_framed.ensures ∙ ap fixed_right c.unpack.ensures) ∙ c.if-not-is_framed.false in
    let carried = c.take_out.ensures ∙ ap taken_out c.unpack.ensures in
    let type = sym (c.is_speech.ensures ∙ ap is_speech carried ∙ same_type (unpacked x)) ∙ c.if-not-is_speech.false in
    let handed = c.hand_over in
    read_done k d x handed.new.c handed.new.d (read_0 k d x size fixed type)
    (handed.ensures.0 ∙ ap (λ (w : List ℕ). take 15 w ++ take 6 (drop 275 w)) carried ∙ control_taken (unpacked x))
    (handed.ensures.1 ∙ ap (λ (w : List ℕ). fetched importance (take 260 (drop 15 w))) carried ∙ speech_taken (unpacked x))
