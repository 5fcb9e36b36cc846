-- `frames::write_frame` is right: each way in which it ends.
use Rattle.std.proofs.Common.{sym, ◌∙◌}
use Rattle.std.proofs.lemmas.Result.{err_from_is_err_and}
use Rattle.answers.specs.declared.Refusal.TheVariants.{Length, NotBits, FrameType}
use Rattle.bits.proofs.laws.Check.{none_over_lem}
use Rattle.frames.specs.Answers.{sized}
use Rattle.frames.proofs.laws.Entries.{is_sized, sizes_right, sizes_wrong, no_bits_c, no_bits_d, two_bits, write_1, write_2, write_19, write_0, write_refused, write_done}
use Rattle.frames.proofs.write_frame.Goals.{then-not-none_over-via-then-not-none_over, then-not-none_over-via-else-not-none_over+then-not-none_over-2}
use Rattle.frames.proofs.write_frame.Goals as goal

pub returns-in_err-check_sizes : goal.returns-in_err-check_sizes
returns-in_err-check_sizes c =
    let k = c.args.c.now in
    let d = c.args.d.now in
    let x = c.args.octets.now in
    let wrong = sizes_wrong (sized k d x) c.in_err-check_sizes.field-0.0 (sym c.check_sizes.ensures ∙ c.in_err-check_sizes.was) in
    let p = err_from_is_err_and c.from_residual.result c.from_residual.ensures.1 in
    rw (p.1, p.2, wrong.1) (write_refused k d x Length (write_1 k d x wrong.0))

pub returns-then-not-none_over : goal.returns-then-not-none_over
returns-then-not-none_over c =
    let k = c.args.c.now in
    let d = c.args.d.now in
    let x = c.args.octets.now in
    let size = sizes_right (sized k d x) (sym c.check_sizes.ensures ∙ c.in_ok-check_sizes.was) in
    elim c.then-not-none_over.branch [
      | then-not-none_over-via-then-not-none_over w ↦ write_refused k d x NotBits (write_2 k d x size (no_bits_c k d x (sym c.none_over.ensures ∙ w.if-not-none_over.true)))
      | then-not-none_over-via-else-not-none_over+then-not-none_over-2 w ↦
          write_refused k d x NotBits (write_2 k d x size (no_bits_d k d x (sym w.none_over-else-not-none_over.ensures ∙ w.if-not-none_over-2.true)))
    ]

pub returns-then-not-is_speech : goal.returns-then-not-is_speech
returns-then-not-is_speech c =
    let k = c.args.c.now in
    let d = c.args.d.now in
    let x = c.args.octets.now in
    let size = sizes_right (sized k d x) (sym c.check_sizes.ensures ∙ c.in_ok-check_sizes.was) in
    let bits_c = sym c.none_over.ensures ∙ c.if-not-none_over.false in
    let bits_d = sym c.none_over-else-not-none_over.ensures ∙ c.if-not-none_over-2.false in
    write_refused k d x FrameType (write_19 k d x size (two_bits k d x bits_c bits_d) (sym c.is_speech.ensures ∙ c.if-not-is_speech.true))

pub fill_frame-requires : goal.fill_frame-requires
fill_frame-requires c =
    let k = c.args.c.now in
    let d = c.args.d.now in
    let x = c.args.octets.now in
    let g = is_sized k d x (sizes_right (sized k d x) (sym c.check_sizes.ensures ∙ c.in_ok-check_sizes.was)) in
    let bits_c = sym c.none_over.ensures ∙ c.if-not-none_over.false in
    let bits_d = sym c.none_over-else-not-none_over.ensures ∙ c.if-not-none_over-2.false in
    (g.control, g.speech, none_over_lem 1 k bits_c, none_over_lem 1 d bits_d, g.octets)

pub returns : goal.returns
returns c =
    let k = c.args.c.now in
    let d = c.args.d.now in
    let x = c.args.octets.now in
    let size = sizes_right (sized k d x) (sym c.check_sizes.ensures ∙ c.in_ok-check_sizes.was) in
    let bits_c = sym c.none_over.ensures ∙ c.if-not-none_over.false in
    let bits_d = sym c.none_over-else-not-none_over.ensures ∙ c.if-not-none_over-2.false in
    let made = c.fill_frame in
    write_done k d x made.new.octets (write_0 k d x size (two_bits k d x bits_c bits_d) (sym c.is_speech.ensures ∙ c.if-not-is_speech.false)) made.ensures
