-- `answer::answer`: what the tuner sent, or its refusal, is shown, and what could not be shown was not sent.
use Rattle.std.proofs.Common.{◌≡◌, ℕ, ◌∙◌, sym, ap, refl, arith, rules}
use lib.ListN.{length-take}
use lib.Seq.{length-take-le}
use Rattle.arithmetic.specs.Refusal.{number}
use Rattle.arithmetic.specs.declared.refusal.Refusal.TheVariants.{BufferTooShort}
use Rattle.senders.specs.Jit.{view}
use Rattle.senders.proofs.Tuners.Buffer.{ends_short}
use Rattle.console_lines.specs.Line.{meaning}
use Rattle.console_lines.proofs.Steps.Rooms.{answer_least, bytes_fit}
use Rattle.console_lines.proofs.Steps.Playing.{value_sent, refused_unsent, event_effected, sent_longer, line_written, too_short_of_number, unsent_short, unsent_shown}
use Rattle.console_lines.proofs.answer.answer.Goals as goal

pub returns-then-out-lt-LEAST_ANSWER : goal.returns-then-out-lt-LEAST_ANSWER
returns-then-out-lt-LEAST_ANSWER c = ends_short refl (omega (arith, answer_least (view c.args.tuner.now) c.args.line.now))

pub slice_bounds-bytes-end-in-Ok : goal.slice_bounds-bytes-end-in-Ok
slice_bounds-bytes-end-in-Ok c =
    let here = value_sent {view = view} (event_effected (view c.args.tuner.now) (meaning c.args.line.now)) c.in-Ok.ensures in
    (sent_longer here _).within

pub slice_bounds-show_bytes-end : goal.slice_bounds-show_bytes-end
slice_bounds-show_bytes-end c =
    let here = value_sent {view = view} (event_effected (view c.args.tuner.now) (meaning c.args.line.now)) c.in-Ok.ensures in
    sym (length-take-le _ _ (sent_longer here _).within)

pub returns-in-Ok : goal.returns-in-Ok
returns-in-Ok c =
    let here = value_sent {view = view} (event_effected (view c.args.tuner.now) (meaning c.args.line.now)) c.in-Ok.ensures in
    let sent = sent_longer here _ in
    let size = length-take-le _ _ sent.within in
    line_written {view = view} (view c.args.tuner.now) c.args.line.now sent
    (bytes_fit _ _ c.if-out-lt-LEAST_ANSWER.false (omega (arith, length-take {A = ℕ})))
    c.show_bytes.ensures

pub returns-in-Err-BufferTooShort : goal.returns-in-Err-BufferTooShort
returns-in-Err-BufferTooShort c =
    let refusal = refused_unsent {view = view} (event_effected (view c.args.tuner.now) (meaning c.args.line.now)) c.in-Err-BufferTooShort.ensures in
    rw (← ap number c.in-Err-BufferTooShort.field-0-is)
    (unsent_short {view = view} (view c.args.tuner.now) c.args.line.now refusal (ap number c.in-Err-BufferTooShort.field-0-is)
    (length-take-le _ _ (omega arith) ∙ c.min-room.ensures))

pub returns-in-Err : goal.returns-in-Err
returns-in-Err c =
    let refusal = refused_unsent {view = view} (event_effected (view c.args.tuner.now) (meaning c.args.line.now)) c.in-Err.ensures in
    unsent_shown {view = view} (view c.args.tuner.now) c.args.line.now refl refusal
    (λ ten. let short : c.in-Err.refusal ≡ BufferTooShort = too_short_of_number _ ten in search rules) c.show_refusal.ensures
