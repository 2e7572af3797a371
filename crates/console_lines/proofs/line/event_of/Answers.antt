-- `line::event_of`: a key and a velocity have to be bytes.
use Rattle.std.proofs.Common.{◌≡◌, inl, inr}
use Rattle.console_lines.specs.Grammar.{zeros}
use Rattle.console_lines.proofs.Text.Lines.{meaning_read, not_a_byte, is_a_byte, event_refused, event_read}
use Rattle.console_lines.proofs.line.event_of.Goals as goal
use Rattle.console_lines.proofs.line.event_of.Goals.{in-Press, in-Release, in-Repitch}

pub returns-in_err-ok : goal.returns-in_err-ok
returns-in_err-ok c =
    let read =
    meaning_read _ c.if-line-gt-LONGEST_LINE.false c.in_ok-kind.ensures.four c.in_ok-kind-2.ensures c.in_ok-key.ensures c.in_ok-millihertz.ensures
    c.in_ok-velocity.ensures
    in
    rw (c.from_residual-in_err-ok.ensures, read, event_refused _ _ _ _ (inl (not_a_byte c.try_from.result c.try_from.ensures c.in_err-ok.ensures.value)))

pub returns-in_err-ok-2 : goal.returns-in_err-ok-2
returns-in_err-ok-2 c =
    let read =
    meaning_read _ c.if-line-gt-LONGEST_LINE.false c.in_ok-kind.ensures.four c.in_ok-kind-2.ensures c.in_ok-key.ensures c.in_ok-millihertz.ensures
    c.in_ok-velocity.ensures
    in
    let over = not_a_byte c.try_from-2.result c.try_from-2.ensures c.in_err-ok-2.ensures.value in
    rw (c.from_residual-in_err-ok-2.ensures, read, event_refused _ _ _ _ (inr over))

pub returns : goal.returns
unfolding zeros
returns c =
    let read =
    meaning_read _ c.if-line-gt-LONGEST_LINE.false c.in_ok-kind.ensures.four c.in_ok-kind-2.ensures c.in_ok-key.ensures c.in_ok-millihertz.ensures
    c.in_ok-velocity.ensures
    in
    let key = is_a_byte c.try_from.result c.try_from.ensures c.in_ok-ok.ensures.value in
    let velocity = is_a_byte c.try_from-2.result c.try_from-2.ensures c.in_ok-ok-2.ensures.value in
    let allows : c.match-kind.allowed ≡ zeros c.in_ok-kind-2.kind c.in_ok-millihertz.millihertz c.in_ok-velocity.velocity =
    elim c.match-kind.branch [
      | in-Press w ↦ rw (w.in-Press.is, w.allowed-is)
      | in-Release w ↦ rw (w.in-Release.is, w.allowed-is)
      | in-Repitch w ↦ rw (w.in-Repitch.is, w.allowed-is)
    ]
    in
    rw (c.then_some.ensures, read) (event_read _ _ _ _ key velocity allows)
