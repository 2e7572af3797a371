-- What the calls of a pool tuner come to: a press by the model's answer, and a release.
use mathlib.Core.Path.{◌≡◌, sym, ap}
use mathlib.Core.Option.{Option}
use mathlib.Core.List.{List}
use Prim.Native.Nat.{ℕ, ◌<◌}
use lib.IntN.{ℤ}
use lib.Ieee.{Float}
use lib.ListN.{length}
use borrow.Author.Tests.{lt-ltb}
use Rattle.channels.specs.Outcome.{Outcome, value, refused}
use Rattle.channels.specs.Places.{Place}
use Rattle.pools.specs.Pool.{State, Pressing, found, released, accepted, rejected, register_rule}
use Rattle.pools.specs.View.{view as pool_view}
use Rattle.pools.specs.declared.jit.JitTuningModel.{JitTuningModel}
use Rattle.channels.specs.TuningValue.{tuning_kind_of}
use Rattle.senders.specs.Buffer.{Effect, sends, sent, WriteMeets, CallMeets}
use Rattle.senders.specs.Midi.{bytes_of}
use Rattle.senders.specs.Tuner.{key_messages}
use Rattle.senders.specs.Jit.{Tuner, view, with_pool, PressResult, press_sent, press_rejected, pressing, press_bytes, press_result, note_on_rule, note_off_rule}
use Rattle.senders.specs.declared.tuner.NoteMessage.TheVariants.{Off}
use Rattle.senders.specs.declared.jit.JitTuner.{JitTuner}
use Rattle.senders.proofs.Tuners.Buffer.{written_count, ends_written}

-- the tuner whose pool has changed
pub view_moved : (t : JitTuner) (m : JitTuningModel) {u : State} → pool_view m ≡ u → view (record t { model = m }) ≡ with_pool (view t) u
view_moved t m {u} e = ap (λ (s : State). record { pool = s; tuning_kind = tuning_kind_of t.tuning_kind }) e

-- ---- the press

module _ (t : Tuner) (key : ℕ) (hz : Float) (v : ℕ) (low : v < 128) where
  pub note_on_accepted :
      {p : Option Place} {i : ℕ} {stopped : Option ℤ} {note : ℤ} {d : Float} {u : State}
      → register_rule t.pool key hz ≡ value (pressing p (accepted i stopped note d), u)
      → (let bs = press_bytes t v (pressing p (accepted i stopped note d)) in
      note_on_rule t key hz v ≡ value (record { result = press_sent (length bs); bytes = bs; next = with_pool t u }))
  note_on_accepted e = rw (lt-ltb v 128 low, e)

  pub note_on_rejected :
      {p : Option Place} {u : State} → register_rule t.pool key hz ≡ value (pressing p rejected, u)
      → (let bs = press_bytes t v (pressing p rejected) in
      note_on_rule t key hz v ≡ value (record { result = press_rejected (length bs); bytes = bs; next = with_pool t u }))
  note_on_rejected e = rw (lt-ltb v 128 low, e)

  pub note_on_value :
      {r : Pressing} {u : State} → register_rule t.pool key hz ≡ value (r, u)
      → (let bs = press_bytes t v r in note_on_rule t key hz v ≡ value (record { result = press_result r.press bs; bytes = bs; next = with_pool t u }))
  note_on_value e = rw (lt-ltb v 128 low, e)

  pub note_on_refused : {n : ℕ} → register_rule t.pool key hz ≡ refused n → note_on_rule t key hz v ≡ refused n
  note_on_refused e = rw (lt-ltb v 128 low, e)

-- a press whose bytes were written, by what its answer makes of their count
pub ends_pressing :
    {T : Type 0} {view : T → Tuner} {rule : Outcome (Effect PressResult Tuner)} {s back : T} {next : Tuner} {bs old new : List ℕ} {n : ℕ}
    (answer : ℕ → PressResult) → rule ≡ value (record { result = answer (length bs); bytes = bs; next = next }) → WriteMeets (sent bs) old (value n) new
    → view back ≡ next → CallMeets view rule s old (value (answer n)) back new
ends_pressing {view = view} {rule = rule} {s = s} {back = back} {next = next} {bs = bs} {old = old} {new = new} {n = n} answer e p m =
    let q : length bs ≡ n = sym (written_count {bs = bs} {old = old} {new = new} p) in
    let f : Effect PressResult Tuner = record { result = answer (length bs); bytes = bs; next = next } in
    rw q at (ends_written {view = view} {s = s} {old = old} {new = new} {f = f} {n = n} {back = back} e p m)

-- ---- the release

pub note_off_accepted :
    (t : Tuner) (key v : ℕ) → v < 128
    → note_off_rule t key v ≡ sends (bytes_of (key_messages Off t.pool.channels v (found t.pool key))) (with_pool t (released t.pool key))
note_off_accepted t key v low = rw (lt-ltb v 128 low)
