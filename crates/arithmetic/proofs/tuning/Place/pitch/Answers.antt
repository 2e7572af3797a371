-- `tuning::Place::pitch` meets its contract: the octaves of a note lie in the table.
use mathlib.Core.Path.{◌≡◌, ap, ◌∙◌}
use native.Mathlib.Omega.{arith}
use mir.Syntax.{w32}
use mir.Val.{to_z, of_z}
use Rattle.std.proofs.lemmas.Int.{ints}
use Rattle.arithmetic.specs.Pitch.{octave_pitch}
use Rattle.arithmetic.proofs.Notes.Pitches.{place_octaves, pitch_at}
use Rattle.arithmetic.proofs.tuning.Place.pitch.Goals as goal
use Rattle.arithmetic.proofs.tuning.Place.pitch.Goals.{Start}

octaves : (s : Start) → to_z w32 (of_z w32 s.args.self.octaves) ≡ s.args.self.octaves
octaves s = let p = s.args.self in let r = place_octaves p.octaves p.semitones p.is_note p.few in omega (arith, ints)

pub octave_pitch-requires : goal.octave_pitch-requires
octave_pitch-requires c = let p = c.args.self in rw (octaves (goal.at.octave_pitch-requires c).Start) (place_octaves p.octaves p.semitones p.is_note p.few)

pub returns : goal.returns
returns c =
    let o = c.octave_pitch.ensures ∙ ap octave_pitch (octaves (goal.at.returns c).Start) in
    c.from_hz.ensures ∙ rw (o, c.semitone_factor.ensures) (pitch_at c.args.self.octaves c.args.self.semitones c.args.self.few)
