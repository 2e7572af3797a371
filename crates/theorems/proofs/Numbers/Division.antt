-- Quotients in f64: for a ≤ b and c ≤ d, c/b is at most d/a; and a quotient of two detunings is positive and finite.
use mathlib.Core.Path.{◌≡◌}
use mathlib.Core.Bool.{false}
use lib.Dec.{T}
use lib.Ieee.{Float, Format, binary64, div, le, lt}
use lib.Ieee.Positive.{positive, between}
use Rattle.arithmetic.proofs.Numbers.Floats.{div_mono, not_below_mono}
use Rattle.arithmetic.proofs.Notes.Detunings.{detuning_is_positive}
use Rattle.arithmetic.specs.Detuning.{low_detuning, high_detuning, Detuning}

-- For a ≤ b ≤ c ≤ d the quotient of the inner two is at most that of the outer two.
pub div_inner : (f : Format) (a b c d : Float) → T (positive a) → T (positive b) → T (positive c) → T (positive d)
    → T (le a b) → T (le c d) → T (le (div f c b) (div f d a))
div_inner f a b c d p q r s h k = div_mono f c d b a r s q p k h

-- A quotient of what lies between bounds lies between the bounds' quotients, so it is finite and above zero where those are.
pub div_between : (f : Format) (l x h l' y h' : Float) → T (positive l) → T (positive x) → T (positive h) → T (positive l') → T (positive y) → T (positive h')
    → T (le l x) → T (le x h) → T (le l' y) → T (le y h') → T (positive (div f l h')) → T (positive (div f h l')) → T (positive (div f x y))
div_between f l x h l' y h' p q r p' q' r' a b a' b' c d =
    between (div f l h') (div f x y) (div f h l') c d (div_mono f l x h' y p q r' q' a b') (div_mono f x h y l' q r q' p' b a')

-- Where c / b is not below a limit, no quotient of two further apart is.
pub gap_kept : (f : Format) (a b c d k : Float) → T (positive a) → T (positive b) → T (positive c) → T (positive d) → T (positive k)
    → T (positive (div f c b)) → T (positive (div f d a)) → T (le a b) → T (le c d) → lt (div f c b) k ≡ false → lt (div f d a) k ≡ false
gap_kept f a b c d k p q r s t u v h g e = not_below_mono (div f c b) (div f d a) k u v t (div_inner f a b c d p q r s h g) e

quotient_ends : T (positive (div binary64 low_detuning high_detuning)) × T (positive (div binary64 high_detuning low_detuning))
unfolding div
quotient_ends = (tt, tt)

pub quotient_positive : (a b : Float) → Detuning a → Detuning b → T (positive (div binary64 b a))
quotient_positive a b d e =
    div_between binary64 low_detuning b high_detuning low_detuning a high_detuning tt (detuning_is_positive b e) tt tt (detuning_is_positive a d) tt
    e.low e.high d.low d.high quotient_ends.0 quotient_ends.1
