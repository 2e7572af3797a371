-- The words and numbers of the console's lines, SPEC 10.2. Which lines are events is said by `Means` of `theorems`.
use Rattle.std.specs.Prelude.{ℕ, ◌+◌, ◌*◌, ◌-◌, Bool, true, ◌&&◌, List, [], ◌∷◌, eqb, leb}
use Rattle.senders.specs.declared.event.EventKind.{EventKind}
use Rattle.senders.specs.declared.event.EventKind.TheVariants.{Press, Release, Repitch}

-- SPEC 10.2: the word of a kind, in ASCII, is `on`, `off` or `bend`.
unfoldable pub word : EventKind → List ℕ
word Press = 111 ∷ 110 ∷ []
word Release = 111 ∷ 102 ∷ 102 ∷ []
word Repitch = 98 ∷ 101 ∷ 110 ∷ 100 ∷ []

-- Every byte is one of `0` to `9`.
unfoldable pub digits : List ℕ → Bool
digits [] = true
digits (b ∷ s) = (leb 48 b && leb b 57) && digits s

-- The number n followed by the digits of s, the first the highest.
unfoldable pub decimal : ℕ → List ℕ → ℕ
decimal n [] = n
decimal n (b ∷ s) = decimal (n * 10 + (b - 48)) s

-- SPEC 10.2a: `off` has millihertz 0, `bend` velocity 0, in however many digits.
unfoldable pub zeros : EventKind → ℕ → ℕ → Bool
zeros Press m v = true
zeros Release m v = eqb m 0
zeros Repitch m v = eqb v 0

-- SPEC 10.2a: the numbers that an event can have; key and velocity are at most 255.
unfoldable pub allowed : EventKind → ℕ → ℕ → ℕ → Bool
allowed k a m v = (leb a 255 && leb v 255) && zeros k m v
