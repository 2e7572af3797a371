-- The grammar of the console's lines, SPEC 10.2: kind (`on`, `off`, `bend`), key, millihertz and velocity, these three decimal, separated by commas. It is
-- written without the parser.
use Rattle.std.specs.Prelude.{ℕ, ◌≤◌, ◌≡◌, true, List, ◌∷◌, ◌++◌, length}
use Rattle.console_lines.specs.Split.{comma}
use Rattle.senders.specs.declared.event.EventKind.{EventKind}
use Rattle.console_lines.specs.Grammar.{word, digits, decimal, allowed}

-- SPEC 10.2a: the field s spells n in 1 to `places` digits, of which zeros may stand in front.
pub record Spells (places : ℕ) (s : List ℕ) (n : ℕ) : Type 0 where
  pub least : 1 ≤ length s
  pub most : length s ≤ places
  pub all : digits s ≡ true
  pub value : decimal 0 s ≡ n

-- "At most 64 bytes a line. Key and velocity have 1 to 3 digits, millihertz 1 to 9": the line is an event of kind k with key a, millihertz m and
-- velocity v.
pub record Means (line : List ℕ) (k : EventKind) (a m v : ℕ) : Type 0 where
  pub key : List ℕ
  pub millihertz : List ℕ
  pub velocity : List ℕ
  pub bytes : line ≡ word k ++ comma ∷ (key ++ comma ∷ (millihertz ++ comma ∷ velocity))
  pub short : length line ≤ 64
  pub keyed : Spells 3 key a
  pub pitched : Spells 9 millihertz m
  pub struck : Spells 3 velocity v
  pub allows : allowed k a m v ≡ true
