-- What the program does to the bytes that a reader has left and to those that a writer holds, where these are known. SPEC 10.7.
use Rattle.std.specs.Prelude.{ℕ, ◌<◌, ◌≡◌, true, List, []}
use Rattle.std.specs.Io.KnownBytes.{Consumes, Appends, IsAtEnd}
use Rattle.std.specs.declared.option.Option.{Option}
use Rattle.console_io.specs.Stream.{State, Turn, Reached}

-- The end of the input is taken only behind all that the reader had; a buffer of no bytes cannot tell.
abbrev pub EndsBehind : ℕ → State → Option (List ℕ) → Type 0
EndsBehind size s rest = s.ended ≡ true → 0 < size → IsAtEnd rest

-- SPEC 10.7: a turn takes what it reads from the reader, and gives the writer what it puts; `size` is that of the buffer that it reads into.
pub record TurnedOver (size : ℕ) (rest rest' held held' : Option (List ℕ)) (s t : State) : Type 0 where
  pub read : List ℕ
  pub put : List ℕ
  pub turn : Turn s read put t
  pub taken : Consumes rest rest' read
  pub given : Appends held held' put
  pub behind : EndsBehind size s rest → EndsBehind size t rest'

-- So do all turns together, from the start.
pub record RanOver (size : ℕ) (rest rest' held held' : Option (List ℕ)) (s : State) : Type 0 where
  pub input : List ℕ
  pub output : List ℕ
  pub reached : Reached s input output
  pub taken : Consumes rest rest' input
  pub given : Appends held held' output
  pub behind : EndsBehind size s rest'

-- The input has ended, and all of it is answered and written.
pub record Finished (s : State) : Type 0 where
  pub answered : s.unanswered ≡ []
  pub written : s.unwritten ≡ []
  pub ended : s.ended ≡ true
