-- What the console still writes, SPEC 10.6.
use Rattle.std.specs.Prelude.{ℕ, List}
use Rattle.console_lines.specs.Split.{into, feed, split}
use Rattle.console_lines.specs.Console.{answers, ended}
use Rattle.console_lines.specs.ConsoleState.{ConsoleState}

-- What is still to be written for the input that comes behind a state of the console.
unfoldable pub ahead : ConsoleState → List ℕ → List ℕ
ahead s input = answers s.tuner (ended (into s.begun (split feed input)))
