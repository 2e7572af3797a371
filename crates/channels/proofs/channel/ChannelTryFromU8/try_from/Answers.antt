-- `Channel::try_from` meets its contract.
use mathlib.Core.Path.{refl}
use native.Mathlib.Omega.{arith}
use borrow.Author.Tests.{le-leb, lt-leb}
use Rattle.channels.specs.Outcome.{value}
use Rattle.channels.specs.Channel.{channel_rule}
use Rattle.channels.specs.Refusal.{channel_over15}
use Rattle.arithmetic.proofs.Rules.Outcomes.{stops, passes}
use Rattle.channels.proofs.channel.ChannelTryFromU8.try_from.Goals as goal

pub returns-then-number-lt-CHANNELS : goal.returns-then-number-lt-CHANNELS
unfolding channel_rule
returns-then-number-lt-CHANNELS c = passes channel_over15 (value c.args.number) (le-leb c.args.number 15 (omega (arith, c.if-number-lt-CHANNELS.true))) refl

pub returns : goal.returns
unfolding channel_rule
returns c = stops channel_over15 _ (lt-leb c.args.number 15 (omega (arith, c.if-number-lt-CHANNELS.false)))
