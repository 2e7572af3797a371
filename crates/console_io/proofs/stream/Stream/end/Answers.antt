-- `stream::Stream::end`: the end of the input answers a line that has begun.
use Rattle.console_io.proofs.Streams.{end_written, end_refused}
use Rattle.console_io.proofs.stream.Stream.end.Goals as goal

pub returns-in-Ok : goal.returns-in-Ok
returns-in-Ok c piece =
    end_written c.args.self.now c.finish.new.self c.first-self.result c.first-self-in-Ok.result c.in-Ok.written piece c.args.out.now c.finish.new.out
    c.first-self.ensures c.first-self-in-Ok.ensures c.in-Ok.ensures

pub returns-in_default : goal.returns-in_default
returns-in_default c piece = end_refused c.args.self.now c.finish.new.self _ piece c.args.out.now c.finish.new.out c.in_default.ensures
