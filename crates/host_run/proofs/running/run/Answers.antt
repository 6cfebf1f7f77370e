use Rattle.std.proofs.Common.{refl}
use Rattle.host_run.proofs.running.run.Goals as goal

-- what was read, done and reported, one after the other
pub returns : goal.returns
returns g c =
    record {
      read = c.read_words.result;
      is_read = c.read_words.ensures;
      ended = c.run_read-ended.result;
      between = c.run_read-ended.new.host;
      did = c.run_read-ended.ensures;
      reported = c.report.ensures;
      rest = refl;
    }
