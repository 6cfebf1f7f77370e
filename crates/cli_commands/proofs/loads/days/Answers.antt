use Rattle.any_office.specs.Storing.{IsStored, IsStoredOrNext}
use Rattle.cli_exit.specs.Endings.{ended_view}
use Rattle.csv_import.specs.DayFiles.{day_file}
use Rattle.csv_import.specs.declared.whole.TheConstants.{DAY_FILE_LIMIT}
use Rattle.cli_commands.specs.FileReading.{Reader, with_days}
use Rattle.cli_commands.proofs.CommandLoadLemmas.{loads}
use Rattle.cli_commands.proofs.loads.days.Goals as goal

pub returns-clause-loads : goal.returns-clause-loads
returns-clause-loads g c = λ reliable held stands.
    let before : Reader = record { rest = g.R.Source.remaining c.args.reader.now; passed = g.R.Source.passed c.args.reader.now; failures = g.R.Source.failures c.args.reader.now } in
    let after : Reader = record { rest = g.R.Source.remaining c.read_days-file.new.source; passed = g.R.Source.passed c.read_days-file.new.source; failures = g.R.Source.failures c.read_days-file.new.source } in
    let read = c.read_days-file.ensures in
    loads day_file with_days DAY_FILE_LIMIT before after held c.args.now (ended_view c.load.result) (g.O.Office.stands c.load.new.office) (λ _. g.O.Office.is_open c.load.new.office → g.O.Office.stands c.load.new.office held) c.read_days-file.result c.days_asked.result read.spelled read.whole read.cause c.days_asked.ensures (c.load.ensures.follows reliable held stands)

pub returns-clause-stores : goal.returns-clause-stores
returns-clause-stores g c = λ reliable held stored.
    let before : Reader = record { rest = g.R.Source.remaining c.args.reader.now; passed = g.R.Source.passed c.args.reader.now; failures = g.R.Source.failures c.args.reader.now } in
    let after : Reader = record { rest = g.R.Source.remaining c.read_days-file.new.source; passed = g.R.Source.passed c.read_days-file.new.source; failures = g.R.Source.failures c.read_days-file.new.source } in
    let read = c.read_days-file.ensures in
    loads day_file with_days DAY_FILE_LIMIT before after held c.args.now (ended_view c.load.result) (IsStored g.O.Office c.load.new.office) (IsStoredOrNext g.O.Office c.load.new.office held) c.read_days-file.result c.days_asked.result read.spelled read.whole read.cause c.days_asked.ensures (c.load.ensures.stores reliable held stored)
