use Rattle.any_office.specs.Storing.{IsStored, IsStoredOrNext}
use Rattle.cli_exit.specs.Endings.{ended_view}
use Rattle.csv_import.specs.KeyFiles.{key_file}
use Rattle.csv_import.specs.declared.whole.TheConstants.{FILE_LIMIT}
use Rattle.cli_commands.specs.FileReading.{Reader, with_keys}
use Rattle.cli_commands.proofs.CommandLoadLemmas.{loads}
use Rattle.cli_commands.proofs.loads.keys.Goals as goal

pub returns-clause-loads : goal.returns-clause-loads
returns-clause-loads g c = λ reliable held stands.
    let before : Reader = record { rest = g.R.Source.remaining c.args.reader.now; passed = g.R.Source.passed c.args.reader.now; failures = g.R.Source.failures c.args.reader.now } in
    let after : Reader = record { rest = g.R.Source.remaining c.read_keys-file.new.source; passed = g.R.Source.passed c.read_keys-file.new.source; failures = g.R.Source.failures c.read_keys-file.new.source } in
    let read = c.read_keys-file.ensures in
    loads key_file with_keys FILE_LIMIT before after held c.args.now (ended_view c.load.result) (g.O.Office.stands c.load.new.office) (λ _. g.O.Office.is_open c.load.new.office → g.O.Office.stands c.load.new.office held) c.read_keys-file.result c.keys_asked.result read.spelled read.whole read.cause c.keys_asked.ensures (c.load.ensures.follows reliable held stands)

pub returns-clause-stores : goal.returns-clause-stores
returns-clause-stores g c = λ reliable held stored.
    let before : Reader = record { rest = g.R.Source.remaining c.args.reader.now; passed = g.R.Source.passed c.args.reader.now; failures = g.R.Source.failures c.args.reader.now } in
    let after : Reader = record { rest = g.R.Source.remaining c.read_keys-file.new.source; passed = g.R.Source.passed c.read_keys-file.new.source; failures = g.R.Source.failures c.read_keys-file.new.source } in
    let read = c.read_keys-file.ensures in
    loads key_file with_keys FILE_LIMIT before after held c.args.now (ended_view c.load.result) (IsStored g.O.Office c.load.new.office) (IsStoredOrNext g.O.Office c.load.new.office held) c.read_keys-file.result c.keys_asked.result read.spelled read.whole read.cause c.keys_asked.ensures (c.load.ensures.stores reliable held stored)
