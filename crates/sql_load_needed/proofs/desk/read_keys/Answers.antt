use Rattle.std.proofs.Common.{◌≡◌, List, Err, Some, ap, rules}
use Rattle.seq.specs.Sorting.{sort_by}
use Rattle.desk_words.specs.SortedLists.{caller_before, is_key_list}
use Rattle.desk_words.specs.declared.caller.KeyRow.{KeyRow}
use Rattle.desk_words.specs.declared.office.OfficeLists.{OfficeLists}
use Rattle.desk_words.proofs.OfficeFacts.{office_facts}
use Rattle.sql_schema.specs.Contents as table
use Rattle.sql_schema.specs.Statements.{records_in}
use Rattle.sql_model.proofs.FlatChanges.{keys_held}
use Rattle.sql_load.proofs.FoundRecordLemmas.{yields_return}
use Rattle.sql_load.proofs.PublicRecordLemmas.{reading_returned}
use Rattle.sql_load.proofs.StoredOfficeLemmas.{holds_so, holds_stop}
use Rattle.sql_load_needed.proofs.desk.read_keys.Goals as goal

-- the keys are the office's once they are in order
abbrev AreKeys : OfficeLists → List KeyRow → Type 0
AreKeys office rows = sort_by caller_before rows ≡ office.keys

pub returns-in_err-rows-clause-holds : goal.returns-in_err-rows-clause-holds
returns-in_err-rows-clause-holds g c =
    let is : c.from_residual.result ≡ Err c.in_err-rows.field-0.0 = search rules in
    holds_stop g.S.Store _ _ AreKeys _ c.in_err-rows.field-0.0 c.from_residual.result is
    (reading_returned g.S.Store c.args.tx.now.conn.now c.listing.new.tx.conn.now (records_in table.keys) (λ flat. flat.keys) keys_held (Err c.in_err-rows.field-0.0) c.in_err-rows.ensures.read AreKeys (λ flat office of preserved. of.keys))

pub returns-clause-holds : goal.returns-clause-holds
returns-clause-holds g c =
    holds_so g.S.Store _ _ AreKeys _ c.in_ok-rows.rows c.key_rows.result
    (reading_returned g.S.Store c.args.tx.now.conn.now c.listing.new.tx.conn.now (records_in table.keys) (λ flat. flat.keys) keys_held _ c.in_ok-rows.ensures.read AreKeys (λ flat office of preserved. of.keys))
    (λ office preserved keys. yields_return is_key_list c.key_rows.result office.keys _ c.key_rows.ensures (ap (λ l. Some l) keys) (office_facts office preserved).keys)
