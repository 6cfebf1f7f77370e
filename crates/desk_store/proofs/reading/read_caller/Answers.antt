use Rattle.std.proofs.Common.{◌≡◌, Some, slice_get, subst, rules}
use Rattle.std.specs.Prelude.{option_map}
use Rattle.desk_words.specs.declared.caller.KeyRow.{KeyRow}
use Rattle.sql_rows.specs.Meanings.{all_meanings}
use Rattle.sql_schema.specs.Contents as table
use Rattle.desk_store.proofs.CallerLemmas.{caller_returned}
use Rattle.desk_store.proofs.reading.read_caller.Goals as goal

pub returns-clause-holds : goal.returns-clause-holds
returns-clause-holds g c =
    let mean : all_meanings table.keys.means c.in_ok-rows.rows.items ≡ Some c.in_ok-found.found.items = subst (λ rows. all_meanings table.keys.means rows ≡ Some c.in_ok-found.found.items) c.deref.ensures.value c.in_ok-found.ensures in
    let is : c.map.result ≡ option_map (λ (row : KeyRow). row.caller) (slice_get c.in_ok-found.found.items 0) = search rules in
    caller_returned c.args.key.now g.S.Store c.args.tx.now.conn.now c.find.new.tx.conn.now c.in_ok-rows.rows.items c.in_ok-found.found.items c.map.result c.in_ok-rows.ensures.rows c.in_ok-rows.ensures.changes mean is
