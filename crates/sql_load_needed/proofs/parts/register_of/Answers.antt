use Rattle.std.proofs.Common.{◌≡◌, ℕ, List, Err, Some, refl, ap, rules}
use Rattle.seq.specs.Sorting.{sort_by}
use Rattle.desk_words.specs.Finding.{meeting_named}
use Rattle.desk_words.specs.Registers.{member_before}
use Rattle.desk_words.specs.declared.office.OfficeLists.{OfficeLists}
use Rattle.desk_words.specs.declared.records.RegisterRow.{RegisterRow}
use Rattle.sql_schema.specs.Contents as table
use Rattle.sql_model.proofs.ListChanges.{list_of}
use Rattle.sql_model.proofs.Names.ListName.{Register}
use Rattle.desk_words.specs.Office.{are_rows}
use Rattle.row_source.specs.LookUps.{register_in}
use Rattle.sql_load.proofs.FoundRecordLemmas.{items_returned, yields_return}
use Rattle.sql_load.proofs.NamedMeetingLemmas.{list_is}
use Rattle.sql_load.proofs.StoredOfficeLemmas.{holds_so, holds_stop}
use Rattle.sql_load_needed.proofs.LoadedMeetingPartLemmas.{register_right}
use Rattle.sql_load_needed.proofs.parts.register_of.Goals as goal

-- the rows are the meeting's register once they are in order
abbrev AreRows : List ℕ → OfficeLists → List RegisterRow → Type 0
AreRows id office rows = sort_by member_before rows ≡ register_in (meeting_named office.meetings id)

pub returns-in_err-rows-clause-holds : goal.returns-in_err-rows-clause-holds
returns-in_err-rows-clause-holds g c =
    let is : c.from_residual.result ≡ Err c.in_err-rows.field-0.0 = search rules in
    holds_stop g.S.Store _ _ (AreRows c.args.meeting) _ c.in_err-rows.field-0.0 c.from_residual.result is
    (items_returned g.S.Store c.args.tx.now.conn.now c.find.new.tx.conn.now (λ v. v.items) table.register (λ flat. flat.register) (λ trees flat held. held.register) _ c.find.result c.find.ensures.rows c.find.ensures.changes c.records_found.result c.records_found.ensures
    (Err c.in_err-rows.field-0.0) c.in_err-rows.ensures (AreRows c.args.meeting) (λ flat office of preserved. list_is (list_of Register) refl flat office c.args.meeting of))

pub returns-clause-holds : goal.returns-clause-holds
returns-clause-holds g c =
    holds_so g.S.Store _ _ (AreRows c.args.meeting) _ c.in_ok-rows.rows c.register_rows.result
    (items_returned g.S.Store c.args.tx.now.conn.now c.find.new.tx.conn.now (λ v. v.items) table.register (λ flat. flat.register) (λ trees flat held. held.register) _ c.find.result c.find.ensures.rows c.find.ensures.changes c.records_found.result c.records_found.ensures
    _ c.in_ok-rows.ensures (AreRows c.args.meeting) (λ flat office of preserved. list_is (list_of Register) refl flat office c.args.meeting of))
    (λ office preserved rows. yields_return are_rows c.register_rows.result (register_in (meeting_named office.meetings c.args.meeting)) _ c.register_rows.ensures (ap (λ l. Some l) rows) (register_right office c.args.meeting preserved))
