use Rattle.std.proofs.Common.{◌≡◌, List, ℕ, Err, ap, ◌∙◌, rules}
use Rattle.desk_words.specs.declared.office.OfficeLists.{OfficeLists}
use Rattle.sql_schema.specs.Contents as table
use Rattle.vocabulary.specs.Names.{same_name}
use Rattle.sql_load.specs.MeetingRecords.{last_number}
use Rattle.sql_load.proofs.CountedRecordLemmas.{HasCount, Stored, count_so, last_holds, number_of}
use Rattle.sql_load.proofs.StoredOfficeLemmas.{holds_so, holds_stop}
use Rattle.sql_load.proofs.public.count_of.Goals as goal

-- the number of the last of these is how many the meeting has
abbrev AreLast : List ℕ → OfficeLists → List Stored → Type 0
AreLast id office last = HasCount id office (last_number last)

pub returns-in_err-rows-clause-holds : goal.returns-in_err-rows-clause-holds
returns-in_err-rows-clause-holds g c =
    let is : c.from_residual.result ≡ Err c.in_err-rows.field-0.0 = search rules in
    holds_stop g.S.Store _ _ (AreLast c.args.meeting) _ c.in_err-rows.field-0.0 c.from_residual.result is
    (last_holds g.S.Store c.args.tx.now.conn.now c.last_of_meeting.new.tx.conn.now (λ v. v.items) table.resolutions (λ flat. flat.resolutions) (λ trees flat held. held.resolutions) (λ (it : Stored). same_name it.meeting c.args.meeting) number_of c.last_of_meeting.result c.last_of_meeting.ensures.rows c.last_of_meeting.ensures.changes
    (Err c.in_err-rows.field-0.0) c.in_err-rows.ensures (AreLast c.args.meeting) (count_so c.args.meeting))

pub returns-clause-holds : goal.returns-clause-holds
returns-clause-holds g c =
    holds_so g.S.Store _ _ (AreLast c.args.meeting) _ c.in_ok-rows.rows _
    (last_holds g.S.Store c.args.tx.now.conn.now c.last_of_meeting.new.tx.conn.now (λ v. v.items) table.resolutions (λ flat. flat.resolutions) (λ trees flat held. held.resolutions) (λ (it : Stored). same_name it.meeting c.args.meeting) number_of c.last_of_meeting.result c.last_of_meeting.ensures.rows c.last_of_meeting.ensures.changes
    _ c.in_ok-rows.ensures (AreLast c.args.meeting) (count_so c.args.meeting))
    (λ office preserved last m found. c.last_number.ensures ∙ ap last_number c.as_slice.ensures ∙ last m found)
