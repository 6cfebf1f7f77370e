use Rattle.std.proofs.Common.{◌≡◌, Err, rules}
use Rattle.desk_words.specs.Rulings as ruling
use Rattle.desk_words.specs.declared.answer.Answer.{Answer}
use Rattle.desk_words.specs.declared.change.Change.{Change}
use Rattle.desk_words.specs.declared.office.OfficeLists.{OfficeLists}
use Rattle.sql_load.specs.LoadResults.{fault_of_error}
use Rattle.sql_load_needed.proofs.LoadedMeetingDayLemmas.{asked_so, asked_stop}
use Rattle.desk_deciding.proofs.ReturnedLemmas.{returned_office}
use Rattle.desk_deciding.proofs.deciding.refused.Goals as goal

pub returns-in_err-all-clause-holds : goal.returns-in_err-all-clause-holds
returns-in_err-all-clause-holds g c =
    let refuses : OfficeLists → Answer Change → Type 0 = λ office answer. answer ≡ ruling.refused c.args.refusal in
    let is : c.from_residual.result ≡ Err (fault_of_error c.in_err-all.field-0.0) = search rules in
    returned_office g.S.Store _ _ _ refuses
    (asked_stop g.S.Store c.args.tx.now.conn.now c.all.new.tx.conn.now c.all.ensures.preserved c.all.ensures.was_open c.all.ensures.crash refuses c.in_err-all.field-0.0 c.from_residual.result is)

pub returns-clause-holds : goal.returns-clause-holds
returns-clause-holds g c =
    let refuses : OfficeLists → Answer Change → Type 0 = λ office answer. answer ≡ ruling.refused c.args.refusal in
    returned_office g.S.Store _ _ _ refuses
    (asked_so g.S.Store c.args.tx.now.conn.now c.all.new.tx.conn.now c.all.ensures.preserved c.all.ensures.was_open c.all.ensures.crash refuses (λ v. v.items) c.in_ok-all.field-0 c.refuse.result c.in_ok-all.ensures.rows (λ office. c.refuse.ensures))
