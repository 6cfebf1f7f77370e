use Rattle.std.proofs.Common.{◌≡◌, ℕ, List, Err, refl, sym, ap, ◌∙◌, rules}
use Rattle.seq.specs.Sorting.{sort_by}
use Rattle.desk_words.specs.SortedLists.{day_before, is_day_list}
use Rattle.desk_words.specs.declared.office.OfficeLists.{OfficeLists}
use Rattle.desk_words.proofs.OfficeFacts.{office_facts}
use Rattle.sql_schema.specs.Contents as table
use Rattle.sql_schema.specs.Statements.{records_in}
use Rattle.sql_model.proofs.FlatChanges.{closed_held}
use Rattle.sql_load.proofs.FoundRecordLemmas.{cause_returns}
use Rattle.sql_load.proofs.NamedMeetingLemmas.{the_same}
use Rattle.sql_load.proofs.PublicRecordLemmas.{reading_returned}
use Rattle.sql_load.proofs.StoredOfficeLemmas.{holds_refused, holds_so, holds_stop}
use Rattle.sql_load.proofs.public.read_closed.Goals as goal

-- the days are the office's once they are in order
abbrev AreClosed : OfficeLists → List ℕ → Type 0
AreClosed office days = sort_by day_before days ≡ office.closed

pub returns-in_err-days-clause-holds : goal.returns-in_err-days-clause-holds
returns-in_err-days-clause-holds g c =
    let is : c.from_residual.result ≡ Err c.in_err-days.field-0.0 = search rules in
    holds_stop g.S.Store _ _ AreClosed _ c.in_err-days.field-0.0 c.from_residual.result is
    (reading_returned g.S.Store c.args.tx.now.conn.now c.listing.new.tx.conn.now (records_in table.closed) (λ flat. flat.closed) closed_held (Err c.in_err-days.field-0.0) c.in_err-days.ensures.read AreClosed (λ flat office of preserved. of.closed))

pub returns-in_err-day_list-clause-holds : goal.returns-in_err-day_list-clause-holds
returns-in_err-day_list-clause-holds g c =
    let is : c.from_residual-in_err-day_list.result ≡ Err c.in_err-day_list.field-0.0 = search rules in
    holds_refused g.S.Store _ _ AreClosed _ c.in_ok-days.days c.in_err-day_list.field-0.0 c.from_residual-in_err-day_list.result is
    (reading_returned g.S.Store c.args.tx.now.conn.now c.listing.new.tx.conn.now (records_in table.closed) (λ flat. flat.closed) closed_held _ c.in_ok-days.ensures.read AreClosed (λ flat office of preserved. of.closed))
    (λ office preserved days. cause_returns {Y = List ℕ} (λ closed. closed ≡ office.closed) is_day_list _ (sort_by day_before c.in_ok-days.days) _ refl (ap is_day_list days ∙ (office_facts office preserved).closed) c.in_err-day_list.ensures)

pub returns-clause-holds : goal.returns-clause-holds
returns-clause-holds g c =
    holds_so g.S.Store _ _ AreClosed _ c.in_ok-days.days _
    (reading_returned g.S.Store c.args.tx.now.conn.now c.listing.new.tx.conn.now (records_in table.closed) (λ flat. flat.closed) closed_held _ c.in_ok-days.ensures.read AreClosed (λ flat office of preserved. of.closed))
    (λ office preserved days. c.from_list.ensures ∙ the_same (sym c.in_ok-day_list.ensures) ∙ days)
