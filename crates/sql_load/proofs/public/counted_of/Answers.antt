use Rattle.std.proofs.Common.{◌≡◌, Err, refl, rules}
use Rattle.sql_load.proofs.CountedRecordLemmas.{HasCount, IsReadAs, IsUnread, counted_read}
use Rattle.sql_load.proofs.StoredOfficeLemmas.{holds_stop, returned_so, returned_then}
use Rattle.sql_load.proofs.public.counted_of.Goals as goal

pub returns-in_err-count-clause-holds : goal.returns-in_err-count-clause-holds
returns-in_err-count-clause-holds g c =
    let is : c.from_residual.result ≡ Err c.in_err-count.field-0.0 = search rules in
    holds_stop g.S.Store _ _ (HasCount c.args.meeting) _ c.in_err-count.field-0.0 c.from_residual.result is c.in_err-count.ensures.holds

pub returns-clause-holds : goal.returns-clause-holds
returns-clause-holds g c =
    let count = c.in_ok-count.count in
    returned_then g.S.Store _ _ _ count c.unread_of.result (HasCount c.args.meeting) (IsReadAs c.args.meeting (λ n. n)) c.in_ok-count.ensures.holds
    (returned_so g.S.Store _ _ c.unread_of.result (IsUnread c.args.meeting count) (λ office preserved. HasCount c.args.meeting office count → IsReadAs c.args.meeting (λ n. n) office preserved)
    (λ office holds preserved is has. counted_read c.args.meeting (λ n. n) office (λ n few. few) holds count count refl preserved is has) c.unread_of.ensures.holds)
