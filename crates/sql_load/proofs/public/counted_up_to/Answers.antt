use Rattle.std.proofs.Common.{◌≡◌, Err, rules}
use Rattle.party_views.specs.PublicRead.{stand_ins}
use Rattle.sql_load.proofs.CountedRecordLemmas.{HasCount, IsReadAs, IsUnread, counted_read, few_stand_in}
use Rattle.sql_load.proofs.StoredOfficeLemmas.{holds_stop, returned_so, returned_then}
use Rattle.sql_load.proofs.public.counted_up_to.Goals as goal

pub returns-in_err-count-clause-holds : goal.returns-in_err-count-clause-holds
returns-in_err-count-clause-holds g c =
    let is : c.from_residual.result ≡ Err c.in_err-count.field-0.0 = search rules in
    holds_stop g.S.Store _ _ (HasCount c.args.meeting) _ c.in_err-count.field-0.0 c.from_residual.result is c.in_err-count.ensures.holds

pub returns-clause-holds : goal.returns-clause-holds
returns-clause-holds g c =
    let stands = stand_ins c.args.on in
    returned_then g.S.Store _ _ _ c.in_ok-count.count c.unread_of.result (HasCount c.args.meeting) (IsReadAs c.args.meeting stands) c.in_ok-count.ensures.holds
    (returned_so g.S.Store _ _ c.unread_of.result (IsUnread c.args.meeting c.stand_ins.result) (λ office preserved. HasCount c.args.meeting office c.in_ok-count.count → IsReadAs c.args.meeting stands office preserved)
    (λ office holds preserved is has. counted_read c.args.meeting stands office (few_stand_in c.args.on) holds c.in_ok-count.count c.stand_ins.result c.stand_ins.ensures preserved is has) c.unread_of.ensures.holds)
