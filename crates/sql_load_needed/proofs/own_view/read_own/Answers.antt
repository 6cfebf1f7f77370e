use Rattle.std.proofs.Common.{◌≡◌, Err, subst, rules}
use Rattle.std.specs.Prelude.{MatchResult}
use Rattle.party_views.specs.OwnViews as own
use Rattle.party_views.specs.Public.{PublicRecord}
use Rattle.party_views.specs.Views.{public_of}
use Rattle.party_views.specs.declared.own_rows.OwnRows.{OwnRows}
use Rattle.sql_load.specs.declared.fault.LoadError.TheVariants as fault
use Rattle.sql_load.proofs.StoredOfficeLemmas.{made_returns, holds_after, holds_both, holds_so, holds_stop}
use Rattle.sql_load_needed.proofs.own_view.read_own.Goals as goal

pub returns-in_err-rows-clause-holds : goal.returns-in_err-rows-clause-holds
returns-in_err-rows-clause-holds g c =
    let is : c.from_residual-in_err-rows.result ≡ Err c.in_err-rows.field-0.0 = search rules in
    holds_after g.S.Store _ _ _ c.in_ok-public.public _ _ _ c.in_ok-public.ensures.holds (holds_stop g.S.Store _ _ _ _ c.in_err-rows.field-0.0 c.from_residual-in_err-rows.result is c.in_err-rows.ensures.holds)

pub returns-clause-holds : goal.returns-clause-holds
returns-clause-holds g c =
    holds_so g.S.Store _ _ _ _ c.in_ok-rows.rows _
    (holds_both g.S.Store _ _ _ c.in_ok-public.public c.in_ok-rows.rows _ _ c.in_ok-public.ensures.holds c.in_ok-rows.ensures.holds)
    (λ office preserved p. made_returns _ c.own_made.result
    (subst (λ (rows : OwnRows). MatchResult c.own_made.result (λ made. made ≡ own.own_from rows (public_of office c.args.meeting) c.args.now) (λ e. e ≡ fault.Memory)) p.1
    (subst (λ (public : PublicRecord). MatchResult c.own_made.result (λ made. made ≡ own.own_from c.in_ok-rows.rows public c.args.now) (λ e. e ≡ fault.Memory)) p.0 c.own_made.ensures)))
