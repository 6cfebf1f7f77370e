use Rattle.std.proofs.Common.{◌≡◌, List, map, subst, ◌∙◌}
use Rattle.std.specs.Prelude.{MatchResult}
use Rattle.desk_words.specs.declared.records.PresenceMark.{PresenceMark}
use Rattle.sql_load.specs.declared.fault.LoadError.TheVariants as fault
use Rattle.sql_load.proofs.StoredOfficeLemmas.{made_returns, holds_so}
use Rattle.sql_load_needed.proofs.look_ups.presences_of.Goals as goal

pub returns-clause-holds : goal.returns-clause-holds
returns-clause-holds g c =
    holds_so g.S.Store _ _ _ _ c.in_ok-marks.marks _ c.in_ok-marks.ensures.holds
    (λ office preserved marks. made_returns _ c.sessions_of.result
    (subst (λ (l : List PresenceMark). MatchResult c.sessions_of.result (λ sessions. sessions ≡ map (λ (mark : PresenceMark). mark.session) l) (λ e. e ≡ fault.Memory)) (c.as_slice.ensures ∙ marks) c.sessions_of.ensures))
