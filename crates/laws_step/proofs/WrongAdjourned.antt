-- What is wrong with a wrong way to count capacities is caught.
use Rattle.std.proofs.Common.{◌≡◌, ℕ, true, false, [], refl, ap, sym, ◌∙◌, arith, true≢false}
use Rattle.std.specs.Prelude.{nat_le}
use Rattle.std.proofs.lemmas.Bool.Decides.{nat_tests}
use Rattle.proxy_rules.specs.declared.meeting_records.Cutoffs.{Cutoffs}
use Rattle.poll_rules.specs.Quorum.{qualifies}
use Rattle.poll_rules.specs.Roles.{roles_of}
use Rattle.laws_step.specs.Adjourned.{LaterEndingsTakeNoRole, ended_before}
use Rattle.laws_step.specs.WrongAdjourned.{TakesARole, meeting_ended_between, votes_cutoffs}
use Rattle.laws_step.specs.WrongReplaced.{a_proxy}

-- what came at the first moment of all counts by any cutoff
counts : (n : ℕ) → nat_le 0 n ≡ true
counts n = grind (arith, nat_tests)

-- until the opening of the second session the ending takes the proxy's capacity
abbrev until : ℕ → Cutoffs
until appointments = record { appointments = appointments; endings = 1 }

role-taken : (n : ℕ) → let m = meeting_ended_between in qualifies (roles_of (until n) m.register m.appointments m.endings m.authorities a_proxy) ≡ false
role-taken n = rw (counts n) refl

role-preserved : (n : ℕ) → let m = meeting_ended_between in qualifies (roles_of (until n) m.register m.appointments (ended_before 0 m.endings) m.authorities a_proxy) ≡ true
role-preserved n = rw (counts n) refl

pub role_taken : TakesARole votes_cutoffs meeting_ended_between 2 a_proxy
role_taken = record {
  is_one = refl;
  opened = refl;
  apart = λ h.
      let n = (votes_cutoffs meeting_ended_between.meeting 2 [] 0).appointments in
      absurd (true≢false (sym (role-preserved n) ∙ sym (ap qualifies h) ∙ role-taken n));
}

pub caught : LaterEndingsTakeNoRole votes_cutoffs → ⊥
caught law = role_taken.apart (law meeting_ended_between 0 [] 0 2 a_proxy role_taken.opened)
