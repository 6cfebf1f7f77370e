-- The meeting that is called has the name that was given.
use Rattle.std.proofs.Common.{◌≡◌, ℕ, List, [], ◌∷◌, Option, Some, None, refl, subst}
use Rattle.calendar.specs.DateTexts.{day_of, moment_of}
use Rattle.vocabulary.specs.Kinds.{company_of, meeting_kind_of}
use Rattle.desk_words.specs.declared.request.NewMeeting.{NewMeeting}
use Rattle.json_requests.specs.CallBodies.{call_body, resolutions_in}
use Rattle.json_requests.specs.JsonFields.{Fields, parsed_at}
use Rattle.vocabulary.specs.OptionSteps.{◌>>=◌}

-- a fact holds for what is read
pub record Keeps {A : Type 0} (preserved : A → Type 0) (read : Option A) : Type 0 where
  pub some : (x : A) → read ≡ Some x → preserved x

keeps_some : {A : Type 0} (preserved : A → Type 0) (x : A) → preserved x → Keeps preserved (Some x)
keeps_some preserved x h = record { some = λ y e. let same : x ≡ y = cc in subst preserved same h }

-- the fact rests on the next reading alone
pub keeps_next : {A B : Type 0} (preserved : B → Type 0) (read : Option A) (next : A → Option B) → ((x : A) → Keeps preserved (next x)) → Keeps preserved (read >>= next)
keeps_next preserved (Some x) next later = later x
keeps_next preserved None next later = record { some = λ y e. cc }

-- the meeting that is called has the name
pub call_keeps : (meeting : List ℕ) (fields : Fields) → Keeps (λ (new : NewMeeting). Some meeting ≡ Some new.meeting) (call_body meeting fields)
unfolding call_body
call_keeps meeting (company ∷ kind ∷ given ∷ appointed ∷ record_moment ∷ resolutions ∷ []) =
    let preserved : NewMeeting → Type 0 = λ new. Some meeting ≡ Some new.meeting in
    keeps_next preserved (parsed_at company_of _) _ (λ company.
    keeps_next preserved (parsed_at meeting_kind_of _) _ (λ kind.
    keeps_next preserved (parsed_at day_of _) _ (λ given.
    keeps_next preserved (parsed_at moment_of _) _ (λ appointed.
    keeps_next preserved (parsed_at moment_of _) _ (λ record_moment.
    keeps_next preserved (resolutions_in _) _ (λ resolutions. keeps_some preserved _ refl))))))
call_keeps meeting other = record { some = λ y e. cc }
