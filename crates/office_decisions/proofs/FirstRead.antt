-- What is asked of a meeting first is known from what is read of it first.
use Rattle.std.proofs.Common.{◌≡◌, ℕ, not, List, [], ◌∷◌, length, Option, refl}
use Rattle.std.specs.Prelude.{nat_lt, is_none, is_some}
use Rattle.desk_words.specs.Office.{is_resolution}
use Rattle.desk_words.specs.PollStates.{is_closed, is_started, is_taken_after, is_waiting, there_is}
use Rattle.desk_words.specs.Refusals.{Case}
use Rattle.desk_words.specs.Rulings.{no_resolution}
use Rattle.desk_words.specs.Sessions.{is_opened, last_session}
use Rattle.desk_words.specs.declared.office.MeetingLists.{MeetingLists}
use Rattle.desk_words.specs.declared.records.Meeting.{Meeting}
use Rattle.desk_words.specs.declared.records.Poll.{Poll}
use Rattle.desk_words.specs.declared.request.NewPoll.{NewPoll}
use Rattle.desk_words.specs.declared.request.OfficeRequest.{OfficeRequest}
use Rattle.desk_words.specs.declared.request.OfficeRequest.TheVariants.{Order, Start, Close, Declare}
use Rattle.vocabulary.specs.declared.refusal.Refusal.TheVariants.{Early, Exists, NoPoll, NotOpened, PollClosed, PollNotOpen, PollOrdered}
use Rattle.party_views.specs.PublicRead.{counted}
use Rattle.party_views.specs.RowsRead.{polls_on}
use Rattle.party_views.proofs.CountedLemmas.{as_many, none-read}
use Rattle.office_decisions.specs.Early.{early_cases}
use Rattle.office_decisions.specs.ListsRead.{first_read, poll_alone}
use Rattle.office_decisions.specs.PollRulings.{ordering_cases, result_cases}
use Rattle.office_decisions.proofs.OnResolution.{poll_preserved}

-- a resolution is one of as many exactly if it is one of the meeting's
counted-has : (m : Meeting) (number : ℕ) → no_resolution (counted m) number ≡ no_resolution m number
counted-has m number = λ i. record (no_resolution m number) { holds = not (is_resolution (as_many (length m.resolutions) i) number) }

-- why a poll is not ordered, by whether its resolution is there and by the poll that is found on it
abbrev ordering_by : Meeting → ℕ → NewPoll → Case → Option Poll → List Case
ordering_by meeting now new has found =
    has
    ∷ record { refusal = NotOpened; holds = not (is_opened (last_session meeting)) }
    ∷ record { refusal = Early; holds = nat_lt new.take now }
    ∷ record { refusal = PollOrdered; holds = is_some found }
    ∷ []

-- a poll is ordered so from the poll on its resolution alone
ordering-read : (m : MeetingLists) (now : ℕ) (new : NewPoll) → ordering_cases (poll_alone new.resolution m) now new ≡ ordering_cases m now new
ordering-read m now new = λ i. ordering_by m.meeting now new (none-read m.meeting new.resolution i) (poll_preserved new.resolution m.polls i)

-- and from that poll and as many resolutions
pub ordering-counted : (m : MeetingLists) (now : ℕ) (new : NewPoll) → ordering_cases (record m { meeting = counted m.meeting; presences = []; polls = polls_on new.resolution m.polls; casts = [] }) now new ≡ ordering_cases m now new
ordering-counted m now new = λ i. ordering_by m.meeting now new (counted-has m.meeting new.resolution i) (poll_preserved new.resolution m.polls i)

-- the first conditions are known from what is read first
pub first-read : (asked : OfficeRequest) (now : ℕ) (m : MeetingLists) → early_cases (first_read asked m) now asked ≡ early_cases m now asked
first-read (Order new) now m = ordering-read m now new
first-read (Start resolution) now m = λ i.
    let found = poll_preserved resolution m.polls i in
    record { refusal = Exists; holds = there_is is_started found }
    ∷ none-read m.meeting resolution i
    ∷ record { refusal = Early; holds = there_is (is_taken_after now) found }
    ∷ record { refusal = NoPoll; holds = is_none found }
    ∷ []
first-read (Close resolution) now m = λ i.
    let found = poll_preserved resolution m.polls i in
    none-read m.meeting resolution i
    ∷ record { refusal = NoPoll; holds = is_none found }
    ∷ record { refusal = PollNotOpen; holds = there_is is_waiting found }
    ∷ record { refusal = PollClosed; holds = there_is is_closed found }
    ∷ []
first-read (Declare resolution) now m = λ i.
    let found = poll_preserved resolution m.polls i in
    none-read m.meeting resolution i ∷ record { refusal = NoPoll; holds = is_none found } ∷ result_cases found
first-read asked now m = refl
