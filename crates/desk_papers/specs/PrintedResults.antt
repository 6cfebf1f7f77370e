-- The text of the results of a meeting.
use Rattle.std.specs.Prelude.{ℕ, suc, ◌+◌, ◌-◌, List, [], ◌∷◌, ◌++◌, length, replicate, Option, Some, None, codes}
use Rattle.std.specs.Fmt.{decimal}
use Rattle.calendar.specs.DateTexts.{day_text, moment_text}
use Rattle.vocabulary.specs.Kinds.{company_word, meeting_kind_word, resolution_kind_word}
use Rattle.vocabulary.specs.Names.{letters_of}
use Rattle.desk_words.specs.declared.records.Meeting.{Meeting}
use Rattle.desk_words.specs.declared.records.Poll.{Poll}
use Rattle.desk_words.specs.declared.records.Resolution.{Resolution}
use Rattle.desk_words.specs.declared.records.Session.{Session}
use Rattle.desk_words.specs.declared.records.Tally.{Tally}
use Rattle.desk_words.specs.Finding.{poll_on}
use Rattle.party_views.specs.Public.{PublicRecord}
use Rattle.desk_papers.specs.States.{state_of, state_word}
use Rattle.desk_papers.specs.declared.state.State.{State}
use Rattle.desk_papers.specs.declared.state.State.TheVariants.{NoPoll, Ordered, Open, Closed, Declared}

-- a line with a label, a space and a value
abbrev pub line : List ℕ → List ℕ → List ℕ
line label value = label ++ (codes " " ++ (value ++ codes "\n"))

-- a number on the right in 13 places
abbrev pub on_the_right : ℕ → List ℕ
on_the_right number = replicate (13 - length (decimal number)) 32 ++ decimal number

-- a line with a label that takes 10 places, and a number of shares
abbrev pub figure : List ℕ → ℕ → List ℕ
figure label number = label ++ (on_the_right number ++ codes "\n")

-- the shares that had a vote and gave none
abbrev pub not_voted : Tally → ℕ
not_voted tally = tally.eligible - (tally.votes_for + tally.votes_against + tally.withheld)

-- the figures of a count
abbrev pub tally_text : Tally → List ℕ
tally_text tally =
    figure (codes "for       ") tally.votes_for
    ++ figure (codes "against   ") tally.votes_against
    ++ figure (codes "withheld  ") tally.withheld
    ++ figure (codes "not voted ") (not_voted tally)
    ++ figure (codes "eligible  ") tally.eligible

-- the figures of a declared poll; before the declaration there are none
abbrev pub figures : State → List ℕ
figures NoPoll = []
figures Ordered = []
figures Open = []
figures Closed = []
figures (Declared declaration) = tally_text declaration.tally

-- the number of a resolution, its kind and its state
abbrev pub heading : ℕ → Resolution → State → List ℕ
heading number resolution state =
    decimal number
    ++ (codes " " ++ (resolution_kind_word resolution.kind ++ (codes " " ++ state_word state)))

-- a resolution of this number, in this state
abbrev pub resolution_text : ℕ → Resolution → State → List ℕ
resolution_text number resolution state =
    line (codes "resolution") (heading number resolution state)
    ++ line (codes "text") resolution.text ++ figures state

-- resolutions that are counted on from a number, with their polls
abbrev pub resolutions_text : List Poll → ℕ → List Resolution → List ℕ
resolutions_text polls number [] = []
resolutions_text polls number (resolution ∷ more) =
    resolution_text number resolution (state_of resolution.kind (poll_on polls number))
    ++ resolutions_text polls (suc number) more

-- the moment of the opening, or `-`
abbrev pub opening : Option ℕ → List ℕ
opening None = codes "-"
opening (Some moment) = moment_text moment

-- a session: its number, its appointed time and its opening
abbrev pub session_text : ℕ → Session → List ℕ
session_text number session =
    decimal number
    ++ (codes " " ++ (moment_text session.appointed ++ (codes " " ++ opening session.opened)))

-- sessions that are counted on from a number, a line each
abbrev pub sessions_text : ℕ → List Session → List ℕ
sessions_text number [] = []
sessions_text number (session ∷ more) =
    line (codes "session") (session_text number session) ++ sessions_text (suc number) more

-- what is known of a meeting itself; `appointed` and `opened` are of its first session
abbrev pub head_text : Meeting → List ℕ
head_text meeting =
    line (codes "meeting") (letters_of meeting.id)
    ++ line (codes "company") (company_word meeting.company)
    ++ line (codes "kind") (meeting_kind_word meeting.kind)
    ++ line (codes "given") (day_text meeting.given)
    ++ line (codes "appointed") (moment_text meeting.first.appointed)
    ++ line (codes "opened") (opening meeting.first.opened)

-- the results of a meeting, with its sessions after the first and its polls
abbrev pub meeting_text : Meeting → List Poll → List ℕ
meeting_text meeting polls =
    head_text meeting
    ++ sessions_text 2 meeting.later ++ resolutions_text polls 1 meeting.resolutions

-- the results that a public record shows; nothing where there is no such meeting
abbrev pub printed_results : Option Meeting → List Poll → List ℕ
printed_results None polls = []
printed_results (Some meeting) polls = meeting_text meeting polls

abbrev pub results_of : PublicRecord → List ℕ
results_of public = printed_results public.meeting public.polls
