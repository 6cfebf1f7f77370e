-- The sessions of a meeting (sections 327 and 330 speak of an adjourned meeting).
use Rattle.std.specs.Prelude.{zero, suc, Bool, false, ◌&&◌, nat_le, List, [], ◌∷◌, ◌++◌, length, take, ◌-◌, slice_get, slice_set, Option, Some, None, is_some, unwrap_or}
use Rattle.std.specs.List.{list_all}
use Rattle.desk_words.specs.ViewTypes.{Moment, SessionNumber}
use Rattle.desk_words.specs.declared.limits.TheConstants.{MOST_SESSIONS}
use Rattle.desk_words.specs.declared.records.Meeting.{Meeting}
use Rattle.desk_words.specs.declared.records.Session.{Session}

-- the sessions in order: that for which the meeting is called, and those to which it was adjourned
abbrev pub sessions_of : Meeting → List Session
sessions_of m = m.first ∷ m.later

-- the number of the last session
abbrev pub last_number : Meeting → SessionNumber
last_number m = suc (length m.later)

-- the last of those to which the meeting was adjourned
abbrev pub last_later : Meeting → Option Session
last_later m = slice_get m.later (length m.later - 1)

-- the last session
abbrev pub last_session : Meeting → Session
last_session m = unwrap_or (last_later m) m.first

-- the session of a number
abbrev pub session_at : Meeting → SessionNumber → Option Session
session_at m zero = None
session_at m (suc at) = slice_get (sessions_of m) at

-- the session of a number, or the first where there is none of it
abbrev pub session_of : Meeting → SessionNumber → Session
session_of m number = unwrap_or (session_at m number) m.first

-- the session is opened
abbrev pub is_opened : Session → Bool
is_opened s = is_some s.opened

-- there is a session, and it passes a test
abbrev pub is_there : (Session → Bool) → Option Session → Bool
is_there test None = false
is_there test (Some s) = test s

-- a session has that number
abbrev pub is_session : Meeting → SessionNumber → Bool
is_session m number = nat_le 1 number && nat_le number (last_number m)

-- a session that is opened has that number
abbrev pub is_opened_session : Meeting → SessionNumber → Bool
is_opened_session m number = is_there is_opened (session_at m number)

-- at most `MOST_SESSIONS`, of which each but the last is opened
abbrev pub are_sessions : Meeting → Bool
are_sessions m =
    nat_le (last_number m) MOST_SESSIONS
    && list_all is_opened (take (length m.later) (sessions_of m))

-- ---- changes

-- the session opened at a moment
abbrev pub opened_at : Moment → Session → Session
opened_at moment s = record s { opened = Some moment }

-- the first session opened, or the last of the others, if there is one
abbrev pub open_there : Moment → Meeting → Option Session → Meeting
open_there moment m None = record m { first = opened_at moment m.first }
open_there moment m (Some s) = record m {
  later = slice_set m.later (length m.later - 1) (opened_at moment s);
}

-- the last session opened
abbrev pub open_last : Moment → Meeting → Meeting
open_last moment m = open_there moment m (last_later m)

-- a session appointed for a moment, and not opened
abbrev pub session_on : Moment → Session
session_on moment = record { appointed = moment; opened = None }

-- one session more, behind the others
abbrev pub adjourned_to : Moment → Meeting → Meeting
adjourned_to moment m = record m { later = m.later ++ session_on moment ∷ [] }
