-- What contracts see of names, days, moments and places.
use Rattle.std.specs.Prelude.{ℕ, List}

-- a party, by the 16 places of its name
abbrev pub Party : Type 0
Party = List ℕ

-- a meeting, by the 16 places of its name
abbrev pub MeetingName : Type 0
MeetingName = List ℕ

-- days since 1900-01-01
abbrev pub Day : Type 0
Day = ℕ

-- seconds of the office's wall clock since 1900-01-01
abbrev pub Moment : Type 0
Moment = ℕ

-- one of a member's shares, numbered from 1
abbrev pub Place : Type 0
Place = ℕ

-- a session of a meeting, numbered from 1
abbrev pub SessionNumber : Type 0
SessionNumber = ℕ

-- a resolution of a meeting, numbered from 1
abbrev pub Number : Type 0
Number = ℕ
