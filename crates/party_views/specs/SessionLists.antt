-- What a party's own things and the notice have for each session of a meeting.
use Rattle.std.specs.Prelude.{ℕ, zero, suc, List, [], ◌∷◌, Option, None}
use Rattle.std.specs.List.{slice_get}
use Rattle.std.specs.Option.{option_or}
use Rattle.desk_words.specs.ViewTypes.{SessionNumber}
use Rattle.desk_words.specs.Sessions.{sessions_of}
use Rattle.desk_words.specs.declared.records.Meeting.{Meeting}
use Rattle.desk_words.specs.declared.records.Session.{Session}

-- each value with its number, counted on from the first
abbrev pub enumerate_from : {X Y : Type 0} → (ℕ → X → Y) → ℕ → List X → List Y
enumerate_from f n [] = []
enumerate_from f n (x ∷ xs) = f n x ∷ enumerate_from f (suc n) xs

-- what there is for the number of each session, in order
abbrev pub each_session : {X : Type 0} → (SessionNumber → X) → Meeting → List X
each_session f meeting = enumerate_from (λ number (s : Session). f number) 1 (sessions_of meeting)

-- of what there is for each session, in order, that for the session of a number
abbrev pub at_number : {X : Type 0} → List X → SessionNumber → Option X
at_number xs zero = None
at_number xs (suc at) = slice_get xs at

-- and that for the first session where there is none of the number
abbrev pub at_session : {X : Type 0} → List X → SessionNumber → Option X
at_session xs number = option_or (at_number xs number) (slice_get xs 0)
