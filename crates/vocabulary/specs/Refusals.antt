-- Refusals and their one order.
use Rattle.std.specs.Prelude.{ℕ, Bool, List, [], ◌∷◌, Option, Some, None, codes, if◌then◌else◌}
use Rattle.vocabulary.specs.declared.refusal.Refusal.{Refusal}
use Rattle.vocabulary.specs.declared.refusal.Refusal.TheVariants.{Key, Route, Method, TooLarge, Unreadable, OfficeOnly, PartyOnly, NoMeeting, Exists, ShortNotice, NoResolution, BadRange, SelfNamed, BadInstructions, TooMany, NoSuchNumber, AlreadyEnded, NoRegister, OtherRecord, Opened, NotOpened, Early, NoQuorum, NotPresent, NoRight, PollOrdered, NoPoll, DemandTooSmall, PollNotOpen, PollClosed, NotClosed, Declared, NotYours, AgainstInstruction, PollRunning}

-- a refusal's place in the one order
abbrev pub number_of : Refusal → ℕ
number_of Key = 1
number_of Route = 2
number_of Method = 3
number_of TooLarge = 4
number_of Unreadable = 5
number_of OfficeOnly = 6
number_of PartyOnly = 7
number_of NoMeeting = 8
number_of Exists = 9
number_of ShortNotice = 10
number_of NoResolution = 11
number_of BadRange = 12
number_of SelfNamed = 13
number_of BadInstructions = 14
number_of TooMany = 15
number_of NoSuchNumber = 16
number_of AlreadyEnded = 17
number_of NoRegister = 18
number_of OtherRecord = 19
number_of Opened = 20
number_of NotOpened = 21
number_of Early = 22
number_of NoQuorum = 23
number_of NotPresent = 24
number_of NoRight = 25
number_of PollOrdered = 26
number_of NoPoll = 27
number_of DemandTooSmall = 28
number_of PollNotOpen = 29
number_of PollClosed = 30
number_of NotClosed = 31
number_of Declared = 32
number_of NotYours = 33
number_of AgainstInstruction = 34
number_of PollRunning = 35

-- a refusal's name
abbrev pub name_of : Refusal → List ℕ
name_of Key = codes "Key"
name_of Route = codes "Route"
name_of Method = codes "Method"
name_of TooLarge = codes "TooLarge"
name_of Unreadable = codes "Unreadable"
name_of OfficeOnly = codes "OfficeOnly"
name_of PartyOnly = codes "PartyOnly"
name_of NoMeeting = codes "NoMeeting"
name_of Exists = codes "Exists"
name_of ShortNotice = codes "ShortNotice"
name_of NoResolution = codes "NoResolution"
name_of BadRange = codes "BadRange"
name_of SelfNamed = codes "SelfNamed"
name_of BadInstructions = codes "BadInstructions"
name_of TooMany = codes "TooMany"
name_of NoSuchNumber = codes "NoSuchNumber"
name_of AlreadyEnded = codes "AlreadyEnded"
name_of NoRegister = codes "NoRegister"
name_of OtherRecord = codes "OtherRecord"
name_of Opened = codes "Opened"
name_of NotOpened = codes "NotOpened"
name_of Early = codes "Early"
name_of NoQuorum = codes "NoQuorum"
name_of NotPresent = codes "NotPresent"
name_of NoRight = codes "NoRight"
name_of PollOrdered = codes "PollOrdered"
name_of NoPoll = codes "NoPoll"
name_of DemandTooSmall = codes "DemandTooSmall"
name_of PollNotOpen = codes "PollNotOpen"
name_of PollClosed = codes "PollClosed"
name_of NotClosed = codes "NotClosed"
name_of Declared = codes "Declared"
name_of NotYours = codes "NotYours"
name_of AgainstInstruction = codes "AgainstInstruction"
name_of PollRunning = codes "PollRunning"

-- a refusal, and whether its condition holds
pub record Case : Type 0 where
  pub refusal : Refusal
  pub holds : Bool

-- the first refusal whose condition holds
abbrev pub first_refusal : List Case → Option Refusal
first_refusal [] = None
first_refusal (case ∷ cases) = if case.holds then Some case.refusal else first_refusal cases
