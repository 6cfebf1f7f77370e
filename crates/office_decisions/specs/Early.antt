-- Why a request of the office in a meeting is refused from what is read of it first.
use Rattle.std.specs.Prelude.{◌≡◌, List, [], Option, Some, None, option_map}
use Rattle.desk_words.specs.Refusals.{Case, first_refusal}
use Rattle.desk_words.specs.Rulings.{refused, ruled_answer}
use Rattle.desk_words.specs.ViewTypes.{Day, Moment}
use Rattle.desk_words.specs.declared.office.MeetingLists.{MeetingLists}
use Rattle.desk_words.specs.declared.request.OfficeRequest.{OfficeRequest}
use Rattle.desk_words.specs.declared.request.OfficeRequest.TheVariants.{LoadRegister, Presence, OpenMeeting, Adjourn, Order, Start, Close, Declare}
use Rattle.vocabulary.specs.declared.refusal.Refusal.{Refusal}
use Rattle.vocabulary.specs.declared.refusal.Refusal.TheVariants.{NoMeeting}
use Rattle.office_decisions.specs.OfficeRulings.{office_ruling}
use Rattle.office_decisions.specs.CallRulings.{load_cases}
use Rattle.office_decisions.specs.PollRulings.{opening_cases, adjourning_cases, ordering_cases, start_cases, close_cases, declare_cases}
use Rattle.office_decisions.specs.ListsRead.{first_read}

-- the conditions of a request that the meeting and its polls decide: all but a quorum (section
-- 318), a demand (section 321), and whether a poll runs by the closed days (section 327)
abbrev pub early_cases : MeetingLists → Moment → OfficeRequest → List Case
early_cases m now (LoadRegister new) = load_cases m.meeting now new
early_cases m now (Presence party) = []
early_cases m now OpenMeeting = opening_cases m.meeting now
early_cases m now (Adjourn appointed) = adjourning_cases m.meeting now appointed
early_cases m now (Order new) = ordering_cases m now new
early_cases m now (Start resolution) = start_cases m now resolution
early_cases m now (Close resolution) = close_cases m resolution
early_cases m now (Declare resolution) = declare_cases m resolution

-- the first of them that holds; `NoMeeting` where no meeting is found
abbrev pub early_refusal : Option MeetingLists → Moment → OfficeRequest → Option Refusal
early_refusal None now asked = Some NoMeeting
early_refusal (Some m) now asked = first_refusal (early_cases m now asked)

-- a request that is refused from what is read of the meeting first is refused alike from all of the
-- meeting's lists
abbrev pub EarlyRefusalsStand : Type 0
EarlyRefusalsStand =
    (closed : List Day) (found : Option MeetingLists) (now : Moment) (asked : OfficeRequest)
    (refusal : Refusal)
    → early_refusal (option_map (first_read asked) found) now asked ≡ Some refusal
    → ruled_answer (office_ruling closed found now asked) ≡ refused refusal
